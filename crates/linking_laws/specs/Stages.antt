-- What a commit does, stage by stage: links that can't stay are dropped, the others are carried to the new heading, the
-- committed record's own fields are settled, and then those that wait for the key or for one of its forms. The rules are this
-- project's own.
use Rattle.std.specs.Prelude.{Bool, true, false, ◌&&◌, List, map, find, Option, Some, None, if◌then◌else◌}
use Rattle.std.specs.Option.{option_map_or}
use Rattle.marc_types.specs.declared.field.Field.{Field}
use Rattle.marc_types.specs.declared.key.Class.{Class}
use Rattle.marc_types.specs.declared.key.Class.TheVariants.{Authority, Bibliographic}
use Rattle.marc_types.specs.declared.key.Key.{Key}
use Rattle.marc_types.specs.declared.form.Kind.{Kind}
use Rattle.marc_types.specs.declared.form.Form.{Form}
use Rattle.heading_fields.specs.Rewriting.{rewriting}
use Rattle.marc_types.specs.Order.{same_key}
use Rattle.entry_record.specs.Authority.{Linkable, is_bare, same_kind, successor_of}
use Rattle.catalogue_rules.specs.State.{KeptField, Row, State, each_in_row, each_field}
use Rattle.catalogue_rules.specs.Choice.{has_key}
use Rattle.catalogue_rules.specs.Settle.{Arrival, is_linked_to, awaits_key, end_link, await, settle_unlinked, settle_field}
use Rattle.linking_laws.specs.Waiting.{is_waiting_for, forms_touched}

-- which links to a key end: none, those by the base, or all
pub data Dropping : Type 0 where
  DropNone : Dropping
  DropBases : Dropping
  DropAll : Dropping

-- What the key's authority was and is decides: all links end where it is no longer one of the kind, those by the base where its
-- heading isn't bare. Where there was none, there is no link.
abbrev pub dropping_by : Option Linkable → Option Linkable → Dropping
dropping_by before None = DropAll
dropping_by None (Some now) = DropNone
dropping_by (Some before) (Some now) =
    if same_kind before.kind now.kind then (if is_bare now then DropNone else DropBases) else DropAll

-- the successor that an arrival names, where it does
abbrev pub successor_in : Arrival → Option Key
successor_in a = successor_of a.leader a.key a.fields

-- A link to the key is ended, or only one by the base; a field that awaits the key awaits its successor where there is one. Each
-- field that changes so is given its choice at once.
unfoldable pub drop_field : List Linkable → Key → Bool → Option Key → Class → KeptField → KeptField
drop_field now key only_base successor class h =
    if is_linked_to key h
    then (if only_base && h.tie.whole then h else settle_unlinked now class (end_link key successor h))
    else (if awaits_key key h then option_map_or (λ other. settle_unlinked now class (await h other)) successor h else h)

-- no link ends, those by the base end, or all to the key
abbrev pub drop_by : Dropping → List Linkable → Key → Option Key → Class → KeptField → KeptField
drop_by DropNone now key successor class h = h
drop_by DropBases now key successor class h = drop_field now key true successor class h
drop_by DropAll now key successor class h = drop_field now key false successor class h

-- a field linked to the key is rewritten from the heading, whole or by its base as its tie says
unfoldable pub carry_field : Key → Field → Kind → Class → KeptField → KeptField
carry_field key heading kind class h =
    if is_linked_to key h
    then record {
      field = rewriting h.field kind class heading key h.tie.whole;
      tie = record { key = Some key; whole = h.tie.whole; awaits = None };
    }
    else h

-- each field that is linked to the key gets its heading, where the key still has an authority
abbrev pub carry_by : Key → Option Linkable → Class → KeptField → KeptField
carry_by key None class h = h
carry_by key (Some c) class h = carry_field key c.heading c.kind class h

-- a field that waits for the key or for one of the forms is given its choice
unfoldable pub choose_field : List Linkable → List Form → Key → Class → KeptField → KeptField
choose_field now forms key class h = if is_waiting_for forms key class h then settle_unlinked now class h else h

-- a change of the fields of the record under a key, if the row is that
abbrev pub in_own_row : Key → (KeptField → KeptField) → Row → Row
in_own_row key change row = if same_key key row.0 then each_in_row change row else row

-- the fields of the record of a class under a key are settled
unfoldable pub settle_own : List Linkable → Class → Key → State → State
settle_own now Authority key s = record {
  authorities = map (in_own_row key (settle_field now Authority)) s.authorities;
  bibliographic = s.bibliographic;
}
settle_own now Bibliographic key s = record {
  authorities = s.authorities;
  bibliographic = map (in_own_row key (settle_field now Bibliographic)) s.bibliographic;
}

-- an authority's commit, from the authorities before and now and the state with the record in its place
unfoldable pub by_stages : Arrival → List Linkable → List Linkable → State → State
by_stages a before now placed =
    let old = find (has_key a.key) before in
    let new = find (has_key a.key) now in
    let dropped = each_field (drop_by (dropping_by old new) now a.key (successor_in a)) placed in
    let carried = each_field (carry_by a.key new) dropped in
    let settled = settle_own now Authority a.key carried in
    each_field (choose_field now (forms_touched a.key before now) a.key) settled

-- the same of one field that isn't the committed record's
unfoldable pub field_by_stages : List Linkable → List Linkable → Key → Option Key → Class → KeptField → KeptField
field_by_stages before now key successor class h =
    let old = find (has_key key) before in
    let new = find (has_key key) now in
    choose_field now (forms_touched key before now) key class
    (carry_by key new class (drop_by (dropping_by old new) now key successor class h))
