-- How many visits to kept records each stage of a commit makes: one to the record of each place that it names, and one to the
-- authority's record for each link that it makes. A choice makes none. The rules are this project's own.
use Rattle.std.specs.Prelude.{ℕ, ◌+◌, Bool, true, false, ◌&&◌, not, List, find, Option, Some, None, is_some, if◌then◌else◌}
use Rattle.std.specs.List.{sum_by}
use Rattle.std.specs.Option.{option_map_or}
use Rattle.marc_types.specs.declared.key.Class.{Class}
use Rattle.marc_types.specs.declared.key.Class.TheVariants.{Authority, Bibliographic}
use Rattle.marc_types.specs.declared.key.Key.{Key}
use Rattle.marc_types.specs.declared.form.Form.{Form}
use Rattle.marc_types.specs.Order.{same_key}
use Rattle.entry_record.specs.Authority.{Linkable, is_heading_field}
use Rattle.catalogue_rules.specs.State.{KeptField, Row, State, each_field, linkable_authorities}
use Rattle.catalogue_rules.specs.Choice.{has_key}
use Rattle.catalogue_rules.specs.Settle.{Arrival, is_linked_to, awaits_key, end_link, await, settle_unlinked}
use Rattle.linking_laws.specs.Waiting.{names_key, is_waiting_for, forms_touched}
use Rattle.linking_laws.specs.Stages.{Dropping, DropNone, DropBases, DropAll, dropping_by, successor_in, drop_by, carry_by, settle_own}
use Rattle.linking_laws.specs.Weights.{one_if, sum_row, sum_fields, arrival_weight, state_weight}
use Rattle.linking_laws.specs.Behind.{placed_in}
use Rattle.linking_laws.specs.Commits.{authorities_behind, placed_by}
use Rattle.marc_types.specs.declared.entry.Entry.{Entry}
use Rattle.catalogue_rules.specs.Settle.{arrival_of}

-- one where the choice of an unlinked field is a link
abbrev pub link_visit : List Linkable → Class → KeptField → ℕ
link_visit now class h = one_if (is_some (settle_unlinked now class h).tie.key)

-- an unlinked heading field that names the key
abbrev pub waits_for_key : Key → Class → KeptField → Bool
waits_for_key key class h = not (is_some h.tie.key) && (is_heading_field class h.field && names_key key h)

-- Each place linked to the key is named, and with a successor each that waits for the key; where the field changes, it is given
-- its choice.
unfoldable pub drop_visits : List Linkable → Key → Bool → Option Key → Class → KeptField → ℕ
drop_visits now key only_base successor class h =
    if is_linked_to key h
    then 1 + (if only_base && h.tie.whole then 0 else link_visit now class (end_link key successor h))
    else if is_some successor && waits_for_key key class h
    then 1 + (if awaits_key key h then option_map_or (λ other. link_visit now class (await h other)) successor 0 else 0)
    else 0

-- what the stage that drops links visits at a field, by what ends
abbrev pub drop_visits_by : Dropping → List Linkable → Key → Option Key → Class → KeptField → ℕ
drop_visits_by DropNone now key successor class h = 0
drop_visits_by DropBases now key successor class h = drop_visits now key true successor class h
drop_visits_by DropAll now key successor class h = drop_visits now key false successor class h

-- each place linked to the key, where the key has a linkable authority
abbrev pub carry_visits : Key → Option Linkable → Class → KeptField → ℕ
carry_visits key None class h = 0
carry_visits key (Some c) class h = one_if (is_linked_to key h)

-- an own field makes a visit where its choice is a link
abbrev pub own_visits : List Linkable → Class → KeptField → ℕ
own_visits now class h = if is_some h.tie.key then 0 else link_visit now class h

-- each place that waits for the key or for one of the forms
unfoldable pub choose_visits : List Linkable → List Form → Key → Class → KeptField → ℕ
choose_visits now forms key class h = if is_waiting_for forms key class h then 1 + link_visit now class h else 0

-- what settling a record's own fields visits
abbrev pub own_row_visits : List Linkable → Class → Key → Row → ℕ
own_row_visits now class key row = if same_key key row.0 then sum_row (own_visits now class) row else 0

-- the visits of all stages of an authority's commit, each over the state that it is given
unfoldable pub stage_visits : Arrival → List Linkable → List Linkable → State → ℕ
stage_visits a before now placed =
    let old = find (has_key a.key) before in
    let new = find (has_key a.key) now in
    let forms = forms_touched a.key before now in
    let dropping = dropping_by old new in
    let dropped = each_field (drop_by dropping now a.key (successor_in a)) placed in
    let carried = each_field (carry_by a.key new) dropped in
    let settled = settle_own now Authority a.key carried in
    sum_fields (drop_visits_by dropping now a.key (successor_in a)) placed
    + sum_fields (carry_visits a.key new) dropped
    + sum_by (own_row_visits now Authority a.key) carried.authorities
    + sum_fields (choose_visits now forms a.key) settled

-- the visits of an authority's commit over a state
abbrev pub commit_visits : State → Entry → ℕ
commit_visits s e = stage_visits (arrival_of e) (linkable_authorities s) (authorities_behind s e) (placed_by Authority s e)

-- what an authority's commit touches: the entry's own heading fields, and fields of the state before it
abbrev pub commit_weight : State → Entry → ℕ
commit_weight s e = arrival_weight (arrival_of e) + state_weight (arrival_of e) (linkable_authorities s) (authorities_behind s e) s

-- the visits of a bibliographic commit over a state: those of its own fields
abbrev pub own_commit_visits : State → Entry → ℕ
own_commit_visits s e =
    sum_by (own_row_visits (linkable_authorities s) Bibliographic e.key) (placed_by Bibliographic s e).bibliographic

-- the visits of a commit, by its class
abbrev pub visits_in : Class → State → Entry → ℕ
visits_in Authority s e = commit_visits s e
visits_in Bibliographic s e = own_commit_visits s e

-- what an arrival touches, by its class
abbrev pub touched_in : Class → State → Arrival → ℕ
touched_in Authority s a =
    arrival_weight a + state_weight a (linkable_authorities s) (linkable_authorities (placed_in Authority a s)) s
touched_in Bibliographic s a = arrival_weight a

-- What a commit touches over a state, in all: the weights of its own heading fields and, of an authority's commit, those of the
-- fields that are linked to its key or wait for it.
abbrev pub touched_by : State → Arrival → ℕ
touched_by s a = touched_in a.class s a

-- what a commit touches: the most visits that it may make
abbrev pub touched : State → Entry → ℕ
touched s e = touched_by s (arrival_of e)
