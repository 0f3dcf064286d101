-- What a committed record does to a catalogue: it is put into its place, and then every heading is settled. The rules are
-- this project's own.
use Rattle.std.specs.Prelude.{Bool, false, ◌&&◌, ◌||◌, List, map, find, fold, Option, Some, None, if◌then◌else◌}
use Rattle.std.specs.Option.{option_map_or}
use Rattle.std.specs.BTreeMap.{insert_entry}
use Rattle.std.specs.Map.{remove_entry}
use Rattle.marc_types.specs.Order.{key_cmp, same_key}
use Rattle.marc_types.specs.declared.field.Leader.{Leader}
use Rattle.marc_types.specs.declared.field.Field.{Field}
use Rattle.marc_types.specs.declared.key.Class.{Class}
use Rattle.marc_types.specs.declared.key.Class.TheVariants.{Authority, Bibliographic}
use Rattle.marc_types.specs.declared.key.Key.{Key}
use Rattle.marc_types.specs.declared.entry.Entry.{Entry}
use Rattle.heading_fields.specs.Tables.{kind_of}
use Rattle.heading_fields.specs.Rewriting.{rewriting, unlinking}
use Rattle.entry_record.specs.Identity.{is_deletion}
use Rattle.entry_record.specs.Authority.{Linkable, is_bare, is_kind, heading_kind, successor_of}
use Rattle.catalogue_rules.specs.State.{KeptField, Row, State, empty_state, new_record, linkable_authorities, each_field}
use Rattle.catalogue_rules.specs.Choice.{Choice, Link, Ambiguous, Unlinked, has_key, choice}

-- what a commit brings: a record of a class under a key
pub record Arrival : Type 0 where
  pub class : Class
  pub key : Key
  pub leader : Leader
  pub fields : List Field

-- a record comes into its key's place; a deletion takes away what stands there
unfoldable pub place : Arrival → List Row → List Row
place a rows =
    if is_deletion a.leader then remove_entry (same_key a.key) rows
    else insert_entry key_cmp rows a.key (new_record a.leader a.fields)

-- a link stays while its authority is there, is linkable and of the field's kind, and its heading is bare or the field is whole
abbrev pub keeps_link : List Linkable → Class → KeptField → Key → Bool
keeps_link authorities class h key =
    option_map_or (λ c. (h.tie.whole || is_bare c) && is_kind c.kind (kind_of class h.field)) (find (has_key key) authorities) false

-- the field is linked to the key
abbrev pub is_linked_to : Key → KeptField → Bool
is_linked_to key h = option_map_or (same_key key) h.tie.key false

-- the field awaits the key
abbrev pub awaits_key : Key → KeptField → Bool
awaits_key key h = option_map_or (same_key key) h.tie.awaits false

-- a field loses the `$0` of the key with its link, and awaits the successor where there is one
abbrev pub end_link : Key → Option Key → KeptField → KeptField
end_link key successor h = record {
  field = unlinking h.field key;
  tie = record { key = None; whole = h.tie.whole; awaits = successor };
}

-- the field awaits the key from now on
abbrev pub await : KeptField → Key → KeptField
await h key = record h { tie = record h.tie { awaits = Some key } }

-- a field that awaited the key awaits its successor in its place
abbrev pub hand_on : Key → Option Key → KeptField → KeptField
hand_on key successor h = if awaits_key key h then option_map_or (await h) successor h else h

-- what an authority's commit does to one field: a link to it that can't stay is ended
unfoldable pub loosen : List Linkable → Key → Option Key → Class → KeptField → KeptField
loosen authorities key successor class h =
    if is_linked_to key h
    then (if keeps_link authorities class h key then h else end_link key successor h)
    else hand_on key successor h

-- of all fields, the links that can't stay are ended, and what awaited the key awaits its successor
abbrev pub loosen_all : Arrival → State → State
loosen_all a s = each_field (loosen (linkable_authorities s) a.key (successor_of a.leader a.key a.fields)) s

-- the record in its place, and of an authority what its coming ends
abbrev pub put_in : Class → Arrival → State → State
put_in Authority a s = loosen_all a (record s { authorities = place a s.authorities })
put_in Bibliographic a s = record s { bibliographic = place a s.bibliographic }

-- put: in its place, and where it is an authority, the links that can't stay are ended
unfoldable pub put : Arrival → State → State
put a s = put_in a.class a s

-- a field linked to an authority and rewritten from its heading; it awaits nothing
abbrev pub link_to : Class → KeptField → Bool → Linkable → KeptField
link_to class h whole c = record {
  field = rewriting h.field c.kind class c.heading c.key whole;
  tie = record { key = Some c.key; whole = whole; awaits = None };
}

-- a field linked as its choice says, or left as it is
abbrev pub take_choice : Class → KeptField → Choice → KeptField
take_choice class h (Link c whole) = link_to class h whole c
take_choice class h (Ambiguous keys) = h
take_choice class h Unlinked = h

-- a linked field is rewritten, whole or by its base as its tie says
abbrev pub settle_linked : List Linkable → Class → KeptField → Key → KeptField
settle_linked authorities class h key = option_map_or (link_to class h h.tie.whole) (find (has_key key) authorities) h

-- an unlinked heading field is given its choice
abbrev pub settle_unlinked : List Linkable → Class → KeptField → KeptField
settle_unlinked authorities class h =
    option_map_or (λ kind. take_choice class h (choice authorities class kind h)) (heading_kind class h.field) h

-- a linked field rewritten, an unlinked one given its choice
unfoldable pub settle_field : List Linkable → Class → KeptField → KeptField
settle_field authorities class h =
    option_map_or (settle_linked authorities class h) h.tie.key (settle_unlinked authorities class h)

-- All choices are taken over the state that settle is given. One pass is enough, since no rewriting changes a 1XX or a 4XX.
unfoldable pub settle : State → State
settle s = each_field (settle_field (linkable_authorities s)) s

-- what one arrival makes of a state: settle of put
abbrev pub step : State → Arrival → State
step s a = settle (put a s)

-- the state after a history
unfoldable pub state_after : List Arrival → State
state_after history = fold step empty_state history

-- what a commit looks at of an entry: class, key, leader, fields
abbrev pub arrival_of : Entry → Arrival
arrival_of e = record { class = e.class; key = e.key; leader = e.rec.leader; fields = e.rec.fields }

-- the state that a list of entries leads to
abbrev pub state_of : List Entry → State
state_of history = state_after (map arrival_of history)
