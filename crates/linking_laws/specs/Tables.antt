-- What the tables of a catalogue tell of its state, as tests: which fields ask for a form, which name a key, which are linked
-- to it; and two indexes of the linkable authorities. The rules are this project's own.
use Rattle.std.specs.Prelude.{◌≡◌, Bool, true, false, ◌&&◌, ◌||◌, List, [], ◌∷◌, map, filter, find, Option, Some, None, unwrap_or, is_some, if◌then◌else◌}
use Rattle.std.specs.List.{list_any}
use Rattle.std.specs.Option.{option_map_or, option_map, option_or}
use Rattle.marc_types.specs.declared.key.Class.{Class}
use Rattle.marc_types.specs.declared.key.Key.{Key}
use Rattle.marc_types.specs.declared.key.Place.{Place}
use Rattle.marc_types.specs.declared.form.Form.{Form}
use Rattle.marc_types.specs.declared.form.Kind.{Kind}
use Rattle.catalogue_rules.specs.Choice.{Choice, Link, Ambiguous, Unlinked, has_key, takes_subdivisions, asks_base, by_number}
use Rattle.marc_types.specs.Order.{same_form}
use Rattle.catalogue_rules.specs.Receipt.{is_committed}
use Rattle.entry_record.specs.Authority.{Linkable, is_bare, heading_kind, full_form, base_form, is_valid_key}
use Rattle.catalogue_rules.specs.State.{KeptField, State, linkable_authorities}
use Rattle.catalogue_rules.specs.Settle.{is_linked_to, Arrival}
use Rattle.catalogue_rules.specs.Store.{field_under}
use Rattle.linking_laws.specs.Waiting.{is_form_among, asked_forms}
use Rattle.linking_laws.specs.Visits.{waits_for_key}
use Rattle.linking_laws.specs.Partway.{same_place, is_place_among}

-- a key and the forms under which its authority is found
pub record IndexRow : Type 0 where
  pub key : Key
  pub established : Form
  pub see_from : List Form

-- what an index has of an authority
abbrev pub index_row : Linkable → IndexRow
index_row c = record { key = c.key; established = c.established; see_from = c.see_from }

-- the rows of both indexes, and what the other tables list, by a form or a key and a place
pub record Tables : Type 0 where
  pub forms : List IndexRow
  pub bare : List IndexRow
  pub asking : Form → Place → Bool
  pub naming : Key → Place → Bool
  pub linked : Key → Place → Bool

-- an unlinked heading field that is looked up by the form
abbrev pub asks_at : Form → Class → KeptField → Bool
asks_at form class h =
    if is_some h.tie.key then false
    else option_map_or (λ kind. is_form_among (asked_forms class kind h) form) (heading_kind class h.field) false

-- the field is linked to the key
abbrev pub linked_at : Key → Class → KeptField → Bool
linked_at key class h = is_linked_to key h

-- what dropping the links to a key names: each place linked to it, and with a successor each that waits for it
abbrev pub dropped_at : Key → Option Key → Class → KeptField → Bool
dropped_at key successor class h = is_linked_to key h || (is_some successor && waits_for_key key class h)

-- there is a field at the place, and it passes
abbrev pub holds_at : (Class → KeptField → Bool) → State → Place → Bool
holds_at test s p = option_map_or (test p.class) (field_under p s) false

-- the indexes list the linkable authorities of a state in key order, all and those with a bare heading
pub record AreIndexed (t : Tables) (s : State) : Type 0 where
  pub forms : t.forms ≡ map index_row (linkable_authorities s)
  pub bare : t.bare ≡ map index_row (filter is_bare (linkable_authorities s))

-- The tables agree with a state: the indexes list its linkable authorities, and the other tables list exactly the places that
-- they should. Only valid keys are named: the text of a `$0` reads as one of them at most, and an improper key may have the same.
pub record Agree (t : Tables) (s : State) : Type 0 where
  pub forms : t.forms ≡ map index_row (linkable_authorities s)
  pub bare : t.bare ≡ map index_row (filter is_bare (linkable_authorities s))
  pub asking : (form : Form) (p : Place) → t.asking form p ≡ holds_at (asks_at form) s p
  pub naming : (key : Key) (p : Place) → is_valid_key key ≡ true → t.naming key p ≡ holds_at (waits_for_key key) s p
  pub linked : (key : Key) (p : Place) → t.linked key p ≡ holds_at (linked_at key) s p

-- the places are listed, each once
abbrev pub AreOnce : List Place → Type 0
AreOnce [] = Unit {0}
AreOnce (p ∷ places) = (is_place_among places p ≡ false) × AreOnce places

-- a list has exactly these places, each once
pub record IsListing (members : Place → Bool) (places : List Place) : Type 0 where
  pub members_are : (p : Place) → is_place_among places p ≡ members p
  pub once : AreOnce places

-- the rows of one place are those of another field; all else stays
pub record IsRelisted (p : Place) (h : KeptField) (before after : Tables) : Type 0 where
  pub forms : after.forms ≡ before.forms
  pub bare : after.bare ≡ before.bare
  pub asking : (form : Form) (q : Place) →
      after.asking form q ≡ (if same_place p q then asks_at form p.class h else before.asking form q)
  pub naming : (key : Key) (q : Place) → is_valid_key key ≡ true →
      after.naming key q ≡ (if same_place p q then waits_for_key key p.class h else before.naming key q)
  pub linked : (key : Key) (q : Place) →
      after.linked key q ≡ (if same_place p q then linked_at key p.class h else before.linked key q)

-- what the tables say of the places that wait for the key or for one of the forms
abbrev pub is_waiting_by : Tables → List Form → Key → Place → Bool
is_waiting_by t forms key p = list_any (λ form. t.asking form p) forms || t.naming key p

-- the committed record's rows are those of the record that is now there, if any, and the indexes are those of the state; all
-- else stays
pub record IsReplaced (a : Arrival) (placed : State) (before after : Tables) : Type 0 where
  pub forms : after.forms ≡ map index_row (linkable_authorities placed)
  pub bare : after.bare ≡ map index_row (filter is_bare (linkable_authorities placed))
  pub asking : (form : Form) (q : Place) →
      after.asking form q ≡ (if is_committed a q.class q.key then holds_at (asks_at form) placed q else before.asking form q)
  pub naming : (key : Key) (q : Place) → is_valid_key key ≡ true →
      after.naming key q ≡ (if is_committed a q.class q.key then holds_at (waits_for_key key) placed q else before.naming key q)
  pub linked : (key : Key) (q : Place) →
      after.linked key q ≡ (if is_committed a q.class q.key then holds_at (linked_at key) placed q else before.linked key q)

-- ---- a choice by the rows of the indexes

-- the row's established form is this one
abbrev pub has_established : Form → IndexRow → Bool
has_established form r = same_form form r.established

-- one of the row's see-from forms is this one
abbrev pub has_traced : Form → IndexRow → Bool
has_traced form r = list_any (same_form form) r.see_from

-- the keys of the rows of which a test holds
abbrev pub keys_with : (IndexRow → Bool) → List IndexRow → List Key
keys_with test rows = map (λ r. r.key) (filter test rows)

-- one key is a link to its authority, two or more are ambiguous
abbrev pub choice_by_keys : List Linkable → Bool → List Key → Option Choice
choice_by_keys authorities link_whole [] = None
choice_by_keys authorities link_whole (key ∷ []) = option_map (λ c. Link c link_whole) (find (has_key key) authorities)
choice_by_keys authorities link_whole (key ∷ other ∷ more) = Some (Ambiguous (key ∷ other ∷ more))

-- the keys with this established form; if there is none, those with this form in a see from tracing
abbrev pub form_by_index : List Linkable → List IndexRow → Bool → Form → Option Choice
form_by_index authorities rows link_whole form =
    option_or (choice_by_keys authorities link_whole (keys_with (has_established form) rows))
    (choice_by_keys authorities link_whole (keys_with (has_traced form) rows))

-- The choice of an unlinked heading field of this kind: by number, else by its full form in the one index, else by its base
-- form in the other. Of the authorities only those are looked up that a key names.
abbrev pub choice_by_index : Tables → List Linkable → Class → Kind → KeptField → Choice
choice_by_index t authorities class kind h =
    unwrap_or
    (option_or (by_number authorities class kind h)
    (option_or (if takes_subdivisions class h then form_by_index authorities t.forms true (full_form kind class h.field) else None)
    (if asks_base class h then form_by_index authorities t.bare false (base_form kind h.field) else None)))
    Unlinked
