-- How the laws of this crate speak: of which states, places and fields a fact holds, and what a stage and its turns come to. The
-- rules are this project's own.
use Rattle.std.specs.Prelude.{◌≡◌, ◌==◌, ◌+◌, Bool, false, ◌&&◌, List, [], ◌∷◌, ◌++◌, All, Option, Some, find, length}
use Rattle.std.specs.Option.{option_map_or}
use Rattle.marc_types.specs.Order.{same_key}
use Rattle.marc_types.specs.declared.entry.Entry.{Entry}
use Rattle.marc_types.specs.declared.entry.Receipt.{Receipt}
use Rattle.marc_types.specs.declared.field.Field.{Field}
use Rattle.marc_types.specs.declared.field.Subfield.{Subfield}
use Rattle.marc_types.specs.declared.form.Form.{Form}
use Rattle.marc_types.specs.declared.form.Kind.{Kind}
use Rattle.marc_types.specs.declared.key.Class.{Class}
use Rattle.marc_types.specs.declared.key.Class.TheVariants.{Authority, Bibliographic}
use Rattle.marc_types.specs.declared.key.Key.{Key}
use Rattle.marc_types.specs.declared.key.Place.{Place}
use Rattle.heading_fields.specs.Numbers.{without_blanks}
use Rattle.entry_record.specs.Authority.{Linkable, key_of_text}
use Rattle.catalogue_rules.specs.Choice.{choice, has_key}
use Rattle.catalogue_rules.specs.Receipt.{is_committed, kept_under}
use Rattle.catalogue_rules.specs.Settle.{arrival_of, settle_field, step}
use Rattle.catalogue_rules.specs.State.{KeptField, KeptRecord, State, linkable_authorities}
use Rattle.catalogue_rules.specs.Store.{StaysFit, StaysRecord, field_under}
use Rattle.linking_laws.specs.Changes.{is_exchanged_at}
use Rattle.linking_laws.specs.Commits.{CanBeCommitted, IsSound, placed_by}
use Rattle.linking_laws.specs.Middle.{CanDrop, CanDropOn, IsDroppedOn, IsEitherStage, IsLentAt, IsMiddleWith}
use Rattle.linking_laws.specs.Partway.{AreOrdered, AreOwnDone, IsNext, IsPartway, IsWhole, swapped}
use Rattle.linking_laws.specs.Receipts.{AreChangedBy}
use Rattle.linking_laws.specs.Stages.{Dropping, carry_by, carry_field, drop_by, settle_own}
use Rattle.linking_laws.specs.Tables.{Agree, IsListing, IsRelisted, Tables, choice_by_index, holds_at, is_waiting_by}
use Rattle.linking_laws.specs.Waiting.{AreSameForms, IsUnasked, is_waiting_for, names_key, others_of}

-- ---- commits

-- of each commit of a class over a valid state the fact holds
abbrev pub OfCommits : Class → (State → Entry → Type 0) → Type 0
OfCommits class fact = (s : State) (e : Entry) → CanBeCommitted class s e → fact s e

-- of each commit of an authority over a valid state, and of each field as such a state has it, the fact holds
abbrev pub OfSoundFields : (State → Entry → Class → KeptField → Type 0) → Type 0
OfSoundFields fact = (s : State) (e : Entry) (class : Class) (h : KeptField)
    → CanBeCommitted Authority s e → IsSound (linkable_authorities s) class h → fact s e class h

-- of each commit of a class over a valid state, and of each place of another record, the fact holds
abbrev pub OfOtherPlaces : Class → (State → Entry → Place → Type 0) → Type 0
OfOtherPlaces class fact = (s : State) (e : Entry) (p : Place)
    → CanBeCommitted class s e → is_committed (arrival_of e) p.class p.key ≡ false → fact s e p

-- the commit of an entry exchanges the field at the place
abbrev pub is_exchanged_by : State → Entry → Place → Bool
is_exchanged_by s e p = is_exchanged_at s (step s (arrival_of e)) p

-- a bibliographic record has come into its place, and its own fields are settled
abbrev pub state_own : State → Entry → State
state_own s e = settle_own (linkable_authorities s) Bibliographic e.key (placed_by Bibliographic s e)

-- the receipt of an entry counts as changed the other records of either class with a field that differs
abbrev pub CountsChanged : State → Entry → Receipt → Type 0
CountsChanged s e r = (authorities bibliographic : List Key)
    → AreChangedBy s e Authority authorities → AreChangedBy s e Bibliographic bibliographic
    → r.changed_records ≡ length authorities + length bibliographic

-- ---- forms and choices

-- whichever of two lists with the same forms is looked for, it comes to the same
abbrev pub IsSameForSameForms : {T : Type 0} → (List Form → T) → Type 0
IsSameForSameForms made = (forms others : List Form) → AreSameForms forms others → made forms ≡ made others

-- a field that neither names the key nor asks for a form of its authorities has the choice that it has without these
abbrev pub IsChosenWithout : Key → List Linkable → Class → Kind → KeptField → Type 0
IsChosenWithout key authorities class kind h =
    All (IsUnasked key class kind h) authorities → names_key key h ≡ false
    → choice authorities class kind h ≡ choice (others_of key authorities) class kind h

-- the choice of each field is found by the rows of the two indexes, with no scan of the authorities
abbrev pub FindsChoices : Tables → List Linkable → Type 0
FindsChoices t authorities = (class : Class) (kind : Kind) (h : KeptField) → choice authorities class kind h ≡ choice_by_index t authorities class kind h

-- the subfield is a `$0` that reads as the key
abbrev pub reads_as : Key → Subfield → Bool
reads_as key s = (s.code == 48) && option_map_or (same_key key) (key_of_text (without_blanks s.text)) false

-- ---- stages

-- each field that is linked to the key gets the heading of the authority that the key has among these, if it has one
abbrev pub carry_in : List Linkable → Key → Class → KeptField → KeptField
carry_in authorities key = carry_by key (find (has_key key) authorities)

-- the heading that the key's authority has is carried to a settled field, and nothing changes
abbrev pub IsIdleCarry : List Linkable → Key → Linkable → Class → KeptField → Type 0
IsIdleCarry authorities key c class h =
    settle_field authorities class h ≡ h → find (has_key key) authorities ≡ Some c → carry_field key c.heading c.kind class h ≡ h

-- what dropping makes of a field, by the authorities of a state
abbrev pub drop_in : State → Dropping → Key → Option Key → Class → KeptField → KeptField
drop_in s dropping key successor = drop_by dropping (linkable_authorities s) key successor

-- of each stage that leaves each field or settles it, over a state between stages with its authorities, the fact holds
abbrev pub OfEitherStages : (List Linkable → (Class → KeptField → KeptField) → State → Type 0) → Type 0
OfEitherStages fact = (all : List Linkable) (change : Class → KeptField → KeptField) (s : State)
    → IsMiddleWith all s → IsEitherStage all change → fact all change s

-- of each state whose links to a key can be dropped, with any successor, the fact holds
abbrev pub OfDropping : (Dropping → Key → Option Key → State → Type 0) → Type 0
OfDropping fact = (d : Dropping) (key : Key) (successor : Option Key) (s : State) → CanDrop d key s → fact d key successor s

-- where a test fails the change leaves the field: each listing of the places where it holds is of all that the change touches
abbrev pub IsWholeWhere : (Class → KeptField → Bool) → (Class → KeptField → KeptField) → State → Type 0
IsWholeWhere test change s = (places : List Place) → IsListing (holds_at test s) places → IsWhole change places s

-- ---- places and turns

-- of each place that holds a field, and of that field, the fact holds
abbrev pub OfPlaces : State → (Place → KeptField → Type 0) → Type 0
OfPlaces s fact = (p : Place) (h : KeptField) → field_under p s ≡ Some h → fact p h

-- in each next turn, whichever places are done, the fact holds of its place and of the field there
abbrev pub OfTurns : State → (Place → KeptField → Type 0) → Type 0
OfTurns now fact = (done : List Place) (p : Place) (h : KeptField) → IsNext done p h now → fact p h

-- of each turn of dropping the fact holds: of what it makes of a field, the state, the place and the field there
abbrev pub OfDropTurns : ((Class → KeptField → KeptField) → State → Place → KeptField → Type 0) → Type 0
OfDropTurns fact = (d : Dropping) (key : Key) (successor : Option Key) (done : List Place) (now : State) (p : Place) (h : KeptField)
    → CanDropOn d key done now → IsNext done p h now → fact (drop_in now d key successor) now p h

-- the state behind one turn of a change: the field at a place is exchanged for what the change makes of it
abbrev pub behind_turn : (Class → KeptField → KeptField) → Place → KeptField → State → State
behind_turn change p h s = swapped p (change p.class h) s

-- partway through a change the next turn leads one place further
abbrev pub GoesOnByOne : (Class → KeptField → KeptField) → List Place → State → State → Type 0
GoesOnByOne change done before now = (p : Place) (h : KeptField) → IsPartway change done before now → IsNext done p h now
    → IsPartway change (done ++ p ∷ []) before (behind_turn change p h now)

-- partway through dropping each turn leads on to such a state
abbrev pub GoesOnDropping : Dropping → Key → List Place → State → Type 0
GoesOnDropping d key done now = (successor : Option Key) (p : Place) (h : KeptField) → IsNext done p h now
    → IsDroppedOn d key (done ++ p ∷ []) now (behind_turn (drop_in now d key successor) p h now)

-- of a change over rows in key order, however far it has come, the fact holds
abbrev pub OnTheWay : (Class → KeptField → KeptField) → (List Place → State → State → Type 0) → Type 0
OnTheWay change fact = (done : List Place) (before now : State) → AreOrdered before → IsPartway change done before now → fact done before now

-- once the record's own places are done, and no others, its own fields are settled
abbrev pub SettlesOwn : List Linkable → Class → Key → List Place → State → State → Type 0
SettlesOwn authorities class key done before now = AreOwnDone class key done before → settle_own authorities class key before ≡ now

-- the linkable authorities are those before, and so no choice elsewhere changes
abbrev pub AuthoritiesStay : State → State → Type 0
AuthoritiesStay before now = linkable_authorities now ≡ linkable_authorities before

-- ---- the record of a place

-- whichever record is lent at a place, with this field there it stays one
abbrev pub StaysLent : Place → Field → State → Type 0
StaysLent p field s = (r : KeptRecord) → IsLentAt p r field s → StaysRecord p.field field r

-- the record that is kept at a place fits its written form with this field there
abbrev pub StaysFitting : Place → Field → State → Type 0
StaysFitting p field s = (r : KeptRecord) → kept_under p.class p.key s ≡ Some r → StaysFit p.field field r

-- ---- tables

-- tables that agree with a state agree with the one with another field at a place, once the rows of the place are the field's, and
-- the authorities are the same
abbrev pub FollowsExchange : Tables → Tables → State → Place → KeptField → KeptField → Type 0
FollowsExchange t u s p old h = Agree t s → field_under p s ≡ Some old → IsRelisted p h t u
    → linkable_authorities (swapped p h s) ≡ linkable_authorities s → Agree u (swapped p h s)

-- tables that agree with a state agree with the one behind the next turn, once the rows of its place are those of the new field
abbrev pub FollowsTurns : (Class → KeptField → KeptField) → List Place → State → Type 0
FollowsTurns change done now = (p : Place) (h : KeptField) (t u : Tables)
    → IsNext done p h now → Agree t now → IsRelisted p (change p.class h) t u → Agree u (behind_turn change p h now)

-- the tables name exactly the places that wait for the key or for one of the forms
abbrev pub NamesWaiting : Tables → State → List Form → Key → Type 0
NamesWaiting t s forms key = (p : Place) → is_waiting_by t forms key p ≡ holds_at (is_waiting_for forms key) s p
