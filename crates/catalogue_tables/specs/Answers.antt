-- What the calls answer, whichever state the index tells: the choice and the standing of a heading, step by step, and what is known of
-- an authority.
use Rattle.std.specs.Prelude.{◌≡◌, ◌<◌, ℕ, Bool, true, List, [], length, find, Option, Some, unwrap_or}
use Rattle.std.specs.List.{IsDistinct, list_any}
use Rattle.std.specs.Option.{option_map, option_or}
use Rattle.marc_types.specs.Order.{same_form, same_key}
use Rattle.marc_types.specs.declared.entry.Tie.{Tie}
use Rattle.marc_types.specs.declared.field.Field.{Field}
use Rattle.marc_types.specs.declared.form.Form.{Form}
use Rattle.marc_types.specs.declared.form.Kind.{Kind}
use Rattle.marc_types.specs.declared.key.Class.{Class}
use Rattle.marc_types.specs.declared.key.Key.{Key}
use Rattle.numbering.specs.Numbers.{IsNumberOf}
use Rattle.form_index.specs.Index.{Indexed, IsInOrder}
use Rattle.form_index.specs.Order.{key_at}
use Rattle.form_index.specs.declared.among.Among.{Among}
use Rattle.form_index.specs.declared.candidates.Candidates.{Candidates}
use Rattle.wait_table.specs.declared.waiting.Waiting.{Waiting}
use Rattle.entry_record.specs.Authority.{Linkable, base_form, full_form, heading_kind}
use Rattle.entry_record.specs.Headings.{divided_form}
use Rattle.catalogue_rules.specs.Choice.{asks_base, by_base_form, by_form, by_full_form, choice, has_key}
use Rattle.catalogue_rules.specs.Receipt.{standing_by}
use Rattle.catalogue_rules.specs.State.{KeptField, State, kept_field, linkable_authorities, new_field}
use Rattle.linking_laws.specs.Tables.{IndexRow}
use Rattle.catalogue_tables.specs.Asked.{IsAskedBy, NamesNone}
use Rattle.catalogue_tables.specs.Choosing.{TellsState, authorities_among, chosen_for, form_choice, heading_choice, taker_by_number, unlinked}
use Rattle.catalogue_tables.specs.Following.{TellsAuthorities}
use Rattle.catalogue_tables.specs.Known.{IsKnownAs}
use Rattle.catalogue_tables.specs.Meant.{AreMeant}
use Rattle.catalogue_tables.specs.Rows.{IsTold, TellsRows}
use Rattle.catalogue_tables.specs.Sharing.{is_headed_by_any}
use Rattle.catalogue_tables.specs.Stands.{stands_as}
use Rattle.catalogue_tables.specs.declared.choosing.Chosen.{Chosen}
use Rattle.catalogue_tables.specs.declared.choosing.Taker.{Taker}
use Rattle.catalogue_tables.specs.declared.known.KnownAuthority.{KnownAuthority}
use Rattle.catalogue_tables.specs.declared.standing.Standing.{Standing}

-- of each state that the index tells, under any keys, the fact holds of the keys and of the state's authorities
abbrev pub HoldsUnderAny : List Form → Indexed → (List Key → List Linkable → Type 0) → Type 0
HoldsUnderAny names x fact = (keys : List Key) (s : State) → TellsState names keys x s → fact keys (linkable_authorities s)

-- ---- what a heading is to be linked to

-- the answer for a field, if it is a heading
abbrev pub heading_answer : List Key → Class → KeptField → List Linkable → Option Chosen
heading_answer keys class h all = option_map (chosen_for keys) (heading_choice all class h)

-- the answer for a heading of a kind
abbrev pub kind_answer : List Key → Class → Kind → KeptField → List Linkable → Chosen
kind_answer keys class kind h all = chosen_for keys (choice all class kind h)

-- the answer for a heading that no number decides
abbrev pub forms_answer : Class → Kind → KeptField → List Key → List Linkable → Chosen
forms_answer class kind h keys all = chosen_for keys (form_choice all class kind h)

-- the answer by a field's full form alone
abbrev pub full_answer : Class → Kind → Field → List Key → List Linkable → Option Chosen
full_answer class kind field keys all = option_map (chosen_for keys) (by_full_form all class kind (new_field field))

-- the answer by a field's base form alone
abbrev pub base_answer : Class → Kind → KeptField → List Key → List Linkable → Chosen
base_answer class kind h keys all = unwrap_or (option_map (chosen_for keys) (by_base_form all class kind h)) unlinked

-- the answer by one form, among all authorities or the bare ones
abbrev pub form_answer : Among → Bool → Form → List Key → List Linkable → Option Chosen
form_answer among whole form keys all = option_map (chosen_for keys) (by_form (authorities_among among all) whole form)

-- ---- by the forms of a field, as they were made

-- the answer by the full form, where the forms are those of the field: the base one and, where it has one, the divided one
abbrev pub IsFullAnswer : Class → Field → Form → Option Form → Option Chosen → List Key → List Linkable → Type 0
IsFullAnswer class field base divided answer keys all =
    base ≡ base_form base.kind field → divided ≡ divided_form base.kind class field → answer ≡ full_answer class base.kind field keys all

-- the answer by the base form, where the form is that
abbrev pub IsBaseAnswer : Class → KeptField → Form → Chosen → List Key → List Linkable → Type 0
IsBaseAnswer class h base answer keys all = base ≡ base_form base.kind h.field → answer ≡ base_answer class base.kind h keys all

-- ---- by the numbers of the row of a field that waits

-- the authority that takes a heading by number, where its row without keys is of one that names none
abbrev pub IsTakerByRow : List Form → List Key → Indexed → Class → KeptField → Waiting → Option Taker → Type 0
IsTakerByRow names keys x class h row taker = (kind : Kind) → heading_kind class h.field ≡ Some kind
    → (row.keys ≡ [] → NamesNone h) → taker ≡ taker_by_number names keys x class kind h

-- the answer by the forms of a heading's row
abbrev pub IsRowAnswer : List Form → Class → KeptField → Waiting → Chosen → List Key → List Linkable → Type 0
IsRowAnswer names class h row answer keys all = (kind : Kind) → IsAskedBy names class kind h row → answer ≡ forms_answer class kind h keys all

-- the answer by the number of a field's full form
abbrev pub IsFullNumberAnswer : List Form → Class → Field → ℕ → Option Chosen → List Key → List Linkable → Type 0
IsFullNumberAnswer names class field number answer keys all = (kind : Kind)
    → IsNumberOf same_form names (full_form kind class field) number → answer ≡ full_answer class kind field keys all

-- the answer by the number of a field's base form, where it is looked up by its base
abbrev pub IsBaseNumberAnswer : List Form → Class → KeptField → ℕ → Chosen → List Key → List Linkable → Type 0
IsBaseNumberAnswer names class h number answer keys all = (kind : Kind)
    → (asks_base class h ≡ true → IsNumberOf same_form names (base_form kind h.field) number) → answer ≡ base_answer class kind h keys all

-- the answer by the form that has the number
abbrev pub IsNumberAnswer : List Form → Among → Bool → ℕ → Option Chosen → List Key → List Linkable → Type 0
IsNumberAnswer names among whole number answer keys all = (form : Form)
    → IsNumberOf same_form names form number → answer ≡ form_answer among whole form keys all

-- ---- how a heading without a link stands

-- how one of a kind stands
abbrev pub kind_standing : Class → Kind → KeptField → List Linkable → Standing
kind_standing class kind h all = stands_as (standing_by (choice all class kind h))

-- how one stands that no number decides
abbrev pub forms_standing : Class → Kind → KeptField → List Linkable → Standing
forms_standing class kind h all = stands_as (standing_by (form_choice all class kind h))

-- the numbers of those that a field may mean by its full form, else by its base form, where the forms are those of the field
abbrev pub AreMeantByForms : Class → KeptField → Form → Option Form → List ℕ → List Key → List Linkable → Type 0
AreMeantByForms class h base divided numbers keys all =
    base ≡ base_form base.kind h.field → divided ≡ divided_form base.kind class h.field
    → AreMeant keys (option_or (by_full_form all class base.kind h) (by_base_form all class base.kind h)) numbers

-- of those that it may mean by its full form, whatever its tie is
abbrev pub AreMeantInFull : Class → Field → Form → Option Form → List ℕ → List Key → List Linkable → Type 0
AreMeantInFull class field base divided numbers keys all = (tie : Tie)
    → base ≡ base_form base.kind field → divided ≡ divided_form base.kind class field
    → AreMeant keys (by_full_form all class base.kind (kept_field field tie)) numbers

-- of those that it may mean by its base form
abbrev pub AreMeantByBase : Class → KeptField → Form → List ℕ → List Key → List Linkable → Type 0
AreMeantByBase class h base numbers keys all = base ≡ base_form base.kind h.field → AreMeant keys (by_base_form all class base.kind h) numbers

-- of those that a form may mean, among all authorities or the bare ones
abbrev pub AreMeantByForm : Among → Bool → Form → List ℕ → List Key → List Linkable → Type 0
AreMeantByForm among whole form numbers keys all = AreMeant keys (by_form (authorities_among among all) whole form) numbers

-- ---- what the index has of forms and authorities

-- the candidates for a form, whichever rows the index tells, under any keys
abbrev pub TellsCandidates : Among → List Form → Indexed → Form → Candidates → Type 0
TellsCandidates among names x form answer = (keys : List Key) (rows : List IndexRow)
    → IsDistinct same_key keys → TellsRows among names keys x rows → IsInOrder keys x → IsTold keys rows form answer

-- what is known of the authority under the key with the number, whichever authorities the index tells, under any keys
abbrev pub IsKnownUnderAny : List Form → Indexed → ℕ → Option KnownAuthority → Type 0
IsKnownUnderAny names x number known = (keys : List Key) (s : State)
    → IsDistinct same_key keys → number < length keys → TellsAuthorities names keys x (linkable_authorities s)
    → IsKnownAs (find (has_key (key_at keys number)) (linkable_authorities s)) known

-- the keys of the authorities with one of the forms as their heading, where the index is in the order of the keys
abbrev pub AreHeadedByAny : List Key → Indexed → List ℕ → List Key → Type 0
AreHeadedByAny keys x forms found = IsDistinct same_key keys → IsInOrder keys x
    → (key : Key) → list_any (same_key key) found ≡ is_headed_by_any keys x forms key
