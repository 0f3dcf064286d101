-- The choice of a heading in numbers: how it stands to the choice of the rules.
use Rattle.std.specs.Prelude.{◌≡◌, ℕ, Bool, ◌&&◌, ◌||◌, ◌==◌, not, List, [], ◌∷◌, filter, slice_get, if◌then◌else◌}
use Rattle.std.specs.Prelude.{Option, Some, None, option_and_then, unwrap_or}
use Rattle.std.specs.List.{IsDistinct}
use Rattle.std.specs.Option.{option_map, option_or}
use Rattle.marc_types.specs.Fields.{subfields_of}
use Rattle.marc_types.specs.declared.field.Subfield.{Subfield}
use Rattle.marc_types.specs.declared.form.Form.{Form}
use Rattle.marc_types.specs.declared.form.Kind.{Kind}
use Rattle.marc_types.specs.declared.key.Class.{Class}
use Rattle.marc_types.specs.declared.key.Key.{Key}
use Rattle.marc_types.specs.Order.{same_key}
use Rattle.numbering.specs.Numbers.{is_known, number_of}
use Rattle.form_index.specs.Forms.{Forms}
use Rattle.form_index.specs.Index.{Indexed, row_under}
use Rattle.form_index.specs.declared.among.Among.{Among}
use Rattle.form_index.specs.declared.among.Among.TheVariants.{All, Bare}
use Rattle.form_index.specs.declared.candidates.Candidates.{Candidates}
use Rattle.form_index.specs.declared.candidates.Candidates.TheVariants as candidates
use Rattle.heading_fields.specs.Numbers.{without_blanks}
use Rattle.entry_record.specs.Authority.{Linkable, heading_kind, is_bare, key_of_text, same_kind}
use Rattle.catalogue_rules.specs.Choice.{Choice, by_base_form, by_full_form, choice, has_subdivision, takes_subdivisions}
use Rattle.catalogue_rules.specs.Choice as rules
use Rattle.catalogue_rules.specs.State.{KeptField, State, linkable_authorities}
use Rattle.linking_laws.specs.Middle.{AreAuthoritiesInOrder}
use Rattle.catalogue_tables.specs.declared.choosing.Chosen.{Chosen}
use Rattle.catalogue_tables.specs.declared.choosing.Chosen.TheVariants as chosen
use Rattle.catalogue_tables.specs.declared.choosing.Taker.{Taker}
use Rattle.catalogue_tables.specs.Following.{TellsAuthorities}

-- each key has one number, and the index tells of the state's authorities, which are in order
pub record TellsState (names : List Form) (keys : List Key) (x : Indexed) (s : State) : Type 0 where
  pub distinct : IsDistinct same_key keys
  pub in_order : AreAuthoritiesInOrder s
  pub tells : TellsAuthorities names keys x (linkable_authorities s)

-- of each state that the index tells, under these keys, the answer is what a rule makes of its authorities
abbrev pub AnswersAs : {T : Type 0} → List Form → List Key → Indexed → (List Linkable → T) → T → Type 0
AnswersAs names keys x rule answer = (s : State) → TellsState names keys x s → answer ≡ rule (linkable_authorities s)

-- the same under any keys, which the rule is given
abbrev pub AnswersUnderAny : {T : Type 0} → List Form → Indexed → (List Key → List Linkable → T) → T → Type 0
AnswersUnderAny names x rule answer = (keys : List Key) → AnswersAs names keys x (rule keys) answer

-- a choice, with the number of its authority's key
abbrev pub chosen_for : List Key → Choice → Chosen
chosen_for keys (rules.Link c whole) = chosen.Link (number_of same_key keys c.key) whole
chosen_for keys (rules.Ambiguous found) = chosen.Ambiguous
chosen_for keys rules.Unlinked = chosen.Unlinked

-- the choice of a field, if it is a heading
abbrev pub heading_choice : List Linkable → Class → KeptField → Option Choice
heading_choice all class h = option_map (λ kind. choice all class kind h) (heading_kind class h.field)

-- the choice of a heading that no number decides
abbrev pub form_choice : List Linkable → Class → Kind → KeptField → Choice
form_choice all class kind h = unwrap_or (option_or (by_full_form all class kind h) (by_base_form all class kind h)) rules.Unlinked

-- the key that a `$0` reads as, if it is a proper one
abbrev pub key_named : Subfield → Option Key
key_named s = if s.code == 48 then key_of_text (without_blanks s.text) else None

-- all authorities, or the bare ones
abbrev pub authorities_among : Among → List Linkable → List Linkable
authorities_among All all = all
authorities_among Bare all = filter is_bare all

-- ---- by number

-- an authority that takes a field by number
abbrev pub taker_for : List Key → Linkable → Taker
taker_for keys c = record { number = number_of same_key keys c.key; bare = is_bare c }

-- the number of a key that has one
abbrev pub number_known : List Key → Key → Option ℕ
number_known keys key = if is_known same_key keys key then Some (number_of same_key keys key) else None

-- the authority of a row, where it is of the kind, and the field takes subdivisions or the heading is bare
abbrev pub taker_of_row : List Form → Kind → Bool → ℕ → Forms → Option Taker
taker_of_row names kind takes number row =
    option_and_then
    (λ form. if same_kind kind form.kind && (takes || row.bare) then Some (record { number = number; bare = row.bare }) else None)
    (slice_get names row.established)

module _ (names : List Form) (keys : List Key) (x : Indexed) (kind : Kind) (takes : Bool) where
  -- the authority under a key
  abbrev pub taker_under : Key → Option Taker
  taker_under key = option_and_then (λ number. option_and_then (taker_of_row names kind takes number) (row_under number x)) (number_known keys key)

  -- the authority that a `$0` names
  abbrev pub named_taker : Subfield → Option Taker
  named_taker s = option_and_then taker_under (key_named s)

  -- the authority that the first `$0` names that names one
  abbrev pub first_taker : List Subfield → Option Taker
  first_taker [] = None
  first_taker (s ∷ subs) = option_or (named_taker s) (first_taker subs)

-- the authority under the key that a field awaits, else that of its first `$0`
abbrev pub taker_by_number : List Form → List Key → Indexed → Class → Kind → KeptField → Option Taker
taker_by_number names keys x class kind h =
    option_or (option_and_then (taker_under names keys x kind (takes_subdivisions class h)) h.tie.awaits)
    (first_taker names keys x kind (takes_subdivisions class h) (subfields_of h.field))

-- the link to a taker
abbrev pub link_by_taker : Class → KeptField → Taker → Chosen
link_by_taker class h taker =
    chosen.Link taker.number (takes_subdivisions class h && (h.tie.whole || not (has_subdivision h) || not taker.bare))

-- ---- by a form

-- no authority is found
abbrev pub unlinked : Chosen
unlinked = chosen.Unlinked

-- one number is a link, two or more are ambiguous
abbrev pub chosen_of : Bool → List ℕ → Option Chosen
chosen_of whole [] = None
chosen_of whole (number ∷ []) = Some (chosen.Link number whole)
chosen_of whole (number ∷ other ∷ more) = Some chosen.Ambiguous

-- one candidate is chosen, several are ambiguous, none leaves the choice to the next step
abbrev pub chosen_among : Bool → Candidates → Option Chosen
chosen_among whole (candidates.Established numbers) = chosen_of whole numbers.now
chosen_among whole (candidates.SeeFrom numbers) = chosen_of whole numbers.now
chosen_among whole candidates.Nobody = None
