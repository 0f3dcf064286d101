-- Nothing is linked and nothing waits at a seat of a place that the records tell so, as where no field stands.
use Rattle.std.proofs.Common.{◌≡◌, ◌∙◌, sym, ap, refl, get_or, [], ◌∷◌, ℕ, ◌<◌, ◌≤◌, arith, Bool, true, false, List, length, Option, Some, None, ◌⊎◌, inl, inr}
use Rattle.std.specs.Prelude.{◌||◌, slice_get}
use Rattle.std.specs.Cmp.{unsigned_Decides}
use Rattle.std.specs.List.{IsDistinct}
use Rattle.std.specs.Option.{option_and_then, option_map_or}
use Rattle.std.proofs.lemmas.Cmp.{eq_by_cmp_equiv}
use Rattle.std.proofs.lemmas.Option.{slice_get_cases, slice_get_past}
use Rattle.marc_types.specs.declared.form.Form.{Form}
use Rattle.marc_types.specs.declared.key.Class.{Class}
use Rattle.marc_types.specs.declared.key.Key.{Key}
use Rattle.marc_types.specs.declared.key.Place.{Place}
use Rattle.marc_types.specs.Order.{form_cmp_total, same_form, same_key}
use Rattle.numbering.proofs.Numberlaws.{number_at}
use Rattle.numbering.specs.Numbers.{IsNumberOf}
use Rattle.numbering.specs.declared.seat.Seat.{Seat}
use Rattle.catalogue_rules.specs.Receipt.{kept_under}
use Rattle.catalogue_rules.specs.State.{KeptField, KeptRecord}
use Rattle.catalogue_rules.specs.Store.{field_at, field_under}
use Rattle.wait_table.specs.Waits.{asks, asks_form, forms_of, has}
use Rattle.wait_table.specs.declared.waiting.Asked.{Asked}
use Rattle.wait_table.specs.declared.waiting.Asked.TheVariants.{One, Two}
use Rattle.wait_table.specs.declared.waiting.Waiting.{Waiting}
use Rattle.linking_laws.specs.Partway.{HasAtMost}
use Rattle.linking_laws.specs.Tables.{asks_at, holds_at, linked_at}
use Rattle.catalogue_tables.proofs.Linked.{unlinked_free}
use Rattle.catalogue_tables.specs.Seam.{AreDistinct, IsSeatOf, keys_in, seat_of}
use Rattle.catalogue_tables.specs.Waiting.{asking_by}
use Rattle.catalogue_tables.specs.declared.tables.CatalogueTables.{CatalogueTables}
use Rattle.linked_store.specs.Contents.{Contents}
use Rattle.linked_store.specs.Placing.{AreFreeFrom, seat_in}
use Rattle.linked_store.specs.Sound.{AgreesWith, keys_of, seen_links, seen_waits, state_in}
use Rattle.linked_store.proofs.Seated.{has_no_row}

-- what waits asks for a form
abbrev first_form : Asked → ℕ
first_form (One form) = form
first_form (Two form base) = form

asks_first : (asked : Asked) → has (forms_of asked) (first_form asked) ≡ true
asks_first (One form) = ap (λ b. b || false) ((unsigned_Decides form form).1 refl)
asks_first (Two form base) = ap (λ b. b || has_base) ((unsigned_Decides form form).1 refl)
  where
    has_base : Bool
    has_base = has (base ∷ []) form

-- the form that has a number
pub record HasForm (forms : List Form) (n : ℕ) : Type 0 where
  pub form : Form
  pub is : slice_get forms n ≡ Some form

pub form_there : (forms : List Form) (n : ℕ) → n < length forms → HasForm forms n
form_there forms n low = by ((slice_get_cases forms n).1)
  where
    by : (((form : Form) × (n < length forms) × (slice_get forms n ≡ Some form) × (get_or forms n form ≡ form)) ⊎ ((length forms ≤ n) × (slice_get forms n ≡ None))) → HasForm forms n
    by (inl found) = record { form = found.0; is = found.2 }
    by (inr past) = absurd (omega (arith, low, past.0))

module _ (tables : CatalogueTables) (c : Contents) (distinct : AreDistinct (keys_of c)) (once : IsDistinct same_form tables.forms) (agrees : AgreesWith tables c) (place : Place) (seat : Seat)
    (at : IsSeatOf (keys_of c) place seat) where
  -- a place that is linked to no key has no link
  pub no_link : ((key : Key) → holds_at (linked_at key) (state_in c) place ≡ false) → c.links seat ≡ None
  no_link none = unlinked_free (keys_of c) (seen_links c.links) place seat distinct agrees.links_fit at (λ key. agrees.linked key place ∙ none key)

  -- a place that asks for no form waits for nothing
  pub no_wait : ((form : Form) → holds_at (asks_at form) (state_in c) place ≡ false) → c.waits seat ≡ None
  no_wait none = by (c.waits seat) refl
    where
      by : (o : Option Waiting) → c.waits seat ≡ o → o ≡ None
      by None e = refl
      by (Some waiting) e =
          let n = first_form waiting.forms in
          let asked : asks n (seen_waits c.waits) seat ≡ true = ap (asks_form n) e ∙ asks_first waiting.forms in
          let there = form_there tables.forms n (agrees.waits_fit.asking.named n seat asked) in
          let numbered = number_at same_form (eq_by_cmp_equiv form_cmp_total) tables.forms there.form n once there.is in
          let told : asking_by tables.forms (keys_of c) (seen_waits c.waits) there.form place ≡ true =
          ap (λ (m : ℕ). asks m (seen_waits c.waits) (seat_of (keys_of c) place)) (sym numbered.is) ∙ ap (λ (s : Seat). asks n (seen_waits c.waits) s) (sym at.is) ∙ asked in
          let both : true ≡ false = sym told ∙ (agrees.asking there.form place ∙ none there.form) in
          cc

-- no test holds where no field stands
holds_not : (place : Place) (c : Contents) → field_under place (state_in c) ≡ None → (test : Class → KeptField → Bool) → holds_at test (state_in c) place ≡ false
holds_not place c none test = ap (λ (o : Option KeptField). option_map_or (test place.class) o false) none

-- no field stands past those of the record
none_past : (o : Option KeptRecord) (fields field : ℕ) → ((r : KeptRecord) → o ≡ Some r → length r.fields ≤ fields) → fields ≤ field → option_and_then (field_at field) o ≡ None
none_past None fields field most high = refl
none_past (Some r) fields field most high = slice_get_past r.fields field (let few = most r refl in omega (arith, few, high))

-- the seats behind a record's fields have no rows
pub free_behind : (tables : CatalogueTables) (c : Contents) (class : Class) (key : Key) (number fields : ℕ) → AreDistinct (keys_of c) → IsDistinct same_form tables.forms → AgreesWith tables c
    → IsNumberOf same_key (keys_in class (keys_of c)) key number → HasAtMost class key fields (state_in c) → AreFreeFrom tables.forms class number fields c
free_behind tables c class key number fields distinct once agrees of most = λ field high.
    let place : Place = record { class = class; key = key; field = field } in
    let at : IsSeatOf (keys_of c) place (seat_in class number field) = record { known = of.known; is = ap (λ (n : ℕ). seat_in class n field) of.is } in
    let none : field_under place (state_in c) ≡ None = none_past (kept_under class key (state_in c)) fields field most high in
    has_no_row tables.forms (seat_in class number field) c
    (no_link tables c distinct once agrees place (seat_in class number field) at (λ name. holds_not place c none (linked_at name)))
    (no_wait tables c distinct once agrees place (seat_in class number field) at (λ form. holds_not place c none (asks_at form)))
