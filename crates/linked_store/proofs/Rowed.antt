-- The row of an unlinked field's seat has the numbers of the field's forms, in their order.
use Rattle.std.proofs.Common.{◌≡◌, ◌∙◌, sym, ap, refl, ℕ, arith, Bool, true, false, cond, List, [], ◌∷◌, ◌++◌, Option, Some, None, is_some, ◌⊎◌, inl, inr}
use Rattle.std.specs.Prelude.{◌&&◌, ◌||◌, not, nat_eq, filter}
use Rattle.std.specs.Cmp.{unsigned_Decides}
use Rattle.std.specs.List.{IsDistinct, list_any}
use Rattle.std.specs.Option.{option_map_or}
use Rattle.std.proofs.lemmas.Cmp.{eq_by_cmp_equiv}
use mathlib.Core.Bool.{false≢true}
use Rattle.marc_types.specs.Fields.{subfields_of}
use Rattle.marc_types.specs.Order.{form_Decides, form_cmp_total, same_form, same_key}
use Rattle.marc_types.specs.declared.form.Form.{Form}
use Rattle.marc_types.specs.declared.form.Kind.{Kind}
use Rattle.marc_types.specs.declared.key.Class.{Class}
use Rattle.marc_types.specs.declared.key.Key.{Key}
use Rattle.marc_types.specs.declared.key.Place.{Place}
use Rattle.numbering.proofs.Numberlaws.{keeps_itself, number_at}
use Rattle.numbering.specs.Numbers.{is_known, number_of}
use Rattle.numbering.specs.declared.seat.Seat.{Seat}
use Rattle.heading_fields.specs.Numbers.{is_naming}
use Rattle.entry_record.specs.Authority.{base_form, full_form, heading_kind, is_heading_field, is_valid_key}
use Rattle.catalogue_rules.specs.Choice.{asks_base, takes_subdivisions}
use Rattle.catalogue_rules.specs.Settle.{awaits_key}
use Rattle.catalogue_rules.specs.State.{KeptField}
use Rattle.catalogue_rules.specs.Store.{field_under}
use Rattle.wait_table.specs.Waits.{asks, asks_form, forms_of, has, names, names_key as names_numbered}
use Rattle.wait_table.specs.declared.waiting.Asked.{Asked}
use Rattle.wait_table.specs.declared.waiting.Asked.TheVariants.{One, Two}
use Rattle.wait_table.specs.declared.waiting.Waiting.{Waiting}
use Rattle.linking_laws.specs.Tables.{asks_at, holds_at}
use Rattle.linking_laws.specs.Visits.{waits_for_key}
use Rattle.linking_laws.specs.Waiting.{asked_forms, asked_full, is_form_among, names_key}
use Rattle.catalogue_tables.specs.Asked.{IsAskedBy, IsRowOfField, NamesNone, first_of, last_of}
use Rattle.catalogue_tables.specs.Seam.{AreDistinct, HasKey, IsSeatOf, place_at}
use Rattle.catalogue_tables.specs.declared.tables.CatalogueTables.{CatalogueTables}
use Rattle.catalogue_tables.proofs.Asked.{or_first}
use Rattle.catalogue_tables.proofs.Seams.{seat_back}
use Rattle.std.proofs.lemmas.List.Folds.{list_any-append}
use Rattle.linked_store.specs.Contents.{Contents}
use Rattle.linked_store.specs.Leading.{leads, leads_at, leads_form}
use Rattle.linked_store.specs.Sound.{AgreesWith, keys_of, seen_waits, state_in}
use Rattle.linked_store.proofs.Agreed.{first_asked}
use Rattle.linked_store.proofs.Fieldless.{form_there, no_wait}

same_itself : (form : Form) → same_form form form ≡ true
same_itself form = (form_Decides form form).1 refl

nat_itself : (n : ℕ) → nat_eq n n ≡ true
nat_itself n = (unsigned_Decides n n).1 refl

-- ---- the forms by which a field is looked up

-- one of two forms, where each may be missing
either_form : (test : Form → Bool) (x y : Bool) (full base form : Form) → list_any (same_form form) (cond x (full ∷ []) [] ++ filter test (cond y (base ∷ []) [])) ≡ true
    → (form ≡ full) ⊎ (form ≡ base)
either_form test x y full base form e = by x y (test base) refl e
  where
    second : (t : Bool) → list_any (same_form form) (cond t (base ∷ []) []) ≡ true → (form ≡ full) ⊎ (form ≡ base)
    second true e = at (same_form form base) refl e
      where
        at : (b : Bool) → same_form form base ≡ b → (b || false) ≡ true → (form ≡ full) ⊎ (form ≡ base)
        at true same e = inr ((form_Decides form base).0 same)
        at false same e = cc
    second false e = cc

    first : (t y : Bool) → (same_form form full || list_any (same_form form) (cond y (cond t (base ∷ []) []) [])) ≡ true → (form ≡ full) ⊎ (form ≡ base)
    first t y e = at (same_form form full) refl e
      where
        rest : (y : Bool) → list_any (same_form form) (cond y (cond t (base ∷ []) []) []) ≡ true → (form ≡ full) ⊎ (form ≡ base)
        rest true e = second t e
        rest false e = cc

        at : (b : Bool) → same_form form full ≡ b → (b || list_any (same_form form) (cond y (cond t (base ∷ []) []) [])) ≡ true → (form ≡ full) ⊎ (form ≡ base)
        at true same e = inl ((form_Decides form full).0 same)
        at false same e = rest y e

    by : (x y t : Bool) → test base ≡ t → list_any (same_form form) (cond x (full ∷ []) [] ++ filter test (cond y (base ∷ []) [])) ≡ true → (form ≡ full) ⊎ (form ≡ base)
    by true true t is e = first t true (sym (ap (λ b. same_form form full || list_any (same_form form) (cond b (base ∷ []) [])) is) ∙ e)
    by true false t is e = first t false e
    by false true t is e = second t (sym (ap (λ b. list_any (same_form form) (cond b (base ∷ []) [])) is) ∙ e)
    by false false t is e = cc

pub one_of_both : (class : Class) (kind : Kind) (h : KeptField) (form : Form) → is_form_among (asked_forms class kind h) form ≡ true
    → (form ≡ full_form kind class h.field) ⊎ (form ≡ base_form kind h.field)
unfolding asked_forms
one_of_both class kind h form e =
    either_form (λ f. not (is_form_among (asked_full class kind h) f)) (takes_subdivisions class h) (asks_base class h) (full_form kind class h.field) (base_form kind h.field) form e

-- where a field is looked up by its base, its base form is among its forms
base_among : (fulls : List Form) (base : Form) (y : Bool) → y ≡ true → list_any (same_form base) (fulls ++ filter (λ f. not (is_form_among fulls f)) (cond y (base ∷ []) [])) ≡ true
base_among fulls base false on = cc
base_among fulls base true on =
    list_any-append (same_form base) fulls (cond (not (is_form_among fulls base)) (base ∷ []) []) ∙ by (is_form_among fulls base)
  where
    by : (b : Bool) → (b || list_any (same_form base) (cond (not b) (base ∷ []) [])) ≡ true
    by true = refl
    by false = ap (λ b. b || false) (same_itself base)

base_asked : (class : Class) (kind : Kind) (h : KeptField) → asks_base class h ≡ true → is_form_among (asked_forms class kind h) (base_form kind h.field) ≡ true
unfolding asked_forms
base_asked class kind h on = base_among (asked_full class kind h) (base_form kind h.field) (asks_base class h) on

-- ---- the first and the last number of a row

-- the last number is the second form's, where the row has those of two forms at most
last_is : (asked : Asked) (full base : ℕ) → first_of asked ≡ full → has (forms_of asked) base ≡ true → ((n : ℕ) → has (forms_of asked) n ≡ true → (n ≡ full) ⊎ (n ≡ base)) → last_of asked ≡ base
last_is (One form) full base first has_it only = at (nat_eq form base) refl has_it
  where
    at : (b : Bool) → nat_eq form base ≡ b → (b || false) ≡ true → form ≡ base
    at true same e = (unsigned_Decides form base).0 same
    at false same e = cc
last_is (Two form other) full base first has_it only = at (nat_eq form base) (nat_eq other base) refl refl has_it
  where
    later : form ≡ base → (other ≡ full) ⊎ (other ≡ base) → other ≡ base
    later same (inl is) = is ∙ sym first ∙ same
    later same (inr is) = is

    itself : has (form ∷ other ∷ []) other ≡ true
    itself = at_once (nat_eq form other) ∙ refl
      where
        at_once : (b : Bool) → (b || (nat_eq other other || false)) ≡ true
        at_once true = refl
        at_once false = ap (λ b. b || false) (nat_itself other)

    at : (a b : Bool) → nat_eq form base ≡ a → nat_eq other base ≡ b → (a || (b || false)) ≡ true → other ≡ base
    at a true is same e = (unsigned_Decides other base).0 same
    at true false is same e = later ((unsigned_Decides form base).0 is) (only other itself)
    at false false is same e = cc

-- ---- the row of a seat

module _ (tables : CatalogueTables) (c : Contents) (distinct : AreDistinct (keys_of c)) (once : IsDistinct same_form tables.forms) (agrees : AgreesWith tables c) (seat : Seat)
    (low : HasKey (keys_of c) seat) (h : KeptField) (there : field_under (place_at (keys_of c) seat) (state_in c) ≡ Some h) (unlinked : h.tie.key ≡ None) where
  abbrev p : Place
  p = place_at (keys_of c) seat

  at : IsSeatOf (keys_of c) p seat
  at = seat_back (keys_of c) distinct seat low

  holds : (test : Class → KeptField → Bool) → holds_at test (state_in c) p ≡ test seat.class h
  holds test = ap (λ (o : Option KeptField). option_map_or (test seat.class) o false) there

  free : is_some h.tie.key ≡ false
  free = ap (λ (o : Option Key). is_some o) unlinked

  -- a field that is no heading asks for nothing
  never : heading_kind seat.class h.field ≡ None → (form : Form) → asks_at form seat.class h ≡ false
  never none form =
      ap (λ b. cond b false (option_map_or (λ kind. is_form_among (asked_forms seat.class kind h) form) (heading_kind seat.class h.field) false)) free
      ∙ ap (λ (o : Option Kind). option_map_or (λ kind. is_form_among (asked_forms seat.class kind h) form) o false) none

  no_row : heading_kind seat.class h.field ≡ None → c.waits seat ≡ None
  no_row none = no_wait tables c distinct once agrees p seat at (λ form. holds (asks_at form) ∙ never none form)

  module _ (kind : Kind) (heading : heading_kind seat.class h.field ≡ Some kind) where
    abbrev full : Form
    full = full_form kind seat.class h.field

    abbrev base : Form
    base = base_form kind h.field

    abbrev number : Form → ℕ
    number form = number_of same_form tables.forms form

    asks_now : (form : Form) → asks_at form seat.class h ≡ is_form_among (asked_forms seat.class kind h) form
    asks_now form =
        ap (λ b. cond b false (option_map_or (λ k. is_form_among (asked_forms seat.class k h) form) (heading_kind seat.class h.field) false)) free
        ∙ ap (λ (o : Option Kind). option_map_or (λ k. is_form_among (asked_forms seat.class k h) form) o false) heading

    leads_now : (form : Form) → leads_at form seat.class h ≡ same_form form full
    leads_now form =
        ap (λ b. cond b false (option_map_or (λ k. same_form form (full_form k seat.class h.field)) (heading_kind seat.class h.field) false)) free
        ∙ ap (λ (o : Option Kind). option_map_or (λ k. same_form form (full_form k seat.class h.field)) o false) heading

    -- by the form's number, as the tables tell
    asks_told : (form : Form) → asks_form (number form) (c.waits seat) ≡ is_form_among (asked_forms seat.class kind h) form
    asks_told form =
        ap (λ (s : Seat). asks (number form) (seen_waits c.waits) s) at.is ∙ agrees.asking form p ∙ holds (asks_at form) ∙ asks_now form

    leads_told : (form : Form) → leads_form (number form) (c.waits seat) ≡ same_form form full
    leads_told form =
        ap (λ (s : Seat). leads (number form) (seen_waits c.waits) s) at.is ∙ agrees.leading form p ∙ holds (leads_at form) ∙ leads_now form

    -- a number that the seat asks for is a form's
    known_form : (form : Form) → asks_form (number form) (c.waits seat) ≡ true → is_known same_form tables.forms form ≡ true
    known_form form asked = by (is_known same_form tables.forms form) refl
      where
        by : (b : Bool) → is_known same_form tables.forms form ≡ b → b ≡ true
        by true is = refl
        by false is =
            let high = (keeps_itself same_form tables.forms).new_number form is in
            let low = agrees.waits_fit.asking.named (number form) seat asked in
            absurd (omega (arith, high, low))

    full_first : leads_form (number full) (c.waits seat) ≡ true
    full_first = leads_told full ∙ same_itself full

    only_both : (n : ℕ) → asks_form n (c.waits seat) ≡ true → (n ≡ number full) ⊎ (n ≡ number base)
    only_both n asked =
        let there = form_there tables.forms n (agrees.waits_fit.asking.named n seat asked) in
        let numbered = number_at same_form (eq_by_cmp_equiv form_cmp_total) tables.forms there.form n once there.is in
        by there.form numbered.is (one_of_both seat.class kind h there.form (sym (asks_told there.form) ∙ ap (λ (m : ℕ). asks_form m (c.waits seat)) (sym numbered.is) ∙ asked))
      where
        by : (form : Form) → n ≡ number form → (form ≡ full) ⊎ (form ≡ base) → (n ≡ number full) ⊎ (n ≡ number base)
        by form is (inl same) = inl (is ∙ ap number same)
        by form is (inr same) = inr (is ∙ ap number same)

    -- without keys the field names none
    no_names : (waiting : Waiting) → c.waits seat ≡ Some waiting → waiting.keys ≡ [] → NamesNone h
    no_names waiting is none key valid =
        or_first (list_any (is_naming key) (subfields_of h.field)) (awaits_key key h) (sym (named key valid) ∙ told key valid)
      where
        told : (key : Key) → is_valid_key key ≡ true → waits_for_key key seat.class h ≡ false
        told key valid =
            sym (holds (waits_for_key key)) ∙ sym (agrees.naming key p valid)
            ∙ ap (λ (s : Seat). names (number_of same_key (keys_of c).authorities key) (seen_waits c.waits) s) (sym at.is)
            ∙ ap (names_numbered (number_of same_key (keys_of c).authorities key)) is
            ∙ ap (λ (ns : List ℕ). has ns (number_of same_key (keys_of c).authorities key)) none

        named : (key : Key) → is_valid_key key ≡ true → waits_for_key key seat.class h ≡ names_key key h
        named key valid =
            ap (λ b. not b && (is_heading_field seat.class h.field && names_key key h)) free ∙ ap (λ (o : Option Kind). is_some o && names_key key h) heading

    row_with : (waiting : Waiting) → c.waits seat ≡ Some waiting → IsAskedBy tables.forms seat.class kind h waiting
    row_with waiting is =
        let lead : nat_eq (first_of waiting.forms) (number full) ≡ true = sym (ap (leads_form (number full)) is) ∙ full_first in
        let first : first_of waiting.forms ≡ number full = (unsigned_Decides (first_of waiting.forms) (number full)).0 lead in
        record {
          full = record { known = known_form full (first_asked (number full) (c.waits seat) full_first); is = first };
          base = λ on.
              let asked : asks_form (number base) (c.waits seat) ≡ true = asks_told base ∙ base_asked seat.class kind h on in
              record {
                known = known_form base asked;
                is = last_is waiting.forms (number full) (number base) first (sym (ap (asks_form (number base)) is) ∙ asked)
                    (λ n has_it. only_both n (ap (asks_form n) is ∙ has_it));
              };
          named = no_names waiting is;
        }

    some_row : c.waits seat ≡ None → ⊥
    some_row none = false≢true (sym (ap (leads_form (number full)) none) ∙ full_first)

  pub row_of_seat : IsRowOfField tables.forms seat.class h (c.waits seat)
  row_of_seat = by (heading_kind seat.class h.field) (c.waits seat) refl refl
    where
      by : (o : Option Kind) (w : Option Waiting) → heading_kind seat.class h.field ≡ o → c.waits seat ≡ w → IsRowOfField tables.forms seat.class h w
      by None None heading is = heading
      by None (Some waiting) heading is = let none : Some waiting ≡ None = sym is ∙ no_row heading in cc
      by (Some kind) None heading is = absurd (some_row kind heading is)
      by (Some kind) (Some waiting) heading is = (kind, heading, row_with kind heading waiting is)
