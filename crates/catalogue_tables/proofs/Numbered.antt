-- Numbers that the forms of an authority get.
use Rattle.std.proofs.Common.{◌≡◌, ◌∙◌, sym, ap, subst, ℕ, ◌+◌, ◌<◌, List, [], ◌∷◌, ◌++◌, length, map, take, get_or, Bool, true}
use Rattle.std.specs.List.{AllByRecursion}
use Rattle.std.proofs.lemmas.Cmp.{eq_by_cmp_equiv}
use Rattle.std.proofs.lemmas.List.{take_more}
use Rattle.marc_types.specs.declared.form.Form.{Form}
use Rattle.marc_types.specs.Order.{form_cmp_total, same_form}
use Rattle.numbering.specs.Numbers.{is_known, number_of, IsNumberOf, Keeps}
use Rattle.form_index.specs.Forms.{Forms}
use Rattle.form_index.specs.Index.{Indexed, Puts, taken}
use Rattle.form_index.specs.Order.{has}
use Rattle.catalogue_tables.specs.Rows.{PutsAuthority}
use Rattle.catalogue_tables.specs.Waiting.{AreNumbersOf}
use Rattle.catalogue_tables.proofs.Seams.{numbers_alike, numbers_low}

module _ {T : Type 0} (same : T → T → Bool) (old new : List T) (one : T) (number : ℕ) (keeps : Keeps same old new) (of : IsNumberOf same new one number) where
  known_step : (xs : List T) → AllByRecursion (λ t. is_known same old t ≡ true) xs → AllByRecursion (λ t. is_known same new t ≡ true) (xs ++ one ∷ [])
  known_step [] known = (of.known, tt)
  known_step (x ∷ xs) known = (keeps.known x known.0, known_step xs known.1)

  map_step : (xs : List T) → AllByRecursion (λ t. is_known same old t ≡ true) xs → map (number_of same old) xs ++ number ∷ [] ≡ map (number_of same new) (xs ++ one ∷ [])
  map_step [] known = ap (λ (n : ℕ). n ∷ []) of.is
  map_step (x ∷ xs) known =
      let here : number_of same old x ≡ number_of same new x = sym (keeps.same_number x known.0) in
      let rest = map_step xs known.1 in
      λ i. here i ∷ rest i

  numbers_step : (xs : List T) (numbers : List ℕ) → AreNumbersOf same old xs numbers → AreNumbersOf same new (xs ++ one ∷ []) (numbers ++ number ∷ [])
  numbers_step xs numbers are = record {
    known = known_step xs are.known;
    are = ap (λ (ns : List ℕ). ns ++ number ∷ []) are.are ∙ map_step xs are.known;
  }

-- one more thing has its number
pub numbers_more : {T : Type 0} (same : T → T → Bool) (old new things : List T) (i : ℕ) (one : T) (numbers after : List ℕ) (number : ℕ) → Keeps same old new → i < length things
    → one ≡ get_or things i one → AreNumbersOf same old (take i things) numbers → IsNumberOf same new one number → after ≡ numbers ++ number ∷ []
    → AreNumbersOf same new (take (i + 1) things) after
numbers_more {T} same old new things i one numbers after number keeps low is are of pushed =
    let whole : take i things ++ one ∷ [] ≡ take (i + 1) things = ap (λ (t : T). take i things ++ t ∷ []) is ∙ sym (take_more things i one low) in
    subst (AreNumbersOf same new (take (i + 1) things)) (sym pushed)
    (subst (λ (ts : List T). AreNumbersOf same new ts (numbers ++ number ∷ [])) whole (numbers_step same old new one number keeps of (take i things) numbers are))

-- the row of an authority whose forms have their numbers
pub puts_authority : (middle names : List Form) (number own : ℕ) (established : Form) (see_from : List Form) (traced : List ℕ) (bare : Bool) (row : Forms) (old new : Indexed)
    → IsNumberOf same_form middle established own → Keeps same_form middle names → AreNumbersOf same_form names see_from traced
    → row.established ≡ own → ((n : ℕ) → has n row.see_from ≡ has n traced) → row.bare ≡ bare → Puts (taken number row) old new
    → PutsAuthority names number established see_from bare old new
puts_authority middle names number own established see_from traced bare row old new of keeps are is same is_bare puts = record {
  row = row;
  is = record {
    established_is = record { known = keeps.known established of.known; is = is ∙ of.is ∙ sym (keeps.same_number established of.known) };
    see_from_are = λ form.
        same (number_of same_form names form)
        ∙ ap (λ (ns : List ℕ). has (number_of same_form names form) ns) are.are
        ∙ numbers_alike same_form (eq_by_cmp_equiv form_cmp_total) names see_from form are.known;
    given = λ n h. numbers_low same_form names see_from n are.known (sym (same n ∙ ap (λ (ns : List ℕ). has n ns) are.are) ∙ h);
    bare_is = is_bare;
  };
  puts = puts;
}

pub no_numbers : (names : List Form) (numbers : List ℕ) → numbers ≡ [] → AreNumbersOf same_form names [] numbers
no_numbers names numbers none = record { known = tt; are = none }
