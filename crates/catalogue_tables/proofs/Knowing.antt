-- What a row tells of its authority: the kind and the forms.
use Rattle.std.proofs.Common.{◌≡◌, ◌∙◌, sym, ap, refl, subst, ℕ, zero, suc, ◌+◌, ◌<◌, arith, List, [], ◌∷◌, ◌++◌, append_assoc, length, take, get_or, Bool, true, false, ◌||◌, Option, Some, None, slice_get}
use mathlib.Core.Bool.{false≢true}
use Rattle.std.specs.Prelude.{◌==◌, IfSome, find}
use Rattle.std.specs.Cmp.{unsigned_Decides}
use Rattle.std.specs.List.{IsDistinct, cons_option}
use Rattle.std.specs.Borrow.{Bor}
use Rattle.std.specs.Option.{is_some, option_copied}
use Rattle.std.proofs.lemmas.Cmp.{eq_by_cmp_equiv}
use Rattle.std.proofs.lemmas.List.{take_more}
use Rattle.marc_types.specs.Order.{form_cmp_total, same_form, same_key}
use Rattle.marc_types.specs.declared.form.Form.{Form}
use Rattle.marc_types.specs.declared.key.Key.{Key}
use Rattle.numbering.specs.Numbers.{number_of}
use Rattle.numbering.proofs.Numberlaws.{alike, number_at}
use Rattle.form_index.specs.Forms.{Forms}
use Rattle.form_index.specs.Index.{Indexed, row_under}
use Rattle.form_index.specs.Order.{has, key_at}
use Rattle.entry_record.specs.Authority.{Linkable}
use Rattle.catalogue_rules.specs.Choice.{has_key}
use Rattle.catalogue_rules.specs.State.{Row, State, fields_of, linkable_authorities, row_linkable}
use Rattle.catalogue_rules.proofs.Elements.{Each, find_found}
use Rattle.catalogue_rules.proofs.Proper.{proper_linkable}
use Rattle.linking_laws.specs.Waiting.{is_form_among}
use Rattle.catalogue_tables.specs.Following.{HasForms, IsRowFor, TellsAuthorities}
use Rattle.catalogue_tables.specs.Known.{IsKnownAs, forms_with}
use Rattle.catalogue_tables.specs.declared.known.KnownAuthority.{KnownAuthority}
use Rattle.catalogue_tables.proofs.Seams.{key_numbered}
use Rattle.catalogue_tables.proofs.Takers.{form_at}

-- ---- the forms of some numbers

with_more : (names : List Form) (xs ys : List ℕ) → forms_with names (xs ++ ys) ≡ forms_with names xs ++ forms_with names ys
with_more names [] ys = refl
with_more names (n ∷ xs) ys = by (slice_get names n) (with_more names xs ys)
  where
    by : (o : Option Form) → forms_with names (xs ++ ys) ≡ forms_with names xs ++ forms_with names ys
        → cons_option o (forms_with names (xs ++ ys)) ≡ cons_option o (forms_with names xs) ++ forms_with names ys
    by None e = e
    by (Some f) e = ap (λ l. f ∷ l) e

-- one more number
pub forms_step : (names : List Form) (numbers : List ℕ) (i : ℕ) (first before after : List Form) → i < length numbers → before ≡ first ++ forms_with names (take i numbers)
    → after ≡ before ++ forms_with names (get_or numbers i 0 ∷ []) → after ≡ first ++ forms_with names (take (i + 1) numbers)
forms_step names numbers i first before after low so_far pushed =
    let one = forms_with names (get_or numbers i 0 ∷ []) in
    pushed ∙ ap (λ l. l ++ one) so_far ∙ append_assoc first (forms_with names (take i numbers)) one
    ∙ ap (λ l. first ++ l) (sym (with_more names (take i numbers) (get_or numbers i 0 ∷ [])) ∙ ap (forms_with names) (sym (take_more numbers i 0 low)))

-- the established form first, then the others
pub first_then : (names : List Form) (see_from lent : List ℕ) (first copied : Form) (start begun ended : List Form) → start ≡ [] → copied ≡ first → begun ≡ start ++ copied ∷ []
    → ended ≡ begun ++ forms_with names lent → lent ≡ see_from → ended ≡ first ∷ forms_with names see_from
first_then names see_from lent first copied start begun ended none same pushed more is =
    more ∙ ap (λ l. l ++ forms_with names lent) (pushed ∙ ap (λ l. l ++ copied ∷ []) none ∙ ap (λ (f : Form). f ∷ []) same) ∙ ap (λ ns. first ∷ forms_with names ns) is

stands_below : (names : List Form) (n : ℕ) → n < length names → slice_get names n ≡ None → ⊥
stands_below [] n low e = omega (arith, low)
stands_below (x ∷ xs) zero low e = false≢true (sym (ap is_some e))
stands_below (x ∷ xs) (suc n) low e = stands_below xs n (omega (arith, low)) e

or_first : (a b : Bool) → a ≡ true → (a || b) ≡ true
or_first a b e = rw e refl

or_second : (a b : Bool) → b ≡ true → (a || b) ≡ true
or_second true b e = refl
or_second false b e = e

module _ (names : List Form) (distinct : IsDistinct same_form names) where
  -- a form is the one at a number where the number is its own
  numbered_at : (n : ℕ) (found form : Form) → slice_get names n ≡ Some found → same_form form found ≡ (n == number_of same_form names form)
  numbered_at n found form at =
      let laws = eq_by_cmp_equiv form_cmp_total in
      let of = number_at same_form laws names found n distinct at in
      laws.symm form found ∙ sym (alike same_form laws names found form of.known) ∙ ap (λ m. m == number_of same_form names form) (sym of.is)

  -- a form is among those with some numbers where its own is among these
  among_numbers : (numbers : List ℕ) (form : Form) → ((n : ℕ) → has n numbers ≡ true → n < length names)
      → is_form_among (forms_with names numbers) form ≡ has (number_of same_form names form) numbers
  among_numbers [] form given = refl
  among_numbers (m ∷ ms) form given = by (slice_get names m) refl (among_numbers ms form (λ n e. given n (or_second (m == n) (has n ms) e)))
    where
      by : (o : Option Form) → slice_get names m ≡ o → is_form_among (forms_with names ms) form ≡ has (number_of same_form names form) ms
          → is_form_among (cons_option o (forms_with names ms)) form ≡ ((m == number_of same_form names form) || has (number_of same_form names form) ms)
      by None at rest = absurd (stands_below names m (given m (or_first (m == m) (has m ms) ((unsigned_Decides m m).1 refl))) at)
      by (Some found) at rest =
          ap (λ b. b || is_form_among (forms_with names ms) form) (numbered_at m found form at)
          ∙ ap (λ b. (m == number_of same_form names form) || b) rest

-- ---- what is found of one authority

nobody_known : (names : List Form) (o : Option Linkable) (row : Option Forms) → IsRowFor names o row → row ≡ None → IsKnownAs o None
nobody_known names None row of none = tt
nobody_known names (Some c) None of none = of
nobody_known names (Some c) (Some row) of none = absurd (false≢true (sym (ap is_some none)))

formless : (names : List Form) (o : Option Linkable) (row : Option Forms) (r : Forms) → IsRowFor names o row → row ≡ Some r → slice_get names r.established ≡ None → IsKnownAs o None
formless names None row r of is none = tt
formless names (Some c) None r of is none = of
formless names (Some c) (Some row) r of is none =
    let same : row ≡ r = cc in
    let at : slice_get names row.established ≡ Some c.established = ap (slice_get names) of.established_is.is ∙ form_at names c.established of.established_is.known in
    let off : slice_get names row.established ≡ None = ap (λ (x : Forms). slice_get names x.established) same ∙ none in
    absurd (false≢true (ap is_some (sym off ∙ at)))

some_same : {T : Type 0} (x y : T) → Some x ≡ Some y → x ≡ y
some_same x y e = cc

found_known : (names : List Form) (o : Option Linkable) (row : Option Forms) (r : Forms) (first : Form) (known : KnownAuthority) → IsDistinct same_form names → IsRowFor names o row → row ≡ Some r
    → IfSome o (λ c. c.established.kind ≡ c.kind) → slice_get names r.established ≡ Some first → known.kind ≡ first.kind
    → known.forms.items ≡ first ∷ forms_with names r.see_from → IsKnownAs o (Some known)
found_known names None None r first known distinct of is fits at kind forms = absurd (false≢true (ap is_some is))
found_known names None (Some row) r first known distinct of is fits at kind forms = absurd of
found_known names (Some c) None r first known distinct of is fits at kind forms = absurd of
found_known names (Some c) (Some row) r first known distinct of is fits at kind forms =
    let same : row ≡ r = some_same row r is in
    let has_forms : HasForms names c.established c.see_from _ r = subst (HasForms names c.established c.see_from _) same of in
    let own : first ≡ c.established =
    some_same first c.established (sym at ∙ ap (slice_get names) has_forms.established_is.is ∙ form_at names c.established has_forms.established_is.known) in
    record {
      kind_is = kind ∙ ap (λ (f : Form). f.kind) own ∙ fits;
      forms_are = λ form.
          ap (λ (l : List Form). is_form_among l form) forms
          ∙ ap (λ (f : Form). same_form form f || is_form_among (forms_with names r.see_from) form) own
          ∙ ap (λ (b : Bool). same_form form c.established || b) (among_numbers names distinct r.see_from form has_forms.given ∙ has_forms.see_from_are form);
    }

-- ---- the authority under a number's key

formed_row : (row : Row) (cs : List Linkable) (o : Option Linkable) → row_linkable row ≡ o → Each (λ (c : Linkable). c.established.kind ≡ c.kind) cs
    → Each (λ (c : Linkable). c.established.kind ≡ c.kind) (cons_option o cs)
formed_row row cs None e rest = rest
formed_row row cs (Some c) e rest = ((proper_linkable row.0 (fields_of row.1) c e).established, rest)

formed_rows : (rows : List Row) → Each (λ (c : Linkable). c.established.kind ≡ c.kind) (linkable_authorities (record { authorities = rows; bibliographic = [] }))
formed_rows [] = tt
formed_rows (row ∷ rows) = formed_row row (linkable_authorities (record { authorities = rows; bibliographic = [] })) (row_linkable row) refl (formed_rows rows)

formed : (s : State) (test : Linkable → Bool) (o : Option Linkable) → find test (linkable_authorities s) ≡ o → IfSome o (λ c. c.established.kind ≡ c.kind)
formed s test None e = tt
formed s test (Some c) e = (find_found (λ (c : Linkable). c.established.kind ≡ c.kind) test (linkable_authorities s) c (formed_rows s.authorities) e).0

module _ (names : List Form) (keys : List Key) (x : Indexed) (s : State) (number : ℕ) (distinct : IsDistinct same_key keys) (low : number < length keys)
    (tells : TellsAuthorities names keys x (linkable_authorities s)) where
  abbrev under : Option Linkable
  under = find (has_key (key_at keys number)) (linkable_authorities s)

  row_of_key : IsRowFor names under (row_under number x)
  row_of_key = subst (λ (n : ℕ). IsRowFor names under (row_under n x)) (sym (key_numbered keys number distinct low).is) (tells.each (key_at keys number))

  pub none_by_row : row_under number x ≡ None → IsKnownAs under None
  none_by_row none = nobody_known names under (row_under number x) row_of_key none

  pub none_by_form : (r : Forms) → row_under number x ≡ Some r → slice_get names r.established ≡ None → IsKnownAs under None
  none_by_form r is none = formless names under (row_under number x) r row_of_key is none

  pub known_by_row : (r : Forms) (first : Form) (known : KnownAuthority) → IsDistinct same_form names → row_under number x ≡ Some r → slice_get names r.established ≡ Some first
      → known.kind ≡ first.kind → known.forms.items ≡ first ∷ forms_with names r.see_from → IsKnownAs under (Some known)
  known_by_row r first known once is at kind forms =
      found_known names under (row_under number x) r first known once row_of_key is (formed s (has_key (key_at keys number)) under refl) at kind forms

-- ---- what was lent

pub none_lent : {T : Type 0} (o : Option (Bor T)) (x : Option T) → option_copied o ≡ x → o ≡ None → x ≡ None
none_lent o x is none = sym is ∙ ap option_copied none

pub some_lent : {T : Type 0} (o : Option (Bor T)) (x : Option T) (b : Bor T) → option_copied o ≡ x → o ≡ Some b → x ≡ Some b.now
some_lent o x b is some = sym is ∙ ap option_copied some
