-- The choice by a form in numbers is that of the rules.
use Rattle.std.proofs.Common.{◌≡◌, ◌≢◌, ◌∙◌, sym, ap, refl, ℕ, ◌<◌, List, [], ◌∷◌, length, map, Bool, true, false, cond, Option, Some}
use Rattle.std.specs.Prelude.{filter}
use Rattle.std.specs.List.{AllByRecursion, IsDistinct}
use Rattle.std.specs.Option.{option_map, option_or}
use Rattle.marc_types.specs.declared.form.Form.{Form}
use Rattle.marc_types.specs.declared.key.Key.{Key}
use Rattle.marc_types.specs.Order.{same_key}
use Rattle.numbering.specs.Numbers.{number_of}
use Rattle.form_index.specs.Order.{key_at}
use Rattle.form_index.specs.declared.among.Among.{Among}
use Rattle.form_index.specs.declared.among.Among.TheVariants.{All, Bare}
use Rattle.form_index.specs.declared.candidates.Candidates.{Candidates}
use Rattle.form_index.specs.declared.candidates.Candidates.TheVariants.{Established, SeeFrom, Nobody}
use Rattle.entry_record.specs.Authority.{Linkable}
use Rattle.catalogue_rules.specs.Choice.{Choice, by_form, choice_among, is_established, is_see_from_form}
use Rattle.linking_laws.specs.Tables.{IndexRow, has_established, has_traced, index_row, keys_with}
use Rattle.catalogue_tables.specs.Choosing.{authorities_among, chosen_among, chosen_for, chosen_of}
use Rattle.catalogue_tables.specs.Rows.{IsTold, rows_among}
use Rattle.catalogue_tables.specs.declared.choosing.Chosen.TheVariants as chosen
use Rattle.catalogue_tables.proofs.Seams.{key_numbered}

abbrev pub keys_of : List Linkable → List Key
keys_of cs = map (λ c. c.key) cs

-- the rows that pass have the keys of the authorities that pass
pub keys_found : (test : IndexRow → Bool) (cs : List Linkable) → keys_with test (map index_row cs) ≡ keys_of (filter (λ c. test (index_row c)) cs)
keys_found test [] = refl
keys_found test (c ∷ cs) = at (test (index_row c)) (keys_found test cs)
  where
    at : (b : Bool) → keys_with test (map index_row cs) ≡ keys_of (filter (λ x. test (index_row x)) cs)
        → map (λ r. r.key) (cond b (index_row c ∷ filter test (map index_row cs)) (filter test (map index_row cs)))
        ≡ keys_of (cond b (c ∷ filter (λ x. test (index_row x)) cs) (filter (λ x. test (index_row x)) cs))
    at true is = ap (λ (l : List Key). c.key ∷ l) is
    at false is = is

pub keys_among : (among : Among) (test : IndexRow → Bool) (all : List Linkable)
    → keys_with test (rows_among among all) ≡ keys_of (filter (λ c. test (index_row c)) (authorities_among among all))
keys_among All test all = keys_found test all
keys_among Bare test all = keys_found test (authorities_among Bare all)

pub nobody_left : (cs : List Linkable) → keys_of cs ≡ [] → cs ≡ []
nobody_left [] e = refl
nobody_left (c ∷ cs) e = cc

pub somebody : (whole : Bool) (cs : List Linkable) (other : Option Choice) → cs ≢ [] → option_or (choice_among whole cs) other ≡ choice_among whole cs
somebody whole [] other some = absurd (some refl)
somebody whole (c ∷ []) other some = refl
somebody whole (c ∷ d ∷ more) other some = refl

module _ (keys : List Key) (distinct : IsDistinct same_key keys) (whole : Bool) where
  -- the numbers of some authorities' keys choose as these do
  picked : (numbers : List ℕ) (cs : List Linkable) → map (key_at keys) numbers ≡ keys_of cs → AllByRecursion (λ n. n < length keys) numbers
      → chosen_of whole numbers ≡ option_map (chosen_for keys) (choice_among whole cs)
  picked [] [] are given = refl
  picked (n ∷ []) (c ∷ []) are given =
      let same : key_at keys n ≡ c.key = cc in
      ap (λ (m : ℕ). Some (chosen.Link m whole)) ((key_numbered keys n distinct given.0).is ∙ ap (number_of same_key keys) same)
  picked (n ∷ m ∷ ns) (c ∷ d ∷ cs) are given = refl
  picked [] (c ∷ cs) are given = cc
  picked (n ∷ ns) [] are given = cc
  picked (n ∷ []) (c ∷ d ∷ cs) are given = cc
  picked (n ∷ m ∷ ns) (c ∷ []) are given = cc

  found_some : (numbers : List ℕ) (cs : List Linkable) → map (key_at keys) numbers ≡ keys_of cs → numbers ≢ [] → cs ≢ []
  found_some [] cs are some = absurd (some refl)
  found_some (n ∷ ns) [] are some = cc
  found_some (n ∷ ns) (c ∷ cs) are some = λ e. cc

  -- where the candidates are told, they choose as the rules do
  pub told_choice : (among : Among) (all : List Linkable) (form : Form) (answer : Candidates) → IsTold keys (rows_among among all) form answer
      → chosen_among whole answer ≡ option_map (chosen_for keys) (by_form (authorities_among among all) whole form)
  unfolding by_form
  told_choice among all form (Established numbers) told =
      let cs = authorities_among among all in
      let are = told.are ∙ keys_among among (has_established form) all in
      let other : Option Choice = choice_among whole (filter (is_see_from_form form) cs) in
      picked numbers.now (filter (is_established form) cs) are told.given
      ∙ ap (option_map (chosen_for keys)) (sym (somebody whole (filter (is_established form) cs) other (found_some numbers.now (filter (is_established form) cs) are told.some)))
  told_choice among all form (SeeFrom numbers) told =
      let cs = authorities_among among all in
      let nobody : filter (is_established form) cs ≡ [] = nobody_left (filter (is_established form) cs) (sym (keys_among among (has_established form) all) ∙ told.0) in
      let are = told.1.are ∙ keys_among among (has_traced form) all in
      let other : Option Choice = choice_among whole (filter (is_see_from_form form) cs) in
      picked numbers.now (filter (is_see_from_form form) cs) are told.1.given
      ∙ ap (λ l. option_map (chosen_for keys) (option_or (choice_among whole l) other)) (sym nobody)
  told_choice among all form Nobody told =
      let cs = authorities_among among all in
      let nobody : filter (is_established form) cs ≡ [] = nobody_left (filter (is_established form) cs) (sym (keys_among among (has_established form) all) ∙ told.0) in
      let none : filter (is_see_from_form form) cs ≡ [] = nobody_left (filter (is_see_from_form form) cs) (sym (keys_among among (has_traced form) all) ∙ told.1) in
      let other : Option Choice = choice_among whole (filter (is_see_from_form form) cs) in
      ap (λ l. option_map (chosen_for keys) (choice_among whole l)) (sym none)
      ∙ ap (λ l. option_map (chosen_for keys) (option_or (choice_among whole l) other)) (sym nobody)
