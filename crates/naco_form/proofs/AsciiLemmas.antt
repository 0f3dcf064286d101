-- What the steps before the commas give of an ASCII text.
use Rattle.std.proofs.Common.{◌≡◌, ◌≢◌, ℕ, zero, suc, ◌<◌, Bool, false, ◌==◌, not, cond, List, [], ◌∷◌, ◌++◌, map, flat_map, slice_index, bytes_eq, All, IsAscii, chars, refl, sym, ap, ◌∙◌, arith, suc-le-suc, zero-le}
use Rattle.std.proofs.lemmas.Bool.{not-true}
use Rattle.std.proofs.lemmas.Bool.Decides.{nat_tests}
use Rattle.std.proofs.lemmas.Str.{chars-IsAscii}
use Rattle.std.specs.Char.{to_ascii_lowercase}
use Rattle.std.specs.Cmp.Lexicographic.{bytes_decides}
use Rattle.ucd_category.specs.GeneralCategory.{general_category, general_category_eq}
use Rattle.ucd_category.specs.declared.GeneralCategory.TheVariants.{NonspacingMark}
use Rattle.ucd_category.proofs.GeneralCategoryLemmas.{general_category_stepped}
use Rattle.ucd_table.proofs.Computing.{tables}
use Rattle.ucd_table.proofs.Facts.{Stepped-below}
use Rattle.ucd_table.proofs.TrieCheck.{all_below, all_below-at}
use Rattle.caseless.specs.Caseless.{default_case_fold}
use Rattle.caseless.proofs.CaselessLemmas.{default_case_fold-ascii, canonical_key-ascii, All-chars}
use Rattle.unicode_normalization.specs.Forms.{Nfd, nfd}
use Rattle.unicode_normalization.proofs.FormsLemmas.{normalize-ascii}
use Rattle.naco_form.specs.declared.table.TheConstants.{ASCII_ENTRIES}
use Rattle.naco_form.specs.Ascii.{ascii_entry}
use Rattle.naco_form.specs.Comparison.{is_mark, without_marks, by_table}
use Rattle.naco_form.specs.Table.{table_entry}

abbrev pub listed : ℕ → List ℕ
listed n = cond (n == 0) [] (n ∷ [])

pub listed-some : (n : ℕ) → n ≢ 0 → n ∷ [] ≡ listed n
listed-some n h = grind (arith, nat_tests)

abbrev is_listed : ℕ → Bool
is_listed b = bytes_eq (listed (slice_index ASCII_ENTRIES b)) (ascii_entry b)

pub listed-entry : (b : ℕ) → b < 128 → listed (slice_index ASCII_ENTRIES b) ≡ ascii_entry b
unfolding all_below table_entry
listed-entry b ascii = (bytes_decides (listed (slice_index ASCII_ENTRIES b)) (ascii_entry b)).0 (all_below-at is_listed 128 b refl ascii)

no_mark : (c : ℕ) → c < 128 → is_mark c ≡ false
unfolding all_below general_category_stepped tables
no_mark c ascii =
    not-true _ (Stepped-below general_category general_category_stepped (λ _ g. not (general_category_eq g NonspacingMark)) 128 refl c ascii)

lower_ascii : (c : ℕ) → c < 128 → to_ascii_lowercase c < 128
lower_ascii c h = grind (arith, nat_tests)

lowered_steps : (cs : List ℕ) → All (λ c. c < 128) cs → by_table (without_marks (map to_ascii_lowercase cs)) ≡ flat_map ascii_entry cs
unfolding by_table without_marks
lowered_steps [] all = refl
lowered_steps (c ∷ cs) all =
    let lower = to_ascii_lowercase c in
    let rest = without_marks (map to_ascii_lowercase cs) in
    ap (λ b. by_table (cond (not b) (lower ∷ rest) rest)) (no_mark lower (lower_ascii c (all zero 0 (suc-le-suc zero-le))))
    ∙ ap (λ l. table_entry lower ++ l) (lowered_steps cs (λ k d lt. all (suc k) d (suc-le-suc lt)))

nfd_folded : (cs : List ℕ) → All (λ c. c < 128) cs → nfd (default_case_fold cs) ≡ map to_ascii_lowercase cs
nfd_folded cs all =
    ap (λ l. nfd (default_case_fold l)) (sym (normalize-ascii Nfd cs all)) ∙ canonical_key-ascii cs all
    ∙ default_case_fold-ascii cs all

pub ascii_steps : (bs : List ℕ) → IsAscii bs → by_table (without_marks (nfd (default_case_fold (chars bs)))) ≡ flat_map ascii_entry bs
ascii_steps bs ascii =
    let all = All-chars bs ascii in
    ap (λ l. by_table (without_marks l)) (nfd_folded (chars bs) all) ∙ lowered_steps (chars bs) all
    ∙ ap (flat_map ascii_entry) (chars-IsAscii bs ascii)
