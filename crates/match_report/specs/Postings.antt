-- Numbers and the records that have them, and their order: ISBNs before LCCNs, each by its bytes, and then the keys.
use Rattle.std.specs.Prelude.{ℕ, List}
use Rattle.std.specs.declared.cmp.Ordering.{Ordering}
use Rattle.std.specs.Ordering.{nat_cmp, on, then_cmp}
use Rattle.std.specs.Cmp.{IsTotalOrder, then_total, on_total, nat_cmp_total}
use Rattle.std.specs.Cmp.Lexicographic.{slice_cmp, nat_list_cmp_total}
use Rattle.marc_types.specs.Order.{key_cmp, key_cmp_total}
use Rattle.marc_types.specs.declared.key.Key.{Key}
use Rattle.match_report.specs.declared.number.Number.{Number}
use Rattle.match_report.specs.declared.number.Number.TheVariants.{Isbn, Lccn}

-- a number, and the key of a record that has it
pub record Posting : Type 0 where
  pub number : Number
  pub key : Key

-- ISBNs stand before LCCNs
abbrev pub number_rank : Number → ℕ
number_rank (Isbn text) = 0
number_rank (Lccn text) = 1

-- the characters of a number
abbrev pub number_text : Number → List ℕ
number_text (Isbn text) = text
number_text (Lccn text) = text

-- by the kind of number, then by its bytes, then by the key
unfoldable pub posting_cmp : Posting → Posting → Ordering
posting_cmp =
    then_cmp (on (λ h. number_rank h.number) nat_cmp)
    (then_cmp (on (λ h. number_text h.number) (slice_cmp nat_cmp)) (on (λ h. h.key) key_cmp))

pub posting_cmp_total : IsTotalOrder posting_cmp
unfolding posting_cmp
posting_cmp_total =
    then_total (on_total (λ h. number_rank h.number) nat_cmp_total)
    (then_total (on_total (λ h. number_text h.number) nat_list_cmp_total) (on_total (λ h. h.key) key_cmp_total))
