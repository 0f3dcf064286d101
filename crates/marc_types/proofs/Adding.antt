-- Sums over receipts that are added in parts, and what keeps them within 64 bits.
use Rattle.std.proofs.Common.{◌≡◌, ℕ, ◌+◌, ◌*◌, ◌≤◌, List, [], ◌++◌, length, ap, arith}
use Rattle.std.specs.List.{sum_by}
use Rattle.std.proofs.lemmas.List.Sums.{sum_by-append}
use Rattle.marc_types.specs.Limits.{most_entries}
use Rattle.marc_types.specs.declared.entry.Receipt.{Receipt}
use Rattle.marc_types.specs.Sums.{no_sums, with_receipts, HasRoom, AddsFew, AreFew}
use Rattle.marc_types.specs.declared.sums.Sums.{Sums}

-- no receipt
pub with_none : (s : Sums) → with_receipts s [] ≡ s
with_none s =
    let linked = plus_none s.linked in
    let ambiguous = plus_none s.ambiguous in
    let unlinked = plus_none s.unlinked in
    let changed = plus_none s.changed in
    λ i. record { linked = linked i; ambiguous = ambiguous i; unlinked = unlinked i; changed = changed i }
  where
    plus_none : (n : ℕ) → n + 0 ≡ n
    plus_none n = omega arith

-- some receipts, and then others
pub with_both : (s : Sums) (rs qs : List Receipt) → with_receipts (with_receipts s rs) qs ≡ with_receipts s (rs ++ qs)
with_both s rs qs =
    let linked = total (λ r. r.linked) s.linked in
    let ambiguous = total (λ r. r.ambiguous) s.ambiguous in
    let unlinked = total (λ r. r.unlinked) s.unlinked in
    let changed = total (λ r. r.changed_records) s.changed in
    λ i. record { linked = linked i; ambiguous = ambiguous i; unlinked = unlinked i; changed = changed i }
  where
    total : (f : Receipt → ℕ) (n : ℕ) → n + sum_by f rs + sum_by f qs ≡ n + sum_by f (rs ++ qs)
    total f n = omega (arith, sum_by-append f rs qs)

pub few_none : AreFew no_sums 0
few_none = record { linked = omega arith; ambiguous = omega arith; unlinked = omega arith; changed = omega arith }

-- few receipts can be added to the sums over few
pub room_in_few : (s : Sums) (n more : ℕ) → AreFew s n → n ≤ most_entries → more ≤ most_entries * most_entries → HasRoom s more
room_in_few s n more few within changed =
    let linked = few.linked in
    let ambiguous = few.ambiguous in
    let unlinked = few.unlinked in
    let before = few.changed in
    record { linked = omega arith; ambiguous = omega arith; unlinked = omega arith; changed_fits = omega arith }

-- and are few with them
pub still_few : (s now : Sums) (rs : List Receipt) (n : ℕ) → AreFew s n → now ≡ with_receipts s rs → AddsFew s now (length rs)
    → sum_by (λ (r : Receipt). r.changed_records) rs ≤ length rs * most_entries → AreFew now (n + length rs)
still_few s now rs n few is adds changed =
    let linked = few.linked in
    let ambiguous = few.ambiguous in
    let unlinked = few.unlinked in
    let before = few.changed in
    let linked_now = adds.linked in
    let ambiguous_now = adds.ambiguous in
    let unlinked_now = adds.unlinked in
    let changed_now = ap (λ (s : Sums). s.changed) is in
    record { linked = omega arith; ambiguous = omega arith; unlinked = omega arith; changed = omega arith }
