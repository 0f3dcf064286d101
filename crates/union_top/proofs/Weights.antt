-- What entries weigh together, by their loaders.
use Rattle.std.proofs.Common.{◌≡◌, ℕ, ◌+◌, ◌<◌, Bool, true, false, List, [], ◌∷◌, ◌++◌, length, refl, sym, ap, ◌∙◌, arith, if◌then◌else◌}
use Rattle.std.specs.Prelude.{◌==◌, nat_le, All}
use Rattle.std.specs.List.{sum_by}
use Rattle.std.proofs.lemmas.List.Sums.{sum_by-cons}
use Rattle.std.proofs.lemmas.List.Elements.{All-head, All-tail}
use Rattle.std.proofs.lemmas.Bool.Decides.{nat_tests}
use Rattle.marc_types.specs.declared.entry.Entry.{Entry}
use Rattle.entry_record.specs.History.{brought_by, in_run, with_run}

-- a weight that no run changes
abbrev pub IsRunless : (Entry → ℕ) → Type 0
IsRunless w = (run : ℕ) (e : Entry) → w (in_run run e) ≡ w e

module _ (w : Entry → ℕ) where
  unfoldable pub total : List Entry → ℕ
  total [] = 0
  total (e ∷ es) = w e + total es

  unfoldable pub totals : List (List Entry) → ℕ
  totals [] = 0
  totals (es ∷ lists) = total es + totals lists

  -- of the entries by loaders from that number on
  unfoldable pub total_from : ℕ → List Entry → ℕ
  total_from k [] = 0
  total_from k (e ∷ es) = (if nat_le k e.loader then w e else 0) + total_from k es

  pub total-append : (es fs : List Entry) → total (es ++ fs) ≡ total es + total fs
  unfolding total
  total-append [] fs = omega arith
  total-append (e ∷ es) fs = let rest = total-append es fs in omega (arith, rest)

  pub total_runless : (run : ℕ) → IsRunless w → (es : List Entry) → total (with_run run es) ≡ total es
  unfolding total
  total_runless run same [] = refl
  total_runless run same (e ∷ es) = let first = same run e in let rest = total_runless run same es in omega (arith, first, rest)

  pub total_is_sum : (es : List Entry) → total es ≡ sum_by w es
  unfolding total
  total_is_sum [] = refl
  total_is_sum (e ∷ es) = ap (λ n. w e + n) (total_is_sum es) ∙ sym (sum_by-cons w e es)

  pub from_first : (es : List Entry) → total_from 0 es ≡ total es
  unfolding total total_from
  from_first [] = refl
  from_first (e ∷ es) =
      let test : nat_le 0 e.loader ≡ true = grind (arith, nat_tests) in
      rw test (ap (λ n. w e + n) (from_first es))

  one_apart : (k : ℕ) (e : Entry) (es : List Entry) (equal from later : Bool) → (e.loader == k) ≡ equal → nat_le k e.loader ≡ from → nat_le (k + 1) e.loader ≡ later
      → total_from k es ≡ total (brought_by k es) + total_from (k + 1) es
      → total_from k (e ∷ es) ≡ total (brought_by k (e ∷ es)) + total_from (k + 1) (e ∷ es)
  unfolding total_from total
  one_apart k e es true true false is is_from is_later rest = rw is (rw is_from (rw is_later (omega (arith, rest))))
  one_apart k e es false true true is is_from is_later rest = rw is (rw is_from (rw is_later (omega (arith, rest))))
  one_apart k e es false false false is is_from is_later rest = rw is (rw is_from (rw is_later (omega (arith, rest))))
  one_apart k e es true true true is is_from is_later rest = absurd (grind (arith, nat_tests))
  one_apart k e es true false _ is is_from is_later rest = absurd (grind (arith, nat_tests))
  one_apart k e es false true false is is_from is_later rest = absurd (grind (arith, nat_tests))
  one_apart k e es false false true is is_from is_later rest = absurd (grind (arith, nat_tests))

  -- those by one loader, and those by the loaders behind it
  pub from_next : (k : ℕ) (es : List Entry) → total_from k es ≡ total (brought_by k es) + total_from (k + 1) es
  unfolding total_from total
  from_next k [] = omega arith
  from_next k (e ∷ es) = one_apart k e es (e.loader == k) (nat_le k e.loader) (nat_le (k + 1) e.loader) refl refl refl (from_next k es)

  -- no loader has that number, or a higher one
  pub from_none : (k : ℕ) (es : List Entry) → All (λ e. e.loader < k) es → total_from k es ≡ 0
  unfolding total_from
  from_none k [] all = refl
  from_none k (e ∷ es) all =
      let first = All-head (λ (e : Entry). e.loader < k) e es all in
      let test : nat_le k e.loader ≡ false = grind (arith, nat_tests) in
      let rest = from_none k es (All-tail (λ (e : Entry). e.loader < k) e es all) in
      rw test (omega (arith, rest))

pub total_is_length : (es : List Entry) → total (λ e. 1) es ≡ length es
unfolding total
total_is_length [] = refl
total_is_length (e ∷ es) = let rest = total_is_length es in omega (arith, rest)

pub totals_are_sums : (w : Entry → ℕ) (by : List Entry → ℕ) → ((es : List Entry) → total w es ≡ by es) → (lists : List (List Entry)) → totals w lists ≡ sum_by by lists
unfolding totals
totals_are_sums w by same [] = refl
totals_are_sums w by same (es ∷ lists) =
    ap (λ n. n + totals w lists) (same es) ∙ ap (λ n. by es + n) (totals_are_sums w by same lists) ∙ sym (sum_by-cons by es lists)
