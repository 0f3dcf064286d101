-- The libraries with the most headings. The rules are this project's own.
use Rattle.std.specs.Prelude.{ℕ, List, [], fold, map, take, drop}
use Rattle.std.specs.BTreeSet.{insert_key}
use Rattle.std.specs.Cmp.{IsTotalOrder, back_total, nat_cmp_total, on_total, then_total}
use Rattle.std.specs.Cmp.Lexicographic.{slice_cmp, nat_list_cmp_total}
use Rattle.std.specs.declared.cmp.Ordering.{Ordering}
use Rattle.std.specs.Ordering.{flip_args, nat_cmp, on, then_cmp}
use Rattle.worklist_page.specs.declared.shares.Shares.{Shares}
use Rattle.worklist_page.specs.Shares.{no_shares, together, total_of}

-- a library's code, and its headings
pub record Ranked : Type 0 where
  pub code : List ℕ
  pub shares : Shares

-- a row of the figures
abbrev pub ranked : List ℕ × Shares → Ranked
ranked row = record { code = row.0; shares = row.1 }

-- the most headings first; then by the code
unfoldable pub ranked_cmp : Ranked → Ranked → Ordering
ranked_cmp = then_cmp (on (λ r. total_of r.shares) (flip_args nat_cmp)) (on (λ r. r.code) (slice_cmp nat_cmp))

pub ranked_cmp_total : IsTotalOrder ranked_cmp
unfolding ranked_cmp
ranked_cmp_total = then_total (on_total (λ r. total_of r.shares) (back_total nat_cmp_total)) (on_total (λ r. r.code) nat_list_cmp_total)

-- in that order
abbrev pub by_size : List (List ℕ × Shares) → List Ranked
by_size rows = fold (insert_key ranked_cmp) [] (map ranked rows)

-- the fifty with the most
abbrev pub greatest : List Ranked → List Ranked
greatest ranks = take 50 ranks

-- all others together
abbrev pub others : List Ranked → Shares
others ranks = fold (λ sum r. together sum r.shares) no_shares (drop 50 ranks)
