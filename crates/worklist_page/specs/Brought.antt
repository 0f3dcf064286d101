-- How many entries each loader of each run brought for each library. The rules are this project's own.
use Rattle.std.specs.Prelude.{ℕ, ◌+◌, List, [], fold, unwrap_or}
use Rattle.std.specs.Map.{lookup}
use Rattle.std.specs.BTreeMap.{insert_entry, is_at}
use Rattle.std.specs.Cmp.{IsTotalOrder, nat_cmp_total, on_total, then_total}
use Rattle.std.specs.Cmp.Lexicographic.{slice_cmp, nat_list_cmp_total}
use Rattle.std.specs.declared.cmp.Ordering.{Ordering}
use Rattle.std.specs.Ordering.{nat_cmp, on, then_cmp}
use Rattle.marc_types.specs.declared.entry.Entry.{Entry}
use Rattle.worklist_page.specs.declared.bringer.Bringer.{Bringer}

-- the loader of a run, and the library of its file
abbrev pub bringer_of : Entry → Bringer
bringer_of e = record { run = e.run; loader = e.loader; library = e.library }

-- by the run, the loader, and the bytes of the library's code
unfoldable pub bringer_cmp : Bringer → Bringer → Ordering
bringer_cmp = then_cmp (on (λ b. b.run) nat_cmp) (then_cmp (on (λ b. b.loader) nat_cmp) (on (λ b. b.library) (slice_cmp nat_cmp)))

pub bringer_cmp_total : IsTotalOrder bringer_cmp
unfolding bringer_cmp
bringer_cmp_total =
    then_total (on_total (λ b. b.run) nat_cmp_total) (then_total (on_total (λ b. b.loader) nat_cmp_total) (on_total (λ b. b.library) nat_list_cmp_total))

-- how many entries are counted under one
abbrev pub count_under : List (Bringer × ℕ) → Bringer → ℕ
count_under rows b = unwrap_or (lookup (is_at (bringer_cmp b)) rows) 0

-- one more entry is counted
abbrev pub with_entry : List (Bringer × ℕ) → Entry → List (Bringer × ℕ)
with_entry rows e = insert_entry bringer_cmp rows (bringer_of e) (count_under rows (bringer_of e) + 1)

-- how many entries of a history each brought, in that order
unfoldable pub brought_by : List Entry → List (Bringer × ℕ)
brought_by history = fold with_entry [] history
