use Rattle.std.proofs.Common.{rules, is_lt}
use Rattle.std.proofs.lemmas.Result.{on_ok_weaker}
use Rattle.std.proofs.lemmas.List.Sorted.{ranks_by}
use Rattle.std.proofs.lemmas.Fn.{always_returns_same}
use Rattle.holdings.specs.ByTarget.{target_cmp, target_cmp_total}
use Rattle.holdings.proofs.groups.sort_by_target.Goals as goal

pub returns-clause-sorted : goal.returns-clause-sorted
returns-clause-sorted c =
    on_ok_weaker c.sort_by.result
    (λ sorted. sorted (λ x y. is_lt (target_cmp x y)) (ranks_by target_cmp_total (λ x. x)) (always_returns_same _ _ _ (λ a r f k. search rules)))
    c.sort_by.ensures.sorted

pub returns-clause-stable : goal.returns-clause-stable
returns-clause-stable c =
    c.sort_by.ensures.stable (λ x y. is_lt (target_cmp x y)) (ranks_by target_cmp_total (λ x. x)) (always_returns_same _ _ _ (λ a r f k. search rules))
