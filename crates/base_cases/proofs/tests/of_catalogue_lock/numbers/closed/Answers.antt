use Rattle.std.proofs.Common.{[], ◌∷◌, Some, refl, subst}
use Rattle.catalogue_lock.specs.Passes.{Closed}
use Rattle.catalogue_lock.proofs.Rows.{two_items}
use Rattle.base_cases.proofs.Rows.{Ended, ended}
use Rattle.base_cases.proofs.tests.of_catalogue_lock.numbers.closed.Goals as goal
use Rattle.base_cases.proofs.tests.of_catalogue_lock.numbers.closed.Goals.{After-close}

-- what the closed lock tells of the row
row : (c : After-close) → Ended c.args.lock.id (Some c.args.lock.opened) c.args.replies.now.0 c.args.replies.now.1 c.args.replies.now.2 c.args.first c.args.second c.close.result.numbers.items
row c =
    let left = c.close.result.numbers.items in
    let both = two_items _ _ _ _ _ _ c.requires.room.0 c.push_reserved.ensures.items c.push_reserved-2.ensures.items c.from_vec.ensures in
    let closed = subst (λ z. Closed 2 (c.args.first ∷ c.args.second ∷ []) z left) c.requires.lock.2 (subst (λ z. Closed 2 z c.args.lock.opened.numbers.items left) both
    (subst (λ z. Closed z c.from_vec.result c.args.lock.opened.numbers.items left) c.requires.lock.0 c.close.ensures.history)) in
    ended c.args.lock.id (Some c.args.lock.opened) 2 _ _ _ _ _ _ _ left refl refl refl c.requires.turns closed

pub returns-clause-replies : goal.returns-clause-replies
returns-clause-replies c = let r = row (goal.at.returns-clause-replies c).After-close in (r.one_is, r.two_is, r.three_is)

pub returns-clause-first : goal.returns-clause-first
returns-clause-first c = (row (goal.at.returns-clause-first c).After-close).first_added

pub returns-clause-second : goal.returns-clause-second
returns-clause-second c = (row (goal.at.returns-clause-second c).After-close).second_added

pub returns-clause-numbers : goal.returns-clause-numbers
returns-clause-numbers c = (row (goal.at.returns-clause-numbers c).After-close).left_is

pub returns-clause-history : goal.returns-clause-history
returns-clause-history c = let r = row (goal.at.returns-clause-history c).After-close in ∣ (r.closed, r.history) ∣₁
