use Rattle.std.proofs.Common.{◌≡◌, [], ◌∷◌, Some, None}
use Rattle.catalogue_lock.proofs.Rows.{worked, two_items}
use Rattle.catalogue_lock.proofs.laws.turns_of_two.Given as given
use Rattle.catalogue_lock.proofs.laws.turns_of_two.Goals as goal
use Rattle.catalogue_lock.proofs.laws.turns_of_two.Goals.{After-close-tally}

-- what the three turns replied, and the tally at the end
row : (g : given.Over) (c : After-close-tally g) → (c.turn-first.result ≡ Some 0) × (c.turn-second.result ≡ Some 1) × (c.turn-third.result ≡ None)
    × (c.close-tally.result.numbers.items ≡ 5 ∷ 7 ∷ [])
row g c =
    worked c.args.lock.id (Some c.args.lock.opened) c.args.first_pass c.args.second_pass c.turn-first.new.pass c.meet.new.first c.meet.new.second c.turn-second.new.pass c.meet-2.new.first c.meet-2.new.second c.turn-third.new.pass c.meet-3.new.first c.meet-3.new.second
    c.turn-first.result c.turn-second.result c.turn-third.result c.close-tally.result.numbers.items c.args.lock.opened.room c.args.lock.callers c.args.lock.opened.numbers.items c.from_vec.result
    c.requires.lock.1 c.requires.lock.0 c.requires.lock.2
    (two_items _ _ _ _ _ _ c.requires.room.0 c.push_reserved.ensures.items c.push_reserved-2.ensures.items c.from_vec.ensures)
    c.requires.first c.requires.second
    c.turn-first.ensures c.meet.ensures.first c.meet.ensures.second c.meet.ensures.second_own
    c.turn-second.ensures c.meet-2.ensures.first c.meet-2.ensures.second c.meet-2.ensures.second_own c.meet-2.ensures.second_begins
    c.turn-third.ensures c.meet-3.ensures.first c.meet-3.ensures.second c.meet-3.ensures.second_own c.meet-3.ensures.first_begins
    c.close-tally.ensures.history

pub returns-clause-first : goal.returns-clause-first
returns-clause-first g c = (row g (goal.at.returns-clause-first g c).After-close-tally).0

pub returns-clause-second : goal.returns-clause-second
returns-clause-second g c = (row g (goal.at.returns-clause-second g c).After-close-tally).1

pub returns-clause-third : goal.returns-clause-third
returns-clause-third g c = (row g (goal.at.returns-clause-third g c).After-close-tally).2

pub returns-clause-numbers : goal.returns-clause-numbers
returns-clause-numbers g c = (row g (goal.at.returns-clause-numbers g c).After-close-tally).3
