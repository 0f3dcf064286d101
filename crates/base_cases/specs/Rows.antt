-- A row of turns that two passes take at a lock round a tally.
use Rattle.std.specs.Prelude.{◌≡◌, ℕ, Option}
use mathlib.Core.List.{IsPrefix}
use Rattle.catalogue_lock.specs.History.{longer}
use Rattle.catalogue_lock.specs.Passes.{Pass, Turned, HasSeenItsOwn, having_seen}
use Rattle.catalogue_lock.specs.Tally.{Tallies}

module _ {O : Type 0} (room : ℕ) where
  -- One pass made this call, and met the other then.
  pub record TurnedAndMet (call : ℕ) (reply : Option ℕ) (old other_old new other_new : Pass O ℕ) : Type 0 where
    pub between : Pass O ℕ
    pub turned : Turned (Tallies room) call reply old between
    pub met : new ≡ having_seen between (longer other_old.seen between.seen)
    pub other_met : other_new ≡ having_seen other_old (longer other_old.seen between.seen)
    pub begins : IsPrefix between.seen new.seen
    pub other_begins : IsPrefix other_old.seen other_new.seen
    pub other_own : HasSeenItsOwn other_new

  -- The first called with 5, the second with 7, and the first with 9, with a meeting after each.
  pub record TookThreeTurns (one two three : Option ℕ) (first_old second_old first_new second_new : Pass O ℕ) : Type 0 where
    pub first_between : Pass O ℕ
    pub second_between : Pass O ℕ
    pub first_after : Pass O ℕ
    pub second_after : Pass O ℕ
    pub fives : TurnedAndMet 5 one first_old second_old first_between second_between
    pub sevens : TurnedAndMet 7 two second_between first_between second_after first_after
    pub nines : TurnedAndMet 9 three first_after second_after first_new second_new
