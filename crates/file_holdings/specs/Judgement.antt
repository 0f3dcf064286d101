-- That items of a file have a judgement, and one alone.
use Rattle.std.specs.Prelude.{◌≡◌, ℕ, List}
use Rattle.marc_stream.specs.Pieces.{Item}
use Rattle.holdings.specs.declared.holding.Holding.{Holding}
use Rattle.file_holdings.specs.Files.{AreHoldings}
use Rattle.file_holdings.specs.declared.refused.RefusedHolding.{RefusedHolding}

-- the items of a file have accepted holdings and refused items
pub record HaveHoldings (library : List ℕ) (items : List Item) : Type 0 where
  pub accepted : List Holding
  pub refused : List RefusedHolding
  pub judged : AreHoldings library items accepted refused

-- Items of a file are judged in one way: they have one list of accepted holdings, and one of refused items.
pub record AreJudgedOnce (library : List ℕ) (items : List Item) : Type 0 where
  pub accepted : (one other : List Holding) (refused again : List RefusedHolding)
      → AreHoldings library items one refused → AreHoldings library items other again → one ≡ other
  pub refused : (one other : List Holding) (refused again : List RefusedHolding)
      → AreHoldings library items one refused → AreHoldings library items other again → refused ≡ again
