-- That items of a file have a judgement.
use Rattle.std.specs.Prelude.{ℕ, List}
use Rattle.marc_types.specs.declared.entry.Entry.{Entry}
use Rattle.marc_stream.specs.Pieces.{Item}
use Rattle.file_entries.specs.Files.{IsJudged}
use Rattle.file_entries.specs.declared.refused.RefusedItem.{RefusedItem}

-- the items of a file have accepted entries and refused items
pub record HasJudgement (library : List ℕ) (loader : ℕ) (items : List Item) : Type 0 where
  pub accepted : List Entry
  pub refused : List RefusedItem
  pub judged : IsJudged library loader items accepted refused
