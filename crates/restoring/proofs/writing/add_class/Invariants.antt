use Rattle.std.proofs.Common.{List, map}
use Rattle.std.specs.Prelude.{All}
use Rattle.catalogue_rules.specs.State.{rows_of}
use Rattle.numbered_store.specs.Kept.{shown_row}
use Rattle.restoring.specs.Drafts.{ClassRow, CanBeKept, IsDraft}
use Rattle.restoring.proofs.Drafting.{IsAdding}
use Rattle.restoring.proofs.writing.add_class.Given as goal

abbrev pub invariant-loop-key : goal.invariant-loop-key
invariant-loop-key l = record {
  adding : (rows : List ClassRow) → IsDraft rows l.fn.draft.whole.items l.fn.draft.filling.items
      → IsAdding rows l.class (map shown_row l.key-iterator) (rows_of l.class l.engine.state) l.draft.whole.items l.draft.filling.items;
  can : All CanBeKept (map shown_row l.key-iterator);
}
