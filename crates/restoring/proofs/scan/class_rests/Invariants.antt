use Rattle.std.proofs.Common.{map}
use Rattle.catalogue_rules.specs.State.{linkable_authorities, rows_of}
use Rattle.numbered_store.specs.Kept.{shown_row}
use Rattle.restoring.proofs.Scanned.{AreLeft, RowRests}
use Rattle.restoring.proofs.scan.class_rests.Given as goal

abbrev pub invariant-loop-key : goal.invariant-loop-key
invariant-loop-key l =
    AreLeft (RowRests (linkable_authorities l.store.state) l.class) (rows_of l.class l.store.state) (map shown_row l.key-iterator)
