use Rattle.catalogue_rules.specs.State.{linkable_authorities}
use Rattle.kept_rows.specs.Standing.{DoesRest}
use Rattle.numbered_store.specs.Kept.{kept_record}
use Rattle.restoring.proofs.Scanned.{AreUpTo}
use Rattle.restoring.proofs.scan.record_rests.Given as goal

abbrev pub invariant-loop-place : goal.invariant-loop-place
invariant-loop-place l = AreUpTo (DoesRest (linkable_authorities l.store.state) l.class) (kept_record l.kept) l.place
