use Rattle.std.proofs.Common.{sym, subst}
use Rattle.std.specs.Prelude.{All}
use Rattle.marc_types.specs.declared.key.Class.TheVariants.{Authority, Bibliographic}
use Rattle.catalogue_core.specs.Catalogues.{all_entries}
use Rattle.catalogue_rules.specs.State.{rows_of}
use Rattle.catalogue_rules.specs.Valid.{IsValid}
use Rattle.restoring.specs.Drafts.{CanBeKept}
use Rattle.restoring.proofs.Keepable.{each_can_be_kept}
use Rattle.restoring.proofs.writing.point_payloads.Goals as goal

pub add_class-requires : goal.add_class-requires
add_class-requires c =
    let entries = all_entries c.args.core.now in
    let same = c.engine-engine.ensures in
    subst (λ s. All CanBeKept (rows_of Authority s)) (sym same) (each_can_be_kept entries Authority c.each_was_admitted.ensures (subst IsValid same c.stays_valid.ensures))

pub add_class-requires-2 : goal.add_class-requires-2
add_class-requires-2 c =
    let entries = all_entries c.args.core.now in
    let same = c.engine-engine.ensures in
    subst (λ s. All CanBeKept (rows_of Bibliographic s)) (sym same) (each_can_be_kept entries Bibliographic c.each_was_admitted.ensures (subst IsValid same c.stays_valid.ensures))
