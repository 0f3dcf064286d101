use Rattle.std.proofs.Common.{Some, None, ap, subst}
use Rattle.command_words.specs.declared.asked.AloneRequest.TheVariants.{Point}
use Rattle.checkpoint_commands.specs.Checkpoints.{EndsCheckpoint}
use Rattle.checkpoint_commands.specs.Quick.{EndsQuick}
use Rattle.point_verification.specs.Verifying.{EndsVerifyingPoint}
use Rattle.union_top.proofs.Asked.{asked_as, carries}
use Rattle.union_top.proofs.points.over_point.Goals as goal

pub returns-in-Verify : goal.returns-in-Verify
returns-in-Verify g c =
    let did = c.verify_point.ensures in
    carries c.args.words.now (Point c.args.asked) (ap Point c.in-Verify.is) did.closed did.apart did.ends (λ usage. subst EndsVerifyingPoint usage did.ends.ends)

pub put_checkpoint-requires-clause-differ : goal.put_checkpoint-requires-clause-differ
put_checkpoint-requires-clause-differ g c κs within =
    (c.names_are_apart.ensures.names _ (asked_as c.args.words.now (Point c.args.asked) c.requires.asks (ap Point c.in-Checkpoint.is)).command).1.0

pub export_quickly-requires-clause-apart : goal.export_quickly-requires-clause-apart
export_quickly-requires-clause-apart g c κs within =
    (c.names_are_apart.ensures.names _ (asked_as c.args.words.now (Point c.args.asked) c.requires.asks (ap Point c.in-Quick.is)).command).1

pub export_quickly-requires-clause-differ : goal.export_quickly-requires-clause-differ
export_quickly-requires-clause-differ g c κs within =
    (c.names_are_apart.ensures.names _ (asked_as c.args.words.now (Point c.args.asked) c.requires.asks (ap Point c.in-Quick.is)).command).2.1

pub export_quickly-requires-in-QuickReport-clause-apart : goal.export_quickly-requires-in-QuickReport-clause-apart
export_quickly-requires-in-QuickReport-clause-apart g c κs within =
    (c.names_are_apart.ensures.names _ (asked_as c.args.words.now (Point c.args.asked) c.requires.asks (ap Point c.in-QuickReport.is)).command).1

pub export_quickly-requires-in-QuickReport-clause-differ : goal.export_quickly-requires-in-QuickReport-clause-differ
export_quickly-requires-in-QuickReport-clause-differ g c κs within =
    (c.names_are_apart.ensures.names _ (asked_as c.args.words.now (Point c.args.asked) c.requires.asks (ap Point c.in-QuickReport.is)).command).2.1

pub export_quickly-requires-in-QuickReport-clause-outs_differ : goal.export_quickly-requires-in-QuickReport-clause-outs_differ
export_quickly-requires-in-QuickReport-clause-outs_differ g c κs within =
    (c.names_are_apart.ensures.names _ (asked_as c.args.words.now (Point c.args.asked) c.requires.asks (ap Point c.in-QuickReport.is)).command).2.2.1.0

pub returns-in-Checkpoint : goal.returns-in-Checkpoint
returns-in-Checkpoint g c =
    let did = c.put_checkpoint.ensures in
    carries c.args.words.now (Point c.args.asked) (ap Point c.in-Checkpoint.is) did.closed did.apart did.ends (λ usage. subst EndsCheckpoint usage did.ends.ends)

pub returns-in-Quick : goal.returns-in-Quick
returns-in-Quick g c =
    let did = c.export_quickly.ensures in
    carries c.args.words.now (Point c.args.asked) (ap Point c.in-Quick.is) did.closed did.apart did.ends (λ usage. subst (EndsQuick None) usage did.ends.ends)

pub returns-in-QuickReport : goal.returns-in-QuickReport
returns-in-QuickReport g c =
    let did = c.export_quickly-in-QuickReport.ensures in
    carries c.args.words.now (Point c.args.asked) (ap Point c.in-QuickReport.is) did.closed did.apart did.ends
    (λ usage. subst (EndsQuick (Some c.in-QuickReport.report.now)) usage did.ends.ends)
