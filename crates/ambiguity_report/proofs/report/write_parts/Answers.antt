use Rattle.std.proofs.lemmas.Result.{on_ok_weaker}
use Rattle.outside.proofs.Fronts.{front_more, front_then, appends_then}
use Rattle.catalogue_rules.specs.Output.{report_of}
use Rattle.ambiguity_report.proofs.report.write_parts.Goals as goal

pub returns-in_err-write_shared-clause-front : goal.returns-in_err-write_shared-clause-front
unfolding report_of
returns-in_err-write_shared-clause-front g c =
    front_more _ _ _ _ (front_more _ _ _ _ (front_more _ _ _ _
    (front_then _ _ _ _ _ c.in_ok-totals.ensures.bytes c.write_shared.ensures.front)))

pub returns-in_err-write_cross-clause-front : goal.returns-in_err-write_cross-clause-front
unfolding report_of
returns-in_err-write_cross-clause-front g c =
    front_more _ _ _ _ (front_more _ _ _ _
    (front_then _ _ _ _ _
    (appends_then _ _ _ _ _ c.in_ok-totals.ensures.bytes c.in_ok-write_shared.ensures.bytes)
    c.write_cross.ensures.front))

pub returns-in_err-write_all_awaits-clause-front : goal.returns-in_err-write_all_awaits-clause-front
unfolding report_of
returns-in_err-write_all_awaits-clause-front g c =
    front_more _ _ _ _
    (front_then _ _ _ _ _
    (appends_then _ _ _ _ _
    (appends_then _ _ _ _ _ c.in_ok-totals.ensures.bytes c.in_ok-write_shared.ensures.bytes)
    c.in_ok-write_cross.ensures.bytes)
    (c.write_all_awaits.ensures.front c.args.engine.now.state c.requires))

pub returns-clause-bytes : goal.returns-clause-bytes
unfolding report_of
returns-clause-bytes g c =
    on_ok_weaker _
    (appends_then _ _ _ _ _
    (appends_then _ _ _ _ _
    (appends_then _ _ _ _ _
    (appends_then _ _ _ _ _ c.in_ok-totals.ensures.bytes c.in_ok-write_shared.ensures.bytes)
    c.in_ok-write_cross.ensures.bytes)
    (c.in_ok-write_all_awaits.ensures.bytes c.args.engine.now.state c.requires)))
    c.write_totals.ensures.bytes

pub returns-clause-front : goal.returns-clause-front
unfolding report_of
returns-clause-front g c =
    front_then _ _ _ _ _
    (appends_then _ _ _ _ _
    (appends_then _ _ _ _ _
    (appends_then _ _ _ _ _ c.in_ok-totals.ensures.bytes c.in_ok-write_shared.ensures.bytes)
    c.in_ok-write_cross.ensures.bytes)
    (c.in_ok-write_all_awaits.ensures.bytes c.args.engine.now.state c.requires))
    c.write_totals.ensures.front

pub returns-in_err-totals-clause-front : goal.returns-in_err-totals-clause-front
unfolding report_of
returns-in_err-totals-clause-front g c =
    front_more _ _ _ _ (front_more _ _ _ _ (front_more _ _ _ _ (front_more _ _ _ _ c.write_all_ambiguous.ensures.front)))
