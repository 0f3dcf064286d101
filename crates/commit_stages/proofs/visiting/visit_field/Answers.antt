use Rattle.std.proofs.Common.{◌∙◌}
use Rattle.std.proofs.lemmas.Result.{IfOk-weaker}
use Rattle.numbered_store.specs.Kept.{kept_record}
use Rattle.commit_stages.proofs.Finding.{field_read, no_field_read}
use Rattle.commit_stages.proofs.Reading.{proper_there}
use Rattle.commit_stages.proofs.visiting.visit_field.Goals as goal

pub returns-in-Some-clause-field : goal.returns-in-Some-clause-field
returns-in-Some-clause-field g c =
    IfOk-weaker c.found_at.result _ _ (λ found is. is ∙ field_read c.args.store.now c.args.seat (kept_record c.in-Some.kept.now) c.in-Some.ensures.kept) c.found_at.ensures

pub returns-in-None-clause-field : goal.returns-in-None-clause-field
returns-in-None-clause-field g c = no_field_read c.args.store.now c.args.seat c.in-None.ensures.kept

pub returns-in-Some-clause-proper : goal.returns-in-Some-clause-proper
returns-in-Some-clause-proper g c = proper_there c.in-Some.kept.now _ c.in-Some.ensures.kept
