use Rattle.std.proofs.Common.{◌∙◌}
use Rattle.std.proofs.lemmas.Result.{IfOk-weaker}
use Rattle.marc_types.specs.declared.key.Class.TheVariants.{Authority}
use Rattle.numbered_store.specs.Kept.{kept_record}
use Rattle.linked_store.specs.Linked.{record_at}
use Rattle.commit_stages.proofs.Reading.{proper_there}
use Rattle.commit_stages.proofs.Headed.{heading_proper, heading_read, no_heading}
use Rattle.commit_stages.proofs.headings.visit_heading.Goals as goal

pub returns-in-Some-clause-heading : goal.returns-in-Some-clause-heading
returns-in-Some-clause-heading g c =
    IfOk-weaker c.decoded_heading.result _ _
    (λ heading is. is ∙ heading_read (kept_record c.in-Some.kept.now) (record_at Authority c.args.number c.args.store.now) c.in-Some.ensures.kept) c.decoded_heading.ensures

pub returns-in-Some-clause-proper : goal.returns-in-Some-clause-proper
returns-in-Some-clause-proper g c =
    heading_proper (record_at Authority c.args.number c.args.store.now)
    (proper_there c.in-Some.kept.now (record_at Authority c.args.number c.args.store.now) c.in-Some.ensures.kept)

pub returns-in-None-clause-heading : goal.returns-in-None-clause-heading
returns-in-None-clause-heading g c = no_heading (record_at Authority c.args.number c.args.store.now) c.in-None.ensures.kept
