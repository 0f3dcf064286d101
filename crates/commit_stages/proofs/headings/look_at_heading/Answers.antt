use Rattle.std.proofs.Common.{◌∙◌}
use Rattle.std.proofs.lemmas.Result.{IfOk-weaker}
use Rattle.marc_types.specs.declared.key.Class.TheVariants.{Authority}
use Rattle.numbered_store.specs.Kept.{kept_record}
use Rattle.linked_store.specs.Linked.{record_at}
use Rattle.commit_stages.proofs.Headed.{heading_read, no_heading}
use Rattle.commit_stages.proofs.OwnRecords.{own_known, own_there}
use Rattle.commit_stages.proofs.headings.look_at_heading.Goals as goal

pub look_at_own-requires : goal.look_at_own-requires
look_at_own-requires c = own_known c.args.own Authority c.args.number c.requires.own c.args.store.now.keys c.requires.number

pub returns-in-Some : goal.returns-in-Some
returns-in-Some c =
    IfOk-weaker c.decoded_heading.result _ _
    (λ heading is. is ∙ heading_read (kept_record c.in-Some.kept.now) (record_at Authority c.args.number c.args.store.now)
    (own_there c.args.own Authority c.args.number c.requires.own c.args.store.now _ c.in-Some.ensures)) c.decoded_heading.ensures

pub returns-in-None : goal.returns-in-None
returns-in-None c =
    no_heading (record_at Authority c.args.number c.args.store.now) (own_there c.args.own Authority c.args.number c.requires.own c.args.store.now _ c.in-None.ensures)
