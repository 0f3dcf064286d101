use Rattle.std.proofs.Common.{subst, Option}
use Rattle.std.specs.Option.{option_map}
use Rattle.std.proofs.lemmas.Result.{IfOk-weaker}
use Rattle.catalogue_rules.specs.State.{KeptField}
use Rattle.numbered_store.specs.Kept.{found_field, kept_record}
use Rattle.commit_stages.specs.Fields.{FindsHeading}
use Rattle.commit_stages.proofs.Finding.{field_read, finds_nothing, no_field_read}
use Rattle.commit_stages.proofs.OwnRecords.{own_known, own_there}
use Rattle.commit_stages.proofs.visiting.heading_found.Goals as goal

pub look_at_own-requires : goal.look_at_own-requires
look_at_own-requires c = own_known c.args.own c.args.seat.class c.args.seat.number c.requires.own c.args.store.now.keys c.requires.known

pub returns-in-Some : goal.returns-in-Some
returns-in-Some c =
    IfOk-weaker c.heading_in.result _ _
    (λ found. subst (λ (o : Option KeptField). FindsHeading c.args.seat.class o (option_map found_field found))
    (field_read c.args.store.now c.args.seat (kept_record c.in-Some.kept.now)
    (own_there c.args.own c.args.seat.class c.args.seat.number c.requires.own c.args.store.now _ c.in-Some.ensures))) c.heading_in.ensures

pub returns-in-None : goal.returns-in-None
returns-in-None c =
    finds_nothing c.args.seat.class _
    (no_field_read c.args.store.now c.args.seat (own_there c.args.own c.args.seat.class c.args.seat.number c.requires.own c.args.store.now _ c.in-None.ensures))
