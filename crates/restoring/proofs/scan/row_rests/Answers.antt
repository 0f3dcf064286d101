use Rattle.std.proofs.Common.{◌∙◌, Some, sym}
use Rattle.restoring.proofs.Numbers.{found_under, number_lent, number_low}
use Rattle.restoring.proofs.scan.row_rests.Goals as goal

pub record_rests-requires-clause-known : goal.record_rests-requires-clause-known
record_rests-requires-clause-known c =
    number_low c.args.class c.args.key.now c.args.store.now.keys c.args.store.now.state c.unwrap-number.result (number_lent c.args.store.now c.as_linked-linked.result.now c.args.class c.args.key.now (Some c.unwrap-number.result) c.as_linked-linked.ensures
    (sym c.unwrap-number.ensures ∙ c.number_of.ensures))

pub record_rests-requires-clause-stands : goal.record_rests-requires-clause-stands
record_rests-requires-clause-stands c =
    found_under c.args.class c.args.key.now c.args.store.now.keys c.args.store.now.state c.unwrap-number.result (number_lent c.args.store.now c.as_linked-linked.result.now c.args.class c.args.key.now (Some c.unwrap-number.result) c.as_linked-linked.ensures
    (sym c.unwrap-number.ensures ∙ c.number_of.ensures))
    ∙ c.requires.stands
