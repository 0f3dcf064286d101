use Rattle.std.proofs.Common.{◌∙◌, ◌==◌, sym, ap, None}
use Rattle.std.specs.Prelude.{is_some, if◌then◌else◌}
use Rattle.form_index.specs.Index.{rows_in, slot_at}
use Rattle.form_index.proofs.Indexing.{none_there, slots_with}
use Rattle.form_index.proofs.Paging.{flat_none, flat_some, stays_there}
use Rattle.form_index.proofs.index.empty_slot.Goals as goal

pub returns-in-Some-clause-row : goal.returns-in-Some-clause-row
returns-in-Some-clause-row c = c.take.ensures.value ∙ sym (flat_some None c.args.rows.now c.args.number c.in-Some.slot.now (sym c.in-Some.ensures.value))

pub returns-in-Some-clause-slots : goal.returns-in-Some-clause-slots
returns-in-Some-clause-slots c n =
    slots_with c.args.rows.now c.args.number c.take.new.self (ap is_some (sym c.in-Some.ensures.value)) n
    ∙ ap (λ slot. if n == c.args.number then slot else slot_at (rows_in c.args.rows.now) n) c.take.ensures.after

pub returns-in-Some-clause-stays : goal.returns-in-Some-clause-stays
returns-in-Some-clause-stays c = stays_there c.args.rows.now c.args.number c.take.new.self

pub returns-in-None-clause-row : goal.returns-in-None-clause-row
returns-in-None-clause-row c = sym (flat_none None c.args.rows.now c.args.number (sym c.in-None.ensures.value))

pub returns-in-None-clause-slots : goal.returns-in-None-clause-slots
returns-in-None-clause-slots c = none_there c.args.number (rows_in c.args.rows.now) (flat_none None c.args.rows.now c.args.number (sym c.in-None.ensures.value))
