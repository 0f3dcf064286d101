use Rattle.std.proofs.Common.{◌∙◌, refl, sym, ap, subst}
use Rattle.marc_types.specs.declared.record.Record.{Record}
use Rattle.entry_record.specs.Identity.{control_number_of}
use Rattle.checkpoint.specs.Fronts.{BeginWith}
use Rattle.checkpoint.specs.Reading.{ties_bytes, AreProperTies, IsWrittenOf}
use Rattle.std.proofs.lemmas.Result.{err_from_is_err_and}
use Rattle.checkpoint.proofs.Rowing.{no_head, no_record, no_own_key, no_ties, row_begins}
use Rattle.checkpoint.proofs.rows.read_row.Goals as goal

pub returns-in_default-clause-bad : goal.returns-in_default-clause-bad
returns-in_default-clause-bad c = no_head c.args.bytes.now c.in_default.ensures.none

pub returns-in_err-rec-clause-bad : goal.returns-in_err-rec-clause-bad
returns-in_err-rec-clause-bad c =
    let head = c.in-Some.head in
    let p = err_from_is_err_and c.from_residual.result c.from_residual.ensures.1 in
    rw (p.1, p.2)
    (no_record c.args.bytes.now head.class head.code.now head.written.now head.rest.now _ c.in-Some.ensures.head c.in_err-rec.ensures.bad)

pub returns-in_err-key-clause-bad : goal.returns-in_err-key-clause-bad
returns-in_err-key-clause-bad c =
    let head = c.in-Some.head in
    let p = err_from_is_err_and c.from_residual-in_err-key.result c.from_residual-in_err-key.ensures.1 in
    rw (p.1, p.2)
    (no_own_key c.args.bytes.now head.class head.code.now head.written.now head.rest.now c.in_ok-rec.rec _ c.in-Some.ensures.head c.in_ok-rec.ensures.read
    c.in_err-key.ensures.bad)

pub returns-in_err-ties-clause-bad : goal.returns-in_err-ties-clause-bad
returns-in_err-ties-clause-bad c =
    let head = c.in-Some.head in
    let p = err_from_is_err_and c.from_residual-in_err-ties.result c.from_residual-in_err-ties.ensures.1 in
    rw (p.1, p.2)
    (no_ties c.args.bytes.now head.class head.code.now head.written.now head.rest.now c.in_ok-rec.rec c.len.result _ c.in-Some.ensures.head c.in_ok-rec.ensures.read
    c.len.ensures c.in_err-ties.ensures.bad)

pub returns-clause-read : goal.returns-clause-read
returns-clause-read c =
    let head = c.in-Some.head in
    let same = sym c.in_ok-rec.ensures.same in
    row_begins c.args.bytes.now head.class head.code.now head.written.now head.rest.now c.in_ok-ties.rest.now c.len.result _ c.in-Some.ensures.head refl
    (subst (λ rec. IsWrittenOf head.written.now rec) same c.in_ok-rec.ensures.read)
    (c.in_ok-key.ensures.key ∙ ap (λ (rec : Record). record { code = head.code.now; number = control_number_of rec.fields }) same) c.in_ok-key.ensures.proper
    (subst (λ ties. BeginWith ties_bytes (AreProperTies c.len.result) head.rest.now ties c.in_ok-ties.rest.now) (sym c.from_vec.ensures) c.in_ok-ties.ensures.read)
