use Rattle.std.proofs.Common.{nat_eq}
use Rattle.postings.specs.Counts.{once}
use Rattle.postings.proofs.Errors.{on_err}
use Rattle.postings.proofs.Written.{more_under, more_after, stay_under, stay_after}
use Rattle.postings.proofs.counts.Counts.note.Goals as goal

pub returns-clause-ok : goal.returns-clause-ok
returns-clause-ok g c =
    let old = c.reach.new.self in
    more_after g.P.PartialEq.eq c.args.self.now.groups old _ c.reach.ensures.same (once nat_eq g.P.PartialEq.eq c.args.name c.args.thing)
    (more_under g.P.PartialEq.eq old c.args.name c.row_mut.result.now c.note.new.self c.row_mut.ensures.value c.args.thing c.in_ok-note.ensures.ok)

pub returns-in_err-note-clause-err : goal.returns-in_err-note-clause-err
returns-in_err-note-clause-err g c =
    let old = c.reach.new.self in
    on_err c.from_residual-in_err-note.result
    (stay_after g.P.PartialEq.eq c.args.self.now.groups old _ c.reach.ensures.same
    (stay_under g.P.PartialEq.eq old c.args.name c.row_mut.result.now c.note.new.self c.row_mut.ensures.value c.in_err-note.ensures.err))
