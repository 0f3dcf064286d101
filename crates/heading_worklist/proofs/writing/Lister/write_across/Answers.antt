use Rattle.std.proofs.Common.{OnOk, subst, sym}
use Rattle.std.specs.Io.KnownBytes.{Appends}
use Rattle.std.proofs.lemmas.Result.{on_ok_weaker}
use Rattle.outside.specs.Sink.{WritesFront}
use Rattle.outside.proofs.Fronts.{appends_then, front_more, front_then}
use Rattle.catalogue_tables.specs.Sharing.{shown_keys}
use Rattle.heading_worklist.proofs.Pieces.{across_parts}
use Rattle.heading_worklist.proofs.writing.Lister.write_across.Goals as goal

pub returns-in_err-write_found-clause-front : goal.returns-in_err-write_found-clause-front
returns-in_err-write_found-clause-front g c =
    subst (WritesFront _ _) (sym (across_parts c.args.self.now.engine.now.state c.args.own.now (shown_keys c.args.others.now)))
    (front_more _ _ _ _ (rw c.in-Ok.ensures at c.write_found.ensures.front))

pub returns-clause-bytes : goal.returns-clause-bytes
returns-clause-bytes g c =
    subst (λ due. OnOk c.write_others.result (Appends (g.K.Sink.written c.args.out.now) (g.K.Sink.written c.write_others.new.out) due))
    (sym (across_parts c.args.self.now.engine.now.state c.args.own.now (shown_keys c.args.others.now)))
    (on_ok_weaker _ (appends_then _ _ _ _ _ (rw c.in-Ok.ensures at c.in_ok-write_found.ensures.bytes)) c.write_others.ensures.bytes)

pub returns-clause-front : goal.returns-clause-front
returns-clause-front g c =
    subst (WritesFront _ _) (sym (across_parts c.args.self.now.engine.now.state c.args.own.now (shown_keys c.args.others.now)))
    (front_then _ _ _ _ _ (rw c.in-Ok.ensures at c.in_ok-write_found.ensures.bytes) c.write_others.ensures.front)
