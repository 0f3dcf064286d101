use Rattle.std.proofs.Common.{sym, subst}
use Rattle.std.specs.Io.KnownBytes.{Appends}
use Rattle.std.proofs.KnownBytes.{Appends-nil}
use Rattle.std.proofs.lemmas.Result.{on_ok_weaker}
use Rattle.outside.specs.Sink.{WritesFront}
use Rattle.numbered_store.specs.Kept.{kept_record}
use Rattle.ambiguity_report.proofs.Fields.{awaits_row, blank_awaits}
use Rattle.ambiguity_report.proofs.awaits.write_awaiting.Goals as goal

pub returns-in-Some-clause-bytes : goal.returns-in-Some-clause-bytes
returns-in-Some-clause-bytes g c =
    on_ok_weaker _ (subst (Appends _ _) (sym (awaits_row c.args.class c.args.key.now (kept_record c.args.kept.now) c.in-Some.ties.now c.in-Some.ensures))) c.write_record.ensures.bytes

pub returns-in-Some-clause-front : goal.returns-in-Some-clause-front
returns-in-Some-clause-front g c =
    subst (WritesFront _ _) (sym (awaits_row c.args.class c.args.key.now (kept_record c.args.kept.now) c.in-Some.ties.now c.in-Some.ensures)) c.write_record.ensures.front

pub returns-in-None-clause-bytes : goal.returns-in-None-clause-bytes
returns-in-None-clause-bytes g c =
    subst (Appends _ _) (sym (blank_awaits c.args.class c.args.key.now (kept_record c.args.kept.now) c.in-None.ensures)) (Appends-nil _)
