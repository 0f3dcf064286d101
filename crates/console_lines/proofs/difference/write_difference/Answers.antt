use Rattle.std.proofs.Common.{subst}
use Rattle.std.specs.Io.KnownBytes.{Appends}
use Rattle.outside.specs.Sink.{WritesFront}
use Rattle.outside.proofs.Fronts.{appends_three, front_first, front_second, front_third}
use Rattle.std.proofs.lemmas.Result.{on_ok_weaker}
use Rattle.console_lines.specs.Lines.{differ_front, line_end}
use Rattle.console_lines.proofs.difference.write_difference.Goals as goal

pub returns-in_err-write_place-clause-front : goal.returns-in_err-write_place-clause-front
returns-in_err-write_place-clause-front g c =
    front_first _ _ (differ_front c.args.place) c.args.name.now line_end c.in_err-write_place.ensures.front

pub returns-in_err-write_all-clause-front : goal.returns-in_err-write_all-clause-front
returns-in_err-write_all-clause-front g c =
    front_second _ _ _ (differ_front c.args.place) c.args.name.now line_end c.in_ok-write_place.ensures.line
    (subst (WritesFront _ _) c.as_bytes.ensures.value c.in_err-write_all.ensures.front)

pub returns-clause-line : goal.returns-clause-line
returns-clause-line g c =
    on_ok_weaker c.write_all-2.result
    (appends_three _ _ _ _ (differ_front c.args.place) c.args.name.now line_end c.in_ok-write_place.ensures.line
    (subst (Appends _ _) c.as_bytes.ensures.value c.in_ok-write_all.ensures.bytes)) c.write_all-2.ensures.bytes

pub returns-clause-front : goal.returns-clause-front
returns-clause-front g c =
    front_third _ _ _ _ (differ_front c.args.place) c.args.name.now line_end c.in_ok-write_place.ensures.line
    (subst (Appends _ _) c.as_bytes.ensures.value c.in_ok-write_all.ensures.bytes) c.write_all-2.ensures.front
