use Rattle.std.proofs.Common.{◌∙◌, ◌++◌, codes, subst}
use Rattle.std.specs.Fmt.{decimal}
use Rattle.std.specs.Io.KnownBytes.{Appends}
use Rattle.outside.specs.Sink.{WritesFront}
use Rattle.outside.proofs.Fronts.{appends_three, front_first, front_second, front_third}
use Rattle.std.proofs.lemmas.Result.{on_ok_weaker}
use Rattle.console_lines.specs.Lines.{line_end}
use Rattle.console_lines.proofs.numbered.write_resumed.Goals as goal

pub returns-in_err-write_all-clause-front : goal.returns-in_err-write_all-clause-front
returns-in_err-write_all-clause-front g c =
    front_first _ _ (codes "resumed ") (decimal c.args.taken) (codes " of " ++ decimal c.args.count ++ line_end) c.in_err-write_all.ensures.front

pub returns-in_err-write_all-2-clause-front : goal.returns-in_err-write_all-2-clause-front
returns-in_err-write_all-2-clause-front g c =
    front_second _ _ _ (codes "resumed ") (decimal c.args.taken) (codes " of " ++ decimal c.args.count ++ line_end) c.in_ok-write_all.ensures.bytes
    (subst (WritesFront _ _) (c.as_bytes.ensures.value ∙ c.format.ensures.text) c.in_err-write_all-2.ensures.front)

pub returns-clause-line : goal.returns-clause-line
returns-clause-line g c =
    on_ok_weaker c.write_numbered.result
    (appends_three _ _ _ _ (codes "resumed ") (decimal c.args.taken) (codes " of " ++ decimal c.args.count ++ line_end) c.in_ok-write_all.ensures.bytes
    (subst (Appends _ _) (c.as_bytes.ensures.value ∙ c.format.ensures.text) c.in_ok-write_all-2.ensures.bytes)) c.write_numbered.ensures.line

pub returns-clause-front : goal.returns-clause-front
returns-clause-front g c =
    front_third _ _ _ _ (codes "resumed ") (decimal c.args.taken) (codes " of " ++ decimal c.args.count ++ line_end) c.in_ok-write_all.ensures.bytes
    (subst (Appends _ _) (c.as_bytes.ensures.value ∙ c.format.ensures.text) c.in_ok-write_all-2.ensures.bytes) c.write_numbered.ensures.front
