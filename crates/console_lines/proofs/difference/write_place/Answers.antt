use Rattle.std.proofs.Common.{◌∙◌, codes, subst}
use Rattle.std.specs.Fmt.{decimal}
use Rattle.std.specs.Io.KnownBytes.{Appends}
use Rattle.outside.specs.Sink.{WritesFront}
use Rattle.outside.proofs.Fronts.{appends_three, front_first, front_second, front_third}
use Rattle.std.proofs.lemmas.Result.{on_ok_weaker}
use Rattle.console_lines.proofs.difference.write_place.Goals as goal

pub returns-in_err-write_all-clause-front : goal.returns-in_err-write_all-clause-front
returns-in_err-write_all-clause-front g c =
    front_first _ _ (codes "union_cat: parts differ at ") (decimal c.args.place) (codes " of ") c.in_err-write_all.ensures.front

pub returns-in_err-write_all-2-clause-front : goal.returns-in_err-write_all-2-clause-front
returns-in_err-write_all-2-clause-front g c =
    front_second _ _ _ (codes "union_cat: parts differ at ") (decimal c.args.place) (codes " of ") c.in_ok-write_all.ensures.bytes
    (subst (WritesFront _ _) (c.as_bytes.ensures.value ∙ c.format.ensures.text) c.in_err-write_all-2.ensures.front)

pub returns-clause-line : goal.returns-clause-line
returns-clause-line g c =
    on_ok_weaker c.write_all-3.result
    (appends_three _ _ _ _ (codes "union_cat: parts differ at ") (decimal c.args.place) (codes " of ") c.in_ok-write_all.ensures.bytes
    (subst (Appends _ _) (c.as_bytes.ensures.value ∙ c.format.ensures.text) c.in_ok-write_all-2.ensures.bytes)) c.write_all-3.ensures.bytes

pub returns-clause-front : goal.returns-clause-front
returns-clause-front g c =
    front_third _ _ _ _ (codes "union_cat: parts differ at ") (decimal c.args.place) (codes " of ") c.in_ok-write_all.ensures.bytes
    (subst (Appends _ _) (c.as_bytes.ensures.value ∙ c.format.ensures.text) c.in_ok-write_all-2.ensures.bytes) c.write_all-3.ensures.front
