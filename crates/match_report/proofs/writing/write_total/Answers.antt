use Rattle.std.proofs.Common.{◌≡◌, ◌∙◌, [], ◌∷◌, ◌++◌, length, subst}
use Rattle.std.specs.Fmt.{decimal}
use Rattle.std.specs.Io.KnownBytes.{Appends}
use Rattle.std.proofs.lemmas.Result.{on_ok_weaker}
use Rattle.outside.specs.Sink.{WritesFront}
use Rattle.match_report.proofs.Writes.{total_front, total_then, total_written}
use Rattle.match_report.proofs.writing.write_total.Goals as goal

pub returns-in_err-write_all-clause-front : goal.returns-in_err-write_all-clause-front
returns-in_err-write_all-clause-front g c = total_front _ _ (decimal (length c.args.groups.now) ++ 10 ∷ []) c.write_all.ensures.front

pub returns-clause-bytes : goal.returns-clause-bytes
returns-clause-bytes g c =
    let written = g.K.Sink.written in
    let digits : c.as_bytes.result.now ≡ decimal (length c.args.groups.now) = c.as_bytes.ensures.value ∙ c.format-count.ensures.text in
    on_ok_weaker _
    (λ second. total_written _ _ _ (decimal (length c.args.groups.now) ++ 10 ∷ []) c.in_ok-write_all.ensures.bytes
    (subst (λ d. Appends (written c.write_all.new.self) (written c.write_both.new.out) (d ++ 10 ∷ [])) digits second))
    c.write_both.ensures.bytes

pub returns-clause-front : goal.returns-clause-front
returns-clause-front g c =
    let written = g.K.Sink.written in
    let digits : c.as_bytes.result.now ≡ decimal (length c.args.groups.now) = c.as_bytes.ensures.value ∙ c.format-count.ensures.text in
    total_then _ _ _ (decimal (length c.args.groups.now) ++ 10 ∷ []) c.in_ok-write_all.ensures.bytes
    (subst (λ d. WritesFront (written c.write_all.new.self) (written c.write_both.new.out) (d ++ 10 ∷ [])) digits c.write_both.ensures.front)
