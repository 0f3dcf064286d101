use Rattle.std.proofs.Common.{◌++◌, encode_utf8, IsUtf8, ap, subst, ◌∙◌}
use Rattle.naco_form.specs.Pen.{written_and_still}
use Rattle.naco_form.specs.declared.pen.Pen.{Pen}
use Rattle.naco_form.proofs.PenLemmas.{write_free, write_held}
use Rattle.naco_form.proofs.pen.Pen.write.Goals as goal
use Rattle.naco_form.proofs.pen.Pen.write.Goals.{in-Blank+in_ok-push, in_default}

pub returns-clause-text : goal.returns-clause-text
unfolding written_and_still
returns-clause-text c cs =
    let scalar = c.ranges.c.0 in
    elim c.match-self.branch [
      | in-Blank+in_ok-push w ↦ write_held _ _ _ c.args.c cs w.in_ok-push.ensures.utf8 scalar c.requires w.in-Blank.is (c.in_ok-push-2.ensures.text ∙ ap (λ (p : Pen). p.out ++ encode_utf8 c.args.c) w.self-is ∙ ap (λ l. l ++ encode_utf8 c.args.c) w.in_ok-push.ensures.text)
      | in_default w ↦ write_free _ _ _ c.args.c cs (subst (λ (p : Pen). IsUtf8 p.out) w.self-is c.in_ok-push-2.ensures.utf8) scalar c.requires w.in_default.not-Blank (c.in_ok-push-2.ensures.text ∙ ap (λ (p : Pen). p.out ++ encode_utf8 c.args.c) w.self-is)
    ]
