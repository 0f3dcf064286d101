use Rattle.std.proofs.Common.{false, ◌∙◌, sym}
use mathlib.Core.Bool.{false≢true}
use Rattle.std.proofs.lemmas.Result.{IfOk-weaker}
use Rattle.restoring.proofs.scan.each_field_rests.Goals as goal

pub returns-then-not-branch : goal.returns-then-not-branch
returns-then-not-branch c =
    (λ on. absurd (false≢true on), λ rests. sym c.if-not-branch.true ∙ c.in_ok-class_rests.ensures.1 rests.0)

pub returns : goal.returns
returns c =
    IfOk-weaker c.class_rests-2.result _ _
    (λ told so. (λ on. (c.in_ok-class_rests.ensures.0 c.if-not-branch.false, so.0 on), λ rests. so.1 rests.1)) c.class_rests-2.ensures
