use Rattle.std.proofs.Common.{subst}
use Rattle.std.specs.Prelude.{IfOk, IfErr}
use Rattle.checkpoint.specs.Points.{IsPointOf, IsUnread}
use Rattle.checkpoint.proofs.points.read_point.Goals as goal

pub returns-clause-point : goal.returns-clause-point
returns-clause-point c = subst (λ frames. IfOk c.read_frames.result (IsPointOf frames)) c.into_vec.ensures c.read_frames.ensures.point

pub returns-clause-unread : goal.returns-clause-unread
returns-clause-unread c = subst (λ frames. IfErr c.read_frames.result (IsUnread frames)) c.into_vec.ensures c.read_frames.ensures.unread
