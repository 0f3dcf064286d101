use Rattle.std.proofs.Common.{◌≡◌, sym, subst}
use Rattle.checkpoint_commands.specs.Taking.{IsKnown}
use Rattle.checkpoint_commands.proofs.taking.PointTakerFrameTaker.take.Goals as goal

pub returns-in-Ok : goal.returns-in-Ok
returns-in-Ok c = record {
  taken = λ begun before is.
      let value = c.replace-before.ensures.value in
      let same : c.replace-before.result ≡ c.args.self.now.known = cc in
      c.in-Ok.ensures before (subst (IsKnown before) (sym same) is);
}
