use Rattle.std.proofs.Common.{length, ap, arith}
use Rattle.durable_catalogue.proofs.Within.{all_kept}
use Rattle.durable_catalogue.proofs.loading.run_behind.Goals as goal

pub overflow_add-result : goal.overflow_add-result
overflow_add-result c =
    let all = ap length (all_kept c.args.core.now c.requires.unstaged) in
    omega (arith, all, c.requires.last, c.requires.bounded, c.history_len-few.ensures.value, c.history_len-few.ensures.few)

pub returns : goal.returns
returns c = omega (arith, c.requires.last)
