use Rattle.std.proofs.Common.{◌≡◌, ◌+◌, drop}
use Rattle.split_command.specs.Shares.{part_number}
use Rattle.split_command.proofs.share.part_number.Given as goal

abbrev pub invariant-loop-bound : goal.invariant-loop-bound
invariant-loop-bound l = (l.part ≡ l.bound-index) × (part_number l.fn.bounds l.fn.key ≡ l.part + part_number (drop l.bound-index l.fn.bounds) l.fn.key)
