use Rattle.std.proofs.Common.{◌≡◌}
use Rattle.file_entries.specs.Entries.{IsAnswered}
use Rattle.plain_commands.proofs.loading.load_entries.Given as goal

abbrev pub invariant-items : goal.invariant-items
invariant-items g l = IsAnswered l.initial.entries l.entries l.loaded.accepted l.loaded.refused × (l.loaded.limits ≡ l.fn.limits)

abbrev pub decreases-items : goal.decreases-items
decreases-items g l = l.entries.stream.most
