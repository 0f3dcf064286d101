use Rattle.plain_commands.proofs.summing.sum_workload.Given as goal

abbrev pub ghosts-sum_counted : goal.ghosts-sum_counted
ghosts-sum_counted a = record { name = a.blank.name; parts = a.blank.parts }
