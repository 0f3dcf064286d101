use Rattle.checkpoint_commands.proofs.resumed.restore.Given as goal

abbrev pub ghosts-restore_counted : goal.ghosts-restore_counted
ghosts-restore_counted a = record { name = a.blank.name; parts = a.blank.parts }
