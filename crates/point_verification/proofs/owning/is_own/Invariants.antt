use Rattle.point_verification.proofs.owning.is_own.Given as goal

abbrev pub ghosts-is_own_counted : goal.ghosts-is_own_counted
ghosts-is_own_counted a = record { name = a.blank.name; parts = a.blank.parts }
