use Rattle.durable_catalogue.proofs.loading.build.Given as goal

abbrev pub ghosts-build_in : goal.ghosts-build_in
ghosts-build_in g a = record { name = a.blank.name; parts = a.blank.parts }
