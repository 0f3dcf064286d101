use Rattle.durable_catalogue.proofs.durable.Durable.commit_frame.Given as goal

abbrev pub ghosts-stage_all : goal.ghosts-stage_all
ghosts-stage_all g a = record { name = a.blank.name; parts = a.blank.parts }
