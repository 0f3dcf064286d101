use Rattle.catalogue_cases.proofs.tests.of_catalogue_core.a_heading_follows_its_authorities.Given as goal

abbrev pub ghosts-with_steps : goal.ghosts-with_steps
ghosts-with_steps g a = record { name = a.blank.name; parts = a.blank.parts }
