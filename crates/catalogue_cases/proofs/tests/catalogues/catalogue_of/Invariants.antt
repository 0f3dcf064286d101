use Rattle.catalogue_cases.proofs.tests.catalogues.catalogue_of.Given as goal

abbrev pub ghosts-counted : goal.ghosts-counted
ghosts-counted g a = record { name = a.blank.name; parts = a.blank.parts }
