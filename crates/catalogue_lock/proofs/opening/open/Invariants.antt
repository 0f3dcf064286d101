use Rattle.catalogue_lock.proofs.opening.open.Given as goal

-- the opening adds the items that the object brought
abbrev pub ghosts-bring_in : goal.ghosts-bring_in
ghosts-bring_in g a = record { added = g.O.Object.history a.object.now }
