use Rattle.browsing_commands.proofs.browsing.load_beside.Given as goal

-- the book that was just opened, and what the catalogue has
abbrev pub ghosts-load_named : goal.ghosts-load_named
ghosts-load_named g a = record { book = a.opened.seen.book; base = a.loading.durable.core.history }
