use Rattle.browse_cases.proofs.tests.of_loaders.load_keeping.Given as goal

-- the book that was just opened, and what the catalogue has
abbrev pub ghosts-load_under_name : goal.ghosts-load_under_name
ghosts-load_under_name g a = record { book = a.named.seen.book; base = a.loading.durable.core.history }
