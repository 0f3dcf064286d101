use Rattle.std.proofs.Common.{[]}
use Rattle.browse_cases.proofs.tests.of_pages.pages_around_a_take.Given as goal

-- the book that was just opened, whose list begins with nothing
abbrev pub ghosts-shows_what_is_taken : goal.ghosts-shows_what_is_taken
ghosts-shows_what_is_taken g a = record { book = a.named.seen.book; base = [] }
