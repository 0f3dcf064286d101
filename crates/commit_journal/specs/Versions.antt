-- The versions of a log, as numbers.
use Rattle.std.specs.Prelude.{ℕ}
use Rattle.commit_journal.specs.declared.version.Version.{Version}
use Rattle.commit_journal.specs.declared.version.Version.TheVariants.{One, Two}

-- the number by which a header names a version
abbrev pub number_of : Version → ℕ
number_of One = 1
number_of Two = 2
