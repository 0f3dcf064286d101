-- How many rows a page has.
use Rattle.std.specs.Prelude.{ℕ}

-- 1,024 rows
abbrev pub rows_of_page : ℕ
rows_of_page = 1024
