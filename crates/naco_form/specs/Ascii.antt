-- What the four steps before the commas give of an ASCII text, character by character.
use Rattle.std.specs.Prelude.{ℕ, List}
use Rattle.std.specs.Char.{to_ascii_lowercase}
use Rattle.naco_form.specs.Table.{table_entry}

-- a capital is lowered, and the table is read
abbrev pub ascii_entry : ℕ → List ℕ
ascii_entry b = table_entry (to_ascii_lowercase b)
