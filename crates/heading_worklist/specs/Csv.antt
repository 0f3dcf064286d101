-- Lists as comma-separated values. Sources: RFC 4180 (lines, cells, quotes); Unicode (the mark at the front, by which spreadsheets know
-- UTF-8). The apostrophe in front of what a spreadsheet would take for a formula is this project's own.
use Rattle.std.specs.Prelude.{ℕ, ◌==◌, Bool, ◌||◌, List, [], ◌∷◌, ◌++◌, if◌then◌else◌}
use Rattle.std.specs.List.{flat_map}

-- the byte order mark, in UTF-8
abbrev pub mark : List ℕ
mark = 0xEF ∷ 0xBB ∷ 0xBF ∷ []

-- an apostrophe
abbrev pub apostrophe : ℕ
apostrophe = 0x27

-- `=`, `+`, `-`, `@`, a tab, a line feed, a carriage return, or the apostrophe itself
abbrev pub is_risky : ℕ → Bool
is_risky b = (b == 0x3D) || (b == 0x2B) || (b == 0x2D) || (b == 0x40) || (b == 0x09) || (b == 0x0A) || (b == 0x0D) || (b == apostrophe)

-- a text as its cell shows it: with an apostrophe in front, where it begins with one of these
unfoldable pub shown : List ℕ → List ℕ
shown [] = []
shown (b ∷ text) = if is_risky b then apostrophe ∷ b ∷ text else b ∷ text

-- the text that a cell shows: one apostrophe in front is taken off
unfoldable pub meant : List ℕ → List ℕ
meant [] = []
meant (b ∷ text) = if b == apostrophe then text else b ∷ text

-- a byte between quotes: a quote has another in front
abbrev pub quoted_byte : ℕ → List ℕ
quoted_byte b = if b == 0x22 then 0x22 ∷ b ∷ [] else b ∷ []

-- bytes between quotes
abbrev pub quoted : List ℕ → List ℕ
quoted text = flat_map quoted_byte text

-- the cell of a text, between quotes
abbrev pub cell_bytes : List ℕ → List ℕ
cell_bytes text = 0x22 ∷ quoted (shown text) ++ 0x22 ∷ []

-- a cell behind another: a comma parts them
abbrev pub then_cell : List ℕ → List ℕ
then_cell text = 0x2C ∷ cell_bytes text

-- carriage return and line feed
abbrev pub line_end : List ℕ
line_end = 0x0D ∷ 0x0A ∷ []

-- a line of one cell or more
pub record CsvLine : Type 0 where
  pub first : List ℕ
  pub others : List (List ℕ)

-- the texts of a line
abbrev pub line_texts : CsvLine → List (List ℕ)
line_texts line = line.first ∷ line.others

-- the bytes of a line
abbrev pub line_bytes : CsvLine → List ℕ
line_bytes line = cell_bytes line.first ++ flat_map then_cell line.others ++ line_end

-- the bytes of a list: the mark, and the lines
abbrev pub list_bytes : List CsvLine → List ℕ
list_bytes lines = mark ++ flat_map line_bytes lines
