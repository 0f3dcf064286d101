-- What a split tells the console, and what PREFIX.parts says. The rules are this project's own.
use Rattle.std.specs.Prelude.{ℕ, ◌+◌, Bool, List, [], ◌∷◌, ◌++◌, length, codes, nat_lt}
use Rattle.std.specs.List.{list_any}
use Rattle.std.specs.Fmt.{decimal}
use Rattle.marc_types.specs.declared.key.Key.{Key}
use Rattle.heading_fields.specs.Numbers.{key_text}
use Rattle.command_words.specs.declared.library.Library.{Library}
use Rattle.console_lines.specs.Lines.{refused_lines, line_end}
use Rattle.split_command.specs.Cut.{FileCut}

-- the line of what was counted of a file
unfoldable pub counted_line : List ℕ → ℕ → ℕ → List ℕ
counted_line file accepted refused = file ++ codes ": accepted " ++ decimal accepted ++ codes ", refused " ++ decimal refused ++ line_end

-- what is told of a file: a line for each refused piece, and that line
abbrev pub file_part : List ℕ → FileCut → List ℕ
file_part file cut = refused_lines file cut.refused ++ counted_line file (length cut.pieces) (length cut.refused)

-- what is told of all files, in their order
abbrev pub console_of : List Library → List FileCut → List ℕ
console_of [] cuts = []
console_of (library ∷ libraries) [] = []
console_of (library ∷ libraries) (cut ∷ cuts) = file_part library.file cut ++ console_of libraries cuts

-- a piece of some file is refused
abbrev pub any_refused : List FileCut → Bool
any_refused cuts = list_any (λ cut. nat_lt 0 (length cut.refused)) cuts

-- the line of how many parts there are
unfoldable pub count_line : ℕ → List ℕ
count_line parts = codes "parts " ++ decimal parts ++ line_end

-- the line of a file, with its number and the word that named it
unfoldable pub file_line : ℕ → Library → List ℕ
file_line number library = codes "file " ++ decimal number ++ codes " " ++ library.code ++ codes "=" ++ library.file ++ line_end

-- the lines of files, numbered from that number on
abbrev pub file_lines : ℕ → List Library → List ℕ
file_lines number [] = []
file_lines number (library ∷ libraries) = file_line number library ++ file_lines (number + 1) libraries

-- the line of a bound: the keys from there on are those of this part, up to the next bound
unfoldable pub bound_line : ℕ → Key → List ℕ
bound_line part bound = codes "from " ++ decimal part ++ codes " " ++ key_text bound ++ line_end

-- the lines of bounds, the first of which begins that part
abbrev pub bound_lines : ℕ → List Key → List ℕ
bound_lines part [] = []
bound_lines part (bound ∷ bounds) = bound_line part bound ++ bound_lines (part + 1) bounds

-- what PREFIX.parts says: how many parts there are, the files, and the bounds
abbrev pub parts_text : ℕ → List Library → List Key → List ℕ
parts_text parts libraries bounds = count_line parts ++ file_lines 0 libraries ++ bound_lines 1 bounds
