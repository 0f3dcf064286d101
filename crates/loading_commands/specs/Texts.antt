-- The console's lines, from the results of loading.
use Rattle.std.specs.Prelude.{ℕ, List, [], ◌∷◌, ◌++◌, length, Bool, nat_lt}
use Rattle.std.specs.List.{list_any}
use Rattle.command_words.specs.declared.library.Library.{Library}
use Rattle.console_lines.specs.Lines.{refused_lines, totals_line}
use Rattle.console_lines.specs.declared.totals.Totals.{Totals}
use Rattle.loader_workers.specs.declared.result.FileResult.{FileResult}

-- what is counted in a result
abbrev pub totals_in : FileResult → Totals
totals_in r = record { accepted = r.accepted; refused = length r.refused; sums = r.sums }

-- the refused items of each result
unfoldable pub refused_text : List Library → List FileResult → List ℕ
refused_text (library ∷ libraries) (r ∷ results) = refused_lines library.file r.refused ++ refused_text libraries results
refused_text libraries results = []

-- what is counted in each
unfoldable pub totals_text : List Library → List FileResult → List ℕ
totals_text (library ∷ libraries) (r ∷ results) = totals_line library.file (totals_in r) ++ totals_text libraries results
totals_text libraries results = []

-- the refused lines of each file, and then a line for each file
abbrev pub files_text : List Library → List FileResult → List ℕ
files_text libraries results = refused_text libraries results ++ totals_text libraries results

-- an item of some file is refused
abbrev pub has_refused : List FileResult → Bool
has_refused results = list_any (λ r. nat_lt 0 (length r.refused)) results
