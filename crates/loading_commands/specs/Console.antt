-- What the console is told of a command's files. The rules are this project's own.
use Rattle.std.specs.Prelude.{ℕ, ◌+◌, Bool, List, [], ◌∷◌, ◌++◌, length, nat_lt}
use Rattle.std.specs.List.{list_any}
use Rattle.marc_types.specs.declared.entry.Entry.{Entry}
use Rattle.command_words.specs.declared.library.Library.{Library}
use Rattle.file_entries.specs.declared.refused.RefusedItem.{RefusedItem}
use Rattle.catalogue_rules.specs.Receipts.{receipts_of_loader}
use Rattle.console_lines.specs.Lines.{refused_lines, totals_line}
use Rattle.console_lines.specs.Totals.{totals_of}

-- the refused items of each file, in the files' order
unfoldable pub refused_part : List Library → List (List RefusedItem) → List ℕ
refused_part (library ∷ libraries) (items ∷ refused) = refused_lines library.file items ++ refused_part libraries refused
refused_part libraries refused = []

-- What is counted of each file, in their order: its accepted and refused items, and the sums over the receipts of its loader's
-- entries, each at its own place behind the history before. The first of these files has that loader.
unfoldable pub totals_part : List Entry → List Entry → ℕ → List Library → List (List Entry) → List (List RefusedItem) → List ℕ
totals_part before added loader (library ∷ libraries) (entries ∷ accepted) (items ∷ refused) =
    totals_line library.file (totals_of entries items (receipts_of_loader loader before added))
    ++ totals_part before added (loader + 1) libraries accepted refused
totals_part before added loader libraries accepted refused = []

-- each file's refused items, and then what is counted of each
abbrev pub console_of : List Entry → List Entry → List Library → List (List Entry) → List (List RefusedItem) → List ℕ
console_of before added libraries accepted refused =
    refused_part libraries refused ++ totals_part before added 0 libraries accepted refused

-- an item of some file is refused
abbrev pub any_refused : List (List RefusedItem) → Bool
any_refused refused = list_any (λ items. nat_lt 0 (length items)) refused
