-- The pieces of a file that are refused, as they stand in it. The rules are this project's own; where a piece ends is ISO 2709's.
use Rattle.std.specs.Prelude.{◌≡◌, ℕ, true, List, drop}
use Rattle.std.specs.List.{flat_map}
use Rattle.std.specs.Io.BufRead.{take_through}
use Rattle.marc_types.specs.declared.entry.Limits.{Limits}
use Rattle.marc_stream.specs.Pieces.{record_terminator}
use Rattle.command_words.specs.declared.library.Library.{Library}
use Rattle.console_lines.specs.Ends.{Outcome}
use Rattle.file_entries.specs.declared.refused.RefusedItem.{RefusedItem}
use Rattle.plain_commands.specs.Passing.{FileDue, IsReady, IsPassDelivered, PassesFile}
use Rattle.plain_commands.specs.declared.ready.Ready.{Ready}

-- what stands in a file from a place through the next record terminator, or to the end where there is none
abbrev pub piece_at : List ℕ → ℕ → List ℕ
piece_at bytes offset = take_through record_terminator (drop offset bytes)

-- the pieces at the places of refused items, one behind the other
abbrev pub refused_pieces : List ℕ → List RefusedItem → List ℕ
refused_pieces bytes refused = flat_map (λ item. piece_at bytes item.offset) refused

-- of a file whose refused pieces are wanted: these
abbrev pub refused_due : FileDue
refused_due bytes accepted refused = refused_pieces bytes refused

-- the refused pieces of a file with these bytes were delivered, of whichever library it is
abbrev pub DeliversPieces : List ℕ → Ready → List ℕ → Outcome → Type 0
DeliversPieces bytes ready out o = (limits : Limits) (library : Library) → o.old.tells ≡ true → IsReady limits library bytes ready
    → IsPassDelivered limits refused_due library bytes out o

-- The command `refused`: the file's refused pieces, as they stand.
abbrev pub GivesBack : Library → List ℕ → Outcome → Type 0
GivesBack library out o = PassesFile refused_due library out o
