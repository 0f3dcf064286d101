-- What is written of a history and a shelf of holdings: the records with their holdings into OUT, and the holdings that wait for their
-- record into REST. The rules are this project's own.
use Rattle.std.specs.Prelude.{◌≡◌, ℕ, true, List, [], ◌∷◌, Option}
use Rattle.marc_types.specs.declared.entry.Entry.{Entry}
use Rattle.outside.specs.Room.{RoomView}
use Rattle.catalogue_rules.specs.Settle.{state_of}
use Rattle.console_lines.specs.declared.end.OutputsFault.{OutputsFault}
use Rattle.console_lines.specs.declared.end.OutputsFault.TheVariants.{Unwritten as NotBoth}
use Rattle.console_lines.specs.declared.end.Unwritten.{Unwritten}
use Rattle.holdings.specs.Shelves.{ShelfRow}
use Rattle.holdings_export.specs.Output.{holdings_export, holdings_rest}
use Rattle.output_files.specs.Kept.{kept_keys}
use Rattle.output_files.specs.Outputs.{AreWritten, AreStopped}

-- what is due in OUT; the code selects records
abbrev pub out_due : Option (List ℕ) → List Entry → List ShelfRow → List ℕ
out_due code entries shelf = holdings_export (kept_keys code) (state_of entries) shelf

-- what is due in REST
abbrev pub rest_due : List Entry → List ShelfRow → List ℕ
rest_due entries shelf = holdings_rest (state_of entries) shelf

-- both were written, where the room tells
abbrev pub WritesBoth : RoomView → RoomView → List ℕ → List ℕ → Option (List ℕ) → List Entry → List ShelfRow → Type 0
WritesBoth old new out rest code entries shelf = old.tells ≡ true → AreWritten out rest (out_due code entries shelf) (rest_due entries shelf) new

-- for that fault one of them was not written whole: OUT, and REST wasn't begun, or REST
abbrev pub StopsAtOne : RoomView → RoomView → List ℕ → List ℕ → Option (List ℕ) → List Entry → List ShelfRow → OutputsFault → Type 0
StopsAtOne old new out rest code entries shelf why = (which : Unwritten) → why ≡ NotBoth which
    → AreStopped (out ∷ []) out rest (out_due code entries shelf) (rest_due entries shelf) old new which
