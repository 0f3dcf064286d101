-- A checkpoint that is made in memory. It serves the writing of checkpoints.
use Rattle.std.specs.Prelude.{◌≡◌, ℕ, ◌≤◌, List, [], ◌∷◌, ◌++◌, length, map, All}
use Rattle.std.specs.List.{flat_map}
use Rattle.marc_types.specs.declared.key.Class.{Class}
use Rattle.marc_types.specs.declared.key.Class.TheVariants.{Authority, Bibliographic}
use Rattle.entry_record.specs.Identity.{control_number_of}
use Rattle.catalogue_rules.specs.State.{Row, State, fields_of}
use Rattle.kept_rows.specs.declared.row.KeptRow.{KeptRow}
use Rattle.kept_rows.specs.Rows.{row_of}
use Rattle.commit_journal.specs.Journal.{IsPayload}
use Rattle.commit_journal.specs.declared.format.TheConstants.{LARGEST_PAYLOAD}
use Rattle.checkpoint.specs.Format.{part_bytes, ties_of}
use Rattle.checkpoint.specs.Parts.{IsProperKey, IsProperTie, IsKeptRow, ArePartsOf}
use Rattle.checkpoint.specs.Points.{half_checkpoint}
use Rattle.checkpoint.specs.declared.part.Part.TheVariants.{Rows, End}
use Rattle.restoring.specs.declared.writing.Draft.{Draft}

-- a row, and its class
abbrev pub ClassRow : Type 0
ClassRow = Class × Row

-- rows, each with that class
abbrev pub of_class : Class → List Row → List ClassRow
of_class class rows = map (λ row. (class, row)) rows

-- the rows of a state as they stand in a checkpoint: authorities first
abbrev pub rows_in_turn : State → List ClassRow
rows_in_turn s = of_class Authority s.authorities ++ of_class Bibliographic s.bibliographic

-- a kept row as a row with its class
abbrev pub class_row_of : KeptRow → ClassRow
class_row_of r = (r.class, row_of r)

-- a row of a state that can stand in a checkpoint: its key is proper and has the record's own number, and the keys of its ties are proper
pub record CanBeKept (row : Row) : Type 0 where
  pub key : IsProperKey row.0
  pub number : row.0.number ≡ control_number_of (fields_of row.1)
  pub ties : All IsProperTie (ties_of row.1)

-- A checkpoint of these rows so far: whole payloads, the first of which begins it, and one that is still filling, which may have no row.
pub record IsDraft (rows : List ClassRow) (whole : List (List ℕ)) (filling : List ℕ) : Type 0 where
  pub chunks : List (List KeptRow)
  pub last : List KeptRow
  pub rows_are : map class_row_of (flat_map (λ chunk. chunk) chunks ++ last) ≡ rows
  pub whole_are : ArePartsOf whole (half_checkpoint chunks)
  pub open_is : part_bytes (Rows last) ≡ filling
  pub can_be : All IsKeptRow last
  pub fit : All IsPayload whole
  pub short : length filling ≤ LARGEST_PAYLOAD

-- a draft stays one of whatever rows it is
abbrev pub StaysDraft : Draft → Draft → Type 0
StaysDraft old new = (rows : List ClassRow) → IsDraft rows old.whole.items old.filling.items → IsDraft rows new.whole.items new.filling.items

-- a draft of whatever rows has these behind them too
abbrev pub GainsRows : List ClassRow → Draft → Draft → Type 0
GainsRows more old new = (rows : List ClassRow) → IsDraft rows old.whole.items old.filling.items → IsDraft (rows ++ more) new.whole.items new.filling.items

-- a whole checkpoint of these rows, in payloads that a log can take
pub record IsWritten (entries : ℕ) (rows : List ClassRow) (payloads : List (List ℕ)) : Type 0 where
  pub chunks : List (List KeptRow)
  pub rows_are : map class_row_of (flat_map (λ chunk. chunk) chunks) ≡ rows
  pub are : ArePartsOf payloads (half_checkpoint chunks ++ End entries (length rows) ∷ [])
  pub fit : All IsPayload payloads

-- a draft is ended as a checkpoint of whatever rows it is, where there are so many, behind so many entries
abbrev pub EndsDraft : ℕ → ℕ → Draft → List (List ℕ) → Type 0
EndsDraft entries count draft payloads =
    (rows : List ClassRow) → IsDraft rows draft.whole.items draft.filling.items → length rows ≡ count → IsWritten entries rows payloads
