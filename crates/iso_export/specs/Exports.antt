-- What a call has written of the selected records. Source of the written form: ISO 2709, as the MARC 21 Specifications for Record
-- Structure use it.
use Rattle.std.specs.Prelude.{ℕ, Bool, List, Option, Result, OnOk}
use Rattle.std.specs.Io.KnownBytes.{Appends}
use Rattle.outside.specs.Sink.{WritesFront}
use Rattle.marc_types.specs.declared.key.Key.{Key}
use Rattle.catalogue_rules.specs.State.{Row, State}
use Rattle.catalogue_rules.specs.Output.{export_of, export_of_rows}

-- on success the records of a state whose key is kept were written
abbrev pub WritesExport : {X Y : Type 0} → Option (List ℕ) → Option (List ℕ) → State → Result X Y → (Key → Bool) → Type 0
WritesExport old new s result keep = OnOk result (Appends old new (export_of keep s))

-- a front of them was written
abbrev pub WritesExportFront : Option (List ℕ) → Option (List ℕ) → State → (Key → Bool) → Type 0
WritesExportFront old new s keep = WritesFront old new (export_of keep s)

-- on success the rows whose key is kept were written
abbrev pub WritesRows : {X Y : Type 0} → Option (List ℕ) → Option (List ℕ) → List Row → Result X Y → (Key → Bool) → Type 0
WritesRows old new rows result keep = OnOk result (Appends old new (export_of_rows keep rows))

-- a front of them was written
abbrev pub WritesRowsFront : Option (List ℕ) → Option (List ℕ) → List Row → (Key → Bool) → Type 0
WritesRowsFront old new rows keep = WritesFront old new (export_of_rows keep rows)
