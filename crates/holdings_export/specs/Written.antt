-- What a call has written of the selected records and a shelf of holdings.
use Rattle.std.specs.Prelude.{ℕ, Bool, List, Option, Result, OnOk}
use Rattle.std.specs.Borrow.{Bor}
use Rattle.std.specs.Io.KnownBytes.{Appends}
use Rattle.outside.specs.Sink.{WritesFront}
use Rattle.marc_types.specs.declared.key.Key.{Key}
use Rattle.catalogue_rules.specs.State.{Row, State}
use Rattle.holdings.specs.Shelves.{ShelfRow}
use Rattle.holdings_export.specs.Output.{rows_with_holdings, holdings_export, lent_shelf}

-- on success the records of a state whose key is kept were written, with the holdings of a shelf
abbrev pub WritesHoldings : {X Y : Type 0} → Option (List ℕ) → Option (List ℕ) → State → List ShelfRow → Result X Y → (Key → Bool) → Type 0
WritesHoldings old new s shelf result keep = OnOk result (Appends old new (holdings_export keep s shelf))

-- a front of them was written
abbrev pub WritesHoldingsFront : Option (List ℕ) → Option (List ℕ) → State → List ShelfRow → (Key → Bool) → Type 0
WritesHoldingsFront old new s shelf keep = WritesFront old new (holdings_export keep s shelf)

-- on success the rows whose key is kept were written, each with its holdings on a shelf that may be lent
abbrev pub WritesRows : {X Y : Type 0} → Option (List ℕ) → Option (List ℕ) → Option (Bor (List ShelfRow)) → List Row → Result X Y → (Key → Bool) → Type 0
WritesRows old new shelf rows result keep = OnOk result (Appends old new (rows_with_holdings keep (lent_shelf shelf) rows))

-- a front of them was written
abbrev pub WritesRowsFront : Option (List ℕ) → Option (List ℕ) → Option (Bor (List ShelfRow)) → List Row → (Key → Bool) → Type 0
WritesRowsFront old new shelf rows keep = WritesFront old new (rows_with_holdings keep (lent_shelf shelf) rows)
