-- What commits answer that follow one another. The rules are this project's own.
use Rattle.std.specs.Prelude.{ℕ, ◌==◌, List, [], ◌∷◌, ◌++◌, map, if◌then◌else◌}
use Rattle.marc_types.specs.declared.entry.Entry.{Entry}
use Rattle.marc_types.specs.declared.entry.Receipt.{Receipt}
use Rattle.catalogue_rules.specs.Settle.{arrival_of}
use Rattle.catalogue_rules.specs.Receipt.{receipt}

-- what the commit of one more entry behind a history answers
abbrev pub receipt_behind : List Entry → Entry → Receipt
receipt_behind history e = receipt (map arrival_of history) (arrival_of e)

-- the receipts of entries that are committed one after the other behind a history
unfoldable pub receipts_behind : List Entry → List Entry → List Receipt
receipts_behind history [] = []
receipts_behind history (e ∷ entries) = receipt_behind history e ∷ receipts_behind (history ++ e ∷ []) entries

-- those of one loader's entries among them, each at its own place
unfoldable pub receipts_of_loader : ℕ → List Entry → List Entry → List Receipt
receipts_of_loader loader history [] = []
receipts_of_loader loader history (e ∷ entries) =
    let later = receipts_of_loader loader (history ++ e ∷ []) entries in
    if e.loader == loader then receipt_behind history e ∷ later else later
