-- The payload of a journal's frame. The format is this project's own: what all its entries share, their number, and each
-- entry's ordinal and record.
use Rattle.std.specs.Prelude.{ℕ, List, [], ◌∷◌, ◌++◌, length}
use Rattle.std.specs.Int.{w32, w64, to_be_bytes}
use Rattle.std.specs.List.{flat_map}
use Rattle.marc_types.specs.declared.entry.Entry.{Entry}
use Rattle.iso2709_record.specs.Written.{record_length, record_bytes}

-- the run, the loader, the library code behind its length, and the number of entries
unfoldable pub payload_head : ℕ → ℕ → List ℕ → ℕ → List ℕ
payload_head run loader library count =
    to_be_bytes w64 run ++ to_be_bytes w32 loader ++ length library ∷ library ++ count ∷ []

-- the ordinal, and the written record behind its length
unfoldable pub entry_bytes : Entry → List ℕ
entry_bytes e =
    to_be_bytes w64 e.ordinal ++ to_be_bytes w32 (record_length e.rec.fields) ++ record_bytes e.rec.leader e.rec.fields

-- the payload of entries that share a run, a loader and a library code
unfoldable pub payload_bytes : ℕ → ℕ → List ℕ → List Entry → List ℕ
payload_bytes run loader library entries =
    payload_head run loader library (length entries) ++ flat_map entry_bytes entries

-- the payload of one entry
abbrev pub payload_of : Entry → List ℕ
payload_of e = payload_bytes e.run e.loader e.library (e ∷ [])
