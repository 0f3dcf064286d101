-- Batches: entries that are committed together, and their payload. The rules are this project's own.
use Rattle.std.specs.Prelude.{◌≡◌, ℕ, ◌≤◌, List, [], ◌∷◌, length, All}
use Rattle.std.specs.List.{AllPairs}
use Rattle.marc_types.specs.declared.entry.Entry.{Entry}
use Rattle.entry_record.specs.History.{IsAdmitted}
use Rattle.entry_history.specs.Format.{payload_bytes}

-- two entries of one run, one loader and one library
pub record IsLike (one other : Entry) : Type 0 where
  pub run : one.run ≡ other.run
  pub loader : one.loader ≡ other.loader
  pub library : one.library ≡ other.library

-- at most 32 admitted entries of one run, one loader and one library
pub record IsBatch (entries : List Entry) : Type 0 where
  pub few : length entries ≤ 32
  pub admitted : All IsAdmitted entries
  pub alike : AllPairs IsLike entries

-- the payload of a batch; none of no entries
abbrev pub batch_payload : List Entry → List ℕ
batch_payload [] = []
batch_payload (e ∷ es) = payload_bytes e.run e.loader e.library (e ∷ es)

-- a batch, and its payload beside it
pub record IsLaidOut (entries : List Entry) (payload : List ℕ) : Type 0 where
  pub batch : IsBatch entries
  pub payload_is : payload ≡ batch_payload entries
