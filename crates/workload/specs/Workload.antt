-- A workload: records that a seed and a count determine, and their written forms one behind the other.
use Rattle.std.specs.Prelude.{◌≡◌, ℕ, zero, suc, ◌+◌, ◌/◌, List, [], ◌∷◌, Option, Some, None}
use Rattle.std.specs.List.{flat_map}
use Rattle.marc_types.specs.declared.record.Record.{Record}
use Rattle.workload.specs.Drafts.{draft_of, state_behind}
use Rattle.workload.specs.Records.{Contents, contents_of, contents_bytes}

-- so many records, from the one with a number and the draws from a state on
abbrev pub records_from : ℕ → ℕ → ℕ → ℕ → List Contents
records_from names zero number state = []
records_from names (suc left) number state =
    contents_of (draft_of names number state)
    ∷ records_from names left (number + 1) (state_behind names number state)

-- the records of a seed and a count, numbered from 1; there is a name for each 16 records, and one more
unfoldable pub workload : ℕ → ℕ → List Contents
workload seed count = records_from (1 + count / 16) count 1 seed

-- the written forms of a workload's records, in a row
unfoldable pub workload_bytes : ℕ → ℕ → List ℕ
workload_bytes seed count = flat_map contents_bytes (workload seed count)

-- the leader and fields of a record
abbrev pub contents_of_record : Record → Contents
contents_of_record rec = record { leader = rec.leader; fields = rec.fields }

-- of the records still to come the next one is given; none where there is none
abbrev pub GivesNext : List Contents → List Contents → Option Record → Type 0
GivesNext before after (Some rec) = before ≡ contents_of_record rec ∷ after
GivesNext before after None = (before ≡ []) × (after ≡ [])
