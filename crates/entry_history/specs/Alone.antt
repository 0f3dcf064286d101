-- What is kept of an entry as its payload.
use Rattle.std.specs.Prelude.{◌≡◌, ℕ, zero, suc, List, [], ◌∷◌}
use Rattle.marc_types.specs.declared.entry.Entry.{Entry}
use Rattle.entry_history.specs.Format.{payload_of}
use Rattle.entry_history.specs.Payloads.{IsEntry}

-- the entry can stand in a payload, and this is its own
pub record IsPayload (e : Entry) (payload : List ℕ) : Type 0 where
  pub entry : IsEntry e
  pub is : payload ≡ payload_of e

-- the payload is one entry's own
pub record HoldsOne (payload : List ℕ) : Type 0 where
  pub entry : Entry
  pub is : IsPayload entry payload

-- an entry so many times
abbrev pub copies : ℕ → Entry → List Entry
copies zero e = []
copies (suc n) e = e ∷ copies n e
