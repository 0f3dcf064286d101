-- What a journal's frames hold, and what is no journal. The rules are this project's own.
use Rattle.std.specs.Prelude.{◌≡◌, ℕ, List, [], ◌∷◌, ◌++◌, Ok, Err}
use Rattle.marc_types.specs.declared.entry.Entry.{Entry}
use Rattle.commit_journal.specs.declared.frame.Frame.{Frame}
use Rattle.commit_journal.specs.Log.{frames_of, payloads_of, version_of}
use Rattle.entry_history.specs.Payloads.{Holds, IsHistory}

-- the first frame whose payload isn't valid behind those before it has its gate at that place
pub record IsBadFrame (version : ℕ) (frames : List Frame) (place : ℕ) : Type 0 where
  pub front : List Frame
  pub bad : Frame
  pub behind : List Frame
  pub entries : List Entry
  pub split : frames ≡ front ++ bad ∷ behind
  pub history : IsHistory version [] (payloads_of front) entries
  pub invalid : (more : List Entry) → Holds version entries more bad.payload → ⊥
  pub at : bad.gate ≡ place

-- nothing that is a journal stands at that place, or it is the gate of a payload that isn't valid
pub data IsNoJournal (log : List ℕ) (place : ℕ) : Type 0 where
  NoGate : frames_of log ≡ Err place → IsNoJournal log place
  NoPayload : (frames : List Frame) → frames_of log ≡ Ok frames → IsBadFrame (version_of log) frames place → IsNoJournal log place
