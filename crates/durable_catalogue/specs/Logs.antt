-- The history that a log holds. The rules are this project's own.
use Rattle.std.specs.Prelude.{◌≡◌, ℕ, List, [], Ok}
use Rattle.marc_types.specs.declared.entry.Entry.{Entry}
use Rattle.commit_journal.specs.declared.frame.Frame.{Frame}
use Rattle.commit_journal.specs.Log.{frames_of, version_of, payloads_of}
use Rattle.entry_history.specs.Payloads.{IsHistory}

-- a log is read as these entries: it is a journal, and its payloads, up to its first closed gate, are each valid behind those
-- before it
pub record IsLogOf (entries : List Entry) (log : List ℕ) : Type 0 where
  pub frames : List Frame
  pub found : frames_of log ≡ Ok frames
  pub holds : IsHistory (version_of log) [] (payloads_of frames) entries

-- the log has this history
abbrev pub HasHistory : List Entry → List ℕ → Type 0
HasHistory entries log = ∥ IsLogOf entries log ∥₁
