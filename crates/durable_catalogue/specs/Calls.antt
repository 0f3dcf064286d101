-- Calls of a catalogue over a journal, one after another.
use Rattle.std.specs.Prelude.{◌≡◌, ℕ, Bool, true, List, is_some}
use Rattle.outside.specs.declared.disk.Disk.{Ghosts}
use Rattle.durable_catalogue.specs.Lasting.{GoesOn, StartsWith}
use Rattle.durable_catalogue.specs.declared.durable.Durable.{Durable}

module _ {D : Type 0} {disk : Ghosts D} where
  -- whether the disk told its content when it was handed over
  abbrev pub has_told : Durable D disk → Bool
  has_told d = is_some (disk.seen d.before.value).content

  -- one call, whatever it answered
  pub record IsCall (old new : Durable D disk) : Type 0 where
    pub before : new.before ≡ old.before
    pub goes_on : GoesOn (has_told old) old.core.history new.core.history (disk.seen old.journal.disk) (disk.seen new.journal.disk)

  -- any number of calls
  pub data AreCalls (first : Durable D disk) : Durable D disk → Type 0 where
    NoCall : AreCalls first first
    OneCall : (old new : Durable D disk) → AreCalls first old → IsCall old new → AreCalls first new

  -- what was committed once stays, however many calls came since: what they may have left starts with it
  abbrev pub Outlasts : Durable D disk → (Durable D disk → List ℕ → Type 0) → Type 0
  Outlasts now Left = (earlier : Durable D disk) (c : List ℕ) → AreCalls earlier now → has_told earlier ≡ true → Left earlier c → StartsWith earlier.core.history c
