-- What is seen of a log, gate by gate.
use Rattle.std.specs.Prelude.{◌≡◌, ℕ, ◌<◌, ◌+◌, ◌≤◌, Bool, true, false, List, [], ◌∷◌, ◌++◌, length, drop, Option, Some, None}
use Rattle.marc_types.specs.declared.entry.Entry.{Entry}
use Rattle.commit_journal.specs.declared.format.TheConstants.{FIRST_GATE}
use Rattle.commit_journal.specs.Log.{has_frame}
use Rattle.commit_journal.specs.Tails.{tail_behind}
use Rattle.entry_record.specs.History.{entries_size}
use Rattle.entry_history.specs.Readers.{HasExtent}
use Rattle.entry_history.specs.declared.extent.Extent.{Extent}
use Rattle.journal_verification.specs.Coming.{Comes}
use Rattle.sound_frames.specs.declared.damage.Damage.{Damage}
use Rattle.sound_frames.specs.declared.looking.Ahead.{Ahead}
use Rattle.sound_frames.specs.declared.looking.Ahead.TheVariants.{NoFrame, NotValid, Sound}
use Rattle.sound_frames.specs.declared.damage.Reason.TheVariants.{NoFrame as Unframed, NotValid as Invalid}
use Rattle.sound_frames.specs.declared.stepping.Ending.{Ending}
use Rattle.sound_frames.specs.declared.stepping.Ending.TheVariants as ending
use Rattle.sound_frames.specs.declared.stepping.Stepped.{Stepped}
use Rattle.sound_frames.specs.declared.stepping.Stepped.TheVariants.{Ended, Passed}
use Rattle.sound_frames.specs.Sound.{is_closed_gate, behind_gate, next_gate, IsSound, HasNone, HasNoTwo, MayPass, closed_damage, tail_damage, IsSoundFrom}

-- what was seen behind the gate at that place, behind some entries; the extent is that of all up to there
abbrev pub Sees : ℕ → List ℕ → ℕ → List Entry → Ahead → Extent → Type 0
Sees version log place before NoFrame extent = (has_frame (behind_gate log place) ≡ false) × HasExtent before extent
Sees version log place before NotValid extent =
    (has_frame (behind_gate log place) ≡ true) × HasNone version log place before × HasExtent before extent
Sees version log place before (Sound items) extent = IsSound version log place before items.items × HasExtent (before ++ items.items) extent

-- a sound frame was seen
abbrev pub IsSoundAhead : Ahead → Type 0
IsSoundAhead NoFrame = ⊥
IsSoundAhead NotValid = ⊥
IsSoundAhead (Sound items) = Unit {0}

-- a damage, or none, as a list
abbrev pub as_list : Option Damage → List Damage
as_list (Some damage) = damage ∷ []
as_list None = []

-- Reading ends at the gate at that place: it is closed, and no two sound frames stand behind it; or it is open, and behind it stands no whole
-- frame, or one whose payload isn't valid.
abbrev pub EndsBy : ℕ → List ℕ → ℕ → List Entry → Ending → Type 0
EndsBy version log place before ending.Closed = (is_closed_gate log place ≡ true) × HasNoTwo version log place before
EndsBy version log place before ending.NoFrame = (is_closed_gate log place ≡ false) × (has_frame (behind_gate log place) ≡ false)
EndsBy version log place before ending.NotValid =
    (is_closed_gate log place ≡ false) × (has_frame (behind_gate log place) ≡ true) × HasNone version log place before

-- the damage of such an end, where the log has so many bytes
abbrev pub ending_damage : ℕ → Ending → ℕ → List Damage
ending_damage place ending.Closed bytes = tail_damage place (tail_behind place bytes)
ending_damage place ending.NoFrame bytes = record { place = place; reason = Unframed } ∷ []
ending_damage place ending.NotValid bytes = record { place = place; reason = Invalid } ∷ []

-- The gate at that place, of which another place is told, was passed: its frame's entries came behind those before, and this was seen behind
-- the next gate.
pub record HasPassed (version : ℕ) (log : List ℕ) (place told : ℕ) (before : List Entry) (damages : List Damage) (now : List Entry) (damages_now : List Damage)
    (extent : Extent) (next : ℕ) (ahead : Ahead) : Type 0 where
  pub entries : List Entry
  pub sound : IsSound version log place before entries
  pub may : MayPass version log place (before ++ entries)
  pub now_is : now ≡ before ++ entries
  pub gate : damages_now ≡ damages ++ closed_damage (is_closed_gate log place) told
  pub next_is : next ≡ next_gate log place
  pub within : next < length log
  pub further : place < next
  pub seen : Sees version log next now ahead extent

-- reading ended at that place, and nothing was taken
pub record HasEnded (version : ℕ) (log : List ℕ) (place : ℕ) (before : List Entry) (damages : List Damage) (now : List Entry) (damages_now : List Damage)
    (why : Ending) : Type 0 where
  pub ends : EndsBy version log place before why
  pub now_is : now ≡ before
  pub damages_are : damages_now ≡ damages

-- a step from the gate at that place
abbrev pub HasStepped : ℕ → List ℕ → ℕ → ℕ → List Entry → List Damage → List Entry → List Damage → Extent → Stepped → Type 0
HasStepped version log place told before damages now damages_now extent (Ended why) = HasEnded version log place before damages now damages_now why
HasStepped version log place told before damages now damages_now extent (Passed next ahead) =
    HasPassed version log place told before damages now damages_now extent next ahead

-- a step leads no further than the bytes that it looks at
abbrev pub IsInside : List ℕ → ℕ → Stepped → Type 0
IsInside log place (Ended why) = Unit {0}
IsInside log place (Passed next ahead) = (place < next) × (next < length log)

-- The window of a log from that place on: what is still to come behind it stands behind it in the log, and is nothing where no more comes.
pub record IsWindowOf (log : List ℕ) (place : ℕ) (window : List ℕ) (left : Option (List ℕ)) (more : Bool) : Type 0 where
  pub comes : Comes window left (drop place log)
  pub all : more ≡ false → drop place log ≡ window

-- the bytes of a log from that place on are still to come
pub record ComesBehind (log : List ℕ) (place : ℕ) (window : List ℕ) (left : Option (List ℕ)) : Type 0 where
  pub within : place ≤ length log
  pub comes : Comes window left (drop place log)

-- whether the first frame of a log is sound as of a version
abbrev pub BeginsAs : ℕ → List ℕ → Bool → Type 0
BeginsAs version log true = (entries : List Entry) × IsSound version log FIRST_GATE [] entries
BeginsAs version log false = HasNone version log FIRST_GATE []

-- from the first gate on this was found, behind those damages, and reading ended at that gate
pub record HasReadOn (version : ℕ) (log : List ℕ) (damages : List Damage) (entries : List Entry) (damages_now : List Damage) (end : ℕ) (why : Ending) : Type 0 where
  pub more : List Damage
  pub found : (last : List Damage) → last ≡ ending_damage end why (length log)
      → IsSoundFrom version log FIRST_GATE [] (record { entries = entries; damages = more ++ last; end = end })
  pub now_is : damages_now ≡ damages ++ more

-- what is left of so many bytes behind entries; none where those have more
abbrev pub HasLeft : ℕ → List Entry → Option ℕ → Type 0
HasLeft bytes entries (Some left) = entries_size entries + left ≡ bytes
HasLeft bytes entries None = bytes < entries_size entries
