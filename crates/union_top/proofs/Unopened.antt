-- Why a log isn't opened that has a history within a room's limits.
use Rattle.std.proofs.Common.{◌≡◌, ◌≢◌, ℕ, List, [], ◌∷◌, ◌++◌, Ok, Err, refl, sym, ap, subst, ◌∙◌}
use Rattle.std.proofs.Math.Logic.{∥∥₁_elim}
use Rattle.std.proofs.lemmas.List.{map-append}
use Rattle.marc_types.specs.declared.entry.Entry.{Entry}
use Rattle.outside.specs.Room.{RoomView}
use Rattle.console_lines.specs.declared.fault.Fault.TheVariants as fault
use Rattle.commit_journal.specs.declared.frame.Frame.{Frame}
use Rattle.commit_journal.specs.Log.{version_of, payloads_of}
use Rattle.entry_history.specs.Payloads.{Holds, IsHistory, NoMore, OneMore}
use Rattle.entry_history.proofs.Histories.{history_once}
use Rattle.durable_catalogue.specs.declared.fault.OpenFault.{OpenFault}
use Rattle.durable_catalogue.specs.declared.fault.OpenFault.TheVariants as opening
use Rattle.durable_catalogue.specs.Logs.{IsLogOf}
use Rattle.durable_catalogue.specs.Openings.{IsUnopened}
use Rattle.entry_history.specs.Frames.{IsBadFrame, NoGate, NoPayload}
use Rattle.entry_record.specs.History.{IsWithin}
use Rattle.journal_files.specs.Faults.{fault_of_opening}
use Rattle.journal_files.specs.Journals.{journal_limits, HasFittingHistory}
use Rattle.journal_files.proofs.Histories.{reading_once}
use mathlib.Core.HLevel.{⊥_prop}

-- a frame that isn't valid stands in no history
history_split : (version : ℕ) (before : List Entry) (front : List (List ℕ)) (bad : List ℕ) (behind : List (List ℕ)) (all : List Entry)
    → IsHistory version before (front ++ bad ∷ behind) all
    → (entries : List Entry) × IsHistory version before front entries × ((more : List Entry) × Holds version entries more bad)
history_split version before [] bad behind all (OneMore _ entries _ _ _ holds rest) = (before, NoMore before, (entries, holds))
history_split version before (first ∷ front) bad behind all (OneMore _ entries _ _ _ holds rest) =
    let later = history_split version (before ++ entries) front bad behind all rest in
    (later.0, OneMore before entries later.0 first front holds later.1, later.2)

no_bad_frame : (version : ℕ) (frames : List Frame) (place : ℕ) (entries : List Entry) → IsHistory version [] (payloads_of frames) entries
    → IsBadFrame version frames place → ⊥
no_bad_frame version frames place entries holds b =
    let payloads = ap payloads_of b.split ∙ map-append (λ f. f.payload) b.front (b.bad ∷ b.behind) in
    let split = history_split version [] (payloads_of b.front) b.bad.payload (payloads_of b.behind) entries (subst (λ ps. IsHistory version [] ps entries) payloads holds) in
    let same : split.0 ≡ b.entries = history_once version [] split.0 b.entries (payloads_of b.front) split.1 b.history in
    b.invalid split.2.0 (subst (λ es. Holds version es split.2.0 b.bad.payload) same split.2.1)

-- why a log isn't opened that has a history within the limits
abbrev pub MayBe : List ℕ → OpenFault → Type 0
MayBe log opening.DeviceFault = Unit {0}
MayBe log (opening.NotAJournal place) = ⊥
MayBe log opening.OldVersion = version_of log ≡ 1
MayBe log opening.Full = ⊥
MayBe log opening.NoMemory = Unit {0}

pub no_journal : (room : RoomView) (log : List ℕ) (place : ℕ) (entries : List Entry) → IsLogOf entries log → IsUnopened (journal_limits room) log (opening.NotAJournal place) → ⊥
no_journal room log place entries is (NoGate none) = let both : Ok is.frames ≡ Err place = sym is.found ∙ none in cc
no_journal room log place entries is (NoPayload frames found bad) =
    let same : is.frames ≡ frames = cc (is.found, found) in
    no_bad_frame (version_of log) frames place entries (subst (λ fs. IsHistory (version_of log) [] (payloads_of fs) entries) same is.holds) bad

pub may_be : (room : RoomView) (log : List ℕ) (of : OpenFault) → HasFittingHistory room log → IsUnopened (journal_limits room) log of → MayBe log of
may_be room log opening.DeviceFault fits so = tt
may_be room log (opening.NotAJournal place) fits so = ∥∥₁_elim fits ⊥_prop (λ f. no_journal room log place f.0 f.1 so)
may_be room log opening.OldVersion fits so = so.0
may_be room log opening.Full fits so = ∥∥₁_elim fits ⊥_prop (λ f. so.2 (subst (IsWithin (journal_limits room)) (reading_once f.0 so.0 log f.1 so.1) f.2))
may_be room log opening.NoMemory fits so = tt

-- a fault of an opening that remains
pub opening_well : (log : List ℕ) (reason : OpenFault) → reason ≢ opening.OldVersion → MayBe log reason → (fault_of_opening reason ≡ fault.Device → ⊥)
    → fault_of_opening reason ≡ fault.Memory
opening_well log opening.DeviceFault current may device = absurd (device refl)
opening_well log (opening.NotAJournal place) current may device = absurd may
opening_well log opening.OldVersion current may device = absurd (current refl)
opening_well log opening.Full current may device = absurd may
opening_well log opening.NoMemory current may device = refl
