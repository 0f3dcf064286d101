-- How the commands end that only tell, where no fault of the input or of the console ended them.
use Rattle.std.proofs.Common.{◌≡◌, ◌⊎◌, inl, inr, ℕ, List, refl, subst}
use Rattle.std.proofs.Math.Logic.{∥∥₁_elim}
use Rattle.std.specs.Prelude.{IsSomeAnd}
use Rattle.outside.specs.Room.{RoomView}
use Rattle.console_lines.specs.Ends.{Outcome, IsAllDone, console_unwritten}
use Rattle.console_lines.specs.declared.end.End.{End}
use Rattle.console_lines.specs.declared.end.End.TheVariants.{Done, Refused, Unwritten, Told, BroughtInPart, Differ}
use Rattle.console_lines.specs.declared.end.Unwritten.TheVariants.{Out, Side, Pages, Console}
use Rattle.console_lines.specs.declared.fault.Fault.TheVariants as fault
use Rattle.durable_catalogue.specs.declared.fault.OpenFault.TheVariants as opening
use Rattle.durable_catalogue.specs.Openings.{IsUnopened}
use Rattle.journal_files.specs.Journals.{journal_limits}
use Rattle.entry_history.specs.Frames.{IsNoJournal}
use Rattle.journal_verification.specs.Verifying.{EndsVerifying, Verifies}
use Rattle.journal_verification.specs.Comparing.{EndsVerifyingDigest, VerifiesDigest, HasOtherDigest}
use Rattle.program_help.specs.Telling.{EndsTelling, Tells}
use Rattle.union_top.specs.Fits.{FitsVerify, FitsVerifyDigest}
use Rattle.union_top.proofs.Unopened.{no_journal}
use mathlib.Core.HLevel.{⊥_prop}

-- what is told to be no journal is none that is opened
unopened : (room : RoomView) (log : List ℕ) (place : ℕ) → IsNoJournal log place → IsUnopened (journal_limits room) log (opening.NotAJournal place)
unopened room log place none = none

verified_well : (end : End) → EndsVerifying end → (end ≡ console_unwritten → ⊥) → (end ≡ Told fault.Input → ⊥)
    → ((place : ℕ) → end ≡ Told (fault.NotAJournal place) → ⊥) → IsAllDone end ⊎ (end ≡ Told fault.Memory)
verified_well Done kind console input none = inl tt
verified_well Refused kind console input none = absurd kind
verified_well (Unwritten Out) kind console input none = absurd kind
verified_well (Unwritten Side) kind console input none = absurd kind
verified_well (Unwritten Pages) kind console input none = absurd kind
verified_well (Unwritten Console) kind console input none = absurd (console refl)
verified_well (Told fault.Usage) kind console input none = absurd kind
verified_well (Told fault.Input) kind console input none = absurd (input refl)
verified_well (Told fault.Device) kind console input none = absurd kind
verified_well (Told (fault.NotAJournal place)) kind console input none = absurd (none place refl)
verified_well (Told fault.Full) kind console input none = absurd kind
verified_well (Told fault.Memory) kind console input none = inr refl
verified_well (Told fault.OldVersion) kind console input none = absurd kind
verified_well (Told fault.OtherHistory) kind console input none = absurd kind
verified_well BroughtInPart kind console input none = absurd kind
verified_well Differ kind console input none = absurd kind

digested_well : (end : End) → EndsVerifyingDigest end → (end ≡ console_unwritten → ⊥) → (end ≡ Told fault.Input → ⊥)
    → ((place : ℕ) → end ≡ Told (fault.NotAJournal place) → ⊥) → (end ≡ Told fault.OtherHistory → ⊥) → IsAllDone end ⊎ (end ≡ Told fault.Memory)
digested_well Done kind console input none other = inl tt
digested_well Refused kind console input none other = absurd kind
digested_well (Unwritten Out) kind console input none other = absurd kind
digested_well (Unwritten Side) kind console input none other = absurd kind
digested_well (Unwritten Pages) kind console input none other = absurd kind
digested_well (Unwritten Console) kind console input none other = absurd (console refl)
digested_well (Told fault.Usage) kind console input none other = absurd kind
digested_well (Told fault.Input) kind console input none other = absurd (input refl)
digested_well (Told fault.Device) kind console input none other = absurd kind
digested_well (Told (fault.NotAJournal place)) kind console input none other = absurd (none place refl)
digested_well (Told fault.Full) kind console input none other = absurd kind
digested_well (Told fault.Memory) kind console input none other = inr refl
digested_well (Told fault.OldVersion) kind console input none other = absurd kind
digested_well (Told fault.OtherHistory) kind console input none other = absurd (other refl)
digested_well BroughtInPart kind console input none other = absurd kind
digested_well Differ kind console input none other = absurd kind

told_well : (end : End) → EndsTelling end → (end ≡ console_unwritten → ⊥) → IsAllDone end ⊎ (end ≡ Told fault.Memory)
told_well Done kind console = inl tt
told_well Refused kind console = absurd kind
told_well (Unwritten Out) kind console = absurd kind
told_well (Unwritten Side) kind console = absurd kind
told_well (Unwritten Pages) kind console = absurd kind
told_well (Unwritten Console) kind console = absurd (console refl)
told_well (Told why) kind console = absurd kind
told_well BroughtInPart kind console = absurd kind
told_well Differ kind console = absurd kind

module _ (o : Outcome) where
  -- a file that fits is a journal
  is_journal : (journal : List ℕ) (f : FitsVerify o.old journal) (place : ℕ) → IsSomeAnd (o.old.file journal) (λ log. IsNoJournal log place) → ⊥
  is_journal journal f place some =
      let none : IsNoJournal f.bytes place = subst (λ file. IsSomeAnd file (λ log. IsNoJournal log place)) f.there some in
      ∥∥₁_elim f.was ⊥_prop (λ history. no_journal o.old f.bytes place f.entries history (unopened o.old f.bytes place none))

  pub verify_well : (journal : List ℕ) → Verifies journal o → FitsVerify o.old journal
      → (o.end ≡ console_unwritten → ⊥) → (o.end ≡ Told fault.Input → ⊥) → IsAllDone o.end ⊎ (o.end ≡ Told fault.Memory)
  verify_well journal v f no_console no_input =
      verified_well o.end v.ends no_console no_input (λ place is. is_journal journal f place (v.none place is f.tells))

  pub digest_well : (journal : List ℕ) (count : ℕ) (digits : List ℕ) → VerifiesDigest journal count digits o → FitsVerifyDigest o.old journal count digits
      → (o.end ≡ console_unwritten → ⊥) → (o.end ≡ Told fault.Input → ⊥) → IsAllDone o.end ⊎ (o.end ≡ Told fault.Memory)
  digest_well journal count digits v f no_console no_input =
      digested_well o.end v.ends no_console no_input (λ place is. is_journal journal f.verify place (v.none place is f.verify.tells))
      (λ is.
      let of_other : HasOtherDigest count digits f.verify.bytes =
      subst (λ file. IsSomeAnd file (HasOtherDigest count digits)) f.verify.there (v.other is f.verify.tells) in
      of_other.other f.own)

  pub tells_well : (text : List ℕ) → Tells text o → (o.end ≡ console_unwritten → ⊥) → IsAllDone o.end ⊎ (o.end ≡ Told fault.Memory)
  tells_well text t no_console = told_well o.end t.ends no_console
