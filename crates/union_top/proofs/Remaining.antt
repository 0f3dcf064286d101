-- The faults that a loading may end with where its history and its files' accepted entries are within the limits.
use Rattle.std.proofs.Common.{◌≡◌, inl, inr, ℕ, ◌+◌, ◌<◌, ◌≤◌, Bool, true, false, List, ◌++◌, length, Some, None, refl, sym, subst, arith, if◌then◌else◌}
use Rattle.std.specs.Prelude.{All}
use Rattle.std.specs.List.{sum_by}
use Rattle.std.proofs.Math.Logic.{∥∥₁_elim}
use Rattle.marc_types.specs.declared.entry.Entry.{Entry}
use Rattle.outside.specs.Room.{RoomView}
use Rattle.command_words.specs.declared.library.Library.{Library}
use Rattle.commit_journal.specs.Log.{version_of}
use Rattle.entry_record.specs.History.{entries_size, IsWithin}
use Rattle.console_lines.specs.declared.fault.Fault.{Fault}
use Rattle.console_lines.specs.declared.fault.Fault.TheVariants as fault
use Rattle.durable_catalogue.specs.declared.fault.OpenFault.{OpenFault}
use Rattle.durable_catalogue.specs.declared.fault.OpenFault.TheVariants as opening
use Rattle.durable_catalogue.specs.Durables.{marked}
use Rattle.loader_workers.specs.declared.file_end.FileEnd.TheVariants as end
use Rattle.loader_workers.specs.declared.result.FileResult.{FileResult}
use Rattle.journal_files.specs.Journals.{journal_limits, log_bytes, HasFittingHistory}
use Rattle.journal_files.proofs.Histories.{fitting_history, reading_once}
use Rattle.loading_commands.specs.Outcomes.{IsLoadedInPart, IsUnbegun, Unopened, Unbegun, IsLoadingFault, NotBegun, InPart, any_ends, loading_fault}
use Rattle.journal_files.specs.Faults.{fault_of_opening}
use Rattle.loading_commands.specs.Runs.{WhyNotLoad}
use Rattle.loading_commands.specs.Runs as runs
use Rattle.union_top.proofs.Judgements.{FitsJudged}
use Rattle.union_top.proofs.Crowded.{all_parts, crowded, never_crowded}
use Rattle.union_top.proofs.Unopened.{MayBe, may_be}
use mathlib.Core.HLevel.{⊥_prop}

-- a fault that a loading may end with, which nothing but a count hinders
abbrev pub Remains : Fault → Type 0
Remains fault.Usage = Unit {0}
Remains fault.Input = Unit {0}
Remains fault.Device = Unit {0}
Remains (fault.NotAJournal place) = ⊥
Remains fault.Full = ⊥
Remains fault.Memory = Unit {0}
Remains fault.OldVersion = ⊥
Remains fault.OtherHistory = ⊥

of_opening : (log : List ℕ) (of : OpenFault) (why : Fault) → why ≡ fault_of_opening of → version_of log ≡ 2 → MayBe log of → Remains why
of_opening log opening.DeviceFault why is version may = subst Remains (sym is) tt
of_opening log (opening.NotAJournal place) why is version may = absurd may
of_opening log opening.OldVersion why is version may = absurd (omega (arith, version, may))
of_opening log opening.Full why is version may = absurd may
of_opening log opening.NoMemory why is version may = subst Remains (sym is) tt

some_same : {A : Type 0} {x y : A} → Some x ≡ Some y → x ≡ y
some_same is = cc

chosen : (a b c d : Bool) (why : Fault) → (if a then Some fault.Device else if b then Some fault.Full else if c then Some fault.Input else if d then Some fault.Memory else None) ≡ Some why
    → (b ≡ true → ⊥) → Remains why
chosen true b c d why is none = subst Remains (some_same is) tt
chosen false true c d why is none = absurd (none refl)
chosen false false true d why is none = subst Remains (some_same is) tt
chosen false false false true why is none = subst Remains (some_same is) tt
chosen false false false false why is none = let no : None ≡ Some why = is in cc

of_results : (results : List FileResult) (why : Fault) → loading_fault results ≡ Some why → (any_ends end.Full results ≡ true → ⊥) → Remains why
unfolding loading_fault
of_results results why is none =
    chosen (any_ends end.DeviceFault results) (any_ends end.Full results) (any_ends end.ReadFault results) (any_ends end.NoMemory results) why is none

module _ (old new : RoomView) (journal : List ℕ) (libraries : List Library) (tells : old.tells ≡ true) (fits : FitsJudged old journal libraries) where
  history_within : IsWithin (journal_limits old) fits.before
  history_within = record { count = omega (arith, fits.count); size = omega (arith, fits.size) }

  fitting : HasFittingHistory old (log_bytes old journal)
  fitting = fitting_history old fits.before (log_bytes old journal) fits.was history_within

  never_full : (why : Fault) (p : IsLoadedInPart old new journal libraries why) → any_ends end.Full p.results ≡ true → ⊥
  never_full why p full =
      ∥∥₁_elim (p.opened.history tells) ⊥_prop (λ is. ∥∥₁_elim fits.was ⊥_prop (λ was.
      let same : fits.before ≡ p.before = reading_once fits.before p.before (log_bytes old journal) was is in
      let below : All (λ (e : Entry). e.loader < 0 + length libraries) (p.added ++ marked p.mark) =
      subst (λ n. All (λ (e : Entry). e.loader < n) (p.added ++ marked p.mark)) (omega arith) p.loaded.loaders in
      let both = all_parts (λ (e : Entry). e.loader < 0 + length libraries) p.added (marked p.mark) below in
      let few = subst (λ es. length es + sum_by length fits.accepted ≤ (journal_limits old).entries) same fits.count in
      let small = subst (λ es. entries_size es + sum_by entries_size fits.accepted ≤ (journal_limits old).bytes) same fits.size in
      never_crowded old p.before p.added p.mark fits.accepted few small
      (crowded old p.before p.added p.mark 0 libraries fits.accepted fits.refused p.results both.0 both.1 fits.judged p.loaded.files full)))

  of_unbegun : (why : Fault) → IsUnbegun old new journal libraries why → Remains why
  of_unbegun why (Unopened of is so current keeps) = of_opening (log_bytes old journal) of why is fits.version (may_be old (log_bytes old journal) of fitting so)
  of_unbegun why (Unbegun before o (inl input) opened closed unread) = subst Remains (sym input) tt
  of_unbegun why (Unbegun before o (inr memory) opened closed unread) = subst Remains (sym memory) tt

  of_loading : (why : Fault) → IsLoadingFault old new journal libraries why → Remains why
  of_loading why (NotBegun u) = of_unbegun why u
  of_loading why (InPart p) = of_results p.results why p.faulty (never_full why p)

  pub of_load : (why : Fault) → WhyNotLoad old new journal libraries why → Remains why
  of_load why (runs.NotLoaded is) = of_loading why is
  of_load why (runs.NoMemory memory loaded) = subst Remains (sym memory) tt
