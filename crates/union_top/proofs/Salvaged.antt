-- A salvage that fits ends well, or memory ran out, where no fault of the input, of a device or of the console ended it.
use Rattle.std.proofs.Common.{◌≡◌, ◌⊎◌, inl, inr, ℕ, true, List, [], Some, refl, sym, ap, subst, ◌∙◌, arith}
use Rattle.std.specs.Prelude.{IsSomeAnd}
use Rattle.marc_types.specs.declared.entry.Entry.{Entry}
use Rattle.marc_types.specs.declared.entry.Limits.{Limits}
use Rattle.outside.specs.Room.{RoomView}
use Rattle.console_lines.specs.Ends.{Outcome, IsAllDone, TellsNoFault, end_status, console_unwritten}
use Rattle.console_lines.specs.Faults.{fault_status}
use Rattle.console_lines.specs.declared.end.End.{End}
use Rattle.console_lines.specs.declared.end.End.TheVariants.{Done, Refused, Unwritten, Told, BroughtInPart, Differ}
use Rattle.console_lines.specs.declared.end.Unwritten.TheVariants.{Out, Side, Pages, Console}
use Rattle.console_lines.specs.declared.fault.Fault.{Fault}
use Rattle.console_lines.specs.declared.fault.Fault.TheVariants as fault
use Rattle.entry_record.specs.History.{IsWithin}
use Rattle.journal_files.specs.Journals.{journal_limits, log_bytes}
use Rattle.journal_files.proofs.Histories.{reading_once}
use Rattle.migrate_command.specs.Migrations.{Begins, IsFit, IsUnmigrated}
use Rattle.migrate_command.specs.declared.fault.MigrateFault.{MigrateFault}
use Rattle.migrate_command.specs.declared.fault.MigrateFault.TheVariants as migrating
use Rattle.migrate_command.specs.Told.{fault_of_migrating}
use Rattle.sound_frames.specs.Sound.{SoundPart, IsSoundOf}
use Rattle.sound_frames.proofs.Once.{sound_once}
use Rattle.salvage_command.specs.Salvages.{EndsSalvaging, Salvages, WhyNot, Nothing, TooMuch, NotTaken, WasFit}
use Rattle.union_top.specs.Fits.{FitsSalvage}
use Rattle.union_top.specs.Misfits.{HasNothingSound, IsStatus}
use Rattle.union_top.proofs.Looking.{by_fault, with_bytes}
use Rattle.union_top.proofs.Unopened.{no_journal}

salvaged_well : (end : End) → EndsSalvaging end → (end ≡ console_unwritten → ⊥) → ((why : Fault) → end ≡ Told why → why ≡ fault.Memory)
    → IsAllDone end ⊎ (end ≡ Told fault.Memory)
salvaged_well Done kind console told = inl tt
salvaged_well Refused kind console told = absurd kind
salvaged_well (Unwritten Out) kind console told = absurd kind
salvaged_well (Unwritten Side) kind console told = absurd kind
salvaged_well (Unwritten Pages) kind console told = absurd kind
salvaged_well (Unwritten Console) kind console told = absurd (console refl)
salvaged_well (Told why) kind console told = inr (ap Told (told why refl))
salvaged_well BroughtInPart kind console told = absurd kind
salvaged_well Differ kind console told = absurd kind

-- a log that is fit for a history takes it, where memory and its device allow
fit_well : (room : RoomView) (history entries : List Entry) (log : List ℕ) → IsFit (journal_limits room) history entries log → (reason : MigrateFault)
    → IsUnmigrated (journal_limits room) history log reason → (fault_of_migrating reason ≡ fault.Device → ⊥) → fault_of_migrating reason ≡ fault.Memory
fit_well room history entries log fit migrating.DeviceFault why device = absurd (device refl)
fit_well room history entries log fit (migrating.NotAJournal place) why device = absurd (no_journal room log place entries fit.has why)
fit_well room history entries log fit migrating.OldVersion why device = absurd (let both : 1 ≡ 2 = sym why.0 ∙ fit.version in cc)
fit_well room history entries log fit migrating.Full why device =
    absurd (why.1.2 (subst (IsWithin (journal_limits room)) (reading_once entries why.1.0 log fit.has why.1.1) fit.within.new_within))
fit_well room history entries log fit migrating.NotPrefix why device =
    absurd (why.1.3 (subst (Begins history) (reading_once entries why.1.0 log fit.has why.1.1) fit.begins))
fit_well room history entries log fit migrating.NoMemory why device = refl

module _ (o : Outcome) (journal into : List ℕ) (s : Salvages journal into o) (f : FitsSalvage o.old journal into) (no_input : o.end ≡ Told fault.Input → ⊥)
    (no_device : o.end ≡ Told fault.Device → ⊥) (no_console : o.end ≡ console_unwritten → ⊥) where
  taken : (why : Fault) → (why ≡ fault.Device → ⊥) → WhyNot o.old o.new f.all into why → why ≡ fault.Memory
  taken why device (Nothing place is none same) = absurd (f.fit.worth.something place none)
  taken why device (TooMuch is large same) = absurd (large f.fit.worth.within)
  taken why device (NotTaken reason is worth so) =
      is ∙ fit_well o.old f.all.entries f.fit.before (log_bytes o.old into) f.fit.fit reason so (λ failed. device (is ∙ failed))

  remains : (why : Fault) → o.end ≡ Told why → why ≡ fault.Memory
  remains = by_fault o.end (λ why. why ≡ fault.Memory) no_input refl (λ why is input memory.
      let device : why ≡ fault.Device → ⊥ = λ failed. no_device (is ∙ ap Told failed) in
      let so = subst (λ file. IsSomeAnd file (λ log. (all : SoundPart) × IsSoundOf log all × WhyNot o.old o.new all into why)) f.there
      (s.so why is input memory f.tells) in
      taken why device (subst (λ all. WhyNot o.old o.new all into why) (sound_once f.bytes so.0 f.all so.1 f.sound) so.2))

  pub salvages_well : IsAllDone o.end ⊎ (o.end ≡ Told fault.Memory)
  salvages_well = salvaged_well o.end s.ends no_console remains

-- no entry is within any limits
none_within : (limits : Limits) (entries : List Entry) → entries ≡ [] → IsWithin limits entries
none_within limits entries none = subst (IsWithin limits) (sym none) (record { count = omega arith; size = omega arith })

untold_status : (end : End) → EndsSalvaging end → (TellsNoFault end → ⊥) → ((why : Fault) → end ≡ Told why → IsStatus 6 (fault_status why))
    → IsStatus 6 (end_status end)
untold_status Done kind untold told = absurd (untold tt)
untold_status Refused kind untold told = absurd kind
untold_status (Unwritten which) kind untold told = absurd (untold tt)
untold_status (Told why) kind untold told = told why refl
untold_status BroughtInPart kind untold told = absurd kind
untold_status Differ kind untold told = absurd kind

-- nothing is sound of these bytes
module _ (o : Outcome) (journal into : List ℕ) (s : Salvages journal into o) (tells : o.old.tells ≡ true) (no_input : o.end ≡ Told fault.Input → ⊥)
    (bytes : List ℕ) (there : o.old.file journal ≡ Some bytes) (none : HasNothingSound bytes) where
  not_brought : (why : Fault) → WhyNot o.old o.new none.all into why → IsStatus 6 (fault_status why)
  not_brought why (Nothing place is nothing same) = inl (ap fault_status is)
  not_brought why (TooMuch is large same) = absurd (large (none_within (journal_limits o.old) none.all.entries none.nothing.none))
  not_brought why (NotTaken reason is worth so) = absurd (worth.something none.place none.nothing)

  none_brought : TellsNoFault o.end → ⊥
  none_brought untold =
      let so = subst (λ file. IsSomeAnd file (λ log. (all : SoundPart) × IsSoundOf log all × WasFit o.old all into)) there (s.fit untold tells) in
      let fit = subst (λ all. WasFit o.old all into) (sound_once bytes so.0 none.all so.1 none.sound) so.2 in
      fit.worth.something none.place none.nothing

  nothing_status : IsStatus 6 (end_status o.end)
  nothing_status =
      untold_status o.end s.ends none_brought
      (by_fault o.end (λ why. IsStatus 6 (fault_status why)) no_input (inr refl) (λ why is input memory.
      let so = subst (λ file. IsSomeAnd file (λ log. (all : SoundPart) × IsSoundOf log all × WhyNot o.old o.new all into why)) there (s.so why is input memory tells) in
      not_brought why (subst (λ all. WhyNot o.old o.new all into why) (sound_once bytes so.0 none.all so.1 none.sound) so.2)))

pub none_salvaged : (o : Outcome) (journal into : List ℕ) → Salvages journal into o → o.old.tells ≡ true → (o.end ≡ Told fault.Input → ⊥)
    → IsSomeAnd (o.old.file journal) HasNothingSound → IsStatus 6 (end_status o.end)
none_salvaged o journal into s tells no_input none =
    with_bytes (o.old.file journal) none (λ bytes there so. nothing_status o journal into s tells no_input bytes there so)
