-- A command whose journal can't be used ends with the status that says why, or memory ran out, where no count of faults rose.
use Rattle.std.proofs.Common.{◌≡◌, inl, inr, ℕ, List, Bool, true, false, Some, None, refl, sym, ap, subst, ◌∙◌, arith, if◌then◌else◌}
use Rattle.std.proofs.Math.Logic.{∥∥₁_elim}
use Rattle.marc_types.specs.declared.entry.Entry.{Entry}
use Rattle.outside.specs.Room.{RoomView}
use Rattle.commit_journal.specs.Log.{version_of}
use Rattle.command_words.specs.declared.library.Library.{Library}
use Rattle.entry_record.specs.History.{IsWithin}
use Rattle.console_lines.specs.Ends.{IsAllDone, IsCommon, end_status, out_unwritten, side_unwritten, pages_unwritten, console_unwritten}
use Rattle.console_lines.specs.Faults.{fault_status}
use Rattle.console_lines.specs.declared.end.End.{End}
use Rattle.console_lines.specs.declared.end.End.TheVariants.{Done, Refused, Unwritten, Told, BroughtInPart, Differ}
use Rattle.console_lines.specs.declared.end.Unwritten.TheVariants as unwritten
use Rattle.console_lines.specs.declared.fault.Fault.{Fault}
use Rattle.console_lines.specs.declared.fault.Fault.TheVariants as fault
use Rattle.durable_catalogue.specs.Logs.{HasHistory}
use Rattle.durable_catalogue.specs.Openings.{IsUnopened}
use Rattle.durable_catalogue.specs.declared.fault.OpenFault.{OpenFault}
use Rattle.durable_catalogue.specs.declared.fault.OpenFault.TheVariants as opening
use Rattle.loader_workers.specs.declared.file_end.FileEnd.TheVariants as end
use Rattle.journal_files.specs.Faults.{fault_of_opening}
use Rattle.journal_files.specs.Journals.{journal_limits, log_bytes, HasFittingHistory}
use Rattle.journal_files.proofs.Histories.{reading_once}
use Rattle.loading_commands.specs.Outcomes.{Unopened, Unbegun, IsLoadingFault, NotBegun, InPart, any_ends, loading_fault}
use Rattle.union_top.specs.Misfits.{IsNoHistory, IsOfVersion, IsTooLarge, IsStatus}
use Rattle.union_top.proofs.Unopened.{no_journal}
use mathlib.Core.HLevel.{⊥_prop}

-- ---- an opening

-- a log that has a history is no journal nowhere
has_journal : (room : RoomView) (log : List ℕ) (entries : List Entry) (place : ℕ) → HasHistory entries log → IsUnopened (journal_limits room) log (opening.NotAJournal place) → ⊥
has_journal room log entries place has so = ∥∥₁_elim has ⊥_prop (λ is. no_journal room log place entries is so)

module _ (room : RoomView) (log : List ℕ) where
  pub none_opened : IsNoHistory log → (of : OpenFault) → IsUnopened (journal_limits room) log of → (fault_of_opening of ≡ fault.Device → ⊥)
      → IsStatus 6 (fault_status (fault_of_opening of))
  none_opened none opening.DeviceFault so device = absurd (device refl)
  none_opened none (opening.NotAJournal place) so device = inl refl
  none_opened none opening.OldVersion so device = absurd (none so.1.0 ∣ so.1.1 ∣₁)
  none_opened none opening.Full so device = absurd (none so.0 ∣ so.1 ∣₁)
  none_opened none opening.NoMemory so device = inr refl

  pub old_opened : IsOfVersion 1 log → (of : OpenFault) → IsUnopened (journal_limits room) log of → (of ≡ opening.Full → version_of log ≡ 2)
      → (fault_of_opening of ≡ fault.Device → ⊥) → IsStatus 9 (fault_status (fault_of_opening of))
  old_opened old opening.DeviceFault so current device = absurd (device refl)
  old_opened old (opening.NotAJournal place) so current device = absurd (has_journal room log old.entries place old.has so)
  old_opened old opening.OldVersion so current device = inl refl
  old_opened old opening.Full so current device =
      let newest : version_of log ≡ 2 = current refl in
      let oldest : version_of log ≡ 1 = old.version_is in
      absurd (omega (arith, oldest, newest))
  old_opened old opening.NoMemory so current device = inr refl

  pub large_opened : (entries : List Entry) → HasHistory entries log → (of : OpenFault) → IsUnopened (journal_limits room) log of → (of ≡ opening.OldVersion → ⊥)
      → (fault_of_opening of ≡ fault.Device → ⊥) → IsStatus 7 (fault_status (fault_of_opening of))
  large_opened entries has opening.DeviceFault so current device = absurd (device refl)
  large_opened entries has (opening.NotAJournal place) so current device = absurd (has_journal room log entries place has so)
  large_opened entries has opening.OldVersion so current device = absurd (current refl)
  large_opened entries has opening.Full so current device = inl refl
  large_opened entries has opening.NoMemory so current device = inr refl

  pub none_fits : IsNoHistory log → HasFittingHistory room log → ⊥
  none_fits none fits = ∥∥₁_elim fits ⊥_prop (λ f. none f.0 ∣ f.1 ∣₁)

  pub large_fits : IsTooLarge (journal_limits room) log → HasFittingHistory room log → ⊥
  large_fits large fits =
      ∥∥₁_elim fits ⊥_prop (λ f. ∥∥₁_elim large.has ⊥_prop (λ has.
      large.passes (subst (IsWithin (journal_limits room)) (reading_once f.0 large.entries log f.1 has) f.2)))

-- ---- an end

-- an end that isn't good is a fault that is told, with its status
pub by_told : (due : ℕ) (end : End) → (IsAllDone end → ⊥) → (end ≡ out_unwritten → ⊥) → (end ≡ side_unwritten → ⊥) × (end ≡ pages_unwritten → ⊥)
    → (end ≡ console_unwritten → ⊥) → IsCommon end
    → ((why : Fault) → end ≡ Told why → IsStatus due (fault_status why)) → IsStatus due (end_status end)
by_told due Done good out others console common told = absurd (good tt)
by_told due Refused good out others console common told = absurd (good tt)
by_told due (Unwritten unwritten.Out) good out others console common told = absurd (out refl)
by_told due (Unwritten unwritten.Side) good out others console common told = absurd (others.0 refl)
by_told due (Unwritten unwritten.Pages) good out others console common told = absurd (others.1 refl)
by_told due (Unwritten unwritten.Console) good out others console common told = absurd (console refl)
by_told due (Told why) good out others console common told = told why refl
by_told due BroughtInPart good out others console common told = absurd (common.0 refl)
by_told due Differ good out others console common told = absurd (common.1 refl)

-- ---- a loading

some_same : {A : Type 0} {x y : A} → Some x ≡ Some y → x ≡ y
some_same is = cc

-- a loading that ended in part is too large, or a count rose, or memory ran out
in_part : (a b c d : Bool) (why : Fault) → (if a then Some fault.Device else if b then Some fault.Full else if c then Some fault.Input else if d then Some fault.Memory else None) ≡ Some why
    → (why ≡ fault.Device → ⊥) → (why ≡ fault.Input → ⊥) → IsStatus 7 (fault_status why)
in_part true b c d why is device input = absurd (device (sym (some_same is)))
in_part false true c d why is device input = inl (ap fault_status (sym (some_same is)))
in_part false false true d why is device input = absurd (input (sym (some_same is)))
in_part false false false true why is device input = inr (ap fault_status (sym (some_same is)))
in_part false false false false why is device input = let no : None ≡ Some why = is in cc

module _ (old new : RoomView) (journal : List ℕ) (libraries : List Library) (tells : old.tells ≡ true) (why : Fault)
    (no_device : why ≡ fault.Device → ⊥) (no_input : why ≡ fault.Input → ⊥) where
  abbrev log : List ℕ
  log = log_bytes old journal

  of_status : (due : ℕ) (of : OpenFault) → why ≡ fault_of_opening of → IsStatus due (fault_status (fault_of_opening of)) → IsStatus due (fault_status why)
  of_status due of is status = subst (λ f. IsStatus due (fault_status f)) (sym is) status

  device_of : (of : OpenFault) → why ≡ fault_of_opening of → fault_of_opening of ≡ fault.Device → ⊥
  device_of of is device = no_device (is ∙ device)

  pub none_loaded : IsNoHistory log → IsLoadingFault old new journal libraries why → IsStatus 6 (fault_status why)
  none_loaded none (NotBegun (Unopened of is so current keeps)) = of_status 6 of is (none_opened old log none of so (device_of of is))
  none_loaded none (NotBegun (Unbegun before o which opened closed unread)) = absurd (none before (opened.history tells))
  none_loaded none (InPart p) = absurd (none p.before (p.opened.history tells))

  other_version : {A : Type 0} → version_of log ≡ 1 → version_of log ≡ 2 → A
  other_version oldest newest = absurd (omega (arith, oldest, newest))

  pub old_loaded : IsOfVersion 1 log → IsLoadingFault old new journal libraries why → IsStatus 9 (fault_status why)
  old_loaded one (NotBegun (Unopened of is so current keeps)) = of_status 9 of is (old_opened old log one of so current (device_of of is))
  old_loaded one (NotBegun (Unbegun before o which opened closed unread)) = other_version one.version_is (opened.version tells)
  old_loaded one (InPart p) = other_version one.version_is (p.opened.version tells)

  pub large_loaded : IsOfVersion 2 log → IsLoadingFault old new journal libraries why → IsStatus 7 (fault_status why)
  unfolding loading_fault
  large_loaded two (NotBegun (Unopened of is so current keeps)) = of_status 7 of is (large_opened old log two.entries two.has of so not_old (device_of of is))
    where
      not_old : of ≡ opening.OldVersion → ⊥
      not_old same = let old = subst (IsUnopened (journal_limits old) log) same so in other_version old.0 two.version_is
  large_loaded two (NotBegun (Unbegun before o (inl input) opened closed unread)) = absurd (no_input input)
  large_loaded two (NotBegun (Unbegun before o (inr memory) opened closed unread)) = inr (ap fault_status memory)
  large_loaded two (InPart p) =
      in_part (any_ends end.DeviceFault p.results) (any_ends end.Full p.results) (any_ends end.ReadFault p.results) (any_ends end.NoMemory p.results) why p.faulty
      no_device no_input
