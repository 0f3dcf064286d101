-- A migration that fits ends well, or memory ran out, where no fault of a device or of the console ended it.
use Rattle.std.proofs.Common.{◌≡◌, ◌⊎◌, inl, inr, ℕ, List, [], ◌∷◌, refl, sym, ap, subst, ◌∙◌, arith}
use Rattle.std.proofs.Math.Logic.{∥∥₁_map, ∥∥₁_elim, ∥∥₁_prop}
use Rattle.marc_types.specs.declared.entry.Entry.{Entry}
use Rattle.outside.specs.Room.{RoomView, SameBut}
use Rattle.console_lines.specs.Ends.{Outcome, IsAllDone, console_unwritten}
use Rattle.console_lines.specs.declared.end.End.{End}
use Rattle.console_lines.specs.declared.end.End.TheVariants.{Done, Refused, Unwritten, Told, BroughtInPart, Differ}
use Rattle.console_lines.specs.declared.end.Unwritten.TheVariants.{Out, Side, Pages, Console}
use Rattle.console_lines.specs.declared.fault.Fault.{Fault}
use Rattle.console_lines.specs.declared.fault.Fault.TheVariants as fault
use Rattle.commit_journal.specs.Log.{version_of}
use Rattle.entry_record.specs.History.{IsWithin}
use Rattle.durable_catalogue.specs.Logs.{IsLogOf, HasHistory}
use Rattle.journal_files.specs.Journals.{journal_limits, log_bytes, HasFittingHistory}
use Rattle.journal_files.proofs.Histories.{reading_once}
use Rattle.migrate_command.specs.Migrations.{Begins, IsFit, IsUnmigrated}
use Rattle.migrate_command.specs.declared.fault.MigrateFault.{MigrateFault}
use Rattle.migrate_command.specs.declared.fault.MigrateFault.TheVariants as migrating
use Rattle.migrate_command.specs.Told.{fault_of_migrating}
use Rattle.migrate_command.specs.Migrates.{EndsMigrating, WhyNotFrom, NotOpened, Newest, WhyNotInto, Migrates}
use Rattle.union_top.specs.Fits.{FitsMigrate}
use Rattle.union_top.proofs.Unopened.{may_be, no_journal, opening_well}
use mathlib.Core.HLevel.{⊥_prop}

migrated_well : (end : End) → EndsMigrating end → (end ≡ console_unwritten → ⊥) → ((why : Fault) → end ≡ Told why → why ≡ fault.Memory)
    → IsAllDone end ⊎ (end ≡ Told fault.Memory)
migrated_well Done kind console told = inl tt
migrated_well Refused kind console told = absurd kind
migrated_well (Unwritten Out) kind console told = absurd kind
migrated_well (Unwritten Side) kind console told = absurd kind
migrated_well (Unwritten Pages) kind console told = absurd kind
migrated_well (Unwritten Console) kind console told = absurd (console refl)
migrated_well (Told why) kind console told = inr (ap Told (told why refl))
migrated_well BroughtInPart kind console told = absurd kind
migrated_well Differ kind console told = absurd kind

-- one of the new journal that does, where that is fit for the old one's history
module _ (room : RoomView) (from into : List ℕ) (history entries : List Entry) (was : HasHistory history from) (fits : ∥ IsFit (journal_limits room) history entries into ∥₁) where
  -- what is so of these histories is so of any others of the logs
  of_others : (P : List Entry → List Entry → Type 0) (others found : List Entry) → HasHistory others from → IsLogOf found into
      → (IsFit (journal_limits room) history entries into → P history entries) → (P others found → ⊥) → ⊥
  of_others P others found also is so none =
      ∥∥₁_elim fits ⊥_prop (λ (fit : IsFit (journal_limits room) history entries into).
      ∥∥₁_elim was ⊥_prop (λ (one : IsLogOf history from).
      ∥∥₁_elim also ⊥_prop (λ (other : IsLogOf others from).
      none (subst (λ es. P others es) (reading_once entries found into fit.has is)
      (subst (λ hs. P hs entries) (reading_once history others from one other) (so fit))))))

  migrating_well : (reason : MigrateFault) (others : List Entry) → HasHistory others from → IsUnmigrated (journal_limits room) others into reason
      → (fault_of_migrating reason ≡ fault.Device → ⊥) → fault_of_migrating reason ≡ fault.Memory
  migrating_well migrating.DeviceFault others also why device = absurd (device refl)
  migrating_well (migrating.NotAJournal place) others also why device =
      absurd (∥∥₁_elim fits ⊥_prop (λ (fit : IsFit (journal_limits room) history entries into). no_journal room into place entries fit.has why))
  migrating_well migrating.OldVersion others also why device =
      absurd (∥∥₁_elim fits ⊥_prop (λ (fit : IsFit (journal_limits room) history entries into). let both : 1 ≡ 2 = sym why.0 ∙ fit.version in cc))
  migrating_well migrating.Full others also why device =
      absurd (of_others (λ before entries. IsWithin (journal_limits room) entries) others why.1.0 also why.1.1 (λ fit. fit.within.new_within) why.1.2)
  migrating_well migrating.NotPrefix others also why device =
      absurd (of_others Begins others why.1.0 also why.1.1 (λ fit. fit.begins) why.1.3)
  migrating_well migrating.NoMemory others also why device = refl

module _ (o : Outcome) where
  module _ (from into : List ℕ) (m : Migrates from into o) (f : FitsMigrate o.old from into) (no_device : o.end ≡ Told fault.Device → ⊥)
      (no_console : o.end ≡ console_unwritten → ⊥) where
    old_fits : HasFittingHistory o.old (log_bytes o.old from)
    old_fits =
        ∥∥₁_elim f.fits ∥∥₁_prop (λ (fit : IsFit (journal_limits o.old) f.history f.entries (log_bytes o.old into)).
        ∥∥₁_map f.was (λ is. (f.history, is, fit.within.old_within)))

    of_old : (why : Fault) → o.end ≡ Told why → WhyNotFrom o.old from why → why ≡ fault.Memory
    of_old why is (NotOpened reason current told so) =
        told ∙ opening_well (log_bytes o.old from) reason current (may_be o.old (log_bytes o.old from) reason old_fits (so f.tells))
        (λ device. no_device (is ∙ ap Told (told ∙ device)))
    of_old why is (Newest told so) =
        let oldest : version_of (log_bytes o.old from) ≡ 1 = f.version in
        let newest : version_of (log_bytes o.old from) ≡ 2 = (so f.tells).0 in
        absurd (omega (arith, oldest, newest))

    of_new : (why : Fault) → o.end ≡ Told why → WhyNotInto o.old from into why → why ≡ fault.Memory
    of_new why is w =
        let so = w.so f.tells in
        w.is ∙ migrating_well o.old (log_bytes o.old from) (log_bytes o.old into) f.history f.entries f.was f.fits w.reason so.0 so.1 so.2
        (λ device. no_device (is ∙ ap Told (w.is ∙ device)))

    remains : (why : Fault) → o.end ≡ Told why → why ≡ fault.Memory
    remains why is = either (m.told why is).1
      where
        either : (WhyNotFrom o.old from why × SameBut o.old o.new (from ∷ [])) ⊎ WhyNotInto o.old from into why → why ≡ fault.Memory
        either (inl of_from) = of_old why is of_from.0
        either (inr of_into) = of_new why is of_into

    pub migrates_well : IsAllDone o.end ⊎ (o.end ≡ Told fault.Memory)
    migrates_well = migrated_well o.end m.ends no_console remains
