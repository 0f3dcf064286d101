-- How the command ends, from what was brought over.
use Rattle.std.proofs.Common.{◌≡◌, ◌∙◌, ◌⊎◌, inl, inr, ℕ, true, List, [], ◌∷◌, Result, Ok, Err, refl, sym, ap, subst}
use Rattle.std.specs.Io.KnownBytes.{Appends}
use Rattle.marc_types.specs.declared.entry.Entry.{Entry}
use Rattle.outside.specs.Fault.{Rose}
use Rattle.outside.specs.Room.{SameBut}
use Rattle.outside.specs.Sink.{WritesFront}
use Rattle.durable_catalogue.specs.Logs.{HasHistory}
use Rattle.durable_catalogue.specs.declared.fault.OpenFault.{OpenFault}
use Rattle.durable_catalogue.specs.declared.fault.OpenFault.TheVariants as opening
use Rattle.console_lines.specs.Ends.{Outcome, IsTold, console_unwritten}
use Rattle.console_lines.specs.declared.end.End.TheVariants.{Done, Told}
use Rattle.console_lines.specs.declared.end.Unwritten.TheVariants.{Console}
use Rattle.console_lines.specs.declared.fault.Fault.{Fault}
use Rattle.console_lines.specs.declared.fault.Fault.TheVariants.{Device}
use Rattle.console_lines.proofs.Ends.{told_once, told_not_done, told_not_unwritten, done_not_unwritten, never_told}
use Rattle.journal_files.specs.Faults.{fault_of_opening, IsDeviceOf}
use Rattle.journal_files.specs.Journals.{journal_limits, log_bytes, KeepsHistory}
use Rattle.journal_files.proofs.Journals.{keeps_where}
use Rattle.migrate_command.specs.Migrations.{IsUnfit}
use Rattle.migrate_command.specs.declared.fault.MigrateFault.{MigrateFault}
use Rattle.migrate_command.specs.declared.fault.MigrateFault.TheVariants as migrating
use Rattle.migrate_command.specs.Told.{fault_of_migrating}
use Rattle.migrate_command.specs.Bringing.{IsDeviceFaultOf, IsBroughtOver}
use Rattle.migrate_command.specs.Migrates.{EndsMigrating, WhyNotFrom, NotOpened, Newest, WhyNotInto, migrated_line, Migrates}

opening_ends : (reason : OpenFault) → EndsMigrating (Told (fault_of_opening reason))
opening_ends opening.DeviceFault = tt
opening_ends (opening.NotAJournal place) = tt
opening_ends opening.OldVersion = tt
opening_ends opening.Full = tt
opening_ends opening.NoMemory = tt

migrating_ends : (reason : MigrateFault) → EndsMigrating (Told (fault_of_migrating reason))
migrating_ends migrating.DeviceFault = tt
migrating_ends (migrating.NotAJournal place) = tt
migrating_ends migrating.OldVersion = tt
migrating_ends migrating.Full = tt
migrating_ends migrating.NotPrefix = tt
migrating_ends migrating.NoMemory = tt

pub migrating_device : (reason : MigrateFault) → fault_of_migrating reason ≡ Device → reason ≡ migrating.DeviceFault
migrating_device migrating.DeviceFault is = refl
migrating_device (migrating.NotAJournal place) is = cc
migrating_device migrating.OldVersion is = cc
migrating_device migrating.Full is = cc
migrating_device migrating.NotPrefix is = cc
migrating_device migrating.NoMemory is = cc

pub ok_not_err : (result : Result ℕ Fault) (count : ℕ) (why : Fault) → result ≡ Ok count → result ≡ Err why → ⊥
ok_not_err result count why is also = let both : Ok count ≡ Err why = sym is ∙ also in cc

pub err_once : (result : Result ℕ Fault) (one other : Fault) → result ≡ Err one → result ≡ Err other → one ≡ other
err_once result one other is also = let both : Err one ≡ Err other = sym is ∙ also in cc

module _ (from into : List ℕ) (o : Outcome) (result : Result ℕ Fault) (over : IsBroughtOver from into o.old o.new result) where
  ends_told : (why : Fault) → (WhyNotFrom o.old from why × SameBut o.old o.new (from ∷ [])) ⊎ WhyNotInto o.old from into why → EndsMigrating (Told why)
  ends_told why (inl from_it) = of_old from_it.0
    where
      of_old : WhyNotFrom o.old from why → EndsMigrating (Told why)
      of_old (NotOpened reason current is so) = subst (λ w. EndsMigrating (Told w)) (sym is) (opening_ends reason)
      of_old (Newest is so) = subst (λ w. EndsMigrating (Told w)) (sym is) tt
  ends_told why (inr into_it) = subst (λ w. EndsMigrating (Told w)) (sym into_it.is) (migrating_ends into_it.reason)

  pub migrates_told : (why : Fault) → result ≡ Err why → o.end ≡ Told why → IsTold why o → Migrates from into o
  migrates_told why err is told = record {
    ends = subst EndsMigrating (sym is) (ends_told why (over.refused why err));
    keeps = λ tells. keeps_where (IsDeviceFaultOf o.old o.new from result) (IsDeviceOf o from) o.old o.new from
        (λ device. (is ∙ ap Told (err_once result why Device err device.0), device.1)) (over.keeps tells);
    brings = over.brings;
    alone = λ entries tells has none.
        keeps_where (IsDeviceFaultOf o.old o.new into result) (IsDeviceOf o into) o.old o.new into
        (λ device. (is ∙ ap Told (err_once result why Device err device.0), device.1)) (over.alone entries tells has none);
    told = λ other also. subst (λ w. IsTold w o × ((WhyNotFrom o.old from w × SameBut o.old o.new (from ∷ [])) ⊎ WhyNotInto o.old from into w))
        (told_once o.end why other is also) (told, over.refused why err);
    kept = λ other also differs. over.kept why err (λ device. differs (sym (told_once o.end why other is also) ∙ device));
    settled = λ other also differs. over.settled why err (λ device. differs (sym (told_once o.end why other is also) ∙ device));
    device = λ also. over.device (err ∙ ap Err (told_once o.end why Device is also));
    history = λ untold. absurd (never_told o.end why untold is);
    version = λ untold. absurd (never_told o.end why untold is);
    fit = λ entries untold. absurd (never_told o.end why untold is);
    all = λ entries untold. absurd (never_told o.end why untold is);
    durable = λ entries untold. absurd (never_told o.end why untold is);
    line = λ entries done. absurd (told_not_done o.end why is done);
    front = λ entries also. absurd (told_not_unwritten o.end why Console is also);
    console = λ also. absurd (told_not_unwritten o.end why Console is also);
  }

  module _ (count : ℕ) (ok : result ≡ Ok count) where
    -- no device's fault is told
    no_device : (name : List ℕ) → IsDeviceFaultOf o.old o.new name result → IsDeviceOf o name
    no_device name device = absurd (ok_not_err result count Device ok device.0)

    left_alone : (entries : List Entry) → o.old.tells ≡ true → HasHistory entries (log_bytes o.old from) → IsUnfit (journal_limits o.old) entries (log_bytes o.old into)
        → KeepsHistory (IsDeviceOf o into) o.old o.new into
    left_alone entries tells has none =
        keeps_where (IsDeviceFaultOf o.old o.new into result) (IsDeviceOf o into) o.old o.new into (no_device into)
        (over.alone entries tells has none)

    pub migrates_done : o.end ≡ Done → Appends o.told o.now (migrated_line count) → Migrates from into o
    migrates_done is line = record {
      ends = subst EndsMigrating (sym is) tt;
      keeps = λ tells. keeps_where (IsDeviceFaultOf o.old o.new from result) (IsDeviceOf o from) o.old o.new from (no_device from) (over.keeps tells);
      brings = over.brings;
      alone = left_alone;
      told = λ why also. absurd (told_not_done o.end why also is);
      kept = λ why also. absurd (told_not_done o.end why also is);
      settled = λ why also. absurd (told_not_done o.end why also is);
      device = λ also. absurd (told_not_done o.end Device also is);
      history = λ untold. over.history count ok;
      version = λ untold. over.version count ok;
      fit = λ entries untold. over.fit count entries ok;
      all = λ entries untold tells has. (over.all count entries ok tells has).1;
      durable = λ entries untold. over.durable count entries ok;
      line = λ entries also tells has. subst (λ n. Appends o.told o.now (migrated_line n)) (over.all count entries ok tells has).0 line;
      front = λ entries also. absurd (done_not_unwritten o.end Console is also);
      console = λ also. absurd (done_not_unwritten o.end Console is also);
    }

    pub migrates_unwritten : o.end ≡ console_unwritten → WritesFront o.told o.now (migrated_line count) → Rose o.faults o.faults_now → Migrates from into o
    migrates_unwritten is front rose = record {
      ends = subst EndsMigrating (sym is) tt;
      keeps = λ tells. keeps_where (IsDeviceFaultOf o.old o.new from result) (IsDeviceOf o from) o.old o.new from (no_device from) (over.keeps tells);
      brings = over.brings;
      alone = left_alone;
      told = λ why also. absurd (told_not_unwritten o.end why Console also is);
      kept = λ why also. absurd (told_not_unwritten o.end why Console also is);
      settled = λ why also. absurd (told_not_unwritten o.end why Console also is);
      device = λ also. absurd (told_not_unwritten o.end Device Console also is);
      history = λ untold. over.history count ok;
      version = λ untold. over.version count ok;
      fit = λ entries untold. over.fit count entries ok;
      all = λ entries untold tells has. (over.all count entries ok tells has).1;
      durable = λ entries untold. over.durable count entries ok;
      line = λ entries also. absurd (done_not_unwritten o.end Console also is);
      front = λ entries also tells has. subst (λ n. WritesFront o.told o.now (migrated_line n)) (over.all count entries ok tells has).0 front;
      console = λ also. rose;
    }
