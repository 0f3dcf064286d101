-- How the command ends, from the steps that were taken.
use Rattle.std.proofs.Common.{◌≡◌, ◌≢◌, ◌∙◌, ℕ, true, false, List, [], ◌∷◌, Option, Some, None, refl, sym, ap, subst, arith}
use Rattle.std.specs.Prelude.{IsSomeAnd}
use Rattle.marc_types.specs.declared.entry.Entry.{Entry}
use Rattle.std.specs.Io.KnownBytes.{Appends}
use Rattle.outside.specs.Fault.{Rose}
use Rattle.outside.specs.Sink.{WritesFront}
use Rattle.outside.specs.Room.{RoomView, SameBut, IsUntouched, bytes_or_none}
use Rattle.outside.proofs.Rooms.{same_but_none, same_but_then, same_but_itself, untouched_same}
use Rattle.commit_journal.specs.Log.{version_of, payloads_of}
use Rattle.entry_history.specs.Payloads.{IsHistory}
use Rattle.durable_catalogue.specs.Logs.{HasHistory}
use Rattle.console_lines.specs.Ends.{Outcome, IsTold, IsResultTold, ResultTold, ResultUntold}
use Rattle.console_lines.specs.declared.end.End.TheVariants.{Told}
use Rattle.console_lines.specs.declared.end.Unwritten.TheVariants.{Console}
use Rattle.console_lines.specs.declared.fault.Fault.{Fault}
use Rattle.console_lines.specs.declared.fault.Fault.TheVariants.{Usage, Input, Device, NotAJournal, Full, Memory, OldVersion, OtherHistory}
use Rattle.console_lines.proofs.Ends.{told_once, told_not_done, told_not_unwritten, done_not_unwritten, never_told}
use Rattle.journal_files.specs.Faults.{IsDeviceOf}
use Rattle.journal_files.specs.Journals as journals
use Rattle.journal_files.specs.Journals.{journal_limits, log_bytes}
use Rattle.journal_files.proofs.Journals.{keeps_where, same_limits}
use Rattle.migrate_command.specs.declared.fault.MigrateFault.{MigrateFault}
use Rattle.migrate_command.specs.declared.fault.MigrateFault.TheVariants as migrating
use Rattle.migrate_command.specs.Migrations.{IsFit, IsUnfit, IsUnmigrated, IsBrought}
use Rattle.migrate_command.specs.Told.{fault_of_migrating}
use Rattle.migrate_command.specs.Bringing.{IsTakenInto, IsNotTaken}
use Rattle.migrate_command.specs.Migrates.{BringsInto, Unopened, IsSettledLog, Untouched, HasInEachImage}
use Rattle.migrate_command.proofs.Rooms.{brings_across, settled_across, keeps_across}
use Rattle.journal_verification.proofs.There.{there_more}
use Rattle.sound_frames.specs.Sound.{SoundPart, IsSoundOf}
use Rattle.sound_frames.proofs.Once.{sound_once}
use Rattle.sound_frames.proofs.Framed.{sound_framed}
use Rattle.salvage_command.specs.Told.{salvaged_lines}
use Rattle.salvage_command.specs.Finding.{IsFoundSound, IsUnfound, NoMemory, Nothing as Found_nothing, TooMuch as Found_much}
use Rattle.salvage_command.specs.Salvages.{EndsSalvaging, WhyNot, Nothing, TooMuch, NotTaken, WasFit, IsSalvageOf, Salvages}

migrating_ends : (reason : MigrateFault) → EndsSalvaging (Told (fault_of_migrating reason))
migrating_ends migrating.DeviceFault = tt
migrating_ends (migrating.NotAJournal place) = tt
migrating_ends migrating.OldVersion = tt
migrating_ends migrating.Full = tt
migrating_ends migrating.NotPrefix = tt
migrating_ends migrating.NoMemory = tt

-- but for a fault of the words it ends with each
told_ends : (why : Fault) → why ≢ Usage → EndsSalvaging (Told why)
told_ends Usage no_usage = absurd (no_usage refl)
told_ends Input no_usage = tt
told_ends Device no_usage = tt
told_ends (NotAJournal place) no_usage = tt
told_ends Full no_usage = tt
told_ends Memory no_usage = tt
told_ends OldVersion no_usage = tt
told_ends OtherHistory no_usage = tt

some_of : (file : Option (List ℕ)) (P : List ℕ → Type 0) → IsSomeAnd file P → (log : List ℕ) × (file ≡ Some log) × P log
some_of None P is = absurd is
some_of (Some log) P is = (log, refl, is)

no_input : (reason : MigrateFault) → fault_of_migrating reason ≡ Input → ⊥
no_input migrating.DeviceFault is = cc
no_input (migrating.NotAJournal place) is = cc
no_input migrating.OldVersion is = cc
no_input migrating.Full is = cc
no_input migrating.NotPrefix is = cc
no_input migrating.NoMemory is = cc

module _ (journal into : List ℕ) (o : Outcome) where
  -- why a fault is told, where the room tells the bytes
  abbrev pub IsSo : Fault → Type 0
  IsSo why = IsSomeAnd (o.old.file journal) (λ log. (all : SoundPart) × IsSoundOf log all × WhyNot o.old o.new all into why)

  -- nothing was opened to be written
  module _ (why : Fault) (stays : SameBut o.old o.new []) (is : o.end ≡ Told why) (told : IsTold why o) where
    untouched : IsUntouched o.old o.new into
    untouched = untouched_same o.old o.new into stays

    pub salvages_untouched : EndsSalvaging (Told why) → why ≢ Device → (why ≡ Input → Rose (o.old.in_faults journal) (o.new.in_faults journal))
        → (why ≢ Input → why ≢ Memory → o.old.tells ≡ true → IsSo why) → Salvages journal into o
    salvages_untouched ends other input so = record {
      ends = subst EndsSalvaging (sym is) ends;
      only = same_but_none o.old o.new (into ∷ []) stays;
      brings = λ log all of. ∣ Unopened untouched ∣₁;
      alone = λ log all of unfit. journals.Unopened untouched;
      kept = λ w also differs tells. ap bytes_or_none untouched.file;
      settled = λ w also differs tells. Untouched untouched;
      told = λ w also. subst (λ x. IsTold x o) (told_once o.end why w is also) told;
      so = λ w also no_input no_memory tells.
          let same = told_once o.end why w is also in
          subst IsSo same (so (λ input. no_input (sym same ∙ input)) (λ memory. no_memory (sym same ∙ memory)) tells);
      input = λ also. (input (told_once o.end why Input is also), stays);
      device = λ also. absurd (other (told_once o.end why Device is also));
      fit = λ untold. absurd (never_told o.end why untold is);
      all = λ log all untold. absurd (never_told o.end why untold is);
      durable = λ log all untold. absurd (never_told o.end why untold is);
      line = λ log all done. absurd (told_not_done o.end why is done);
      front = λ log all also. absurd (told_not_unwritten o.end why Console is also);
      console = λ also. absurd (told_not_unwritten o.end why Console is also);
    }

    found_so : (log : List ℕ) → IsUnfound (journal_limits o.old) log why → why ≢ Memory → (all : SoundPart) × IsSoundOf log all × WhyNot o.old o.new all into why
    found_so log (NoMemory memory) other = absurd (other memory)
    found_so log (Found_nothing all place of none nothing) other = (all, of, Nothing place none nothing stays)
    found_so log (Found_much all of full much) other = (all, of, TooMuch full much stays)

    -- nothing was found that can be brought, or the journal wasn't read
    pub salvages_unfound : why ≢ Usage → why ≢ Device → (why ≡ Input → Rose (o.old.in_faults journal) (o.new.in_faults journal))
        → (why ≢ Input → why ≢ Memory → o.old.tells ≡ true → IsSomeAnd (o.old.file journal) (λ log. IsUnfound (journal_limits o.old) log why)) → Salvages journal into o
    salvages_unfound no_usage no_device input unfound =
        salvages_untouched (told_ends why no_usage) no_device input
        (λ other memory tells. there_more (o.old.file journal) (λ log none. found_so log none memory) (unfound other memory tells))

  -- what was found was brought into the new journal, or not
  module _ (differ : into ≢ journal) (mid : RoomView) (text : List ℕ) (entries : List Entry) (first : SameBut o.old mid []) (second : SameBut mid o.new (into ∷ []))
      (found : o.old.tells ≡ true → IsSomeAnd (o.old.file journal) (λ log. IsFoundSound (journal_limits o.old) log entries text))
      (brings : (was : List ℕ) → mid.tells ≡ true → HasHistory entries was → BringsInto entries mid o.new into) where
    apart : SameBut o.old o.new (into ∷ [])
    apart = same_but_then o.old mid o.new (into ∷ []) (same_but_none o.old mid (into ∷ []) first) second

    before : SameBut o.old mid (journal ∷ [])
    before = same_but_none o.old mid (journal ∷ []) first

    behind : SameBut o.new o.new (journal ∷ [])
    behind = same_but_itself o.new (journal ∷ [])

    same_bytes : log_bytes mid into ≡ log_bytes o.old into
    same_bytes = ap bytes_or_none (first.files into tt)

    same_most : journal_limits mid ≡ journal_limits o.old
    same_most = same_limits o.old mid [] first

    -- of a journal that is there
    module _ (log : List ℕ) (there : o.old.file journal ≡ Some log) (f : IsFoundSound (journal_limits o.old) log entries text) where
      abbrev was : List ℕ
      was = (sound_framed log f.all f.is).log

      has : HasHistory entries was
      has =
          let framed = sound_framed log f.all f.is in
          ∣ record { frames = framed.frames; found = framed.found; holds = subst (λ es. IsHistory (version_of framed.log) [] (payloads_of framed.frames) es) (sym f.entries_are) framed.holds } ∣₁

      -- what is sound of the bytes is what was found
      same_log : (other : List ℕ) (all : SoundPart) → IsSalvageOf o.old journal other all → other ≡ log
      same_log other all of = let both : Some other ≡ Some log = sym of.1 ∙ there in cc

      same_all : (other : List ℕ) (all : SoundPart) → IsSalvageOf o.old journal other all → f.all ≡ all
      same_all other all of = sound_once log f.all all f.is (subst (λ l. IsSoundOf l all) (same_log other all of) of.2)

      same_entries : (other : List ℕ) (all : SoundPart) → IsSalvageOf o.old journal other all → entries ≡ all.entries
      same_entries other all of = f.entries_are ∙ ap (λ s. s.entries) (same_all other all of)

      brings_all : (other : List ℕ) (all : SoundPart) → IsSalvageOf o.old journal other all → ∥ BringsInto all.entries o.old o.new into ∥₁
      brings_all other all of =
          ∣ subst (λ es. BringsInto es o.old o.new into) (same_entries other all of)
          (brings_across entries o.old mid o.new o.new journal into differ before behind (brings was (first.tells ∙ of.0) has)) ∣₁

      unfit_found : (other : List ℕ) (all : SoundPart) → IsSalvageOf o.old journal other all → IsUnfit (journal_limits o.old) all.entries (log_bytes o.old into)
          → IsUnfit (journal_limits mid) entries (log_bytes mid into)
      unfit_found other all of unfit =
          subst (λ limits. IsUnfit limits entries (log_bytes mid into)) (sym same_most)
          (subst (IsUnfit (journal_limits o.old) entries) (sym same_bytes) (subst (λ es. IsUnfit (journal_limits o.old) es (log_bytes o.old into)) (sym (same_entries other all of)) unfit))

      in_file : (P : List ℕ → Type 0) → P log → IsSomeAnd (o.old.file journal) P
      in_file P so = subst (λ x. IsSomeAnd x P) (sym there) so

      untaken : (why : Fault) → IsNotTaken entries mid o.new into why → o.old.tells ≡ true → IsSo why
      untaken why t tells =
          in_file (λ l. (all : SoundPart) × IsSoundOf l all × WhyNot o.old o.new all into why) (
            f.all,
            f.is,
            NotTaken t.reason t.is f.worth (subst (λ limits. IsUnmigrated limits f.all.entries (log_bytes o.old into) t.reason) same_most
                (subst (λ es. IsUnmigrated (journal_limits mid) es (log_bytes o.old into) t.reason) f.entries_are
                (subst (λ l. IsUnmigrated (journal_limits mid) entries l t.reason) same_bytes (t.so (first.tells ∙ tells))))),
          )

      module _ (b : IsTakenInto entries mid o.new into) where
        was_fit : o.old.tells ≡ true → WasFit o.old f.all into
        was_fit tells =
            let fit = b.fit (first.tells ∙ tells) in record {
              worth = f.worth;
              before = fit.0;
              fit = subst (λ limits. IsFit limits f.all.entries fit.0 (log_bytes o.old into)) same_most
                  (subst (λ es. IsFit (journal_limits mid) es fit.0 (log_bytes o.old into)) f.entries_are (subst (IsFit (journal_limits mid) entries fit.0) same_bytes fit.1));
            }

        alone_not : (other : List ℕ) (all : SoundPart) → IsSalvageOf o.old journal other all → IsUnfit (journal_limits o.old) all.entries (log_bytes o.old into) → ⊥
        alone_not other all of unfit = let fit = b.fit (first.tells ∙ of.0) in unfit_found other all of unfit fit.0 fit.1

        all_brought : (other : List ℕ) (all : SoundPart) → IsSalvageOf o.old journal other all → IsBrought all.entries (log_bytes o.new into)
        all_brought other all of = subst (λ es. IsBrought es (log_bytes o.new into)) (same_entries other all of) (b.all was (first.tells ∙ of.0) has)

        all_durable : (other : List ℕ) (all : SoundPart) → IsSalvageOf o.old journal other all → HasInEachImage all.entries o.new into
        all_durable other all of = subst (λ es. HasInEachImage es o.new into) (same_entries other all of) (b.durable was (first.tells ∙ of.0) has)

        lines_are : (other : List ℕ) (all : SoundPart) → IsSalvageOf o.old journal other all → text ≡ salvaged_lines other all
        lines_are other all of = f.lines ∙ (λ i. salvaged_lines (sym (same_log other all of) i) (same_all other all of i))

        fitted : o.old.tells ≡ true → IsSomeAnd (o.old.file journal) (λ l. (all : SoundPart) × IsSoundOf l all × WasFit o.old all into)
        fitted tells = in_file (λ l. (all : SoundPart) × IsSoundOf l all × WasFit o.old all into) (f.all, f.is, was_fit tells)

    -- the journal, where the room tells its files
    here : (tells : o.old.tells ≡ true) → (log : List ℕ) × (o.old.file journal ≡ Some log) × IsFoundSound (journal_limits o.old) log entries text
    here tells = some_of (o.old.file journal) (λ log. IsFoundSound (journal_limits o.old) log entries text) (found tells)

    brings_here : (other : List ℕ) (all : SoundPart) → IsSalvageOf o.old journal other all → ∥ BringsInto all.entries o.old o.new into ∥₁
    brings_here other all of = let x = here of.0 in brings_all x.0 x.1 x.2 other all of

    pub salvages_brought : IsTakenInto entries mid o.new into → IsResultTold o.told o.now o.faults o.faults_now text false o.end → Salvages journal into o
    salvages_brought b (ResultTold done line) = record {
      ends = subst EndsSalvaging (sym done) tt;
      only = apart;
      brings = brings_here;
      alone = λ other all of unfit. let x = here of.0 in absurd (alone_not x.0 x.1 x.2 b other all of unfit);
      kept = λ w also. absurd (told_not_done o.end w also done);
      settled = λ w also. absurd (told_not_done o.end w also done);
      told = λ w also. absurd (told_not_done o.end w also done);
      so = λ w also. absurd (told_not_done o.end w also done);
      input = λ also. absurd (told_not_done o.end Input also done);
      device = λ also. absurd (told_not_done o.end Device also done);
      fit = λ untold tells. let x = here tells in fitted x.0 x.1 x.2 b tells;
      all = λ other all untold of. let x = here of.0 in all_brought x.0 x.1 x.2 b other all of;
      durable = λ other all untold of. let x = here of.0 in all_durable x.0 x.1 x.2 b other all of;
      line = λ other all also of. subst (Appends o.told o.now) (let x = here of.0 in lines_are x.0 x.1 x.2 b other all of) line;
      front = λ other all also. absurd (done_not_unwritten o.end Console done also);
      console = λ also. absurd (done_not_unwritten o.end Console done also);
    }
    salvages_brought b (ResultUntold unwritten rose front) = record {
      ends = subst EndsSalvaging (sym unwritten) tt;
      only = apart;
      brings = brings_here;
      alone = λ other all of unfit. let x = here of.0 in absurd (alone_not x.0 x.1 x.2 b other all of unfit);
      kept = λ w also. absurd (told_not_unwritten o.end w Console also unwritten);
      settled = λ w also. absurd (told_not_unwritten o.end w Console also unwritten);
      told = λ w also. absurd (told_not_unwritten o.end w Console also unwritten);
      so = λ w also. absurd (told_not_unwritten o.end w Console also unwritten);
      input = λ also. absurd (told_not_unwritten o.end Input Console also unwritten);
      device = λ also. absurd (told_not_unwritten o.end Device Console also unwritten);
      fit = λ untold tells. let x = here tells in fitted x.0 x.1 x.2 b tells;
      all = λ other all untold of. let x = here of.0 in all_brought x.0 x.1 x.2 b other all of;
      durable = λ other all untold of. let x = here of.0 in all_durable x.0 x.1 x.2 b other all of;
      line = λ other all also. absurd (done_not_unwritten o.end Console also unwritten);
      front = λ other all also of. subst (WritesFront o.told o.now) (let x = here of.0 in lines_are x.0 x.1 x.2 b other all of) front;
      console = λ also. rose;
    }

    pub salvages_unbrought : (why : Fault) → o.end ≡ Told why → IsTold why o → IsNotTaken entries mid o.new into why
        → (why ≢ Device → mid.tells ≡ true → log_bytes o.new into ≡ log_bytes mid into) → (why ≢ Device → mid.tells ≡ true → IsSettledLog mid o.new into)
        → Salvages journal into o
    salvages_unbrought why is told t kept settled = record {
      ends = subst EndsSalvaging (sym is) (subst (λ w. EndsSalvaging (Told w)) (sym t.is) (migrating_ends t.reason));
      only = apart;
      brings = brings_here;
      alone = λ other all of unfit.
          let x = here of.0 in
          keeps_where (why ≡ Device) (IsDeviceOf o into) o.old o.new into (λ device. (is ∙ ap Told device, risen device))
          (keeps_across entries o.old mid o.new o.new journal into differ before behind (why ≡ Device)
          (t.alone (was x.0 x.1 x.2) (first.tells ∙ of.0) (has x.0 x.1 x.2) (unfit_found x.0 x.1 x.2 other all of unfit)));
      kept = λ w also differs tells. kept (λ device. differs (sym (told_once o.end why w is also) ∙ device)) (first.tells ∙ tells) ∙ same_bytes;
      settled = λ w also differs tells.
          settled_across entries o.old mid o.new o.new journal into differ before behind
          (settled (λ device. differs (sym (told_once o.end why w is also) ∙ device)) (first.tells ∙ tells));
      told = λ w also. subst (λ x. IsTold x o) (told_once o.end why w is also) told;
      so = λ w also input memory tells. let x = here tells in subst IsSo (told_once o.end why w is also) (untaken x.0 x.1 x.2 why t tells);
      input = λ also. absurd (no_input t.reason (sym t.is ∙ told_once o.end why Input is also));
      device = λ also. risen (told_once o.end why Device is also);
      fit = λ untold. absurd (never_told o.end why untold is);
      all = λ other all untold. absurd (never_told o.end why untold is);
      durable = λ other all untold. absurd (never_told o.end why untold is);
      line = λ other all done. absurd (told_not_done o.end why is done);
      front = λ other all also. absurd (told_not_unwritten o.end why Console is also);
      console = λ also. absurd (told_not_unwritten o.end why Console is also);
    }
      where
        risen : why ≡ Device → Rose (o.old.log_faults into) (o.new.log_faults into)
        risen device =
            let rises = t.rose device in
            let earlier = first.log_counts into in
            omega (arith, rises, earlier)
