-- The command that tells whether a log of checkpoints is a journal's own: how it ends where both fit, and with which status where one can't
-- be used.
use Rattle.std.proofs.Common.{◌≡◌, ◌≢◌, inl, inr, ℕ, true, List, Option, Some, None, refl, sym, ap, subst, ◌∙◌}
use Rattle.std.specs.Prelude.{IfSome, IsSomeAnd}
use Rattle.marc_types.specs.declared.entry.Entry.{Entry}
use Rattle.outside.specs.Room.{RoomView, bytes_or_none}
use Rattle.command_words.specs.Command.{VerifyPoint}
use Rattle.console_lines.specs.Ends.{Outcome, IsAllDone, end_status, console_unwritten}
use Rattle.console_lines.specs.Faults.{fault_status}
use Rattle.console_lines.specs.declared.end.End.{End}
use Rattle.console_lines.specs.declared.end.End.TheVariants.{Done, Refused, Unwritten, Told, BroughtInPart, Differ}
use Rattle.console_lines.specs.declared.end.Unwritten.TheVariants.{Out, Side, Pages, Console}
use Rattle.console_lines.specs.declared.fault.Fault.{Fault}
use Rattle.console_lines.specs.declared.fault.Fault.TheVariants as fault
use Rattle.commit_journal.specs.Log.{version_of}
use Rattle.durable_catalogue.specs.Logs.{HasHistory}
use Rattle.durable_catalogue.specs.Openings.{IsUnopened}
use Rattle.durable_catalogue.specs.declared.fault.OpenFault.{OpenFault}
use Rattle.durable_catalogue.specs.declared.fault.OpenFault.TheVariants as opening
use Rattle.journal_files.specs.Faults.{fault_of_opening}
use Rattle.journal_files.specs.Journals.{journal_limits, HasFittingHistory}
use Rattle.journal_files.proofs.Histories.{fitting_history}
use Rattle.checkpoint.specs.declared.point.Point.{Point}
use Rattle.restoring.specs.Resuming.{IsOfFront}
use Rattle.restoring.specs.Writing.{HasLast}
use Rattle.unheld_journals.specs.Untaken.{fault_of_look}
use Rattle.checkpoint_commands.specs.PointLogs.{IsPointLog}
use Rattle.point_verification.specs.Verifying.{EndsVerifyingPoint, VerifiesPoint, IsNotOwnOf, WhyNotOwn, OfJournal, OfPoint, OfBoth, NotOwn, NoRoom}
use Rattle.union_top.specs.Fits.{FitsVerifyPoint}
use Rattle.union_top.specs.Misfits.{IsOldPoint, IsStatus, RefusesMisfits}
use Rattle.union_top.proofs.Fitting.{EndsWell}
use Rattle.union_top.proofs.Unopened.{may_be}
use Rattle.union_top.proofs.Misfits.{none_opened, large_opened, none_fits, large_fits}
use Rattle.union_top.proofs.Looking.{all_untold, by_fault, look_well, look_status, with_bytes}
use Rattle.union_top.proofs.Pointed.{taken_well, old_taken, both_versions}

-- a checkpoint that is of a front isn't of none
not_both : (history : List Entry) (found : Option Point) → IsSomeAnd found (IsOfFront history) → IfSome found (λ point. IsOfFront history point → ⊥) → ⊥
not_both history None own other = absurd own
not_both history (Some point) own other = other own

not_own_well : {history : List Entry} {found : Option Point} {why : Fault} → IsSomeAnd found (IsOfFront history) → IsNotOwnOf history found why
    → why ≡ fault.Memory
not_own_well {history} {found} own (NotOwn other) = absurd (not_both history found own other)
not_own_well own NoRoom = refl

-- a fault of a log of checkpoints in memory is one of opening it, or want of memory
point_well : (reason : OpenFault) → ((fault_of_opening reason ≡ fault.Device → ⊥) → fault_of_opening reason ≡ fault.Memory) → fault_of_look reason ≡ fault.Memory
point_well opening.DeviceFault opened = refl
point_well (opening.NotAJournal place) opened = opened (λ e. cc)
point_well opening.OldVersion opened = opened (λ e. cc)
point_well opening.Full opened = opened (λ e. cc)
point_well opening.NoMemory opened = refl

look_old : (reason : OpenFault) → fault_of_look reason ≡ fault.OldVersion → reason ≡ opening.OldVersion
look_old opening.DeviceFault is = cc
look_old (opening.NotAJournal place) is = cc
look_old opening.OldVersion is = refl
look_old opening.Full is = cc
look_old opening.NoMemory is = cc

-- why nothing is told of files that fit: memory ran out
why_well : (room : RoomView) (journal point : List ℕ) (why : Fault) (last : Option Point) → HasFittingHistory room journal → IsPointLog last point
    → ((history : List Entry) (found : Option Point) → HasHistory history journal → IsPointLog found point → IsSomeAnd found (IsOfFront history))
    → WhyNotOwn (journal_limits room) journal point why → why ≡ fault.Memory
why_well room journal point why last fits log own (OfJournal reason current is so) =
    look_well journal reason why is (may_be room journal reason fits so) (λ old. current (look_old reason (sym is ∙ old)))
why_well room journal point why last fits log own (OfPoint history has within reason is so) = is ∙ point_well reason (taken_well point last reason log so)
why_well room journal point why last fits log own (OfBoth history has within found found_log other) = not_own_well (own history found has found_log) other

-- why nothing is told where the journal has no history within the limits, or where the log of checkpoints is of version 1
unfit_status : (room : RoomView) (due : ℕ) (journal point : List ℕ) (why : Fault) → (HasFittingHistory room journal → ⊥)
    → ((reason : OpenFault) → IsUnopened (journal_limits room) journal reason → reason ≢ opening.OldVersion → (fault_of_opening reason ≡ fault.Device → ⊥)
    → IsStatus due (fault_status (fault_of_opening reason)))
    → WhyNotOwn (journal_limits room) journal point why → IsStatus due (fault_status why)
unfit_status room due journal point why unfit opens (OfJournal reason current is so) =
    subst (λ f. IsStatus due (fault_status f)) (sym is) (look_status due reason (opens reason so current))
unfit_status room due journal point why unfit opens (OfPoint history has within reason is so) = absurd (unfit (fitting_history room history journal has within))
unfit_status room due journal point why unfit opens (OfBoth history has within found found_log other) = absurd (unfit (fitting_history room history journal has within))

old_why : (room : RoomView) (journal point : List ℕ) (why : Fault) (last : Option Point) → HasFittingHistory room journal → HasLast last point → version_of point ≡ 1
    → WhyNotOwn (journal_limits room) journal point why → IsStatus 9 (fault_status why)
old_why room journal point why last fits has_last oldest (OfJournal reason current is so) =
    inr (ap fault_status (look_well journal reason why is (may_be room journal reason fits so) (λ old. current (look_old reason (sym is ∙ old)))))
old_why room journal point why last fits has_last oldest (OfPoint history has within reason is so) =
    subst (λ f. IsStatus 9 (fault_status f)) (sym is) (look_status 9 reason (old_taken point last reason has_last so))
old_why room journal point why last fits has_last oldest (OfBoth history has within found found_log other) = absurd (both_versions point oldest found_log.newest)

own_by_end : (end : End) → EndsVerifyingPoint end → (end ≡ console_unwritten → ⊥) → ((why : Fault) → end ≡ Told why → why ≡ fault.Memory) → EndsWell end
own_by_end Done kind console told = inl tt
own_by_end Refused kind console told = absurd kind
own_by_end (Unwritten Out) kind console told = absurd kind
own_by_end (Unwritten Side) kind console told = absurd kind
own_by_end (Unwritten Pages) kind console told = absurd kind
own_by_end (Unwritten Console) kind console told = absurd (console refl)
own_by_end (Told why) kind console told = inr (ap Told (told why refl))
own_by_end BroughtInPart kind console told = absurd kind
own_by_end Differ kind console told = absurd kind

status_by_end : (due : ℕ) (end : End) → EndsVerifyingPoint end → (IsAllDone end → ⊥) → (end ≡ console_unwritten → ⊥)
    → ((why : Fault) → end ≡ Told why → IsStatus due (fault_status why)) → IsStatus due (end_status end)
status_by_end due Done kind good console told = absurd (good tt)
status_by_end due Refused kind good console told = absurd kind
status_by_end due (Unwritten Out) kind good console told = absurd kind
status_by_end due (Unwritten Side) kind good console told = absurd kind
status_by_end due (Unwritten Pages) kind good console told = absurd kind
status_by_end due (Unwritten Console) kind good console told = absurd (console refl)
status_by_end due (Told why) kind good console told = told why refl
status_by_end due BroughtInPart kind good console told = absurd kind
status_by_end due Differ kind good console told = absurd kind

-- the bytes of a file that is there
same_file : (file : Option (List ℕ)) (bytes others : List ℕ) → file ≡ Some bytes → file ≡ Some others → bytes ≡ others
same_file file bytes others is also = cc

module _ (o : Outcome) (journal point : List ℕ) (v : VerifiesPoint journal point o) (no_console : o.end ≡ console_unwritten → ⊥) (no_input : o.end ≡ Told fault.Input → ⊥) where
  pub owns_well : FitsVerifyPoint o.old journal point → EndsWell o.end
  owns_well f =
      own_by_end o.end v.ends no_console
      (by_fault o.end (λ why. why ≡ fault.Memory) no_input refl (λ why is input memory.
      let t = v.so why is input memory f.look.tells in
      let one = same_file (o.old.file journal) t.history_bytes f.look.bytes t.history_file f.look.there in
      let other = same_file (o.old.file point) t.point_bytes f.point_bytes t.point_file f.point_there in
      why_well o.old f.look.bytes f.point_bytes why f.last f.look.history f.is f.own
      (subst (λ bytes. WhyNotOwn (journal_limits o.old) bytes f.point_bytes why) one (subst (λ bytes. WhyNotOwn (journal_limits o.old) t.history_bytes bytes why) other t.so))))

  module _ (tells : o.old.tells ≡ true) where
    -- the journal has no history within the limits, and this is how its bytes are refused
    journal_status : (due : ℕ) (bytes : List ℕ) → o.old.file journal ≡ Some bytes → (HasFittingHistory o.old bytes → ⊥)
        → ((reason : OpenFault) → IsUnopened (journal_limits o.old) bytes reason → reason ≢ opening.OldVersion → (fault_of_opening reason ≡ fault.Device → ⊥)
        → IsStatus due (fault_status (fault_of_opening reason)))
        → IsStatus due (end_status o.end)
    journal_status due bytes there unfit opens =
        status_by_end due o.end v.ends
        (λ good.
        let t = v.own (all_untold o.end good) tells in
        let one = same_file (o.old.file journal) t.history_bytes bytes t.history_file there in
        unfit (subst (HasFittingHistory o.old) one (fitting_history o.old t.own.history t.history_bytes t.own.has t.own.within)))
        no_console
        (by_fault o.end (λ why. IsStatus due (fault_status why)) no_input (inr refl) (λ why is input memory.
        let t = v.so why is input memory tells in
        let one = same_file (o.old.file journal) t.history_bytes bytes t.history_file there in
        unfit_status o.old due bytes t.point_bytes why unfit opens (subst (λ bytes. WhyNotOwn (journal_limits o.old) bytes t.point_bytes why) one t.so)))

    -- the log of checkpoints is of version 1
    old_status : IsOldPoint o.old journal point → IsStatus 9 (end_status o.end)
    old_status old =
        status_by_end 9 o.end v.ends
        (λ good.
        let t = v.own (all_untold o.end good) tells in
        both_versions t.point_bytes (subst (λ log. version_of log ≡ 1) (ap bytes_or_none t.point_file) old.oldest) t.own.is_last.newest)
        no_console
        (by_fault o.end (λ why. IsStatus 9 (fault_status why)) no_input (inr refl) (λ why is input memory.
        let t = v.so why is input memory tells in
        old_why o.old t.history_bytes t.point_bytes why old.last (subst (HasFittingHistory o.old) (ap bytes_or_none t.history_file) old.history)
        (subst (HasLast old.last) (ap bytes_or_none t.point_file) old.has) (subst (λ log. version_of log ≡ 1) (ap bytes_or_none t.point_file) old.oldest) t.so))

pub owns_refuses : (o : Outcome) → o.old.tells ≡ true → (words : List (List ℕ)) (journal point : List ℕ) → VerifiesPoint journal point o
    → (o.end ≡ console_unwritten → ⊥) → (o.end ≡ Told fault.Input → ⊥) → RefusesMisfits words (VerifyPoint journal point) o.old (end_status o.end)
owns_refuses o tells words journal point v no_console no_input = record {
  no_history = λ none.
      with_bytes (o.old.file journal) none (λ bytes there no.
      journal_status o journal point v no_console no_input tells 6 bytes there (none_fits o.old bytes no) (λ reason so current device. none_opened o.old bytes no reason so device));
  other_version = old_status o journal point v no_console no_input tells;
  limits = λ large.
      with_bytes (o.old.file journal) large (λ bytes there has.
      journal_status o journal point v no_console no_input tells 7 bytes there (large_fits o.old bytes has)
      (λ reason so current device. large_opened o.old bytes has.entries has.has reason so current device));
}
