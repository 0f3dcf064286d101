-- A command that looks into a journal: how it ends where it fits, and with which status where the journal can't be used.
use Rattle.std.proofs.Common.{◌≡◌, ◌≢◌, inr, ℕ, true, List, Option, Some, None, refl, sym, ap, subst, ◌∙◌}
use Rattle.std.specs.Prelude.{IsSomeAnd}
use Rattle.marc_types.specs.declared.entry.Entry.{Entry}
use Rattle.command_words.specs.Command.{Read}
use Rattle.command_words.specs.Look.{Look}
use Rattle.console_lines.specs.Ends.{Outcome, IsAllDone, TellsNoFault, end_status, out_unwritten}
use Rattle.console_lines.specs.Faults.{fault_status}
use Rattle.console_lines.specs.declared.end.End.{End}
use Rattle.console_lines.specs.declared.end.End.TheVariants.{Done, Refused, Unwritten, Told, BroughtInPart, Differ}
use Rattle.console_lines.specs.declared.end.Unwritten.TheVariants.{Side, Pages, Console}
use Rattle.console_lines.specs.declared.fault.Fault.{Fault}
use Rattle.console_lines.specs.declared.fault.Fault.TheVariants as fault
use Rattle.durable_catalogue.specs.Openings.{IsUnopened}
use Rattle.durable_catalogue.specs.declared.fault.OpenFault.{OpenFault}
use Rattle.durable_catalogue.specs.declared.fault.OpenFault.TheVariants as opening
use Rattle.journal_files.specs.Faults.{fault_of_opening}
use Rattle.journal_files.specs.Journals.{journal_limits, HasFittingHistory}
use Rattle.unheld_journals.specs.Untaken.{WhyUntaken, fault_of_look}
use Rattle.reading_commands.specs.Looking.{LooksInto, EndsLooking, look_due}
use Rattle.union_top.specs.Fits.{FitsLook}
use Rattle.union_top.specs.Misfits.{IsStatus, RefusesMisfits}
use Rattle.union_top.proofs.Fitting.{EndsWell, by_end}
use Rattle.union_top.proofs.Unopened.{MayBe, may_be}
use Rattle.union_top.proofs.Misfits.{by_told, none_opened, large_opened, none_fits, large_fits}

-- a fault for which bytes aren't taken that remains, where they have a history within the limits
pub look_well : (bytes : List ℕ) (reason : OpenFault) (why : Fault) → why ≡ fault_of_look reason → MayBe bytes reason → (why ≡ fault.OldVersion → ⊥)
    → why ≡ fault.Memory
look_well bytes opening.DeviceFault why is may current = is
look_well bytes (opening.NotAJournal place) why is may current = absurd may
look_well bytes opening.OldVersion why is may current = absurd (current is)
look_well bytes opening.Full why is may current = absurd may
look_well bytes opening.NoMemory why is may current = is

-- its status is that of an opening, or memory ran out
pub look_status : (due : ℕ) (reason : OpenFault) → ((fault_of_opening reason ≡ fault.Device → ⊥) → IsStatus due (fault_status (fault_of_opening reason)))
    → IsStatus due (fault_status (fault_of_look reason))
look_status due opening.DeviceFault opened = inr refl
look_status due (opening.NotAJournal place) opened = opened (λ e. cc)
look_status due opening.OldVersion opened = opened (λ e. cc)
look_status due opening.Full opened = opened (λ e. cc)
look_status due opening.NoMemory opened = inr refl

pub all_untold : (end : End) → IsAllDone end → TellsNoFault end
all_untold Done good = tt
all_untold Refused good = tt
all_untold (Unwritten which) good = absurd good
all_untold (Told why) good = absurd good
all_untold BroughtInPart good = absurd good
all_untold Differ good = absurd good

pub with_bytes : {P : List ℕ → Type 0} {Q : Type 0} (file : Option (List ℕ)) → IsSomeAnd file P → ((bytes : List ℕ) → file ≡ Some bytes → P bytes → Q) → Q
with_bytes None so then = absurd so
with_bytes (Some bytes) so then = then bytes refl so

-- by the fault that was told
pub by_fault : (end : End) (P : Fault → Type 0) → (end ≡ Told fault.Input → ⊥) → P fault.Memory
    → ((why : Fault) → end ≡ Told why → why ≢ fault.Input → why ≢ fault.Memory → P why) → (why : Fault) → end ≡ Told why → P why
by_fault end P no_input memory other fault.Input is = absurd (no_input is)
by_fault end P no_input memory other fault.Memory is = memory
by_fault end P no_input memory other fault.Usage is = other fault.Usage is (λ e. cc) (λ e. cc)
by_fault end P no_input memory other fault.Device is = other fault.Device is (λ e. cc) (λ e. cc)
by_fault end P no_input memory other (fault.NotAJournal place) is = other (fault.NotAJournal place) is (λ e. cc) (λ e. cc)
by_fault end P no_input memory other fault.Full is = other fault.Full is (λ e. cc) (λ e. cc)
by_fault end P no_input memory other fault.OldVersion is = other fault.OldVersion is (λ e. cc) (λ e. cc)
by_fault end P no_input memory other fault.OtherHistory is = other fault.OtherHistory is (λ e. cc) (λ e. cc)

-- A fault was told that isn't of an input: for its reason in a journal that is an input, and not for its version.
module _ (o : Outcome) (journal : List ℕ)
    (so : (why : Fault) → o.end ≡ Told why → why ≢ fault.Input → why ≢ fault.Memory → o.old.tells ≡ true → IsSomeAnd (o.old.file journal) (λ bytes. WhyUntaken (journal_limits o.old) bytes why))
    (current : o.end ≡ Told fault.OldVersion → ⊥) (no_input : o.end ≡ Told fault.Input → ⊥) where
  untaken : (bytes : List ℕ) → o.old.tells ≡ true → o.old.file journal ≡ Some bytes → (why : Fault) → o.end ≡ Told why → why ≢ fault.Input → why ≢ fault.Memory
      → WhyUntaken (journal_limits o.old) bytes why
  untaken bytes tells there why is input memory = subst (λ file. IsSomeAnd file (λ bytes. WhyUntaken (journal_limits o.old) bytes why)) there (so why is input memory tells)

  -- where the journal fits it is want of memory
  pub only_memory : FitsLook o.old journal → (why : Fault) → o.end ≡ Told why → why ≡ fault.Memory
  only_memory f = by_fault o.end (λ why. why ≡ fault.Memory) no_input refl (λ why is input memory.
      let w = untaken f.bytes f.tells f.there why is input memory in
      look_well f.bytes w.reason why w.is (may_be o.old f.bytes w.reason f.history w.so) (λ old. current (is ∙ ap Told old)))

  -- and else it has the status of an opening, or memory ran out
  pub untaken_status : (status : ℕ) (bytes : List ℕ) → o.old.tells ≡ true → o.old.file journal ≡ Some bytes
      → ((reason : OpenFault) → IsUnopened (journal_limits o.old) bytes reason → (reason ≡ opening.OldVersion → ⊥) → (fault_of_opening reason ≡ fault.Device → ⊥)
      → IsStatus status (fault_status (fault_of_opening reason)))
      → (why : Fault) → o.end ≡ Told why → IsStatus status (fault_status why)
  untaken_status status bytes tells there opens = by_fault o.end (λ why. IsStatus status (fault_status why)) no_input (inr refl) (λ why is input memory.
      let w = untaken bytes tells there why is input memory in
      subst (λ f. IsStatus status (fault_status f)) (sym w.is)
      (look_status status w.reason (opens w.reason w.so (λ old. current (is ∙ ap Told (w.is ∙ ap fault_of_look old))))))

module _ (o : Outcome) (journal out : List ℕ) (due : List Entry → List ℕ) (l : LooksInto journal out due o) where
  abbrev Never : End → Type 0
  Never end = o.end ≡ end → ⊥

  ends_so : (end : End) → o.end ≡ end → EndsLooking end
  ends_so end is = subst EndsLooking is l.ends

  pub looks_well : FitsLook o.old journal → Never out_unwritten → Never (Told fault.Input) → EndsWell o.end
  looks_well f no_out no_input =
      by_end o.end no_out (ends_so (Unwritten Side), ends_so (Unwritten Pages)) (ends_so (Unwritten Console))
      (ends_so BroughtInPart, ends_so Differ)
      (only_memory o journal l.so (ends_so (Told fault.OldVersion)) no_input f)

  looks_status : (status : ℕ) (bytes : List ℕ) → o.old.tells ≡ true → o.old.file journal ≡ Some bytes → (HasFittingHistory o.old bytes → ⊥)
      → ((reason : OpenFault) → IsUnopened (journal_limits o.old) bytes reason → (reason ≡ opening.OldVersion → ⊥) → (fault_of_opening reason ≡ fault.Device → ⊥)
      → IsStatus status (fault_status (fault_of_opening reason)))
      → Never out_unwritten → Never (Told fault.Input) → IsStatus status (end_status o.end)
  looks_status status bytes tells there unfit opens no_out no_input =
      by_told status o.end (λ good. unfit (subst (λ file. IsSomeAnd file (HasFittingHistory o.old)) there (l.history (all_untold o.end good) tells))) no_out
      (ends_so (Unwritten Side), ends_so (Unwritten Pages)) (ends_so (Unwritten Console))
      (ends_so BroughtInPart, ends_so Differ)
      (untaken_status o journal l.so (ends_so (Told fault.OldVersion)) no_input status bytes tells there opens)

pub looks_refuses : (o : Outcome) → o.old.tells ≡ true → (words : List (List ℕ)) (look : Look) (journal out : List ℕ) → LooksInto journal out (look_due look) o
    → (o.end ≡ out_unwritten → ⊥) → (o.end ≡ Told fault.Input → ⊥) → RefusesMisfits words (Read look journal out) o.old (end_status o.end)
looks_refuses o tells words look journal out l no_out no_input = record {
  no_history = λ none.
      with_bytes (o.old.file journal) none (λ bytes there no.
      looks_status o journal out (look_due look) l 6 bytes tells there (none_fits o.old bytes no) (λ reason so current device. none_opened o.old bytes no reason so device)
      no_out no_input);
  other_version = λ no. absurd no;
  limits = λ large.
      with_bytes (o.old.file journal) large (λ bytes there has.
      looks_status o journal out (look_due look) l 7 bytes tells there (large_fits o.old bytes has) (λ reason so current device. large_opened o.old bytes has.entries has.has reason so current device)
      no_out no_input);
}
