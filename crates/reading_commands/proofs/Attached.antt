-- How the command ends that writes a journal's records with the holdings of a file and doesn't hold the journal, from what its steps say.
use Rattle.std.proofs.Common.{◌≡◌, ◌≢◌, ◌∙◌, ◌⊎◌, inl, inr, ℕ, true, List, [], ◌∷◌, Option, Some, Result, Ok, Err, OnOk, refl, sym, subst}
use Rattle.std.specs.Prelude.{IsSomeAnd, IfErr, string_bytes}
use Rattle.marc_types.specs.declared.entry.Entry.{Entry}
use Rattle.marc_types.specs.declared.entry.Limits.{Limits}
use Rattle.outside.specs.Fault.{Rose}
use Rattle.outside.specs.Room.{RoomView, SameBut}
use Rattle.outside.proofs.Counts.{rose_since}
use Rattle.outside.proofs.Rooms.{same_but_none, same_but_then}
use Rattle.command_words.specs.declared.library.Library.{Library}
use Rattle.catalogue_rules.specs.Settle.{state_of}
use Rattle.entry_record.specs.History.{IsWithin}
use Rattle.durable_catalogue.specs.Logs.{HasHistory}
use Rattle.durable_catalogue.specs.Openings.{IsUnopened}
use Rattle.durable_catalogue.specs.declared.fault.OpenFault.{OpenFault}
use Rattle.durable_catalogue.specs.declared.fault.OpenFault.TheVariants as opening
use Rattle.console_lines.specs.Ends.{Outcome, IsTold, TellsNoFault, IsSilent, IsResultTold, out_unwritten, pages_unwritten}
use Rattle.console_lines.specs.declared.end.End.{End}
use Rattle.console_lines.specs.declared.end.End.TheVariants.{Done, Refused, Unwritten as NotWritten, Told, BroughtInPart, Differ}
use Rattle.console_lines.specs.declared.end.Unwritten.{Unwritten}
use Rattle.console_lines.specs.declared.end.Unwritten.TheVariants.{Out, Side, Pages, Console}
use Rattle.console_lines.specs.declared.end.OutputsFault.{OutputsFault}
use Rattle.console_lines.specs.declared.end.OutputsFault.TheVariants.{NoMemory as RanOut, Unwritten as NotBoth}
use Rattle.console_lines.specs.declared.fault.Fault.{Fault}
use Rattle.console_lines.specs.declared.fault.Fault.TheVariants.{Input, Memory}
use Rattle.console_lines.proofs.Ends.{told_once, told_not_unwritten, never_told}
use Rattle.memory_files.specs.declared.reading.ReadFault.{ReadFault}
use Rattle.memory_files.specs.declared.reading.ReadFault.TheVariants as read
use Rattle.journal_files.specs.Journals.{journal_limits, HasFittingHistory}
use Rattle.journal_files.proofs.Histories.{fitting_history}
use Rattle.output_files.specs.Kept.{kept_keys}
use Rattle.output_files.specs.Outputs.{AreWritten, AreStopped, AtFirst, AtSecond}
use Rattle.output_files.proofs.Parts.{left_since}
use Rattle.holdings_export.specs.Output.{holdings_export, holdings_rest}
use Rattle.holdings_command.specs.Attaching.{rest_unwritten}
use Rattle.holdings_command.specs.Ready.{IsReady}
use Rattle.holdings_command.specs.Shelving.{IsFaultOfShelving}
use Rattle.holdings_command.specs.declared.ready.Ready.{Ready}
use Rattle.holdings_command.proofs.Delivering.{Delivers, attached_of_any, delivers_stopped, delivers_told}
use Rattle.holdings_command.proofs.OnShelves.{there_more}
use Rattle.holdings_command.proofs.Unread.{unread_is}
use Rattle.unheld_journals.specs.Untaken.{WhyUntaken, fault_of_look, fault_of_reading}
use Rattle.reading_commands.specs.Unheld.{EndsUnheld, AttachesUnheld}
use Rattle.reading_commands.proofs.Endings.{same_bytes, untaken_not_input}

-- a fault for which bytes aren't taken is one of this command
ends_untaken : (reason : OpenFault) → reason ≢ opening.OldVersion → EndsUnheld (Told (fault_of_look reason))
ends_untaken opening.DeviceFault current = tt
ends_untaken (opening.NotAJournal place) current = tt
ends_untaken opening.OldVersion current = absurd (current refl)
ends_untaken opening.Full current = tt
ends_untaken opening.NoMemory current = tt

-- so is a fault of reading the file, which has no reason in the journal
ends_unread : (why : Fault) → IsFaultOfShelving why → EndsUnheld (Told why)
ends_unread why is = unread_is (λ w. EndsUnheld (Told w)) tt tt why is

no_reason : {P : Type 0} (why : Fault) → IsFaultOfShelving why → why ≢ Input → why ≢ Memory → P
no_reason {P} why is =
    unread_is (λ w. w ≢ Input → w ≢ Memory → P) (λ no_input no_memory. absurd (no_input refl)) (λ no_input no_memory. absurd (no_memory refl)) why is

ends_delivered : (end : End) → TellsNoFault end → end ≢ pages_unwritten → EndsUnheld end
ends_delivered Done untold no_pages = tt
ends_delivered Refused untold no_pages = tt
ends_delivered (NotWritten Out) untold no_pages = tt
ends_delivered (NotWritten Side) untold no_pages = tt
ends_delivered (NotWritten Pages) untold no_pages = absurd (no_pages refl)
ends_delivered (NotWritten Console) untold no_pages = tt
ends_delivered (Told why) untold no_pages = absurd untold
ends_delivered BroughtInPart untold no_pages = absurd untold
ends_delivered Differ untold no_pages = absurd untold

-- two readings change nothing
pub read_apart : (old mid read new : RoomView) (names : List (List ℕ)) → SameBut old mid [] → SameBut mid read [] → SameBut read new names → SameBut old new names
read_apart old mid read new names first second third =
    same_but_then old read new names (same_but_none old read names (same_but_then old mid read [] first second)) third

-- the outputs were written, or stopped, behind readings that changed nothing
module _ (old read new : RoomView) (out rest due due_rest : List ℕ) (s : SameBut old read []) where
  pub written_since : (read.tells ≡ true → AreWritten out rest due due_rest new) → old.tells ≡ true → AreWritten out rest due due_rest new
  written_since are tells = are (s.tells ∙ tells)

  pub stopped_since : (which : Unwritten) → AreStopped (out ∷ []) out rest due due_rest read new which → AreStopped (out ∷ []) out rest due due_rest old new which
  stopped_since which (AtFirst is up left alone) =
      AtFirst is (rose_since _ _ _ (s.outs out) up) (λ tells. left_since old read new out due [] tt s (left (s.tells ∙ tells)))
      (same_but_then old read new (out ∷ []) (same_but_none old read (out ∷ []) s) alone)
  stopped_since which (AtSecond is up whole left) =
      AtSecond is (rose_since _ _ _ (s.outs rest) up) (λ tells. whole (s.tells ∙ tells)) (λ tells. left_since old read new rest due_rest [] tt s (left (s.tells ∙ tells)))

module _ (journal out rest : List ℕ) (library : Library) (code : Option (List ℕ)) (o : Outcome) where
  -- a fault was told, and nothing was begun
  unheld_told : (why : Fault) → o.end ≡ Told why → IsTold why o → EndsUnheld (Told why) → SameBut o.old o.new []
      → (why ≡ Input → Rose (o.old.in_faults journal) (o.new.in_faults journal) ⊎ Rose (o.old.in_faults library.file) (o.new.in_faults library.file))
      → (why ≢ Input → why ≢ Memory → o.old.tells ≡ true → IsSomeAnd (o.old.file journal) (λ bytes. WhyUntaken (journal_limits o.old) bytes why))
      → AttachesUnheld journal out rest library code o
  unheld_told why is told ends stays input so = record {
    ends = subst EndsUnheld (sym is) ends;
    told = λ other also. subst (λ w. IsTold w o × SameBut o.old o.new []) (told_once o.end why other is also) (told, stays);
    so = λ other also no_input no_memory tells.
        let same = told_once o.end why other is also in
        subst (λ w. IsSomeAnd (o.old.file journal) (λ bytes. WhyUntaken (journal_limits o.old) bytes w)) same
        (so (λ e. no_input (sym same ∙ e)) (λ e. no_memory (sym same ∙ e)) tells);
    no_rest = λ also. absurd (told_not_unwritten o.end why Out is also);
    silent = λ either. absurd (not_stopped either);
    input = λ also. input (told_once o.end why Input is also);
    out_cause = λ also. absurd (told_not_unwritten o.end why Out is also);
    rest_cause = λ also. absurd (told_not_unwritten o.end why Side is also);
    console_cause = λ also. absurd (told_not_unwritten o.end why Console is also);
    history = λ untold. absurd (never_told o.end why untold is);
    delivers = λ bytes entries untold. absurd (never_told o.end why untold is);
  }
    where
      not_stopped : (o.end ≡ out_unwritten) ⊎ (o.end ≡ rest_unwritten) → ⊥
      not_stopped (inl also) = told_not_unwritten o.end why Out is also
      not_stopped (inr also) = told_not_unwritten o.end why Side is also

  -- the journal could not be read
  pub unheld_unread : (reason : ReadFault) (fault : Fault) → fault ≡ fault_of_reading reason → o.end ≡ Told fault → IsTold fault o → SameBut o.old o.new []
      → (reason ≡ read.InputFault → Rose (o.old.in_faults journal) (o.new.in_faults journal)) → AttachesUnheld journal out rest library code o
  unheld_unread reason fault words is told stays rose = by reason (subst (λ f. o.end ≡ Told f) words is) (subst (λ f. IsTold f o) words told) rose
    where
      by : (reason : ReadFault) → o.end ≡ Told (fault_of_reading reason) → IsTold (fault_of_reading reason) o
          → (reason ≡ read.InputFault → Rose (o.old.in_faults journal) (o.new.in_faults journal)) → AttachesUnheld journal out rest library code o
      by read.InputFault is told rose = unheld_told Input is told tt stays (λ same. inl (rose refl)) (λ other. absurd (other refl))
      by read.NoMemory is told rose = unheld_told Memory is told tt stays (λ same. cc) (λ other more. absurd (more refl))

  -- its bytes are not taken
  pub unheld_untaken : (limits : Limits) (bytes : List ℕ) (reason : OpenFault) (fault : Fault) → fault ≡ fault_of_look reason → o.end ≡ Told fault
      → IsTold fault o → reason ≢ opening.OldVersion → SameBut o.old o.new [] → (o.old.tells ≡ true → o.old.file journal ≡ Some bytes)
      → IsUnopened limits bytes reason → limits ≡ journal_limits o.old → AttachesUnheld journal out rest library code o
  unheld_untaken limits bytes reason fault words is told current stays there unopened same_limits =
      unheld_told (fault_of_look reason) (subst (λ f. o.end ≡ Told f) words is) (subst (λ f. IsTold f o) words told) (ends_untaken reason current)
      stays (λ same. absurd (untaken_not_input reason same))
      (λ other more tells. subst (λ file. IsSomeAnd file (λ bytes. WhyUntaken (journal_limits o.old) bytes (fault_of_look reason))) (sym (there tells))
      (record { reason = reason; is = refl; so = subst (λ l. IsUnopened l bytes reason) same_limits unopened }))

  -- the file of holdings could not be read, or memory ran out over it
  pub unheld_unready : (why : Fault) → IsFaultOfShelving why → o.end ≡ Told why → IsTold why o → SameBut o.old o.new []
      → (why ≡ Input → Rose (o.old.in_faults library.file) (o.new.in_faults library.file)) → AttachesUnheld journal out rest library code o
  unheld_unready why kind is told stays rose =
      unheld_told why is told (ends_unread why kind) stays (λ same. inr (rose same)) (λ other more tells. no_reason why kind other more)

  module _ (bytes : List ℕ) (history : List Entry) (there : o.old.tells ≡ true → o.old.file journal ≡ Some bytes) (has : HasHistory history bytes)
      (within : IsWithin (journal_limits o.old) history) where
    -- any history of the file is one of the bytes that were read
    had : (others : List ℕ) (entries : List Entry) → o.old.tells ≡ true → o.old.file journal ≡ Some others → HasHistory entries others → HasHistory entries bytes
    had others entries tells at was = subst (HasHistory entries) (sym (same_bytes bytes others (sym (there tells) ∙ at))) was

    -- what is due was delivered, as far as it could be
    unheld_attached : Delivers (out ∷ []) out rest library code (state_of history) o → AttachesUnheld journal out rest library code o
    unheld_attached d = record {
      ends = ends_delivered o.end d.untold d.no_pages;
      told = λ why also. absurd (never_told o.end why d.untold also);
      so = λ why also. absurd (never_told o.end why d.untold also);
      no_rest = d.no_rest;
      silent = d.silent;
      input = λ also. absurd (never_told o.end Input d.untold also);
      out_cause = d.out_cause;
      rest_cause = d.rest_cause;
      console_cause = d.console_cause;
      history = λ untold tells. subst (λ file. IsSomeAnd file (HasFittingHistory o.old)) (sym (there tells)) (fitting_history o.old history bytes has within);
      delivers = λ others entries untold tells at was. there_more (o.old.file library.file)
          (λ file is. attached_of_any library code file out rest o entries history bytes (had others entries tells at was) has is) (d.attached tells);
    }

    module _ (ready : Ready)
        (is : o.old.tells ≡ true → IsSomeAnd (o.old.file library.file) (λ file. IsReady library file (state_of history) ready)) where
      -- the outputs were written or not, and the console told
      pub unheld_ended : {T : Type 0} → (written : Result T OutputsFault) → out ≢ rest
          → OnOk written (o.old.tells ≡ true
          → AreWritten out rest (holdings_export (kept_keys code) (state_of history) ready.shelf) (holdings_rest (state_of history) ready.shelf) o.new)
          → IfErr written (λ why. (which : Unwritten) → why ≡ NotBoth which
          → AreStopped (out ∷ []) out rest (holdings_export (kept_keys code) (state_of history) ready.shelf) (holdings_rest (state_of history) ready.shelf) o.old o.new which)
          → IfErr written (λ why. why ≡ RanOut → SameBut o.old o.new [])
          → OnOk written (IsResultTold o.told o.now o.faults o.faults_now (string_bytes ready.text) ready.refused o.end)
          → ((which : Unwritten) → written ≡ Err (NotBoth which) → o.end ≡ NotWritten which) → ((which : Unwritten) → written ≡ Err (NotBoth which) → IsSilent o)
          → (written ≡ Err RanOut → o.end ≡ Told Memory) → (written ≡ Err RanOut → IsTold Memory o) → AttachesUnheld journal out rest library code o
      unheld_ended (Ok value) no_out are stopped unbegun told unwritten silent memory tells =
          unheld_attached (delivers_told (out ∷ []) out rest library code (state_of history) o ready is are told)
      unheld_ended (Err (NotBoth which)) no_out are stopped unbegun told unwritten silent memory tells =
          unheld_attached (delivers_stopped (out ∷ []) out rest library code (state_of history) o ready is which
          ((λ e. no_out (sym e)), tt) (unwritten which refl) (silent which refl) (stopped which refl))
      unheld_ended (Err RanOut) no_out are stopped unbegun told unwritten silent memory tells =
          unheld_told Memory (memory refl) (tells refl) tt (unbegun refl) (λ input. cc) (λ other more. absurd (more refl))
