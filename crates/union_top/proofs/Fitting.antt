-- How a command ends that fits, where no fault of an input, an output, a device or the console ended it.
use Rattle.std.proofs.Common.{◌≡◌, ◌≢◌, ◌⊎◌, inl, inr, ℕ, ◌+◌, ◌≤◌, true, false, ◌||◌, true≢false, List, [], ◌∷◌, ◌++◌, length, Option, refl, sym, ap, subst, ◌∙◌, arith, append-nil, append_assoc}
use Rattle.std.specs.Prelude.{nat_lt, IsSomeAnd}
use Rattle.std.proofs.lemmas.List.{length-append}
use Rattle.std.proofs.lemmas.List.Sums.{sum_by-append}
use Rattle.std.proofs.lemmas.Bool.Decides.{nat_tests}
use Rattle.marc_types.specs.declared.entry.Entry.{Entry}
use Rattle.marc_types.specs.declared.entry.Limits.{Limits}
use Rattle.marc_types.specs.Limits.{limits_of}
use Rattle.marc_stream.specs.Pieces.{Item, items}
use Rattle.command_words.specs.declared.library.Library.{Library}
use Rattle.command_words.specs.Command.{Holdings, libraries_of}
use Rattle.entry_record.specs.History.{entry_size, entries_size}
use Rattle.file_entries.specs.Files.{IsJudged, Accepts}
use Rattle.file_entries.proofs.Every.{every_judged}
use Rattle.file_entries.specs.declared.refused.RefusedItem.{RefusedItem}
use Rattle.console_lines.specs.Ends.{Outcome, IsAllDone, IsCommon, end_status, out_unwritten, side_unwritten, pages_unwritten, console_unwritten}
use Rattle.console_lines.specs.declared.end.End.{End}
use Rattle.console_lines.specs.declared.end.End.TheVariants.{Done, Refused, Unwritten, Told, BroughtInPart, Differ}
use Rattle.console_lines.specs.declared.end.Unwritten.TheVariants as unwritten
use Rattle.console_lines.specs.declared.fault.Fault.{Fault}
use Rattle.console_lines.specs.declared.fault.Fault.TheVariants as fault
use Rattle.journal_files.specs.Faults.{fault_of_opening}
use Rattle.journal_files.specs.Journals.{log_bytes}
use Rattle.archive_commands.specs.Reads.{ReadsJournal, EndsReading}
use Rattle.plain_commands.specs.Loading.{IsFullAt, IsFaultOfLoading}
use Rattle.plain_commands.specs.Passing.{FileDue, PassesFile}
use Rattle.plain_commands.specs.Making.{Makes, EndsMaking}
use Rattle.plain_commands.specs.Totals.{IsWithinLimits}
use Rattle.holdings_command.specs.Attaching.{EndsAttaching}
use Rattle.loading_commands.specs.Loading.{Loads, Runs}
use Rattle.loading_commands.specs.Runs.{EndsLoad, EndsRun}
use Rattle.union_top.specs.Commands.{Ends}
use Rattle.union_top.specs.Fits.{FitsPass, FitsLoad, FitsReading, FitsHoldings}
use Rattle.union_top.proofs.Made.{made, made_first}
use Rattle.union_top.proofs.Unopened.{may_be, opening_well}
use Rattle.union_top.proofs.Judgements.{fits_judged}
use Rattle.union_top.proofs.Remaining.{Remains, of_load}

-- the ends that are left
abbrev pub EndsWell : End → Type 0
EndsWell end = IsAllDone end ⊎ (end ≡ Told fault.Memory)

pub well_status : (end : End) → EndsWell end → (end_status end ≤ 1) ⊎ (end_status end ≡ 8)
well_status Done well = inl (omega arith)
well_status Refused well = inl (omega arith)
well_status (Unwritten which) (inl all) = absurd all
well_status (Unwritten which) (inr memory) = cc
well_status (Told why) (inl all) = absurd all
well_status (Told why) (inr memory) = inr (ap end_status memory)
well_status BroughtInPart (inl all) = absurd all
well_status BroughtInPart (inr memory) = cc
well_status Differ (inl all) = absurd all
well_status Differ (inr memory) = cc

pub by_end : (end : End) → (end ≡ out_unwritten → ⊥) → (end ≡ side_unwritten → ⊥) × (end ≡ pages_unwritten → ⊥) → (end ≡ console_unwritten → ⊥)
    → IsCommon end → ((why : Fault) → end ≡ Told why → why ≡ fault.Memory) → EndsWell end
by_end Done out others console common told = inl tt
by_end Refused out others console common told = inl tt
by_end (Unwritten unwritten.Out) out others console common told = absurd (out refl)
by_end (Unwritten unwritten.Side) out others console common told = absurd (others.0 refl)
by_end (Unwritten unwritten.Pages) out others console common told = absurd (others.1 refl)
by_end (Unwritten unwritten.Console) out others console common told = absurd (console refl)
by_end (Told why) out others console common told = inr (ap Told (told why refl))
by_end BroughtInPart out others console common told = absurd (common.0 refl)
by_end Differ out others console common told = absurd (common.1 refl)

-- a fault of a pass that remains
pass_why : (why : Fault) → IsFaultOfLoading why → (why ≡ fault.Input → ⊥) → (why ≡ fault.Full → ⊥) → why ≡ fault.Memory
pass_why fault.Input kind input full = absurd (input refl)
pass_why fault.Full kind input full = absurd (full refl)
pass_why fault.Memory kind input full = refl
pass_why fault.Usage kind input full = absurd kind
pass_why fault.Device kind input full = absurd kind
pass_why (fault.NotAJournal place) kind input full = absurd kind
pass_why fault.OldVersion kind input full = absurd kind
pass_why fault.OtherHistory kind input full = absurd kind

-- one of loading that does
load_why : (why : Fault) → Remains why → why ≢ fault.Usage → (why ≡ fault.Input → ⊥) → (why ≡ fault.Device → ⊥) → why ≡ fault.Memory
load_why fault.Usage remains usage input device = absurd (usage refl)
load_why fault.Input remains usage input device = absurd (input refl)
load_why fault.Device remains usage input device = absurd (device refl)
load_why (fault.NotAJournal place) remains usage input device = absurd remains
load_why fault.Full remains usage input device = absurd remains
load_why fault.Memory remains usage input device = refl
load_why fault.OldVersion remains usage input device = absurd remains
load_why fault.OtherHistory remains usage input device = absurd remains

-- a file whose accepted entries are within some limits leaves no next one that passes them
never_full_at : (limits : Limits) (library : List ℕ) (items : List Item) (accepted : List Entry) (refused : List RefusedItem) → IsJudged library 0 items accepted refused → IsWithinLimits limits accepted
    → IsFullAt limits library items → ⊥
never_full_at limits library items accepted refused judged within f =
    let split : items ≡ (f.done ++ f.item ∷ []) ++ f.rest = f.split ∙ sym (append_assoc f.done (f.item ∷ []) f.rest) in
    let part = made library 0 _ _ _ (Accepts f.done f.accepted f.refused f.item f.next f.judged f.entry) in
    let all = made library 0 _ _ _ (subst (λ is. IsJudged library 0 is accepted refused) split judged) in
    let first = made_first library 0 (f.done ++ f.item ∷ []) f.rest (f.accepted ++ f.next ∷ []) accepted part all in
    let number = ap length first.1 ∙ length-append (f.accepted ++ f.next ∷ []) first.0 in
    let front_number = length-append f.accepted (f.next ∷ []) in
    let bytes = ap entries_size first.1 ∙ sum_by-append entry_size (f.accepted ++ f.next ∷ []) first.0 in
    let front_bytes = sum_by-append entry_size f.accepted (f.next ∷ []) in
    let one_bytes : entries_size (f.next ∷ []) ≡ entry_size f.next = omega arith in
    let few = within.entries in
    let small = within.bytes in
    let no_more : nat_lt limits.entries (length f.accepted + 1) ≡ false = grind (arith, nat_tests) in
    let no_larger : nat_lt limits.bytes (entries_size f.accepted + entry_size f.next) ≡ false = grind (arith, nat_tests) in
    let full = subst (λ es. nat_lt limits.entries (length es + 1) || nat_lt limits.bytes (entries_size es + entry_size f.next) ≡ true) (append-nil f.accepted) f.full in
    true≢false (sym full ∙ ap (λ b. b || nat_lt limits.bytes (entries_size f.accepted + entry_size f.next)) no_more ∙ no_larger)

module _ (o : Outcome) where
  -- the command did not end so
  abbrev pub Never : End → Type 0
  Never end = o.end ≡ end → ⊥

  pub passes_well : (due : FileDue) (libraries : List Library) (out : List ℕ) → ((library : Library) → libraries ≡ library ∷ [] → PassesFile due library out o)
      → FitsPass o.old libraries
      → Never out_unwritten → Never console_unwritten → Never (Told fault.Input) → EndsWell o.end
  passes_well due libraries out ends f no_out no_console no_input =
      let p = ends f.library f.named in
      let j = every_judged f.library.code 0 (items f.alone.bytes) in
      by_end o.end no_out p.no_side no_console p.common
      (λ why is. pass_why why (p.told why is).1 (λ same. no_input (is ∙ ap Told same))
      (λ same. never_full_at (limits_of o.old.is_large) f.library.code (items f.alone.bytes) j.accepted j.refused j.judged (f.alone.within j.accepted j.refused j.judged)
      (subst (λ file. IsSomeAnd file (λ bytes. IsFullAt (limits_of o.old.is_large) f.library.code (items bytes))) f.alone.there (p.full (is ∙ ap Told same) f.tells))))

  pub makes_well : (seed count : ℕ) (out : List ℕ) → Makes seed count out o → Never out_unwritten → Never console_unwritten → EndsWell o.end
  makes_well seed count out m no_out no_console =
      by_end o.end no_out ((λ is. subst EndsMaking is m.ends), (λ is. subst EndsMaking is m.ends)) no_console
      ((λ is. subst EndsMaking is m.ends), (λ is. subst EndsMaking is m.ends)) (λ why is. subst EndsMaking is m.ends)

  pub reads_well : (journal out : List ℕ) (due : List Entry → List ℕ) → ReadsJournal journal out due o → FitsReading o.old journal
      → Never out_unwritten → Never (Told fault.Device) → EndsWell o.end
  reads_well journal out due r f no_out no_device =
      by_end o.end no_out ((λ is. subst EndsReading is r.ends), (λ is. subst EndsReading is r.ends)) (λ is. subst EndsReading is r.ends)
      ((λ is. subst EndsReading is r.ends), (λ is. subst EndsReading is r.ends))
      (λ why is.
      let w = (r.told why is).1 in
      w.is ∙ opening_well (log_bytes o.old journal) w.reason (λ old. subst EndsReading (is ∙ ap Told (w.is ∙ ap fault_of_opening old)) r.ends)
      (may_be o.old (log_bytes o.old journal) w.reason f.history (w.so f.tells)) (λ device. no_device (is ∙ ap Told (w.is ∙ device))))

  pub attaches_well : (words : List (List ℕ)) (journal out rest : List ℕ) (code : Option (List ℕ)) → Ends words (Holdings journal out rest code) o
      → FitsHoldings o.old journal (libraries_of words) → Never out_unwritten → Never side_unwritten → Never console_unwritten
      → Never (Told fault.Input) → Never (Told fault.Device) → EndsWell o.end
  attaches_well words journal out rest code ends f no_out no_rest no_console no_input no_device =
      let a = ends f.library f.named in
      by_end o.end no_out (no_rest, λ is. subst EndsAttaching is a.ends) no_console
      ((λ is. subst EndsAttaching is a.ends), (λ is. subst EndsAttaching is a.ends))
      (λ why is.
      let w = a.because why is (λ same. no_input (is ∙ ap Told same)) in
      w.is ∙ opening_well (log_bytes o.old journal) w.reason (λ old. subst EndsAttaching (is ∙ ap Told (w.is ∙ ap fault_of_opening old)) a.ends)
      (may_be o.old (log_bytes o.old journal) w.reason f.reading.history (w.so f.reading.tells)) (λ device. no_device (is ∙ ap Told (w.is ∙ device))))

  pub loads_well : (libraries : List Library) (journal : List ℕ) → Loads libraries journal o → FitsLoad o.old journal libraries
      → Never console_unwritten → Never (Told fault.Input) → Never (Told fault.Device) → EndsWell o.end
  loads_well libraries journal l f no_console no_input no_device =
      let fits = fits_judged o.old journal libraries f.together in
      by_end o.end l.no_output.0 (l.no_output.1, λ is. subst EndsLoad is l.ends) no_console
      ((λ is. subst EndsLoad is l.ends), (λ is. subst EndsLoad is l.ends))
      (λ why is. load_why why (of_load o.old o.new journal libraries f.tells fits why (l.because why is f.tells)) (l.told why is).1
      (λ same. no_input (is ∙ ap Told same)) (λ same. no_device (is ∙ ap Told same)))

  pub runs_well : (libraries : List Library) (journal out report : List ℕ) → Runs libraries journal out report o → FitsLoad o.old journal libraries
      → Never out_unwritten → Never side_unwritten → Never console_unwritten → Never (Told fault.Input) → Never (Told fault.Device) → EndsWell o.end
  runs_well libraries journal out report r f no_out no_report no_console no_input no_device =
      let fits = fits_judged o.old journal libraries f.together in
      by_end o.end no_out (no_report, λ is. subst EndsRun is r.ends) no_console
      ((λ is. subst EndsRun is r.ends), (λ is. subst EndsRun is r.ends))
      (λ why is. load_why why (of_load o.old o.new journal libraries f.tells fits why (r.because why is f.tells)) (r.told why is).1
      (λ same. no_input (is ∙ ap Told same)) (λ same. no_device (is ∙ ap Told same)))
