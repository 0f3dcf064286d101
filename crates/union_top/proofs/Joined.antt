-- How the commands over the parts of a catalogue end, where no fault ended them.
use Rattle.std.proofs.Common.{◌≡◌, ◌∙◌, inl, inr, ℕ, List, [], None, refl, sym, ap, subst}
use Rattle.std.specs.Prelude.{All, IsSome, length}
use Rattle.std.proofs.lemmas.Bool.{true≢false}
use Rattle.std.proofs.lemmas.List.Elements.{All-contains}
use Rattle.outside.specs.Room.{SameBut}
use Rattle.command_words.specs.declared.library.Library.{Library}
use Rattle.console_lines.specs.Ends.{Outcome, IsTold, out_unwritten, console_unwritten}
use Rattle.console_lines.specs.declared.end.End.{End}
use Rattle.console_lines.specs.declared.end.End.TheVariants.{Done, Refused, Unwritten, Told, BroughtInPart, Differ}
use Rattle.console_lines.specs.declared.end.Unwritten.TheVariants.{Out, Side, Pages, Console}
use Rattle.console_lines.specs.declared.fault.Fault.{Fault}
use Rattle.console_lines.specs.declared.fault.Fault.TheVariants as fault
use Rattle.console_lines.proofs.Ends.{told_once, told_not_unwritten, told_not_all}
use Rattle.parts_commands.specs.Joining.{EndsJoining, Joins}
use Rattle.parts_commands.specs.Reading.{IsFaultOfReading}
use Rattle.parts_commands.specs.Telling.{EndsTotals, TellsTotals}
use Rattle.split_command.specs.Names.{split_names}
use Rattle.split_command.specs.Splitting.{EndsSplitting, Splits, WhyUnwritten, IsThere, HasFault, Unbegun}
use Rattle.loading_commands.specs.Inputs.{IsInputFault}
use Rattle.union_top.specs.Complete.{Stayed}
use Rattle.union_top.specs.Fits.{FitsTotals, FitsJoin, FitsSplit}
use Rattle.union_top.proofs.Fitting.{EndsWell}

-- a fault of reading that remains
reading_why : (why : Fault) → IsFaultOfReading why → (why ≡ fault.Input → ⊥) → why ≡ fault.Memory
reading_why fault.Input kind input = absurd (input refl)
reading_why fault.Memory kind input = refl
reading_why fault.Usage kind input = absurd kind
reading_why fault.Device kind input = absurd kind
reading_why (fault.NotAJournal place) kind input = absurd kind
reading_why fault.Full kind input = absurd kind
reading_why fault.OldVersion kind input = absurd kind
reading_why fault.OtherHistory kind input = absurd kind

totals_by_end : (end : End) → EndsTotals end → (end ≡ console_unwritten → ⊥) → (end ≡ Differ → ⊥) → ((why : Fault) → end ≡ Told why → why ≡ fault.Memory) → EndsWell end
totals_by_end Done kind console differ told = inl tt
totals_by_end Refused kind console differ told = absurd kind
totals_by_end (Unwritten Out) kind console differ told = absurd kind
totals_by_end (Unwritten Side) kind console differ told = absurd kind
totals_by_end (Unwritten Pages) kind console differ told = absurd kind
totals_by_end (Unwritten Console) kind console differ told = absurd (console refl)
totals_by_end (Told why) kind console differ told = inr (ap Told (told why refl))
totals_by_end BroughtInPart kind console differ told = absurd kind
totals_by_end Differ kind console differ told = absurd (differ refl)

join_by_end : (end : End) → EndsJoining end → (end ≡ out_unwritten → ⊥) → (end ≡ Differ → ⊥) → ((why : Fault) → end ≡ Told why → why ≡ fault.Memory) → EndsWell end
join_by_end Done kind out differ told = inl tt
join_by_end Refused kind out differ told = absurd kind
join_by_end (Unwritten Out) kind out differ told = absurd (out refl)
join_by_end (Unwritten Side) kind out differ told = absurd kind
join_by_end (Unwritten Pages) kind out differ told = absurd kind
join_by_end (Unwritten Console) kind out differ told = absurd kind
join_by_end (Told why) kind out differ told = inr (ap Told (told why refl))
join_by_end BroughtInPart kind out differ told = absurd kind
join_by_end Differ kind out differ told = absurd (differ refl)

split_by_end : (end : End) → EndsSplitting end → (end ≡ out_unwritten → ⊥) → (end ≡ console_unwritten → ⊥) → (end ≡ Told fault.Input → ⊥) → EndsWell end
split_by_end Done kind out console input = inl tt
split_by_end Refused kind out console input = inl tt
split_by_end (Unwritten Out) kind out console input = absurd (out refl)
split_by_end (Unwritten Side) kind out console input = absurd kind
split_by_end (Unwritten Pages) kind out console input = absurd kind
split_by_end (Unwritten Console) kind out console input = absurd (console refl)
split_by_end (Told fault.Usage) kind out console input = absurd kind
split_by_end (Told fault.Input) kind out console input = absurd (input refl)
split_by_end (Told fault.Device) kind out console input = absurd kind
split_by_end (Told (fault.NotAJournal place)) kind out console input = absurd kind
split_by_end (Told fault.Full) kind out console input = absurd kind
split_by_end (Told fault.Memory) kind out console input = inr refl
split_by_end (Told fault.OldVersion) kind out console input = absurd kind
split_by_end (Told fault.OtherHistory) kind out console input = absurd kind
split_by_end BroughtInPart kind out console input = absurd kind
split_by_end Differ kind out console input = absurd kind

module _ (o : Outcome) where
  abbrev Never : End → Type 0
  Never end = o.end ≡ end → ⊥

  pub totals_well : (first : List ℕ) (reports : List (List ℕ)) → TellsTotals first reports o → FitsTotals o.old first reports
      → Never console_unwritten → Never (Told fault.Input) → EndsWell o.end
  totals_well first reports t f no_console no_input =
      totals_by_end o.end t.ends no_console (λ is. let d = t.differ is in f.can d.place d.name (d.so f.tells))
      (λ why is. reading_why why (subst EndsTotals is t.ends) (λ same. no_input (is ∙ ap Told same)))

  pub joins_well : (out : List ℕ) (exports : List (List ℕ)) → Joins out exports o → FitsJoin o.old exports
      → Never out_unwritten → Never (Told fault.Input) → EndsWell o.end
  joins_well out exports j f no_out no_input =
      join_by_end o.end j.ends no_out (λ is. let d = j.differ is in f.can d.place d.name (d.so f.tells))
      (λ why is. reading_why why (subst EndsJoining is j.ends) (λ same. no_input (is ∙ ap Told same)))

  module _ (count : ℕ) (prefix : List ℕ) (libraries : List Library) where
    abbrev outputs : List (List ℕ)
    outputs = split_names prefix count (length libraries)

    abbrev OutputsStayed : Type 0
    OutputsStayed = All (λ n. Stayed (o.old.out_faults n) (o.new.out_faults n)) outputs

    -- no output is there, and no fault of one was counted
    outputs_written : FitsSplit o.old count prefix libraries → OutputsStayed → WhyUnwritten outputs o.old o.new → ⊥
    outputs_written f stayed (IsThere name among there same) =
        let free = All-contains (λ n. o.old.file n ≡ None) outputs name f.free among in
        true≢false (sym (subst IsSome free (there f.tells)))
    outputs_written f stayed (HasFault name among rose) = All-contains (λ n. Stayed (o.old.out_faults n) (o.new.out_faults n)) outputs name stayed among rose

    pub splits_well : Splits count prefix libraries o → FitsSplit o.old count prefix libraries → (IsInputFault libraries o.old o.new → ⊥)
        → OutputsStayed → Never console_unwritten → EndsWell o.end
    splits_well s f inputs outs no_console =
        split_by_end o.end s.ends (λ is. outputs_written f outs (s.out_cause is)) no_console (λ is.
        let i = s.input is in inputs (record { index = i.index; library = i.library; named = i.named; rose = i.rose }))

-- a split for whose libraries there is no memory changes nothing
pub splits_unasked : (count : ℕ) (prefix : List ℕ) (libraries : List Library) (o : Outcome) → o.end ≡ Told fault.Memory → IsTold fault.Memory o
    → SameBut o.old o.new [] → Splits count prefix libraries o
splits_unasked count prefix libraries o is told stays = record {
  ends = subst EndsSplitting (sym is) tt;
  told = λ why also. subst (λ w. IsTold w o) (told_once o.end fault.Memory why is also) told;
  input = λ also. let no : fault.Memory ≡ fault.Input = told_once o.end fault.Memory fault.Input is also in cc;
  out_cause = λ also. absurd (told_not_unwritten o.end fault.Memory Out is also);
  console_cause = λ also. absurd (told_not_unwritten o.end fault.Memory Console is also);
  silent = λ also. absurd (told_not_unwritten o.end fault.Memory Out is also);
  kept = λ name among tells there. (stays, inr is);
  whole = λ all. absurd (told_not_all o.end fault.Memory is all);
  untold = λ also. absurd (told_not_unwritten o.end fault.Memory Console is also);
  left = λ tells. Unbegun stays;
}
