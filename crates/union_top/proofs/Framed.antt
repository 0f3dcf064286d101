-- How long a journal may get in a loading: no longer than with a frame for each accepted entry.
use Rattle.std.proofs.Common.{◌≡◌, ℕ, ◌+◌, ◌<◌, ◌≤◌, max, true, List, [], ◌∷◌, ◌++◌, length, take, Some, refl, ap, subst, ◌∙◌, arith}
use Rattle.std.specs.Prelude.{All}
use Rattle.std.specs.List.{sum_by}
use Rattle.std.proofs.lemmas.List.{take_at}
use Rattle.marc_types.specs.declared.entry.Entry.{Entry}
use Rattle.outside.specs.Room.{RoomView, bytes_or_none}
use Rattle.commit_journal.specs.declared.format.TheConstants.{BLANK_LENGTH}
use Rattle.command_words.specs.declared.library.Library.{Library}
use Rattle.entry_record.specs.History.{in_run}
use Rattle.entry_history.proofs.Format.{length-payload}
use Rattle.file_entries.specs.declared.refused.RefusedItem.{RefusedItem}
use Rattle.durable_catalogue.specs.Durables.{marked}
use Rattle.durable_catalogue.specs.Images.{framed_length, framed_lengths}
use Rattle.durable_catalogue.proofs.Framed.{framed_append}
use Rattle.journal_files.specs.Journals.{log_bytes}
use Rattle.loading_commands.specs.Outcomes.{IsLoadedInPart}
use Rattle.console_lines.specs.declared.fault.Fault.{Fault}
use Rattle.loading_commands.specs.Merged.{AreJudged}
use Rattle.union_top.proofs.Crowded.{all_parts, fits}
use Rattle.union_top.proofs.Weights.{IsRunless, total, totals_are_sums, from_first}

some_same : {A : Type 0} {x y : A} → Some x ≡ Some y → x ≡ y
some_same is = cc

-- the run of an entry takes as many bytes as any other
framed_runless : IsRunless framed_length
framed_runless run e = let other = length-payload (in_run run e) in let own = length-payload e in omega (arith, other, own)

total_framed : (es : List Entry) → total framed_length es ≡ framed_lengths es
unfolding total
total_framed [] = refl
total_framed (e ∷ es) = ap (λ n. framed_length e + n) (total_framed es)

module _ (old new : RoomView) (journal : List ℕ) (libraries : List Library) (tells : old.tells ≡ true) (accepted : List (List Entry)) (refused : List (List RefusedItem))
    (judged : AreJudged old 0 libraries accepted refused) (why : Fault) (p : IsLoadedInPart old new journal libraries why) where
  abbrev IsBelow : Entry → Type 0
  IsBelow e = e.loader < 0 + length libraries

  added_fit : framed_lengths p.added + framed_lengths (marked p.mark) ≤ sum_by framed_lengths accepted
  added_fit =
      let loaders : All IsBelow (p.added ++ marked p.mark) =
      subst (λ n. All (λ (e : Entry). e.loader < n) (p.added ++ marked p.mark)) (omega arith) p.loaded.loaders in
      let both = all_parts IsBelow p.added (marked p.mark) loaders in
      let all = fits old p.before p.added p.mark framed_length framed_runless 0 libraries accepted refused p.results both.0 both.1 judged p.loaded.files in
      let sums = totals_are_sums framed_length framed_lengths total_framed accepted in
      let own = from_first framed_length p.added ∙ total_framed p.added in
      let lost = from_first framed_length (marked p.mark) ∙ total_framed (marked p.mark) in
      omega (arith, all, sums, own, lost)

  -- what the journal has when a loading ended in part
  pub part_no_longer : length (log_bytes new journal) ≤ max BLANK_LENGTH (length (log_bytes old journal)) + sum_by framed_lengths accepted
  part_no_longer =
      let bytes_are : length (log_bytes new journal) ≡ length p.closed.bytes = ap (λ f. length (bytes_or_none f)) p.closed.file in
      let longest = p.closed.longest in
      let begun = p.opened.length tells in
      let opened : take p.o.opened (p.before ++ p.added) ≡ p.before =
      ap (λ n. take n (p.before ++ p.added)) p.opened.opened ∙ take_at p.before p.added (length p.before) refl in
      let front = ap framed_lengths opened in
      let all = framed_append (p.before ++ p.added) (marked p.mark) in
      let both = framed_append p.before p.added in
      let added = added_fit in
      omega (arith, bytes_are, longest, begun, front, all, both, added)
