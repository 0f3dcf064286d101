-- What promises that are kept spare a command: a count of what holds more than is there and than is due did not rise.
use Rattle.std.proofs.Common.{◌≡◌, ◌⊎◌, inl, inr, ℕ, ◌+◌, ◌≤◌, max, List, [], ◌∷◌, ◌++◌, length, Option, Some, None, refl, ap, subst, ◌∙◌, arith}
use Rattle.std.specs.Io.KnownBytes.{Appends}
use Rattle.std.specs.Prelude.{All}
use Rattle.std.proofs.lemmas.List.{length-append}
use Rattle.std.proofs.lemmas.List.Elements.{All-head, All-tail}
use Rattle.outside.specs.Fault.{count_total}
use Rattle.outside.specs.Room.{Promise, ReadsAlways, HoldsUpTo, IsPromiseKept, bytes_or_none}
use Rattle.outside.specs.Sink.{WritesFront}
use Rattle.commit_journal.specs.declared.format.TheConstants.{BLANK_LENGTH}
use Rattle.command_words.specs.declared.library.Library.{Library}
use Rattle.output_files.specs.Outputs.{IsOutputLeft}
use Rattle.journal_files.specs.Journals.{log_bytes, KeepsHistory, Unopened, Opened}
use Rattle.union_top.specs.Complete.{Around, Stayed, OutStayed, LogStayed, ConsoleStayed, InputsStayed, InStayed, InsStayed}
use Rattle.union_top.specs.Sure.{AreReadAlways, HoldsOutput, HoldsLog, HoldsText}

-- a count that is none did not rise
none_stayed : (before now : ℕ) → now ≡ 0 → Stayed before now
none_stayed before now none rose = omega (arith, none, rose)

-- known bytes with some more behind them
grown : (told now : Option (List ℕ)) (before front : List ℕ) → told ≡ Some before → Appends told now front → now ≡ Some (before ++ front)
grown None now before front is wrote = let no : None ≡ Some before = is in cc
grown (Some was) None before front is wrote = absurd wrote
grown (Some was) (Some bytes) before front is wrote = let same : was ≡ before = cc in ap Some (wrote ∙ ap (λ l. l ++ front) same)

shorter : (due front rest : List ℕ) → due ≡ front ++ rest → length front ≤ length due
shorter due front rest split = let lengths = length-append front rest in omega (arith, ap length split, lengths)

module _ (a : Around) (promises : (n : List ℕ) → a.new.promise n ≡ a.old.promise n)
    (kept : (n : List ℕ) → IsPromiseKept a.new n (a.new.promise n)) where
  is_kept : (name : List ℕ) (promise : Promise) → a.old.promise name ≡ promise → IsPromiseKept a.new name promise
  is_kept name promise is = subst (IsPromiseKept a.new name) (promises name ∙ is) (kept name)

  pub in_stayed : (name : List ℕ) → a.old.promise name ≡ ReadsAlways → InStayed a name
  in_stayed name is = none_stayed (a.old.in_faults name) (a.new.in_faults name) (is_kept name ReadsAlways is)

  all_none : (names : List (List ℕ)) → All (λ name. a.old.promise name ≡ ReadsAlways) names → count_total a.new.in_faults names ≡ 0
  all_none [] all = refl
  all_none (name ∷ names) all =
      let one : a.new.in_faults name ≡ 0 = is_kept name ReadsAlways (All-head (λ n. a.old.promise n ≡ ReadsAlways) name names all) in
      let others = all_none names (All-tail (λ n. a.old.promise n ≡ ReadsAlways) name names all) in
      omega (arith, one, others)

  pub names_stayed : (names : List (List ℕ)) → All (λ name. a.old.promise name ≡ ReadsAlways) names → InsStayed a names
  names_stayed names all = none_stayed (count_total a.old.in_faults names) (count_total a.new.in_faults names) (all_none names all)

  pub inputs_stayed : (libraries : List Library) → AreReadAlways a.old libraries → InputsStayed a libraries
  inputs_stayed libraries all k d within = in_stayed _ (all k d within)

  -- an output that failed had no more bytes than are due
  pub out_stayed : (name due : List ℕ) → HoldsOutput a.old name due → IsOutputLeft a.old a.new name due → OutStayed a name
  out_stayed name due h left = either (is_kept name (HoldsUpTo h.most) h.promised).outs
    where
      either : (a.new.out_faults name ≡ 0) ⊎ (h.most ≤ a.new.failed_at name) → OutStayed a name
      either (inl none) = none_stayed (a.old.out_faults name) (a.new.out_faults name) none
      either (inr full) =
          let before = h.failed in
          let all = h.due in
          let reached = left.failed_at in
          absurd (omega (arith, full, before, all, reached))

  pub log_stayed : (name : List ℕ) (added : ℕ) → HoldsLog a.old name added
      → length (log_bytes a.new name) ≤ max BLANK_LENGTH (length (log_bytes a.old name)) + added → LogStayed a name
  log_stayed name added h no_longer = either (is_kept name (HoldsUpTo h.most) h.promised).logs
    where
      either : (a.new.log_faults name ≡ 0) ⊎ (h.most ≤ length (log_bytes a.new name)) → LogStayed a name
      either (inl none) = none_stayed (a.old.log_faults name) (a.new.log_faults name) none
      either (inr full) = let all = h.due in absurd (omega (arith, full, no_longer, all))

  -- a log that was as long stays as long
  pub same_stayed : (name : List ℕ) (added : ℕ) → HoldsLog a.old name added → a.new.file name ≡ a.old.file name → LogStayed a name
  same_stayed name added h same =
      let length_is : length (log_bytes a.new name) ≡ length (log_bytes a.old name) = ap (λ f. length (bytes_or_none f)) same in
      log_stayed name added h (omega (arith, length_is))

  pub kept_stayed : (failed : Type 0) (name : List ℕ) (added : ℕ) → HoldsLog a.old name added → KeepsHistory failed a.old a.new name → LogStayed a name
  kept_stayed failed name added h (Unopened u) = same_stayed name added h u.file
  kept_stayed failed name added h (Opened c) = let no_longer = c.alone.leaves.same.no_longer in log_stayed name added h (omega (arith, no_longer))

pub text_stayed : (a : Around) (text : List ℕ) → HoldsText a text → WritesFront a.told a.now text → ConsoleStayed a
text_stayed a text h w = either h.sure
  where
    either : (a.faults_now ≡ 0) ⊎ ((bytes : List ℕ) → a.now ≡ Some bytes → h.most ≤ length bytes) → ConsoleStayed a
    either (inl none) = none_stayed a.faults a.faults_now none
    either (inr full) =
        let enough = full (h.before ++ w.front) (grown a.told a.now h.before w.front h.tells w.wrote) in
        let fewer = shorter text w.front w.rest w.split in
        let lengths = length-append h.before w.front in
        let all = h.due in
        absurd (omega (arith, enough, fewer, lengths, all))
