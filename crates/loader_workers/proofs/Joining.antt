-- What several turns commit, and what is taken of a file before and behind them.
use Rattle.std.proofs.Common.{◌≡◌, ◌∙◌, ℕ, Some, List, [], ◌∷◌, ◌++◌, append_assoc, append-nil, refl, sym, ap, subst, arith, length-append}
use mathlib.Core.List.{map-append}
use Rattle.marc_types.specs.declared.entry.Entry.{Entry}
use Rattle.marc_stream.specs.Pieces.{Item}
use Rattle.entry_record.specs.History.{in_run, with_run}
use Rattle.entry_history.specs.Commits.{Origin}
use Rattle.entry_history.specs.Events.{entries_of, committed}
use Rattle.entry_history.specs.declared.event.Event.{Event}
use Rattle.entry_history.specs.declared.event.Event.TheVariants.{Committed}
use Rattle.catalogue_lock.specs.declared.view.Numbered.{Numbered}
use Rattle.catalogue_lock.specs.History.{items, items_by}
use Rattle.catalogue_lock.specs.Passes.{Pass}
use Rattle.catalogue_lock.proofs.Numbers.{items_by-append, items-append}
use Rattle.file_entries.specs.Files.{IsJudged, NoItem, Accepts, Refuses, listed}
use Rattle.file_entries.specs.Entries.{FileView}
use Rattle.file_entries.specs.declared.refused.RefusedItem.{RefusedItem}
use Rattle.marc_types.specs.Sums.{with_receipts}
use Rattle.marc_types.specs.declared.sums.Sums.{Sums}
use Rattle.marc_types.proofs.Adding.{with_both}
use Rattle.loader_workers.specs.Gathering.{IsGathered}
use Rattle.loader_workers.specs.Turns.{receipts_by, HasCommitted}
use Rattle.loader_workers.specs.declared.counts.Counts.{Counts}
use Rattle.loader_workers.proofs.Receipts.{receipts_by_append, entries_append}
use Rattle.loader_workers.proofs.Taking.{reads_then}

judged_same : (library : List ℕ) (loader : ℕ) (items items' : List Item) (accepted accepted' : List Entry) (refused refused' : List RefusedItem)
    → items ≡ items' → accepted ≡ accepted' → refused ≡ refused' → IsJudged library loader items accepted refused → IsJudged library loader items' accepted' refused'
judged_same library loader items items' accepted accepted' refused refused' i a r judged =
    subst (λ is. IsJudged library loader is accepted' refused') i
    (subst (λ begun. IsJudged library loader items begun refused') a (subst (IsJudged library loader items accepted) r judged))

-- the items of two parts of a file, one behind the other
judged_then : (library : List ℕ) (loader : ℕ) (is : List Item) (begun : List Entry) (rs : List RefusedItem) (items : List Item) (accepted : List Entry) (refused : List RefusedItem)
    → IsJudged library loader is begun rs → IsJudged library loader items accepted refused → IsJudged library loader (is ++ items) (begun ++ accepted) (rs ++ refused)
judged_then library loader is begun rs _ _ _ first NoItem =
    judged_same library loader _ _ _ _ _ _ (sym (append-nil is)) (sym (append-nil begun)) (sym (append-nil rs)) first
judged_then library loader is begun rs _ _ _ first (Accepts items accepted refused item e judged entry) =
    judged_same library loader _ _ _ _ _ _ (append_assoc is items (item ∷ [])) (append_assoc begun accepted (e ∷ [])) refl
    (Accepts (is ++ items) (begun ++ accepted) (rs ++ refused) item e (judged_then library loader is begun rs items accepted refused first judged) entry)
judged_then library loader is begun rs _ _ _ first (Refuses items accepted refused item refusal judged why) =
    judged_same library loader _ _ _ _ _ _ (append_assoc is items (item ∷ [])) refl (append_assoc rs refused (listed item refusal ∷ []))
    (Refuses (is ++ items) (begun ++ accepted) (rs ++ refused) item refusal (judged_then library loader is begun rs items accepted refused first judged) why)

-- what is taken of a file in two parts
pub taken_then : (start mid now : FileView) (begun accepted : List Entry) (rs refused : List RefusedItem)
    → IsGathered start mid begun rs → IsGathered mid now accepted refused → IsGathered start now (begun ++ accepted) (rs ++ refused)
taken_then start mid now begun accepted rs refused first second =
    let a = first.answered in
    let b = second.answered in
    record {
      answered = record {
        going = b.going;
        same = record { library = b.same.library ∙ a.same.library; loader = b.same.loader ∙ a.same.loader };
        tells = b.tells ∙ a.tells;
        faults = omega (arith, a.faults, b.faults);
        done = a.done ++ b.done;
        judged = judged_then start.library start.loader a.done begun rs b.done accepted refused a.judged
            (subst (λ (library : List ℕ). IsJudged library start.loader b.done accepted refused) a.same.library
            (subst (λ (loader : ℕ). IsJudged mid.library loader b.done accepted refused) a.same.loader b.judged));
        split = λ told. a.split told ∙ (ap (λ is. a.done ++ is) (b.split (a.tells ∙ told)) ∙ sym (append_assoc a.done b.done now.stream.coming));
      };
      reads = reads_then start.stream mid.stream now.stream first.reads second.reads;
    }

in_run_then : (run : ℕ) (begun bs : List Entry) → committed (with_run run (begun ++ bs)) ≡ committed (with_run run begun) ++ committed (with_run run bs)
in_run_then run begun bs = ap committed (map-append (in_run run) begun bs) ∙ map-append (λ (e : Entry). Committed e) (with_run run begun) (with_run run bs)

behind : {X : Type 0} (first begun bs marks : List X) → (first ++ (begun ++ [])) ++ (bs ++ marks) ≡ first ++ ((begun ++ bs) ++ marks)
behind first begun bs marks =
    ap (λ l. (first ++ l) ++ (bs ++ marks)) (append-nil begun)
    ∙ (append_assoc first begun (bs ++ marks) ∙ ap (λ l. first ++ l) (sym (append_assoc begun bs marks)))

module _ {O : Type 0} where
  -- what was committed before a turn, and by it
  pub committed_then : (origin : Origin) (begun bs : List Entry) (marks : List Event) (first mid now : Counts) (old pass new : Pass O Event) → pass.number ≡ old.number
      → HasCommitted origin begun [] first mid old pass → HasCommitted origin bs marks mid now pass new → HasCommitted origin (begun ++ bs) marks first now old new
  committed_then origin begun bs marks first mid now old pass new number p q =
      let mine = committed (with_run origin.run begun) in
      let more = committed (with_run origin.run bs) in
      let all = in_run_then origin.run begun bs in
      let by : List (Numbered Event) → List Event = items_by (Some old.number) in
      let second : by q.later ≡ more ++ marks = subst (λ n. items_by (Some n) q.later ≡ more ++ marks) number q.own in
      let before = entries_of (items old.seen) in
      let until : entries_of (items pass.seen) ≡ before ++ entries_of (items p.later) =
      ap (λ h. entries_of (items h)) p.seen ∙ (ap entries_of (items-append old.seen p.later) ∙ entries_append (items old.seen) (items p.later)) in
      let receipts : receipts_by pass.number (entries_of (items pass.seen)) q.later ≡ receipts_by old.number (before ++ entries_of (items p.later)) q.later =
      ap (λ n. receipts_by n (entries_of (items pass.seen)) q.later) number ∙ ap (λ b. receipts_by old.number b q.later) until in
      let counted = receipts_by old.number before p.later in
      record {
        added = q.added ∙ (ap (λ l. l ++ (more ++ marks)) p.added ∙ (behind old.added mine more marks ∙ ap (λ l. old.added ++ (l ++ marks)) (sym all)));
        later = p.later ++ q.later;
        seen = q.seen ∙ (ap (λ l. l ++ q.later) p.seen ∙ append_assoc old.seen p.later q.later);
        own = items_by-append (Some old.number) p.later q.later
            ∙ (ap (λ l. l ++ by q.later) p.own ∙ (ap (λ l. (mine ++ []) ++ l) second ∙ (behind [] mine more marks ∙ ap (λ l. l ++ marks) (sym all))));
        sums = q.sums ∙ (ap (with_receipts mid.sums) receipts
            ∙ (ap (λ (s : Sums). with_receipts s (receipts_by old.number (before ++ entries_of (items p.later)) q.later)) p.sums
            ∙ (with_both first.sums counted (receipts_by old.number (before ++ entries_of (items p.later)) q.later)
            ∙ ap (with_receipts first.sums) (sym (receipts_by_append old.number before p.later q.later)))));
        accepted = omega (arith, p.accepted, q.accepted, length-append begun bs);
      }
