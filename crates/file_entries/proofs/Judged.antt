-- One more item of a file is answered.
use Rattle.std.proofs.Common.{◌≡◌, ◌∙◌, ℕ, true, false, List, [], ◌∷◌, ◌++◌, append_assoc, append-nil, refl, sym, ap, subst, arith}
use Rattle.marc_types.specs.declared.entry.Entry.{Entry}
use Rattle.marc_stream.specs.Pieces.{Item}
use Rattle.file_entries.specs.Files.{IsEntryOf, IsRefusedItem, IsJudged, NoItem, Accepts, Refuses}
use Rattle.file_entries.specs.Entries.{FileView, IsSameFile, GivesEntry, GivesRefused, IsEnd, IsAnswered}
use Rattle.file_entries.specs.declared.refused.RefusedItem.{RefusedItem}

pub same_begun : (start : FileView) → IsSameFile start start
same_begun start = record { library = refl; loader = refl }

same_then : (start now next : FileView) → IsSameFile start now → IsSameFile now next → IsSameFile start next
same_then start now next first second = record {
  library = second.library ∙ first.library;
  loader = second.loader ∙ first.loader;
}

-- before the first call nothing is answered
pub answered_none : (start : FileView) → start.over ≡ false → IsAnswered start start [] []
answered_none start going = record {
  going = going;
  same = same_begun start;
  tells = refl;
  faults = omega arith;
  done = [];
  judged = NoItem;
  split = λ _. refl;
}

split_more : (old now next done : List Item) (item : Item) → old ≡ done ++ now → now ≡ item ∷ next → old ≡ (done ++ item ∷ []) ++ next
split_more old now next done item e first = e ∙ ap (λ l. done ++ l) first ∙ sym (append_assoc done (item ∷ []) next)

-- an entry was answered
pub answered_entry : (start now next : FileView) (accepted : List Entry) (refused : List RefusedItem) (e : Entry)
    → IsAnswered start now accepted refused → IsSameFile now next → GivesEntry now next e
    → IsAnswered start next (accepted ++ e ∷ []) refused
answered_entry start now next accepted refused e so_far same given = record {
  going = given.over;
  same = same_then start now next so_far.same same;
  tells = given.answers.reads.tells ∙ so_far.tells;
  faults = omega (arith, so_far.faults, given.answers.reads.faults);
  done = so_far.done ++ given.item ∷ [];
  judged = Accepts so_far.done accepted refused given.item e so_far.judged
      (subst (λ (library : List ℕ). IsEntryOf library start.loader given.item e) so_far.same.library
      (subst (λ (loader : ℕ). IsEntryOf now.library loader given.item e) so_far.same.loader given.is));
  split = λ told. split_more start.stream.coming now.stream.coming next.stream.coming so_far.done given.item (so_far.split told)
      (given.answers.coming (so_far.tells ∙ told));
}

-- a refused item was answered
pub answered_refused : (start now next : FileView) (accepted : List Entry) (refused : List RefusedItem) (item : RefusedItem)
    → IsAnswered start now accepted refused → IsSameFile now next → GivesRefused now next item
    → IsAnswered start next accepted (refused ++ item ∷ [])
answered_refused start now next accepted refused item so_far same given = record {
  going = given.over;
  same = same_then start now next so_far.same same;
  tells = given.answers.reads.tells ∙ so_far.tells;
  faults = omega (arith, so_far.faults, given.answers.reads.faults);
  done = so_far.done ++ given.item ∷ [];
  judged = subst (λ (one : RefusedItem). IsJudged start.library start.loader (so_far.done ++ given.item ∷ []) accepted (refused ++ one ∷ []))
      (sym given.listed_is)
      (Refuses so_far.done accepted refused given.item item.refusal so_far.judged
      (subst (λ (library : List ℕ). IsRefusedItem library given.item item.refusal) so_far.same.library given.why));
  split = λ told. split_more start.stream.coming now.stream.coming next.stream.coming so_far.done given.item (so_far.split told)
      (given.answers.coming (so_far.tells ∙ told));
}

-- where no item is left, all were answered
pub answered_all : (start now end : FileView) (accepted : List Entry) (refused : List RefusedItem)
    → IsAnswered start now accepted refused → IsEnd now end → start.stream.tells ≡ true
    → IsJudged start.library start.loader start.stream.coming accepted refused
answered_all start now end accepted refused so_far ended told =
    let all : start.stream.coming ≡ so_far.done =
    so_far.split told ∙ ap (λ l. so_far.done ++ l) (ended.ends.coming (so_far.tells ∙ told)) ∙ append-nil so_far.done in
    subst (λ items. IsJudged start.library start.loader items accepted refused) (sym all) so_far.judged
