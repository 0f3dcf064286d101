-- One more item of a file is answered.
use Rattle.std.proofs.Common.{◌≡◌, ◌∙◌, ℕ, ◌+◌, true, false, List, [], ◌∷◌, ◌++◌, length, append_assoc, append-nil, length-append, refl, sym, ap, subst, arith}
use Rattle.marc_stream.specs.Pieces.{Item}
use Rattle.holdings.specs.declared.holding.Holding.{Holding}
use Rattle.file_holdings.specs.Files.{IsHoldingItem, IsRefusedItem, AreHoldings, NoItem, Accepts, Refuses}
use Rattle.file_holdings.specs.Items.{HoldingFile, GivesHolding, GivesRefused, IsEnd, IsAnswered}
use Rattle.file_holdings.specs.declared.refused.RefusedHolding.{RefusedHolding}

-- before the first call nothing is answered
pub answered_none : (start : HoldingFile) → start.over ≡ false → IsAnswered start start [] []
answered_none start going = record {
  going = going;
  library = refl;
  tells = refl;
  faults = omega arith;
  count = omega arith;
  done = [];
  judged = NoItem;
  split = λ _. refl;
}

split_more : (old now next done : List Item) (item : Item) → old ≡ done ++ now → now ≡ item ∷ next → old ≡ (done ++ item ∷ []) ++ next
split_more old now next done item e first = e ∙ ap (λ l. done ++ l) first ∙ sym (append_assoc done (item ∷ []) next)

one_more : {X : Type 0} (xs : List X) (x : X) → length (xs ++ x ∷ []) ≡ length xs + 1
one_more xs x = omega (arith, length-append xs (x ∷ []))

-- a holding was answered
pub answered_holding : (start now next : HoldingFile) (accepted : List Holding) (refused : List RefusedHolding) (ordinal : ℕ) (h : Holding)
    → IsAnswered start now accepted refused → next.library ≡ now.library → GivesHolding now next ordinal h
    → IsAnswered start next (accepted ++ h ∷ []) refused
answered_holding start now next accepted refused ordinal h so_far same given = record {
  going = given.over;
  library = same ∙ so_far.library;
  tells = given.answers.reads.tells ∙ so_far.tells;
  faults = omega (arith, so_far.faults, given.answers.reads.faults);
  count = omega (arith, so_far.count, given.answers.answered, one_more accepted h);
  done = so_far.done ++ given.item ∷ [];
  judged = Accepts so_far.done accepted refused given.item h so_far.judged
      (subst (λ (library : List ℕ). IsHoldingItem library given.item h) so_far.library given.held);
  split = λ told. split_more start.stream.coming now.stream.coming next.stream.coming so_far.done given.item (so_far.split told)
      (given.answers.coming (so_far.tells ∙ told));
}

-- a refused item was answered
pub answered_refused : (start now next : HoldingFile) (accepted : List Holding) (refused : List RefusedHolding) (item : RefusedHolding)
    → IsAnswered start now accepted refused → next.library ≡ now.library → GivesRefused now next item
    → IsAnswered start next accepted (refused ++ item ∷ [])
answered_refused start now next accepted refused item so_far same given = record {
  going = given.over;
  library = same ∙ so_far.library;
  tells = given.answers.reads.tells ∙ so_far.tells;
  faults = omega (arith, so_far.faults, given.answers.reads.faults);
  count = omega (arith, so_far.count, given.answers.answered, one_more refused item);
  done = so_far.done ++ given.item ∷ [];
  judged = subst (λ (one : RefusedHolding). AreHoldings start.library (so_far.done ++ given.item ∷ []) accepted (refused ++ one ∷ []))
      (sym given.listed_is)
      (Refuses so_far.done accepted refused given.item item.refusal so_far.judged
      (subst (λ (library : List ℕ). IsRefusedItem library given.item item.refusal) so_far.library given.why));
  split = λ told. split_more start.stream.coming now.stream.coming next.stream.coming so_far.done given.item (so_far.split told)
      (given.answers.coming (so_far.tells ∙ told));
}

-- where no item is left, all were answered
pub answered_all : (start now end : HoldingFile) (accepted : List Holding) (refused : List RefusedHolding)
    → IsAnswered start now accepted refused → IsEnd now end → start.stream.tells ≡ true
    → AreHoldings start.library start.stream.coming accepted refused
answered_all start now end accepted refused so_far ended told =
    let all : start.stream.coming ≡ so_far.done =
    so_far.split told ∙ ap (λ l. so_far.done ++ l) (ended.ends.coming (so_far.tells ∙ told)) ∙ append-nil so_far.done in
    subst (λ items. AreHoldings start.library items accepted refused) (sym all) so_far.judged

-- the number of the last item is that of all answered items
pub counted_holding : (start now next : HoldingFile) (accepted : List Holding) (refused : List RefusedHolding) (ordinal : ℕ) (h : Holding)
    → start.stream.answered ≡ 0 → IsAnswered start now accepted refused → GivesHolding now next ordinal h
    → ordinal ≡ length (accepted ++ h ∷ []) + length refused
counted_holding start now next accepted refused ordinal h none so_far given =
    omega (arith, none, so_far.count, given.answers.ordinal, given.ordinal_is, one_more accepted h)

pub counted_refused : (start now next : HoldingFile) (accepted : List Holding) (refused : List RefusedHolding) (item : RefusedHolding)
    → start.stream.answered ≡ 0 → IsAnswered start now accepted refused → GivesRefused now next item
    → item.ordinal ≡ length accepted + length (refused ++ item ∷ [])
counted_refused start now next accepted refused item none so_far given =
    let same : item.ordinal ≡ given.item.ordinal = ap (λ (i : RefusedHolding). i.ordinal) given.listed_is in
    omega (arith, none, so_far.count, given.answers.ordinal, same, one_more refused item)
