-- A shelf of a file's holdings, item by item.
use Rattle.std.proofs.Common.{◌≡◌, ◌∙◌, ℕ, ◌+◌, ◌-◌, ◌≤◌, true, false, List, [], ◌∷◌, ◌++◌, length, refl, sym, ap, subst, arith, Option, Some, None, IsSome}
use Rattle.std.specs.Prelude.{IsSomeAnd}
use Rattle.std.proofs.lemmas.List.Sums.{fold-append}
use Rattle.holdings.specs.declared.holding.Holding.{Holding}
use Rattle.holdings.specs.Shelves.{ShelfRow, take_holding, shelf_of}
use Rattle.file_holdings.specs.Items.{HoldingFile, GivesHolding, GivesRefused, IsEnd, IsAnswered}
use Rattle.file_holdings.specs.declared.refused.RefusedHolding.{RefusedHolding}
use Rattle.file_holdings.proofs.Judged.{answered_none, answered_holding, answered_refused, answered_all, counted_holding, counted_refused}
use Rattle.holdings_command.specs.Shelving.{IsShelved}
use Rattle.holdings_command.specs.declared.shelving.Shelved.{Shelved}

shelf_none : [] ≡ shelf_of []
unfolding shelf_of
shelf_none = refl

shelf_more : (accepted : List Holding) (h : Holding) → take_holding (shelf_of accepted) h ≡ shelf_of (accepted ++ h ∷ [])
unfolding shelf_of
shelf_more accepted h = sym (fold-append take_holding [] accepted (h ∷ []))

-- so far these holdings were shelved, and so many items answered
pub record IsShelving (start now : HoldingFile) (shelf : List ShelfRow) (count : ℕ) (refused : List RefusedHolding) : Type 0 where
  pub accepted : List Holding
  pub answered : IsAnswered start now accepted refused
  pub shelf_is : shelf ≡ shelf_of accepted
  pub count_is : count ≡ length accepted + length refused

pub shelving_none : (start : HoldingFile) (shelf : List ShelfRow) (refused : List RefusedHolding) → shelf ≡ [] → refused ≡ [] → start.over ≡ false
    → IsShelving start start shelf 0 refused
shelving_none start shelf refused empty none going =
    subst (λ r. IsShelving start start shelf 0 r) (sym none) (record {
      accepted = [];
      answered = answered_none start going;
      shelf_is = empty ∙ shelf_none;
      count_is = refl;
    })

pub shelving_holding : (start now next : HoldingFile) (shelf shelf' : List ShelfRow) (count ordinal : ℕ) (refused : List RefusedHolding) (h : Holding)
    → start.stream.answered ≡ 0 → IsShelving start now shelf count refused → next.library ≡ now.library → GivesHolding now next ordinal h
    → shelf' ≡ take_holding shelf h → IsShelving start next shelf' ordinal refused
shelving_holding start now next shelf shelf' count ordinal refused h none so_far same given put = record {
  accepted = so_far.accepted ++ h ∷ [];
  answered = answered_holding start now next so_far.accepted refused ordinal h so_far.answered same given;
  shelf_is = put ∙ ap (λ s. take_holding s h) so_far.shelf_is ∙ shelf_more so_far.accepted h;
  count_is = counted_holding start now next so_far.accepted refused ordinal h none so_far.answered given;
}

pub shelving_refused : (start now next : HoldingFile) (shelf : List ShelfRow) (count : ℕ) (refused refused' : List RefusedHolding) (item : RefusedHolding)
    → start.stream.answered ≡ 0 → IsShelving start now shelf count refused → next.library ≡ now.library → GivesRefused now next item
    → refused' ≡ refused ++ item ∷ [] → IsShelving start next shelf item.ordinal refused'
shelving_refused start now next shelf count refused refused' item none so_far same given pushed =
    subst (λ r. IsShelving start next shelf item.ordinal r) (sym pushed) (record {
      accepted = so_far.accepted;
      answered = answered_refused start now next so_far.accepted refused item so_far.answered same given;
      shelf_is = so_far.shelf_is;
      count_is = counted_refused start now next so_far.accepted refused item none so_far.answered given;
    })

-- the holdings alone can be counted
pub few_refused : (start now : HoldingFile) (shelf : List ShelfRow) (count : ℕ) (refused : List RefusedHolding)
    → IsShelving start now shelf count refused → length refused ≤ count
few_refused start now shelf count refused so_far = omega (arith, so_far.count_is)

-- no item is left
pub shelved_all : (start now end : HoldingFile) (s : Shelved) (count : ℕ) → IsShelving start now s.shelf count s.refused.items → IsEnd now end
    → s.accepted ≡ count - length s.refused.items → start.stream.tells ≡ true → IsShelved start.library start.stream.coming s
shelved_all start now end s count so_far ended accepted told = record {
  accepted = so_far.accepted;
  judged = answered_all start now end so_far.accepted s.refused.items so_far.answered ended told;
  shelf_is = so_far.shelf_is;
  count_is = omega (arith, accepted, so_far.count_is);
}

-- a file that is there
pub there_and : {A : Type 0} {P : A → Type 0} (o : Option A) → IsSome o → ((x : A) → o ≡ Some x → P x) → IsSomeAnd o P
there_and None some is = cc
there_and (Some x) some is = is x refl

pub there_more : {A : Type 0} {P Q : A → Type 0} (o : Option A) → ((x : A) → P x → Q x) → IsSomeAnd o P → IsSomeAnd o Q
there_more None more is = is
there_more (Some x) more is = more x is
