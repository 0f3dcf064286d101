-- How a history is taken up from a checkpoint.
use Rattle.std.proofs.Common.{◌≡◌, ◌∙◌, ℕ, zero, suc, ◌+◌, ◌≤◌, List, drop, length, take, Option, Some, None, IfSome, refl, sym, ap, subst, ◌⊎◌, inl, inr, arith}
use Rattle.std.specs.Prelude.{All}
use Rattle.std.proofs.lemmas.List.Elements.{All-take}
use Rattle.marc_types.specs.declared.entry.Entry.{Entry}
use Rattle.entry_record.specs.History.{IsAdmitted}
use Rattle.catalogue_rules.specs.State.{State}
use Rattle.catalogue_rules.specs.Settle.{state_after, state_of}
use Rattle.catalogue_rules.proofs.States.{every_state_valid}
use Rattle.commit_journal.specs.declared.frame.Frame.{Frame}
use Rattle.checkpoint.specs.Points.{IsPointOf}
use Rattle.checkpoint.specs.Resuming.{gone_on, resumed}
use Rattle.checkpoint.specs.declared.point.Point.{Point}
use Rattle.checkpoint.proofs.Going.{resumed_whole}
use Rattle.checkpoint.proofs.Wholes.{last_is_whole}
use Rattle.kept_rows.specs.Standing.{IsStanding}
use Rattle.restoring.specs.Resuming.{BeginsWith, CanBeTaken, IsBlank, IsTakenUp, IsInOrder, IsOfHistory, VisitsBehind, held_state, touched_through}
use Rattle.restoring.proofs.Keepable.{history_stands}

-- ---- what is begun with

-- a blank beginning is of any history's front of no entries
blank_front : (history : List Entry) (taken : ℕ) (begun : State) → IsBlank taken begun → begun ≡ state_of (take taken history)
unfolding state_after
blank_front history taken begun b = b.empty ∙ ap (λ n. state_of (take n history)) (sym b.none)

front_of : (history : List Entry) (point : Option Point) (taken : ℕ) (begun : State) → BeginsWith (length history) point taken begun → IsOfHistory point history → begun ≡ state_of (take taken history)
front_of history None taken begun b of = blank_front history taken begun b
front_of history (Some point) taken begun b of = at b where
  at : (CanBeTaken (length history) point × IsTakenUp point taken begun) ⊎ ((CanBeTaken (length history) point → ⊥) × IsBlank taken begun) → begun ≡ state_of (take taken history)
  at (inl up) = up.1.state_is ∙ of up.0 ∙ ap (λ n. state_of (take n history)) (sym up.1.taken_is)
  at (inr none) = blank_front history taken begun none.1

-- where the checkpoint is the history's, the state is that behind the whole
pub whole_state : (history : List Entry) (point : Option Point) (taken : ℕ) (begun s : State) → BeginsWith (length history) point taken begun → s ≡ resumed begun taken history
    → IsOfHistory point history → s ≡ state_of history
whole_state history point taken begun s begins is of = is ∙ resumed_whole history taken begun (front_of history point taken begun begins of)

-- where nothing is taken, nothing is begun with: a checkpoint that is taken up is of some entries
unspared_front : (history : List Entry) (point : Option Point) (taken : ℕ) (begun : State) → BeginsWith (length history) point taken begun → taken ≡ 0
    → begun ≡ state_of (take taken history)
unspared_front history None taken begun b none = blank_front history taken begun b
unspared_front history (Some point) taken begun b none = at b where
  at : (CanBeTaken (length history) point × IsTakenUp point taken begun) ⊎ ((CanBeTaken (length history) point → ⊥) × IsBlank taken begun) → begun ≡ state_of (take taken history)
  at (inl up) = absurd (omega (arith, up.0.some, up.1.taken_is, none))
  at (inr blank) = blank_front history taken begun blank.1

-- so the state is that behind the whole
pub unspared_state : (history : List Entry) (point : Option Point) (taken : ℕ) (begun s : State) → BeginsWith (length history) point taken begun → s ≡ resumed begun taken history
    → taken ≡ 0 → s ≡ state_of history
unspared_state history point taken begun s begins is none = is ∙ resumed_whole history taken begun (unspared_front history point taken begun begins none)

-- a history begins with one thing alone
one_beginning : (count : ℕ) (point : Option Point) (taken other : ℕ) (begun another : State) → BeginsWith count point taken begun → BeginsWith count point other another
    → (taken ≡ other) × (begun ≡ another)
one_beginning count None taken other begun another b c = (b.none ∙ sym c.none, b.empty ∙ sym c.empty)
one_beginning count (Some point) taken other begun another b c = at b c where
  at : (CanBeTaken count point × IsTakenUp point taken begun) ⊎ ((CanBeTaken count point → ⊥) × IsBlank taken begun)
      → (CanBeTaken count point × IsTakenUp point other another) ⊎ ((CanBeTaken count point → ⊥) × IsBlank other another) → (taken ≡ other) × (begun ≡ another)
  at (inl up) (inl so) = (up.1.taken_is ∙ sym so.1.taken_is, up.1.state_is ∙ sym so.1.state_is)
  at (inl up) (inr none) = absurd (none.0 up.0)
  at (inr none) (inl up) = absurd (none.0 up.0)
  at (inr none) (inr so) = (none.1.none ∙ sym so.1.none, none.1.empty ∙ sym so.1.empty)

-- so the visits of the entries behind those that were taken are bounded, whatever it is said to begin with
pub visits_behind : (history : List Entry) (point : Option Point) (taken : ℕ) (begun : State) (before now : ℕ) → BeginsWith (length history) point taken begun
    → now ≤ before + touched_through begun (drop taken history) → VisitsBehind point history before now
visits_behind history point taken begun before now begins within other another so =
    let same = one_beginning (length history) point taken other begun another begins so in
    subst (λ n. now ≤ before + touched_through another (drop n history)) same.0
    (subst (λ s. now ≤ before + touched_through s (drop taken history)) same.1 within)

-- a checkpoint of a history of admitted entries is taken up, unless it is of none
pub taken_up : (history : List Entry) (point : Point) (taken : ℕ) (begun : State) → All IsAdmitted history → point.entries ≤ length history
    → held_state point ≡ state_of (take point.entries history) → BeginsWith (length history) (Some point) taken begun → taken ≡ point.entries
taken_up history point taken begun admitted within is b = at b where
  front : All IsAdmitted (take point.entries history)
  front = All-take IsAdmitted point.entries history admitted

  can : 1 ≤ point.entries → CanBeTaken (length history) point
  can some = record { some = some; within = within; stands = subst IsStanding (sym is) (history_stands (take point.entries history) front (every_state_valid (take point.entries history) front)) }

  unless_none : (n : ℕ) → point.entries ≡ n → (CanBeTaken (length history) point → ⊥) × IsBlank taken begun → taken ≡ point.entries
  unless_none zero is_n none = none.1.none ∙ sym is_n
  unless_none (suc n) is_n none = absurd (none.0 (can (omega (arith, is_n))))

  at : (CanBeTaken (length history) point × IsTakenUp point taken begun) ⊎ ((CanBeTaken (length history) point → ⊥) × IsBlank taken begun) → taken ≡ point.entries
  at (inl up) = up.1.taken_is
  at (inr none) = unless_none point.entries refl none

-- ---- one entry after the other

-- What is left of a run of commits: the state behind it, and how many records it touches at most.
pub record IsGoingOn (s begun : State) (rest entries : List Entry) (now old : ℕ) : Type 0 where
  pub state_is : gone_on s rest ≡ gone_on begun entries
  pub bound : now + touched_through s rest ≤ old + touched_through begun entries

-- ---- the last whole checkpoint of frames is in order

order_of : (frames : List Frame) (found : Option Point) → IsPointOf frames found → (o : Option Point) → found ≡ o → IfSome o IsInOrder
order_of frames found is None e = tt
order_of frames found is (Some point) e = (last_is_whole is.parts point (sym is.last ∙ e)).whole.in_order

pub found_in_order : (frames : List Frame) (found : Option Point) → IsPointOf frames found → IfSome found IsInOrder
found_in_order frames found is = order_of frames found is found refl
