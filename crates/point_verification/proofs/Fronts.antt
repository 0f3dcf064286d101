-- When a checkpoint is of a front of a history, from the state that is made of the front.
use Rattle.std.proofs.Common.{◌≡◌, ◌∙◌, ◌↔◌, ◌≤◌, ℕ, Bool, true, false, true≢false, List, length, take, Option, Some, None, Result, Ok, Err, sym, ap, subst}
use Rattle.std.specs.Prelude.{IfSome, IfErr}
use Rattle.marc_types.specs.declared.entry.Entry.{Entry}
use Rattle.marc_types.specs.declared.entry.Limits.{Limits}
use Rattle.catalogue_rules.specs.State.{State}
use Rattle.catalogue_rules.specs.Settle.{state_of}
use Rattle.console_lines.specs.declared.fault.Fault.{Fault}
use Rattle.console_lines.specs.declared.fault.Fault.TheVariants.{OtherHistory}
use Rattle.entry_record.specs.History.{IsWithin}
use Rattle.durable_catalogue.specs.Logs.{HasHistory}
use Rattle.kept_rows.specs.Rows.{state_of_rows}
use Rattle.kept_rows.specs.declared.row.KeptRow.{KeptRow}
use Rattle.checkpoint.specs.declared.point.Point.{Point}
use Rattle.restoring.specs.Resuming.{IsOfFront}
use Rattle.checkpoint_commands.specs.PointLogs.{IsPointLog}
use Rattle.point_verification.specs.Verifying.{IsNotOwnOf, NotOwn, WhyNotOwn, OfBoth}

pub own_front : (history : List Entry) (point : Point) (made : State) (rows : List KeptRow) (told : Bool) → rows ≡ point.rows
    → made ≡ state_of (take point.entries history) → point.entries ≤ length history → ((told ≡ true) ↔ (made ≡ state_of_rows rows))
    → (told ≡ true) ↔ IsOfFront history point
own_front history point made rows told lent is within same = (
  (λ so. record { within = within; state_is = sym (ap state_of_rows lent) ∙ sym (same.0 so) ∙ is }),
  (λ own. same.1 (is ∙ sym own.state_is ∙ ap state_of_rows (sym lent))),
)

-- a history's own checkpoint, and one that isn't
module _ (history : List Entry) (last : Option Point) where
  pub none_own : last ≡ None → IsNotOwnOf history last OtherHistory
  none_own none = NotOwn (subst (λ l. IfSome l (λ point. IsOfFront history point → ⊥)) (sym none) tt)

  module _ (point : Point) (told : Bool) (some : last ≡ Some point) (is : (told ≡ true) ↔ IsOfFront history point) where
    pub other_own : told ≡ false → IsNotOwnOf history last OtherHistory
    other_own refused =
        NotOwn (subst (λ l. IfSome l (λ point. IsOfFront history point → ⊥)) (sym some) (λ own. true≢false (sym (is.1 own) ∙ refused)))

-- both files' bytes are taken, and the last checkpoint isn't the history's own
pub not_own : (limits : Limits) (journal point : List ℕ) (history entries : List Entry) (last : Option Point) (result : Result (ℕ × ℕ) Fault) → HasHistory history journal
    → IsWithin limits history → entries ≡ history → IsPointLog last point → IfErr result (IsNotOwnOf entries last) → IfErr result (WhyNotOwn limits journal point)
not_own limits journal point history entries last (Ok told) has within same is_last own = tt
not_own limits journal point history entries last (Err why) has within same is_last not =
    OfBoth history has within last is_last (subst (λ es. IsNotOwnOf es last why) same not)
