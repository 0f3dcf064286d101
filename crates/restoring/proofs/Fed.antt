-- How far the rows have come.
use Rattle.std.proofs.Common.{◌≡◌, true, List, [], ◌∷◌, ◌++◌, sym, ap, subst, ◌∙◌, append_assoc}
use Rattle.std.specs.List.{AllByRecursion}
use Rattle.catalogue_rules.specs.State.{State, empty_state}
use Rattle.kept_rows.specs.declared.row.KeptRow.{KeptRow}
use Rattle.kept_rows.specs.Rows.{row_of, rows_in, state_of_rows, are_in_order}
use Rattle.kept_rows.specs.Standing.{IsSoundRow}
use Rattle.restoring.specs.Feeding.{IsLastKey, with_last}
use Rattle.restoring.proofs.Lasts.{next_last, state_more}

abbrev pub IsSoundAlone : KeptRow → Type 0
IsSoundAlone r = IsSoundRow r.class (row_of r)

-- of all rows these are left, and the state has the others
pub record IsFed (all left : List KeptRow) (s : State) : Type 0 where
  pub front : List KeptRow
  pub split : all ≡ front ++ left
  pub state : s ≡ state_of_rows front

pub none_fed : (all left : List KeptRow) (s : State) → left ≡ all → s ≡ empty_state → IsFed all left s
unfolding rows_in
none_fed all left s whole e = record { front = []; split = sym whole; state = e }

behind : (front rest : List KeptRow) → AllByRecursion IsSoundAlone (front ++ rest) → AllByRecursion IsSoundAlone rest
behind [] rest a = a
behind (r ∷ front) rest a = behind front rest a.1

pub next_behind : (all rest : List KeptRow) (r : KeptRow) (left : List KeptRow) (s : State) → are_in_order all ≡ true → rest ≡ r ∷ left → IsFed all rest s → IsLastKey r.class r.key s
next_behind all rest r left s order next fed =
    subst (λ t. IsLastKey r.class r.key t) (sym fed.state) (next_last fed.front r left (sym (ap are_in_order (fed.split ∙ ap (λ rows. fed.front ++ rows) next)) ∙ order))

pub one_fed : (all rest : List KeptRow) (r : KeptRow) (left : List KeptRow) (s t : State) → t ≡ with_last r.class (row_of r) s → rest ≡ r ∷ left → IsFed all rest s → IsFed all left t
one_fed all rest r left s t is next fed = record {
  front = fed.front ++ r ∷ [];
  split = fed.split ∙ ap (λ rows. fed.front ++ rows) next ∙ sym (append_assoc fed.front (r ∷ []) left);
  state = is ∙ ap (with_last r.class (row_of r)) fed.state ∙ state_more fed.front r;
}
