-- The row that was taken leads back.
use Rattle.std.proofs.Common.{◌≡◌, ◌∙◌, sym, ap, refl, subst, ℕ, ◌<◌, List, length, Bool, true, cond, Option, Some, None, IfSome}
use Rattle.std.specs.Prelude.{◌==◌}
use Rattle.std.specs.Cmp.{unsigned_Decides}
use Rattle.std.specs.List.{IsDistinct}
use Rattle.std.specs.Option.{option_map_or}
use Rattle.marc_types.specs.declared.form.Form.{Form}
use Rattle.marc_types.specs.declared.key.Key.{Key}
use Rattle.marc_types.specs.Order.{same_key}
use Rattle.numbering.specs.Numbers.{Keeps}
use Rattle.form_index.specs.Forms.{Forms}
use Rattle.form_index.specs.Index.{ExchangesRow, Indexed, IsHeld, IsInOrder, Taken, let_go, row_under, taken, taken_out}
use Rattle.form_index.proofs.Growing.{order_kept, put_back_kept}
use Rattle.catalogue_tables.specs.Following.{IsWayBack, with_row_back, without_row}
use Rattle.catalogue_tables.specs.Rows.{PutsAuthority}

itself : (n : ℕ) → (n == n) ≡ true
itself n = (unsigned_Decides n n).1 refl

-- behind an exchange the number has the row that came
pub row_came : (number : ℕ) (row : Option Forms) (old new : Indexed) → ExchangesRow number row old new → row_under number new ≡ row
row_came number row old new rows = rows number ∙ ap (λ b. cond b row (row_under number old)) (itself number)

-- a row that was put is undone when it is taken and let go
pub put_undone : (names : List Form) (number : ℕ) (form : Form) (see_from : List Form) (bare : Bool) (old new : Indexed) → PutsAuthority names number form see_from bare old new
    → without_row number new ≡ old
put_undone names number form see_from bare old new puts =
    ap (λ o. option_map_or (λ forms. let_go (taken number forms) (taken_out (taken number forms) new)) o new) (row_came number (Some puts.row) old new puts.puts.rows)
    ∙ puts.puts.undone

-- ---- keys that got numbers since

row_back_same : (keys more : List Key) (number : ℕ) (row : Option Taken) (x : Indexed) → IsDistinct same_key keys → Keeps same_key keys more → number < length keys → IsInOrder keys x
    → IfSome row (λ r. (r.number ≡ number) × IsHeld r x) → with_row_back more row x ≡ with_row_back keys row x
row_back_same keys more number None x distinct keeps low ordered held = refl
row_back_same keys more number (Some row) x distinct keeps low ordered held =
    put_back_kept keys more keeps distinct row x (subst (λ n. n < length keys) (sym held.0) low) ordered

-- a way back stays one while keys get numbers
pub way_stays : (keys more : List Key) (number : ℕ) (row : Option Taken) (before now : Indexed) → IsDistinct same_key keys → Keeps same_key keys more → number < length keys
    → IsWayBack keys number row before now → IsWayBack more number row before now
way_stays keys more number row before now distinct keeps low way = record {
  held = way.held;
  restores = row_back_same keys more number row (without_row number now) distinct keeps low way.ordered way.held ∙ way.restores;
  ordered = order_kept keys more keeps distinct (without_row number now) way.ordered;
}
