-- Rows in order, from one to the next.
use Rattle.std.proofs.Common.{◌≡◌, ◌∙◌, ℕ, zero, suc, ◌+◌, ◌-◌, ◌<◌, ◌≤◌, Bool, true, false, ◌&&◌, List, [], ◌∷◌, length, drop, get_or, refl, sym, ap, arith, length-drop}
use Rattle.std.proofs.Math.Seq.{drop-cons}
use Rattle.std.specs.Ordering.{is_lt}
use Rattle.kept_rows.specs.declared.row.KeptRow.{KeptRow}
use Rattle.kept_rows.specs.Rows.{row_cmp, are_in_order}

few_in_order : (rows : List KeptRow) → length rows ≤ 1 → are_in_order rows ≡ true
few_in_order [] few = refl
few_in_order (r ∷ []) few = refl
few_in_order (r ∷ next ∷ rows) few = absurd (omega (arith, few))

-- where one row at most is left, all stand in order if that does
pub last_in_order : (rows : List KeptRow) (n : ℕ) (b : Bool) → length rows ≤ n + 1 → are_in_order (drop n rows) ≡ b → true ≡ b
last_in_order rows n b few is = sym (few_in_order (drop n rows) (omega (arith, few, length-drop n rows))) ∙ is

adjacent : (rows : List KeptRow) (n : ℕ) (d : KeptRow) → n + 1 < length rows
    → are_in_order (drop n rows) ≡ (is_lt (row_cmp (get_or rows n d) (get_or rows (suc n) d)) && are_in_order (drop (suc n) rows))
adjacent rows n d within =
    let second = drop-cons rows (suc n) d (omega arith) in
    ap are_in_order (drop-cons rows n d (omega arith) ∙ ap (λ xs. get_or rows n d ∷ xs) second)
    ∙ ap (λ xs. is_lt (row_cmp (get_or rows n d) (get_or rows (suc n) d)) && are_in_order xs) (sym second)

same_at : (rows : List KeptRow) (n : ℕ) (d e : KeptRow) → n < length rows → get_or rows n d ≡ get_or rows n e
same_at [] n d e h = absurd (omega (arith, h))
same_at (r ∷ rows) zero d e h = refl
same_at (r ∷ rows) (suc n) d e h = same_at rows n d e (omega (arith, h))

order_at : (rows : List KeptRow) (n place : ℕ) (one next : KeptRow) → n + 1 ≡ place → place < length rows → one ≡ get_or rows n one → next ≡ get_or rows place next
    → are_in_order (drop n rows) ≡ (is_lt (row_cmp one next) && are_in_order (drop place rows))
order_at rows n place one next is within first second =
    let e : place ≡ suc n = omega (arith, is) in
    let other : get_or rows (suc n) one ≡ next = same_at rows (suc n) one next (omega (arith, e, within)) ∙ sym (second ∙ ap (λ k. get_or rows k next) e) in
    adjacent rows n one (omega (arith, e, within))
    ∙ ap (λ x. is_lt (row_cmp x (get_or rows (suc n) one)) && are_in_order (drop (suc n) rows)) (sym first)
    ∙ ap (λ y. is_lt (row_cmp one y) && are_in_order (drop (suc n) rows)) other
    ∙ ap (λ k. is_lt (row_cmp one next) && are_in_order (drop k rows)) (sym e)

pub broken_order : (rows : List KeptRow) (n place : ℕ) (one next : KeptRow) (b : Bool) → n + 1 ≡ place → place < length rows → one ≡ get_or rows n one
    → next ≡ get_or rows place next → is_lt (row_cmp one next) ≡ false → are_in_order (drop n rows) ≡ b → false ≡ b
broken_order rows n place one next b is within first second fails all =
    sym (order_at rows n place one next is within first second ∙ ap (λ x. x && are_in_order (drop place rows)) fails) ∙ all

pub order_kept : (rows : List KeptRow) (n place : ℕ) (one next : KeptRow) (b : Bool) → n + 1 ≡ place → place < length rows → one ≡ get_or rows n one
    → next ≡ get_or rows place next → is_lt (row_cmp one next) ≡ true → are_in_order (drop n rows) ≡ b → are_in_order (drop (place + 1 - 1) rows) ≡ b
order_kept rows n place one next b is within first second holds all =
    let back : place + 1 - 1 ≡ place = omega arith in
    ap (λ k. are_in_order (drop k rows)) back
    ∙ sym (order_at rows n place one next is within first second ∙ ap (λ x. x && are_in_order (drop place rows)) holds)
    ∙ all
