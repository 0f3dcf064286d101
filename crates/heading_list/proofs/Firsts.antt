-- The first of rows that are given one after the other.
use Rattle.std.proofs.Common.{◌≡◌, ◌∙◌, ℕ, zero, suc, ◌+◌, ◌≤◌, ◌<◌, Bool, true, false, List, [], ◌∷◌, ◌++◌, length, take, filter, Option, Some, None, Less, Greater, cond, refl, sym, ap, subst, append-nil, append_assoc, arith}
use Rattle.std.specs.Prelude.{fold, IfSome, IsSome}
use Rattle.std.specs.declared.cmp.Ordering.{Ordering}
use Rattle.std.specs.declared.cmp.Ordering.TheVariants.{Equal}
use Rattle.std.specs.Ordering.{match_ordering}
use Rattle.std.specs.BTreeSet.{insert_key}
use Rattle.std.proofs.lemmas.List.{length-append, length-take, take_at}
use Rattle.std.proofs.lemmas.List.Elements.{filter-append}
use Rattle.std.proofs.lemmas.List.Sums.{fold-append}
use Rattle.marc_types.specs.declared.form.Form.{Form}
use Rattle.heading_list.specs.Collecting.{HasFirst, Takes}
use Rattle.heading_list.specs.Rows.{first_of, in_order, is_wanted, row_cmp}
use Rattle.heading_list.specs.declared.first_rows.FirstRows.{FirstRows}
use Rattle.heading_list.specs.declared.row.ListRow.{ListRow}

module _ {A : Type 0} where
  take_fewer : (k m : ℕ) (l : List A) → k ≤ m → take k (take m l) ≡ take k l
  take_fewer zero m l h = refl
  take_fewer (suc k) zero l h = absurd (omega arith)
  take_fewer (suc k) (suc m) [] h = refl
  take_fewer (suc k) (suc m) (x ∷ xs) h = ap (λ l. x ∷ l) (take_fewer k m xs (omega arith))

  one_fewer : (n : ℕ) (y : A) (ys : List A) → take n (y ∷ take n ys) ≡ take n (y ∷ ys)
  one_fewer zero y ys = refl
  one_fewer (suc n) y ys = ap (λ l. y ∷ l) (take_fewer n (suc n) ys (omega arith))

  by_place : (o : Ordering) (n : ℕ) (ys : List A) (x y : A) (few all : List A) → take n few ≡ take n all
      → take (suc n) (match_ordering o (x ∷ y ∷ take n ys) (y ∷ take n ys) (y ∷ few)) ≡ take (suc n) (match_ordering o (x ∷ y ∷ ys) (y ∷ ys) (y ∷ all))
  by_place Less n ys x y few all same = ap (λ l. x ∷ l) (one_fewer n y ys)
  by_place Equal n ys x y few all same = ap (λ l. y ∷ l) (take_fewer n n ys (omega arith))
  by_place Greater n ys x y few all same = ap (λ l. y ∷ l) same

  -- what is put among the first comes where it would come among all
  take_put : (cmp : A → A → Ordering) (n : ℕ) (l : List A) (x : A) → take n (insert_key cmp (take n l) x) ≡ take n (insert_key cmp l x)
  take_put cmp zero l x = refl
  take_put cmp (suc n) [] x = refl
  take_put cmp (suc n) (y ∷ ys) x = by_place (cmp x y) n ys x y _ _ (take_put cmp n ys x)

  long_by : (o : Ordering) (x y : A) (ys put : List A) → length put ≤ length ys + 1
      → length (match_ordering o (x ∷ y ∷ ys) (y ∷ ys) (y ∷ put)) ≤ length ys + 2
  long_by Less x y ys put h = omega arith
  long_by Equal x y ys put h = omega arith
  long_by Greater x y ys put h = omega arith

  -- at most one comes in
  length_put : (cmp : A → A → Ordering) (l : List A) (x : A) → length (insert_key cmp l x) ≤ length l + 1
  length_put cmp [] x = omega arith
  length_put cmp (y ∷ ys) x = let h = long_by (cmp x y) x y ys (insert_key cmp ys x) (length_put cmp ys x) in omega arith

-- the last one is taken out where there is one more than so many
pub trimmed : (last : Option ListRow) (old new : List ListRow) (most : ℕ) → IfSome last (λ row. old ≡ new ++ row ∷ []) → (0 < length old → IsSome last)
    → most < length old → length old ≤ most + 1 → new ≡ take most old
trimmed (Some row) old new most is some more most_one =
    let long : length old ≡ length new + 1 = ap length is ∙ length-append new (row ∷ []) in
    let fit : length new ≡ most = omega arith in
    sym (ap (take most) is ∙ take_at new (row ∷ []) most fit)
trimmed None old new most is some more most_one = let none = some (omega arith) in cc

wanted_more : (from : Form) (given : List ListRow) (row : ListRow) (b : Bool) → is_wanted from row ≡ b
    → filter (is_wanted from) (given ++ row ∷ []) ≡ filter (is_wanted from) given ++ cond b (row ∷ []) []
wanted_more from given row b is = filter-append (is_wanted from) given (row ∷ []) ∙ ap (λ c. filter (is_wanted from) given ++ cond c (row ∷ []) []) is

-- a row that isn't wanted
pub passed_over : (from : Form) (most : ℕ) (given : List ListRow) (row : ListRow) → is_wanted from row ≡ false
    → first_of from most given ≡ first_of from most (given ++ row ∷ [])
unfolding first_of
passed_over from most given row isnt =
    sym (ap (λ rows. take most (in_order rows)) (wanted_more from given row false isnt ∙ append-nil (filter (is_wanted from) given)))

-- a row that is
put_in : (from : Form) (most : ℕ) (given : List ListRow) (row : ListRow) → is_wanted from row ≡ true
    → take most (insert_key row_cmp (first_of from most given) row) ≡ first_of from most (given ++ row ∷ [])
unfolding first_of in_order
put_in from most given row is =
    let wanted = filter (is_wanted from) given in
    take_put row_cmp most (fold (insert_key row_cmp) [] wanted) row
    ∙ sym (ap (take most) (ap (fold (insert_key row_cmp) []) (wanted_more from given row true is) ∙ fold-append (insert_key row_cmp) [] wanted (row ∷ [])))

few : (from : Form) (most : ℕ) (given : List ListRow) → length (first_of from most given) ≤ most
unfolding first_of
few from most given = let h = length-take most (in_order (filter (is_wanted from) given)) in omega arith

pub takes_unwanted : (old : FirstRows) (row : ListRow) → is_wanted old.from row ≡ false → Takes old old (row ∷ [])
takes_unwanted old row isnt from most given has = record {
  from_is = has.from_is;
  most_is = has.most_is;
  rows_are = has.rows_are ∙ passed_over from most given row (ap (λ f. is_wanted f row) (sym has.from_is) ∙ isnt);
}

pub takes_wanted : (old new : FirstRows) (row : ListRow) (rows : List ListRow) → is_wanted old.from row ≡ true → new.from ≡ old.from → new.most ≡ old.most
    → rows ≡ insert_key row_cmp old.rows.keys row → (length rows ≤ old.most + 1 → new.rows.keys ≡ take old.most rows) → Takes old new (row ∷ [])
takes_wanted old new row rows is same_from same_most put cut from most given has =
    let held : old.rows.keys ≡ first_of from most given = has.rows_are in
    let longest : length (first_of from most given) ≤ most = few from most given in
    let shorter : length old.rows.keys ≤ old.most = subst (λ n. length old.rows.keys ≤ n) (sym has.most_is) (subst (λ l. length l ≤ most) (sym held) longest) in
    let one_more : length rows ≤ old.most + 1 = let h = length_put row_cmp old.rows.keys row in subst (λ l. length l ≤ old.most + 1) (sym put) (omega arith) in
    record {
      from_is = same_from ∙ has.from_is;
      most_is = same_most ∙ has.most_is;
      rows_are = cut one_more
          ∙ ((λ i. take (has.most_is i) (put i))
          ∙ (ap (λ l. take most (insert_key row_cmp l row)) held
          ∙ put_in from most given row (ap (λ f. is_wanted f row) (sym has.from_is) ∙ is)));
    }

-- ---- rows that are taken one after the other

pub takes_none : (first : FirstRows) → Takes first first []
takes_none first from most given has = subst (λ l. HasFirst from most l first) (sym (append-nil given)) has

pub takes_then : (a b c : FirstRows) (rows others : List ListRow) → Takes a b rows → Takes b c others → Takes a c (rows ++ others)
takes_then a b c rows others one other from most given has =
    subst (λ l. HasFirst from most l c) (append_assoc given rows others) (other from most (given ++ rows) (one from most given has))

pub takes_these : (a b : FirstRows) (rows others : List ListRow) → rows ≡ others → Takes a b rows → Takes a b others
takes_these a b rows others same takes = subst (Takes a b) same takes
