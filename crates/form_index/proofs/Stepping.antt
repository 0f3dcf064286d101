-- A step at the lists of several forms, one after another.
use Rattle.std.proofs.Common.{◌≡◌, ◌∙◌, sym, ap, subst, refl, ℕ, zero, suc, ◌+◌, ◌<◌, ◌≤◌, arith, List, [], ◌∷◌, ◌++◌, length, take, get_or, Some, None, eq-eqb, ne_eqb}
use Rattle.std.specs.Prelude.{Bool, true, false, not, ◌||◌, ◌==◌, is_some, if◌then◌else◌}
use Rattle.std.proofs.lemmas.Bool.{both_ways, eqb-true, and_parts, and_from, not-true, or_parts}
use Rattle.std.proofs.lemmas.List.{take_all, take_more}
use Rattle.marc_types.specs.declared.key.Key.{Key}
use Rattle.form_index.specs.declared.key_list.Step.{Step}
use Rattle.form_index.specs.declared.key_list.Step.TheVariants.{Enter, Withdraw}
use Rattle.form_index.specs.Order.{Ascends, has, without}
use Rattle.numbering.specs.Pages.{is_there, there, with_row_under}
use Rattle.numbering.specs.declared.pages.Pages.{Pages}
use Rattle.form_index.specs.Trimmed.{trimmed}
use Rattle.form_index.specs.Listed.{InOrder, IsShort, Listed, SameLists, Stepped, SteppedAt, each_from, each_of, is_empty, is_no_list, is_once, list_at, lists_in, no_list, released, stepped, with_held}
use Rattle.form_index.proofs.Paging.{flat_blank, flat_none, flat_some, flat_with_row}
use Rattle.form_index.proofs.Trims.{same_short, same_trimmed, trimmed_again, trimmed_at}

-- ---- blank lists

is_nil : (l : List ℕ) → is_empty l ≡ true → l ≡ []
is_nil [] e = refl
is_nil (n ∷ ns) e = cc

blank_is : (l : Listed) → is_no_list l ≡ true → l ≡ no_list
blank_is l e =
    let both = and_parts (is_empty l.live) (is_empty l.held) e in
    let live = is_nil l.live both.0 in
    let held = is_nil l.held both.1 in
    λ i. record { live = live i; held = held i }

pub lists_at : (lists : List Listed) (form : ℕ) → list_at (trimmed is_no_list lists) form ≡ list_at lists form
lists_at = trimmed_at no_list is_no_list blank_is refl

pub same_lists : (lists more : List Listed) → SameLists lists more → trimmed is_no_list more ≡ trimmed is_no_list lists
same_lists lists more same = same_trimmed no_list is_no_list blank_is refl more lists same

pub short_lists : (lists : List Listed) → IsShort (trimmed is_no_list lists)
short_lists = trimmed_again no_list is_no_list blank_is refl

pub short_same : (lists more : List Listed) → IsShort lists → IsShort more → SameLists lists more → more ≡ lists
short_same lists more short too same = same_short no_list is_no_list blank_is refl more lists too short same

-- ---- a step at each of some forms

cases_same : (b : Bool) (step : Listed → Listed) → step no_list ≡ no_list → no_list ≡ (if b then step no_list else no_list)
cases_same true step stays = sym stays
cases_same false step stays = refl

each_from_at : (i : ℕ) (test : ℕ → Bool) (step : Listed → Listed) (lists : List Listed) (form : ℕ) → step no_list ≡ no_list
    → list_at (each_from i test step lists) form ≡ (if test (i + form) then step (list_at lists form) else list_at lists form)
each_from_at i test step [] form stays = cases_same (test (i + form)) step stays
each_from_at i test step (l ∷ ls) zero stays =
    let here : i ≡ i + 0 = omega arith in
    ap (λ k. if test k then step l else l) here
each_from_at i test step (l ∷ ls) (suc form) stays =
    let next : suc i + form ≡ i + suc form = omega arith in
    each_from_at (suc i) test step ls form stays ∙ ap (λ k. if test k then step (list_at ls form) else list_at ls form) next

pub each_of_at : (forms : List ℕ) (step : Listed → Listed) (lists : List Listed) → step no_list ≡ no_list → Stepped forms step lists (each_of forms step lists)
unfolding each_of
each_of_at forms step lists stays form =
    let here : 0 + form ≡ form = omega arith in
    lists_at (each_from 0 (λ form. has form forms) step lists) form
    ∙ each_from_at 0 (λ form. has form forms) step lists form stays
    ∙ ap (λ k. if has k forms then step (list_at lists form) else list_at lists form) here

pub each_of_short : (forms : List ℕ) (step : Listed → Listed) (lists : List Listed) → IsShort (each_of forms step lists)
unfolding each_of
each_of_short forms step lists = short_lists (each_from 0 (λ form. has form forms) step lists)

-- lists of which those of the forms took a step are what the step makes of the lists as they are seen
pub each_of_is : (forms : List ℕ) (step : Listed → Listed) (old new : List Listed) → step no_list ≡ no_list → Stepped forms step old new
    → trimmed is_no_list new ≡ each_of forms step (trimmed is_no_list old)
each_of_is forms step old new stays stepped =
    short_same (each_of forms step (trimmed is_no_list old)) (trimmed is_no_list new) (each_of_short forms step (trimmed is_no_list old)) (short_lists new)
    (λ form.
    lists_at new form ∙ stepped form
    ∙ ap (λ l. if has form forms then step l else l) (sym (lists_at old form))
    ∙ sym (each_of_at forms step (trimmed is_no_list old) stays form))

-- ---- lists in pages

pub no_lists : (pages : Pages Listed) → ((form : ℕ) → there pages form ≡ None) → trimmed is_no_list (lists_in pages) ≡ []
no_lists = flat_blank no_list is_no_list blank_is refl

-- the list that is there took a step
pub step_in : (pages : Pages Listed) (at : ℕ) (step : Listed → Listed) (l : Listed) → there pages at ≡ Some l → SteppedAt at step (lists_in pages) (lists_in (with_row_under pages at (step l)))
step_in pages at step l is form = flat_with_row no_list pages at (step l) (ap is_some is) form ∙ by (at == form) refl
  where
    was : Listed
    was = list_at (lists_in pages) form

    by : (b : Bool) → (at == form) ≡ b → (if at == form then step l else was) ≡ (if at == form then step was else was)
    by true e = ap (λ k. if at == form then step k else was) (sym (flat_some no_list pages at l is) ∙ ap (list_at (lists_in pages)) (eqb-true at form e))
    by false e = ap (λ b. if b then step l else was) e ∙ sym (ap (λ b. if b then step was else was) e)

-- where no list is there, none changes
pub step_out : (pages : Pages Listed) (at : ℕ) (step : Listed → Listed) → step no_list ≡ no_list → there pages at ≡ None → SteppedAt at step (lists_in pages) (lists_in pages)
step_out pages at step stays is form = by (at == form) refl
  where
    was : Listed
    was = list_at (lists_in pages) form

    by : (b : Bool) → (at == form) ≡ b → was ≡ (if at == form then step was else was)
    by true e =
        let blank : was ≡ no_list = ap (list_at (lists_in pages)) (sym (eqb-true at form e)) ∙ flat_none no_list pages at is in
        blank ∙ sym stays ∙ ap step (sym blank) ∙ sym (ap (λ b. if b then step was else was) e)
    by false e = sym (ap (λ b. if b then step was else was) e)

pub stays_in : (pages : Pages Listed) (at : ℕ) (l : Listed) → there pages at ≡ Some l → SameLists (lists_in pages) (lists_in (with_row_under pages at l))
stays_in pages at l is form = step_in pages at (λ k. k) l is form ∙ by (at == form)
  where
    by : (b : Bool) → (if b then list_at (lists_in pages) form else list_at (lists_in pages) form) ≡ list_at (lists_in pages) form
    by true = refl
    by false = refl

pub step_after : (at : ℕ) (step : Listed → Listed) (old mid new : List Listed) → SameLists old mid → SteppedAt at step mid new → SteppedAt at step old new
step_after at step old mid new same stepped form = stepped form ∙ ap (λ l. if at == form then step l else l) (same form)

-- the list of a form is in order, and stays so with another list in order in its place
pub order_at : (keys : List Key) (pages : Pages Listed) (at : ℕ) (l : Listed) → InOrder keys (lists_in pages) → there pages at ≡ Some l → Ascends keys l.live
order_at keys pages at l ordered is = subst (λ l. Ascends keys l.live) (flat_some no_list pages at l is) (ordered at)

pub order_in : (keys : List Key) (pages : Pages Listed) (at : ℕ) (l : Listed) → is_there pages at ≡ true → InOrder keys (lists_in pages) → Ascends keys l.live → InOrder keys (lists_in (with_row_under pages at l))
order_in keys pages at l is ordered ascends form = subst (λ l. Ascends keys l.live) (sym (flat_with_row no_list pages at l is form)) (by (at == form))
  where
    by : (b : Bool) → Ascends keys (if b then l else list_at (lists_in pages) form).live
    by true = ascends
    by false = ordered form

-- no form yet
pub step_none : (forms : List ℕ) (step : Listed → Listed) (lists : List Listed) → Stepped (take 0 forms) step lists lists
step_none forms step lists form = refl

-- all forms
pub step_all : (forms : List ℕ) (step : Listed → Listed) (old new : List Listed) (i : ℕ) → length forms ≤ i → Stepped (take i forms) step old new → Stepped forms step old new
step_all forms step old new i all stepped = subst (λ l. Stepped l step old new) (take_all i forms all) stepped

pub step_stays : (keys : List Key) (n : ℕ) (step : Step) → stepped keys n step no_list ≡ no_list
step_stays keys n Enter = refl
step_stays keys n Withdraw = refl

-- what is seen of the lists is in order with them, and takes the steps that they take
pub order_inside : (keys : List Key) (lists : List Listed) → InOrder keys (trimmed is_no_list lists) → InOrder keys lists
order_inside keys lists ordered form = subst (λ l. Ascends keys l.live) (lists_at lists form) (ordered form)

pub order_shown : (keys : List Key) (lists : List Listed) → InOrder keys lists → InOrder keys (trimmed is_no_list lists)
order_shown keys lists ordered form = subst (λ l. Ascends keys l.live) (sym (lists_at lists form)) (ordered form)

pub steps_shown : (forms : List ℕ) (step : Listed → Listed) (old new : List Listed) → Stepped forms step old new → Stepped forms step (trimmed is_no_list old) (trimmed is_no_list new)
steps_shown forms step old new stepped form =
    lists_at new form ∙ stepped form ∙ ap (λ l. if has form forms then step l else l) (sym (lists_at old form))

-- ---- one form more

has_push : (f y : ℕ) (xs : List ℕ) → has f (xs ++ y ∷ []) ≡ (has f xs || (y == f))
has_push f y [] = by (y == f)
  where
    by : (b : Bool) → (b || false) ≡ (false || b)
    by true = refl
    by false = refl
has_push f y (x ∷ xs) = by (x == f) (has f (xs ++ y ∷ [])) (has f xs) (y == f) (has_push f y xs)
  where
    by : (a b c d : Bool) → b ≡ (c || d) → (a || b) ≡ ((a || c) || d)
    by true b c d e = refl
    by false b c d e = e

has_more : (f i : ℕ) (forms : List ℕ) → i < length forms → has f (take (i + 1) forms) ≡ (has f (take i forms) || (get_or forms i 0 == f))
has_more f i forms within = ap (has f) (take_more forms i 0 within) ∙ has_push f (get_or forms i 0) (take i forms)

not_there : (x : ℕ) (xs : List ℕ) (j : ℕ) → has x xs ≡ false → j < length xs → (get_or xs j 0 == x) ≡ false
not_there x [] j out within = absurd (omega arith)
not_there x (y ∷ ys) zero out within = (or_parts (y == x) (has x ys) out).0
not_there x (y ∷ ys) (suc j) out within = not_there x ys j (or_parts (y == x) (has x ys) out).1 (omega arith)

turned : (x y : ℕ) → (y == x) ≡ false → (x == y) ≡ false
turned x y e = ne_eqb x y (λ h. both_ways (y == x) e (eq-eqb y x (sym h)))

apart : (forms : List ℕ) (i : ℕ) → is_once forms ≡ true → i < length forms → has (get_or forms i 0) (take i forms) ≡ false
apart [] i once within = absurd (omega arith)
apart (x ∷ xs) zero once within = refl
apart (x ∷ xs) (suc i) once within =
    let both = and_parts (not (has x xs)) (is_once xs) once in
    let differs : (x == get_or xs i 0) ≡ false = turned x (get_or xs i 0) (not_there x xs i (not-true (has x xs) both.0) (omega arith)) in
    ap (λ b. b || has (get_or xs i 0) (take i xs)) differs ∙ apart xs i both.1 (omega arith)

once_taken : (forms : List ℕ) (i : ℕ) → is_once forms ≡ true → is_once (take i forms) ≡ true
once_taken forms zero once = refl
once_taken [] (suc i) once = refl
once_taken (x ∷ xs) (suc i) once =
    let both = and_parts (not (has x xs)) (is_once xs) once in
    and_from (not (has x (take i xs))) (is_once (take i xs)) (ap not (has_taken x xs i (not-true (has x xs) both.0))) (once_taken xs i both.1)
  where
    has_taken : (x : ℕ) (xs : List ℕ) (i : ℕ) → has x xs ≡ false → has x (take i xs) ≡ false
    has_taken x xs zero out = refl
    has_taken x [] (suc i) out = refl
    has_taken x (y ∷ ys) (suc i) out =
        ap (λ b. b || has x (take i ys)) (or_parts (y == x) (has x ys) out).0 ∙ has_taken x ys i (or_parts (y == x) (has x ys) out).1

pub taken_once : (forms : List ℕ) (i : ℕ) → is_once forms ≡ true → is_once (take i forms) ≡ true
taken_once = once_taken

module _ (forms : List ℕ) (step : Listed → Listed) (first old new : List Listed) where
  -- the loop's next form
  pub step_more : (i form : ℕ) → is_once forms ≡ true → i < length forms → form ≡ get_or forms i 0 → Stepped (take i forms) step first old → SteppedAt form step old new
      → Stepped (take (i + 1) forms) step first new
  step_more i at once within is before last form =
      by (get_or forms i 0 == form) refl
    where
      next : list_at new form ≡ (if get_or forms i 0 == form then step (list_at old form) else list_at old form)
      next = last form ∙ ap (λ k. if k == form then step (list_at old form) else list_at old form) is

      by : (b : Bool) → (get_or forms i 0 == form) ≡ b → list_at new form ≡ (if has form (take (i + 1) forms) then step (list_at first form) else list_at first form)
      by true e =
          let same : get_or forms i 0 ≡ form = eqb-true (get_or forms i 0) form e in
          let out : has form (take i forms) ≡ false = subst (λ k. has k (take i forms) ≡ false) same (apart forms i once within) in
          let was : list_at old form ≡ list_at first form = before form ∙ ap (λ b. if b then step (list_at first form) else list_at first form) out in
          let there : has form (take (i + 1) forms) ≡ true = has_more form i forms within ∙ ap (λ b. b || (get_or forms i 0 == form)) out ∙ e in
          next ∙ ap (λ b. if b then step (list_at old form) else list_at old form) e ∙ ap step was ∙ ap (λ b. if b then step (list_at first form) else list_at first form) (sym there)
      by false e =
          let there : has form (take (i + 1) forms) ≡ has form (take i forms) = has_more form i forms within ∙ or_none (has form (take i forms)) (get_or forms i 0 == form) e in
          next ∙ ap (λ b. if b then step (list_at old form) else list_at old form) e ∙ before form ∙ ap (λ b. if b then step (list_at first form) else list_at first form) (sym there)
        where
          or_none : (a b : Bool) → b ≡ false → (a || b) ≡ a
          or_none true b e = refl
          or_none false b e = e

-- ---- places that were made are given up

pub released_held : (n : ℕ) (l : Listed) → released n (with_held n l) ≡ l
released_held n l =
    let held : without n (n ∷ l.held) ≡ l.held = ap (λ b. if b then l.held else n ∷ without n l.held) (eq-eqb n n refl) in
    λ i. record { live = l.live; held = held i }

pub undone_held : (n : ℕ) (forms : List ℕ) (old mid new : List Listed) → Stepped forms (with_held n) old mid → Stepped forms (released n) mid new → SameLists old new
undone_held n forms old mid new held back form = by (has form forms) refl
  where
    by : (b : Bool) → has form forms ≡ b → list_at new form ≡ list_at old form
    by true e =
        back form ∙ ap (λ b. if b then released n (list_at mid form) else list_at mid form) e
        ∙ ap (released n) (held form ∙ ap (λ b. if b then with_held n (list_at old form) else list_at old form) e)
        ∙ released_held n (list_at old form)
    by false e =
        back form ∙ ap (λ b. if b then released n (list_at mid form) else list_at mid form) e
        ∙ held form ∙ ap (λ b. if b then with_held n (list_at old form) else list_at old form) e
