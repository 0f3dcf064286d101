-- The first of those that are the same and stand together, up to a hundred.
use Rattle.std.proofs.Common.{◌≡◌, ◌∙◌, refl, sym, ap, ℕ, zero, suc, ◌-◌, ◌≤◌, arith, Bool, true, false, cond, List, [], ◌∷◌, ◌++◌, length, take, map, Option, Some, None}
use Rattle.std.specs.Prelude.{slice_get}
use Rattle.std.specs.List.{dedup, dedup_from}
use Rattle.std.specs.Option.{option_map, option_map_or}
use Rattle.std.specs.Bool.{beq}
use Rattle.marc_types.specs.declared.form.Form.{Form}
use Rattle.marc_types.specs.Order.{same_form}
use Rattle.heading_worklist.specs.Counts.{Compared, Counted, stated, stated_cmp, same_stated}
use Rattle.worklist_page.specs.Headings.{last_of, same_heading, stands_again}
use Rattle.std.proofs.lemmas.List.{take_all, length-append, length-map, map-append}

last_at : {R X : Type 0} (now : R → X) (xs : List R) (n : ℕ) → length xs ≡ suc n → option_map now (slice_get xs n) ≡ last_of (map now xs)
unfolding last_of
last_at now [] n e = cc e
last_at now (k ∷ []) zero e = refl
last_at now (k ∷ []) (suc n) e = cc e
last_at now (k ∷ l ∷ more) zero e = cc e
last_at now (k ∷ l ∷ more) (suc n) e = last_at now (l ∷ more) n (omega (arith, e))

-- what stands at a list's end, as its contract has it, is its last
pub last_seen : {R X : Type 0} (now : R → X) (xs : List R) (last : Option R) → last ≡ slice_get xs (length xs - 1) → option_map now last ≡ last_of (map now xs)
unfolding last_of
last_seen now [] last e = ap (option_map now) e
last_seen now (k ∷ xs) last e =
    ap (λ (o : Option _). option_map now o) (e ∙ ap (slice_get (k ∷ xs)) (omega arith)) ∙ last_at now (k ∷ xs) (length xs) (omega arith)

module _ {X : Type 0} (same : X → X → Bool) where
  -- what was found, and what is found of those that are left, behind the last of it
  unfoldable pub found_behind : List X → List X → List X
  found_behind [] left = dedup same left
  found_behind (k ∷ []) left = dedup_from same k left
  found_behind (k ∷ l ∷ more) left = k ∷ found_behind (l ∷ more) left

  -- nothing is left
  pub all_found : (found : List X) → found_behind found [] ≡ found
  unfolding found_behind
  all_found [] = refl
  all_found (k ∷ []) = refl
  all_found (k ∷ l ∷ more) = ap (λ (xs : List X). k ∷ xs) (all_found (l ∷ more))

  -- it stands again, and isn't found
  pub found_again : (found left : List X) (x : X) → stands_again same found x ≡ true → found_behind found (x ∷ left) ≡ found_behind found left
  unfolding found_behind last_of
  found_again [] left x again = cc again
  found_again (k ∷ []) left x again = ap (λ (b : Bool). cond b (dedup_from same k left) (k ∷ dedup_from same x left)) again
  found_again (k ∷ l ∷ more) left x again = ap (λ (xs : List X). k ∷ xs) (found_again (l ∷ more) left x again)

  -- it is the first, and is found
  pub found_first : (found left : List X) (x : X) → stands_again same found x ≡ false → found_behind found (x ∷ left) ≡ found_behind (found ++ x ∷ []) left
  unfolding found_behind last_of
  found_first [] left x first = refl
  found_first (k ∷ []) left x first = ap (λ (b : Bool). cond b (dedup_from same k left) (k ∷ dedup_from same x left)) first
  found_first (k ∷ l ∷ more) left x first = ap (λ (xs : List X). k ∷ xs) (found_first (l ∷ more) left x first)

  -- those that were found stand at the front
  front_found : (found left : List X) (x : X) → take (length found) (found_behind (found ++ x ∷ []) left) ≡ found
  unfolding found_behind
  front_found [] left x = refl
  front_found (k ∷ []) left x = refl
  front_found (k ∷ l ∷ more) left x = ap (λ (xs : List X). k ∷ xs) (front_found (l ∷ more) left x)

  -- as many are found as are wanted
  pub enough_found : (found left goal : List X) (x : X) (n : ℕ) → length found ≡ n → stands_again same found x ≡ false
      → take n (found_behind found (x ∷ left)) ≡ goal → found ≡ goal
  enough_found found left goal x n are first all =
      sym (front_found found left x) ∙ ap (λ (xs : List X). take (length found) xs) (sym (found_first found left x first))
      ∙ ap (λ (m : ℕ). take m (found_behind found (x ∷ left))) are ∙ all

  -- none is left
  pub end_found : (found left goal : List X) (n : ℕ) → length found ≤ n → left ≡ [] → take n (found_behind found left) ≡ goal → found ≡ goal
  end_found found left goal n few none all =
      sym (take_all n found few) ∙ ap (take n) (sym (all_found found)) ∙ ap (λ (l : List X). take n (found_behind found l)) (sym none) ∙ all

-- what is found so far, and what is found of those that are left, is what is wanted
unfoldable pub IsFinding : {X : Type 0} → (X → X → Bool) → ℕ → List X → List X → List X → Type 0
IsFinding same n goal found left = (length found ≤ n) × (take n (found_behind same found left) ≡ goal)

pub begun_finding : {R X : Type 0} (same : X → X → Bool) (now : R → X) (n : ℕ) (all left : List X) (found : List R) → found ≡ [] → left ≡ all
    → IsFinding same n (take n (dedup same all)) (map now found) left
unfolding IsFinding found_behind
begun_finding same now n all left found none is = (
  omega (arith, length-map found now, ap length none),
  ap (λ (l : List _). take n (found_behind same (map now l) left)) none ∙ ap (λ (l : List _). take n (dedup same l)) is,
)

pub again_finding : {X : Type 0} (same : X → X → Bool) (n : ℕ) (goal found left more : List X) (x : X) → IsFinding same n goal found left → left ≡ x ∷ more
    → stands_again same found x ≡ true → IsFinding same n goal found more
unfolding IsFinding
again_finding same n goal found left more x so_far is again =
    (so_far.0, ap (take n) (sym (found_again same found more x again)) ∙ ap (λ (l : List _). take n (found_behind same found l)) (sym is) ∙ so_far.1)

pub first_finding : {R X : Type 0} (now : R → X) (same : X → X → Bool) (n : ℕ) (goal left more : List X) (found next : List R) (r : R)
    → IsFinding same n goal (map now found) left → left ≡ now r ∷ more → stands_again same (map now found) (now r) ≡ false → (length found ≡ n → ⊥)
    → next ≡ found ++ r ∷ [] → IsFinding same n goal (map now next) more
unfolding IsFinding
first_finding now same n goal left more found next r so_far is first few pushed =
    let seen = ap (map now) pushed ∙ map-append now found (r ∷ []) in (
      omega (arith, so_far.0, few, length-map found now, length-map next now, ap length pushed, length-append found (r ∷ [])),
      ap (λ (l : List _). take n (found_behind same l more)) seen ∙ ap (take n) (sym (found_first same (map now found) more (now r) first))
          ∙ ap (λ (l : List _). take n (found_behind same (map now found) l)) (sym is) ∙ so_far.1,
    )

pub enough_finding : {R X : Type 0} (now : R → X) (same : X → X → Bool) (n : ℕ) (goal left more : List X) (found : List R) (x : X)
    → IsFinding same n goal (map now found) left → left ≡ x ∷ more → stands_again same (map now found) x ≡ false → length found ≡ n → map now found ≡ goal
unfolding IsFinding
enough_finding now same n goal left more found x so_far is first are =
    enough_found same (map now found) more goal x n (length-map found now ∙ are) first
    (ap (λ (l : List _). take n (found_behind same (map now found) l)) (sym is) ∙ so_far.1)

pub end_finding : {X : Type 0} (same : X → X → Bool) (n : ℕ) (goal found left : List X) → IsFinding same n goal found left → left ≡ [] → found ≡ goal
unfolding IsFinding
end_finding same n goal found left so_far none = end_found same found left goal n so_far.0 none so_far.1

-- what stands at the end is the same, or not
pub again_seen : {R X : Type 0} (same : X → X → Bool) (now : R → X) (found : List R) (x : X) (last : Option R) → last ≡ slice_get found (length found - 1)
    → option_map_or (λ r. same x (now r)) last false ≡ stands_again same (map now found) x
again_seen same now found x None is = ap (λ o. option_map_or (same x) o false) (last_seen now found None is)
again_seen same now found x (Some r) is = ap (λ o. option_map_or (same x) o false) (last_seen now found (Some r) is)

-- the same of what is seen of those that were found
pub seen_again : {R X : Type 0} (same : X → X → Bool) (now : R → X) (found seen : List R) (x : X) (test is : Bool) → seen ≡ found
    → test ≡ stands_again same (map now seen) x → test ≡ is → stands_again same (map now found) x ≡ is
seen_again same now found seen x test is all tested told = ap (λ (l : List _). stands_again same (map now l) x) (sym all) ∙ sym tested ∙ told

-- ---- which headings are the same

by_form : (a b : Bool) (f g : Form) (r : Bool) → beq a b ≡ true → r ≡ same_form f g
    → r ≡ same_stated (record { ambiguous = a; form = f }) (record { ambiguous = b; form = g })
unfolding stated_cmp
by_form true true f g r same told = told
by_form false false f g r same told = told
by_form true false f g r same told = cc same
by_form false true f g r same told = cc same

off_form : (a b : Bool) (f g : Form) → beq a b ≡ false → beq a b ≡ same_stated (record { ambiguous = a; form = f }) (record { ambiguous = b; form = g })
unfolding stated_cmp
off_form true true f g off = cc off
off_form false false f g off = cc off
off_form true false f g off = refl
off_form false true f g off = refl

seen_same : (one other : Counted) (x y : Compared) (r : Bool) → x ≡ one.heading → y ≡ other.heading → r ≡ same_stated (stated true x) (stated true y)
    → r ≡ same_heading one other
seen_same one other x y r first second told =
    told ∙ ap (λ z. same_stated (stated true z) (stated true y)) first ∙ ap (λ z. same_stated (stated true one.heading) (stated true z)) second

-- of one state, they are the same where their forms are
pub same_by_form : (one other : Counted) (x y : Compared) (r : Bool) → x ≡ one.heading → y ≡ other.heading → beq x.ambiguous y.ambiguous ≡ true
    → r ≡ same_form x.full y.full → r ≡ same_heading one other
same_by_form one other x y r first second same told =
    seen_same one other x y r first second (by_form x.ambiguous y.ambiguous x.full y.full r same told)

-- of two states, they are not
pub not_by_state : (one other : Counted) (x y : Compared) → x ≡ one.heading → y ≡ other.heading → beq x.ambiguous y.ambiguous ≡ false
    → beq x.ambiguous y.ambiguous ≡ same_heading one other
not_by_state one other x y first second off =
    seen_same one other x y (beq x.ambiguous y.ambiguous) first second (off_form x.ambiguous y.ambiguous x.full y.full off)
