-- Fronts of one list.
use Rattle.std.proofs.Common.{◌≡◌, ℕ, ◌≤◌, List, [], ◌∷◌, ◌++◌, length, refl, ap, sym, ◌∙◌, arith, append_assoc, append-nil, Bool, true, false, MatchBool, IsTrue, IsFalse, nat_le, ◌==◌}
use Rattle.std.proofs.lemmas.Bool.Decides.{nat_tests}
use mathlib.Core.List.{IsPrefix}

-- each list begins with itself
pub begins_itself : {A : Type 0} (xs : List A) → IsPrefix xs xs
begins_itself xs = ([], append-nil xs)

pub begins_more : {A : Type 0} (xs ys : List A) → IsPrefix xs (xs ++ ys)
begins_more xs ys = (ys, refl)

pub begins_in_turn : {A : Type 0} (xs ys zs : List A) → IsPrefix xs ys → IsPrefix ys zs → IsPrefix xs zs
begins_in_turn xs ys zs p q = (p.0 ++ q.0, sym (append_assoc xs p.0 q.0) ∙ (ap (λ w. w ++ q.0) p.1 ∙ q.1))

-- a front is a front behind the same base
pub begins_behind : {A : Type 0} (base xs ys : List A) → IsPrefix xs ys → IsPrefix (base ++ xs) (base ++ ys)
begins_behind base xs ys p = (p.0, append_assoc base xs p.0 ∙ ap (λ w. base ++ w) p.1)

-- of two fronts of one list the shorter begins the longer
pub shorter_begins : {A : Type 0} (xs ys zs : List A) → IsPrefix xs zs → IsPrefix ys zs → length xs ≤ length ys → IsPrefix xs ys
shorter_begins [] ys zs p q le = (ys, refl)
shorter_begins (x ∷ xs) [] zs p q le = absurd (omega arith)
shorter_begins (x ∷ xs) (y ∷ ys) [] p q le = absurd (cc (p.1))
shorter_begins (x ∷ xs) (y ∷ ys) (z ∷ zs) p q le =
    let heads : x ≡ y = cc (p.1, q.1) in
    let rest = shorter_begins xs ys zs (p.0, cc (p.1)) (q.0, cc (q.1)) (omega arith) in
    (rest.0, cc (heads, rest.1))

-- a front as long as the whole is the whole
pub front_whole : {A : Type 0} (xs ys : List A) → IsPrefix xs ys → length ys ≤ length xs → xs ≡ ys
front_whole [] [] p le = refl
front_whole [] (y ∷ ys) p le = absurd (omega arith)
front_whole (x ∷ xs) [] p le = absurd (cc (p.1))
front_whole (x ∷ xs) (y ∷ ys) p le =
    let rest = front_whole xs ys (p.0, cc (p.1)) (omega arith) in cc (p.1, rest)

-- two fronts of one list, of one length, are one
pub same_length : {A : Type 0} (xs ys zs : List A) → IsPrefix xs zs → IsPrefix ys zs → length xs ≡ length ys → xs ≡ ys
same_length xs ys zs p q e = front_whole xs ys (shorter_begins xs ys zs p q (omega arith)) (omega arith)

-- ---- two fronts behind one base, of which a book knows how long they are

pub front_covers : {A : Type 0} (base xs ys zs : List A) (m n : ℕ) → m ≡ length xs → n ≡ length ys → IsPrefix xs zs → IsPrefix ys zs → IsTrue (nat_le n m)
    → IsPrefix (base ++ ys) (base ++ xs)
front_covers base xs ys zs m n a b p q t =
    let le : length ys ≤ length xs = grind (arith, nat_tests) in begins_behind base ys xs (shorter_begins ys xs zs q p le)

pub front_begins : {A : Type 0} (base xs ys zs : List A) (m n : ℕ) → m ≡ length xs → n ≡ length ys → IsPrefix xs zs → IsPrefix ys zs → IsFalse (nat_le n m)
    → IsPrefix (base ++ xs) (base ++ ys)
front_begins base xs ys zs m n a b p q t =
    let le : length xs ≤ length ys = grind (arith, nat_tests) in begins_behind base xs ys (shorter_begins xs ys zs p q le)

pub fronts_same : {A : Type 0} (base xs ys zs : List A) (m n : ℕ) → m ≡ length xs → n ≡ length ys → IsPrefix xs zs → IsPrefix ys zs → IsTrue (n == m)
    → base ++ xs ≡ base ++ ys
fronts_same base xs ys zs m n a b p q t =
    let e : length xs ≡ length ys = grind (arith, nat_tests) in ap (λ w. base ++ w) (same_length xs ys zs p q e)

-- what was added behind the base, or that the list is longer
pub added_behind : {A : Type 0} (base log after : List A) (x : A) (m : ℕ) (b : Bool) → MatchBool b (after ≡ log ++ x ∷ []) (length after ≡ m) → IsPrefix log after
    → MatchBool b (base ++ after ≡ (base ++ log) ++ x ∷ []) (IsPrefix (base ++ log) (base ++ after))
added_behind base log after x m true told longer = ap (λ w. base ++ w) told ∙ sym (append_assoc base log (x ∷ []))
added_behind base log after x m false told longer = begins_behind base log after longer
