-- Sums over lists of views.
use Rattle.std.proofs.Common.{◌≡◌, ◌≢◌, ℕ, zero, suc, ◌+◌, ◌≤◌, List, [], ◌∷◌, ◌++◌, set, refl, ap, sym, arith}
use mathlib.Core.Option.{some, some-injective, some-ne-none}
use lib.ListN.{get_elem?}
use Rattle.catalogue_lock.specs.Rule.{total}

module _ {V : Type 0} (f : V → ℕ) where
  pub total-snoc : (vs : List V) (w : V) → total f (vs ++ w ∷ []) ≡ total f vs + f w
  total-snoc [] w = omega arith
  total-snoc (v ∷ vs) w = omega (arith, total-snoc vs w)

  -- one view changes
  pub total-set : (vs : List V) (j : ℕ) (v w : V) → get_elem? vs j ≡ some v → total f (set vs j w) + f v ≡ total f vs + f w
  total-set [] j v w at = absurd (some-ne-none v (sym at))
  total-set (u ∷ vs) zero v w at = let e : f u ≡ f v = ap f (some-injective u v at) in omega arith
  total-set (u ∷ vs) (suc j) v w at = omega (arith, total-set vs j v w at)

  -- each is at most the sum
  pub total-at : (vs : List V) (j : ℕ) (v : V) → get_elem? vs j ≡ some v → f v ≤ total f vs
  total-at [] j v at = absurd (some-ne-none v (sym at))
  total-at (u ∷ vs) zero v at = let e : f u ≡ f v = ap f (some-injective u v at) in omega arith
  total-at (u ∷ vs) (suc j) v at = omega (arith, total-at vs j v at)

  -- and so are two
  pub total-two : (vs : List V) (i j : ℕ) (v w : V) → i ≢ j → get_elem? vs i ≡ some v → get_elem? vs j ≡ some w → f v + f w ≤ total f vs
  total-two [] i j v w ne a b = absurd (some-ne-none v (sym a))
  total-two (u ∷ vs) zero zero v w ne a b = absurd (ne refl)
  total-two (u ∷ vs) zero (suc j) v w ne a b = let e : f u ≡ f v = ap f (some-injective u v a) in omega (arith, total-at vs j w b)
  total-two (u ∷ vs) (suc i) zero v w ne a b = let e : f u ≡ f w = ap f (some-injective u w b) in omega (arith, total-at vs i v a)
  total-two (u ∷ vs) (suc i) (suc j) v w ne a b = omega (arith, total-two vs i j v w (λ e. ne (ap suc e)) a b)

  -- where each is at most another measure of it, so is the sum, and the gap of one view is a gap of the sums
  pub total-below : (g : V → ℕ) (vs : List V) → ((j : ℕ) (v : V) → get_elem? vs j ≡ some v → f v ≤ g v) → total f vs ≤ total g vs
  total-below g [] le = omega arith
  total-below g (u ∷ vs) le = omega (arith, le 0 u refl, total-below g vs (λ j v at. le (suc j) v at))

  pub total-gap : (g : V → ℕ) (vs : List V) → ((j : ℕ) (v : V) → get_elem? vs j ≡ some v → f v ≤ g v) → (i : ℕ) (u : V) → get_elem? vs i ≡ some u → total f vs + g u ≤ total g vs + f u
  total-gap g [] le i u at = absurd (some-ne-none u (sym at))
  total-gap g (w ∷ vs) le zero u at = let e : f w ≡ f u = ap f (some-injective w u at) in let d : g w ≡ g u = ap g (some-injective w u at) in
      omega (arith, total-below g vs (λ j v at. le (suc j) v at))
  total-gap g (w ∷ vs) le (suc i) u at = omega (arith, le 0 w refl, total-gap g vs (λ j v at. le (suc j) v at) i u at)
