-- Choices by tests.
use Rattle.std.proofs.Common.{◌≡◌, Bool, true, false, ◌&&◌, cond, Option, Some, None, ◌⊎◌, inl, inr, refl}

pub some_then : {A : Type 0} (b : Bool) (x : Option A) (m : A) → cond b x None ≡ Some m → (b ≡ true) × (x ≡ Some m)
some_then true x m h = (refl, h)
some_then false x m h = absurd (cc)

pub one_of_two : {A : Type 0} (b c : Bool) (x y m : A) → cond b (Some x) (cond c (Some y) None) ≡ Some m → ((b ≡ true) × (x ≡ m)) ⊎ ((c ≡ true) × (y ≡ m))
one_of_two true c x y m h = inl (refl, (cc))
one_of_two false true x y m h = inr (refl, (cc))
one_of_two false false x y m h = absurd (cc)

pub both : (b c : Bool) → (b && c) ≡ true → (b ≡ true) × (c ≡ true)
both true c h = (refl, h)
both false c h = absurd (cc)

pub third : {A : Type 0} (p q : Bool) (x y z : A) → p ≡ false → q ≡ false → cond p x (cond q y z) ≡ z
third p q x y z e d = rw (e, d) refl

pub first_second : {A : Type 0} (b : Bool) (x y : A) → b ≡ true → cond b x y ≡ x
first_second b x y e = rw e refl

-- what both branches pass
pub by_test : {A : Type 0} (f : A → Bool) (b : Bool) (x y : A) → (b ≡ true → f x ≡ true) → (b ≡ false → f y ≡ true) → f (cond b x y) ≡ true
by_test f true x y h k = h refl
by_test f false x y h k = k refl
