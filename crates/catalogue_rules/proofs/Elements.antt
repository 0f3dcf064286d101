-- What holds of each element, of those that pass a test, of the first of them, and what an option may hold.
use Rattle.std.proofs.Common.{◌≡◌, Bool, true, false, cond, List, [], ◌∷◌, Option, Some, None, refl, map}
use Rattle.std.specs.Prelude.{find, filter, IfSome}
use Rattle.std.specs.List.{AllByRecursion}
use Rattle.std.specs.Option.{option_or, option_and_then}

-- of each element
abbrev pub Each : {A : Type 0} → (A → Type 0) → List A → Type 0
Each P xs = AllByRecursion P xs

pub each_weaker : {A : Type 0} (P Q : A → Type 0) → ((x : A) → P x → Q x) → (xs : List A) → Each P xs → Each Q xs
each_weaker P Q f [] a = tt
each_weaker P Q f (x ∷ xs) a = (f x a.0, each_weaker P Q f xs a.1)

pub each_anything : {A : Type 0} (xs : List A) → Each (λ (x : A). Unit {0}) xs
each_anything [] = tt
each_anything (x ∷ xs) = (tt, each_anything xs)

pub each_both : {A : Type 0} (P Q : A → Type 0) (xs : List A) → Each P xs → Each Q xs → Each (λ x. P x × Q x) xs
each_both P Q [] a b = tt
each_both P Q (x ∷ xs) a b = ((a.0, b.0), each_both P Q xs a.1 b.1)

pub each_map : {A B : Type 0} (P : A → Type 0) (Q : B → Type 0) (f : A → B) → ((x : A) → P x → Q (f x)) → (xs : List A) → Each P xs → Each Q (map f xs)
each_map P Q f h [] a = tt
each_map P Q f h (x ∷ xs) a = (h x a.0, each_map P Q f h xs a.1)

filter_at : {A : Type 0} (P : A → Type 0) (test : A → Bool) (x : A) (xs : List A) (b : Bool) → test x ≡ b → P x →
    Each (λ y. P y × (test y ≡ true)) xs → Each (λ y. P y × (test y ≡ true)) (cond b (x ∷ xs) xs)
filter_at P test x xs true e p a = ((p, e), a)
filter_at P test x xs false e p a = a

-- those that pass
pub each_filter : {A : Type 0} (P : A → Type 0) (test : A → Bool) (xs : List A) → Each P xs → Each (λ y. P y × (test y ≡ true)) (filter test xs)
each_filter P test [] a = tt
each_filter P test (x ∷ xs) a = filter_at P test x (filter test xs) (test x) refl a.0 (each_filter P test xs a.1)

find_at : {A : Type 0} (P : A → Type 0) (test : A → Bool) (x : A) (o : Option A) (b : Bool) (c : A) → test x ≡ b → P x →
    (o ≡ Some c → P c × (test c ≡ true)) → cond b (Some x) o ≡ Some c → P c × (test c ≡ true)
find_at P test x o true c e p ih h = let same : x ≡ c = cc in rw (← same) (p, e)
find_at P test x o false c e p ih h = ih h

-- the first that passes
pub find_found : {A : Type 0} (P : A → Type 0) (test : A → Bool) (xs : List A) (c : A) → Each P xs → find test xs ≡ Some c → P c × (test c ≡ true)
find_found P test [] c a h = cc
find_found P test (x ∷ xs) c a h =
    find_at P test x (find test xs) (test x) c refl a.0 (find_found P test xs c a.1) h

pub if_some_or : {A : Type 0} (P : A → Type 0) (a b : Option A) → IfSome a P → IfSome b P → IfSome (option_or a b) P
if_some_or P None b ha hb = hb
if_some_or P (Some x) b ha hb = ha

pub if_some_then : {A B : Type 0} (P : B → Type 0) (f : A → Option B) (o : Option A) → ((x : A) → IfSome (f x) P) → IfSome (option_and_then f o) P
if_some_then P f None h = tt
if_some_then P f (Some x) h = h x
