-- Lists none of whose elements pass a test, and lists all of whose elements do: how they are cut and filtered.
use Rattle.std.proofs.Common.{◌≡◌, ◌≢◌, Bool, true, false, not, cond, ◌&&◌, List, [], ◌∷◌, ◌++◌, filter, if◌then◌else◌, refl, ap}
use Rattle.std.specs.List.{list_all}
use Rattle.heading_fields.specs.Parts.{before, onward}

-- the test says so of every element
abbrev pub Each : {A : Type 0} → Bool → (A → Bool) → List A → Type 0
Each said test [] = Unit {0}
Each said test (x ∷ xs) = (test x ≡ said) × Each said test xs

-- no element passes
abbrev pub Free : {A : Type 0} → (A → Bool) → List A → Type 0
Free test xs = Each false test xs

-- every element passes
abbrev pub Full : {A : Type 0} → (A → Bool) → List A → Type 0
Full test xs = Each true test xs

pub each_append : {A : Type 0} (said : Bool) (p : A → Bool) (xs ys : List A) → Each said p xs → Each said p ys → Each said p (xs ++ ys)
each_append said p [] ys f g = g
each_append said p (x ∷ xs) ys f g = (f.0, each_append said p xs ys f.1 g)

pub before_free : {A : Type 0} (p : A → Bool) (xs ys : List A) → Free p xs → before p (xs ++ ys) ≡ xs ++ before p ys
before_free p [] ys f = refl
before_free p (x ∷ xs) ys f = rw f.0 (ap (λ zs. x ∷ zs) (before_free p xs ys f.1))

pub onward_free : {A : Type 0} (p : A → Bool) (xs ys : List A) → Free p xs → onward p (xs ++ ys) ≡ onward p ys
onward_free p [] ys f = refl
onward_free p (x ∷ xs) ys f = rw f.0 (onward_free p xs ys f.1)

pub filter_free : {A : Type 0} (p : A → Bool) (xs : List A) → Free p xs → filter p xs ≡ []
filter_free p [] f = refl
filter_free p (x ∷ xs) f = rw f.0 (filter_free p xs f.1)

pub filter_not_free : {A : Type 0} (p : A → Bool) (xs : List A) → Free p xs → filter (λ x. not (p x)) xs ≡ xs
filter_not_free p [] f = refl
filter_not_free p (x ∷ xs) f = rw f.0 (ap (λ zs. x ∷ zs) (filter_not_free p xs f.1))

pub filter_full : {A : Type 0} (p : A → Bool) (xs : List A) → Full p xs → filter p xs ≡ xs
filter_full p [] f = refl
filter_full p (x ∷ xs) f = rw f.0 (ap (λ zs. x ∷ zs) (filter_full p xs f.1))

pub filter_not_full : {A : Type 0} (p : A → Bool) (xs : List A) → Full p xs → filter (λ x. not (p x)) xs ≡ []
filter_not_full p [] f = refl
filter_not_full p (x ∷ xs) f = rw f.0 (filter_not_full p xs f.1)

-- a list that begins with an element that passes is cut there
pub before_full : {A : Type 0} (p : A → Bool) (xs ys : List A) → Full p xs → xs ≢ [] → before p (xs ++ ys) ≡ []
before_full p [] ys f n = absurd (n refl)
before_full p (x ∷ xs) ys f n = rw f.0 refl

pub onward_full : {A : Type 0} (p : A → Bool) (xs ys : List A) → Full p xs → xs ≢ [] → onward p (xs ++ ys) ≡ xs ++ ys
onward_full p [] ys f n = absurd (n refl)
onward_full p (x ∷ xs) ys f n = rw f.0 refl

before_is_free_at : {A : Type 0} (p : A → Bool) (x : A) (zs : List A) (b : Bool) → p x ≡ b → Free p zs → Free p (if b then [] else x ∷ zs)
before_is_free_at p x zs true e f = tt
before_is_free_at p x zs false e f = (e, f)

-- what stands before the first that passes doesn't pass
pub before_is_free : {A : Type 0} (p : A → Bool) (xs : List A) → Free p (before p xs)
before_is_free p [] = tt
before_is_free p (x ∷ xs) = before_is_free_at p x (before p xs) (p x) refl (before_is_free p xs)

filter_is_full_at : {A : Type 0} (p : A → Bool) (x : A) (zs : List A) (b : Bool) → p x ≡ b → Full p zs → Full p (cond b (x ∷ zs) zs)
filter_is_full_at p x zs true e f = (e, f)
filter_is_full_at p x zs false e f = f

pub filter_is_full : {A : Type 0} (p : A → Bool) (xs : List A) → Full p (filter p xs)
filter_is_full p [] = tt
filter_is_full p (x ∷ xs) = filter_is_full_at p x (filter p xs) (p x) refl (filter_is_full p xs)

filter_not_is_free_at : {A : Type 0} (p : A → Bool) (x : A) (zs : List A) (b : Bool) → p x ≡ b → Free p zs → Free p (cond (not b) (x ∷ zs) zs)
filter_not_is_free_at p x zs true e f = f
filter_not_is_free_at p x zs false e f = (e, f)

pub filter_not_is_free : {A : Type 0} (p : A → Bool) (xs : List A) → Free p (filter (λ x. not (p x)) xs)
filter_not_is_free p [] = tt
filter_not_is_free p (x ∷ xs) = filter_not_is_free_at p x (filter (λ y. not (p y)) xs) (p x) refl (filter_not_is_free p xs)

each_if : {A : Type 0} (said : Bool) (p : A → Bool) (x : A) (zs : List A) (b : Bool) → p x ≡ said → Each said p zs → Each said p (cond b (x ∷ zs) zs)
each_if said p x zs true e f = (e, f)
each_if said p x zs false e f = f

-- a filter, a front and a tail keep what the test says of all
pub each_filter : {A : Type 0} (said : Bool) (p q : A → Bool) (xs : List A) → Each said p xs → Each said p (filter q xs)
each_filter said p q [] f = tt
each_filter said p q (x ∷ xs) f = each_if said p x (filter q xs) (q x) f.0 (each_filter said p q xs f.1)

each_front_if : {A : Type 0} (said : Bool) (p : A → Bool) (x : A) (zs : List A) (b : Bool) → p x ≡ said → Each said p zs → Each said p (if b then [] else x ∷ zs)
each_front_if said p x zs true e f = tt
each_front_if said p x zs false e f = (e, f)

pub each_before : {A : Type 0} (said : Bool) (p q : A → Bool) (xs : List A) → Each said p xs → Each said p (before q xs)
each_before said p q [] f = tt
each_before said p q (x ∷ xs) f = each_front_if said p x (before q xs) (q x) f.0 (each_before said p q xs f.1)

each_tail_if : {A : Type 0} (said : Bool) (p : A → Bool) (xs zs : List A) (b : Bool) → Each said p xs → Each said p zs → Each said p (if b then xs else zs)
each_tail_if said p xs zs true e f = e
each_tail_if said p xs zs false e f = f

pub each_onward : {A : Type 0} (said : Bool) (p q : A → Bool) (xs : List A) → Each said p xs → Each said p (onward q xs)
each_onward said p q [] f = tt
each_onward said p q (x ∷ xs) f = each_tail_if said p (x ∷ xs) (onward q xs) (q x) f (each_onward said p q xs f.1)

-- where a test implies another, what is free of the other is free of it, and what is full of it is full of the other
pub free_weaker : {A : Type 0} (p q : A → Bool) → ((x : A) → p x ≡ false → q x ≡ false) → (xs : List A) → Free p xs → Free q xs
free_weaker p q h [] f = tt
free_weaker p q h (x ∷ xs) f = (h x f.0, free_weaker p q h xs f.1)

pub full_weaker : {A : Type 0} (p q : A → Bool) → ((x : A) → p x ≡ true → q x ≡ true) → (xs : List A) → Full p xs → Full q xs
full_weaker p q h [] f = tt
full_weaker p q h (x ∷ xs) f = (h x f.0, full_weaker p q h xs f.1)

pub free_where_full : {A : Type 0} (p q : A → Bool) → ((x : A) → p x ≡ true → q x ≡ false) → (xs : List A) → Full p xs → Free q xs
free_where_full p q h [] f = tt
free_where_full p q h (x ∷ xs) f = (h x f.0, free_where_full p q h xs f.1)

-- a tail begins with an element that passes; a filter that keeps such elements leaves it so
tail_begins_at : {A : Type 0} (p keep : A → Bool) → ((y : A) → p y ≡ true → keep y ≡ true) → (x : A) (xs zs : List A) (b : Bool) → p x ≡ b →
    (before p (filter keep zs) ≡ []) × (onward p (filter keep zs) ≡ filter keep zs) →
    (before p (filter keep (if b then x ∷ xs else zs)) ≡ []) × (onward p (filter keep (if b then x ∷ xs else zs)) ≡ filter keep (if b then x ∷ xs else zs))
tail_begins_at p keep h x xs zs true e f = let k = h x e in (rw (k, e) refl, rw (k, e) refl)
tail_begins_at p keep h x xs zs false e f = f

pub tail_begins : {A : Type 0} (p keep : A → Bool) → ((y : A) → p y ≡ true → keep y ≡ true) → (xs : List A) →
    (before p (filter keep (onward p xs)) ≡ []) × (onward p (filter keep (onward p xs)) ≡ filter keep (onward p xs))
tail_begins p keep h [] = (refl, refl)
tail_begins p keep h (x ∷ xs) = tail_begins_at p keep h x xs (onward p xs) (p x) refl (tail_begins p keep h xs)

cut_filter_at : {A : Type 0} (x : A) (xs zs fs : List A) (p : A → Bool) (b : Bool) → p x ≡ b → fs ≡ before p xs ++ filter (λ y. not (p y)) zs → fs ≡ filter (λ y. not (p y)) xs →
    cond (not b) (x ∷ fs) fs ≡ (if b then [] else x ∷ before p xs) ++ filter (λ y. not (p y)) (if b then x ∷ xs else zs)
cut_filter_at x xs zs fs p true e f g = rw (e, g) refl
cut_filter_at x xs zs fs p false e f g = ap (λ ys. x ∷ ys) f

-- what doesn't pass stands before the first that passes, or behind it
pub cut_filter : {A : Type 0} (p : A → Bool) (xs : List A) → filter (λ y. not (p y)) xs ≡ before p xs ++ filter (λ y. not (p y)) (onward p xs)
cut_filter p [] = refl
cut_filter p (x ∷ xs) = cut_filter_at x xs (onward p xs) (filter (λ y. not (p y)) xs) p (p x) refl (cut_filter p xs) refl

full_from_at : (a b : Bool) → (a && b) ≡ true → (a ≡ true) × (b ≡ true)
full_from_at true b e = (refl, e)
full_from_at false b e = cc

-- the same fact as a test
pub full_from : {A : Type 0} (p : A → Bool) (xs : List A) → list_all p xs ≡ true → Full p xs
full_from p [] e = tt
full_from p (x ∷ xs) e = let both = full_from_at (p x) (list_all p xs) e in (both.0, full_from p xs both.1)

pub all_from : {A : Type 0} (p : A → Bool) (xs : List A) → Full p xs → list_all p xs ≡ true
all_from p [] f = refl
all_from p (x ∷ xs) f = rw (f.0, all_from p xs f.1) refl
