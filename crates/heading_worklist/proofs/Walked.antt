-- The open headings of a record, field by field.
use Rattle.std.proofs.Common.{◌≡◌, ◌∙◌, refl, sym, ap, arith, ℕ, ◌+◌, zero, suc, add-one, List, [], ◌∷◌, ◌++◌, map, take, Option, Some, None, append-nil, append_assoc}
use Rattle.std.specs.Prelude.{option_and_then, option_to_list, slice_get}
use Rattle.std.specs.List.{cons_option, enumerate_from, filter_map}
use Rattle.std.specs.Option.{option_map}

-- what is found of a field is put behind the others, where there is one
pub pushed : {X : Type 0} (o : Option X) (x : X) (old new : List X) → Some x ≡ o → new ≡ old ++ x ∷ [] → new ≡ old ++ option_to_list o
pushed o x old new is push = push ∙ ap (λ (p : Option _). old ++ option_to_list p) is

pub not_pushed : {X : Type 0} (o : Option X) (old : List X) → None ≡ o → old ≡ old ++ option_to_list o
not_pushed o old off = sym (append-nil old) ∙ ap (λ (p : Option _). old ++ option_to_list p) off

module _ {X Y Z : Type 0} (f : ℕ × X → Option Y) (g : Y → Z) where
  abbrev found : ℕ → List X → List Z
  found n xs = map g (filter_map f (enumerate_from n xs))

  one : (o : Option Y) → option_to_list (option_map g o) ≡ map g (cons_option o [])
  one None = refl
  one (Some y) = refl

  behind : (o : Option Y) (ys : List Y) (more : List Z) (all : List Y) → map g ys ++ more ≡ map g all → map g (cons_option o ys) ++ more ≡ map g (cons_option o all)
  behind None ys more all e = e
  behind (Some y) ys more all e = ap (λ (l : List Z). g y ∷ l) e

  walked : (xs : List X) (n i p : ℕ) → p ≡ n + i
      → found n (take i xs) ++ option_to_list (option_map g (option_and_then (λ x. f (p, x)) (slice_get xs i))) ≡ found n (take (suc i) xs)
  walked [] n zero p e = refl
  walked [] n (suc i) p e = refl
  walked (x ∷ xs) n zero p e =
      let here : p ≡ n = omega (arith, e) in ap (λ (m : ℕ). option_to_list (option_map g (f (m, x)))) here ∙ one (f (n, x))
  walked (x ∷ xs) n (suc i) p e =
      behind (f (n, x)) (filter_map f (enumerate_from (n + 1) (take i xs)))
      (option_to_list (option_map g (option_and_then (λ x. f (p, x)) (slice_get xs i))))
      (filter_map f (enumerate_from (n + 1) (take (suc i) xs))) (walked xs (n + 1) i p (omega (arith, e)))

  -- one field more
  pub one_more : (xs : List X) (i : ℕ) (before front more : List Z) → front ≡ before ++ map g (filter_map f (enumerate_from 0 (take i xs)))
      → more ≡ front ++ option_to_list (option_map g (option_and_then (λ x. f (i, x)) (slice_get xs i)))
      → more ≡ before ++ map g (filter_map f (enumerate_from 0 (take (i + 1) xs)))
  one_more xs i before front more was is =
      is ∙ ap (λ (l : List Z). l ++ option_to_list (option_map g (option_and_then (λ x. f (i, x)) (slice_get xs i)))) was
      ∙ append_assoc before (found 0 (take i xs)) (option_to_list (option_map g (option_and_then (λ x. f (i, x)) (slice_get xs i))))
      ∙ ap (λ (l : List Z). before ++ l) (walked xs 0 i i (omega arith))
      ∙ ap (λ (n : ℕ). before ++ found 0 (take n xs)) (sym (add-one i))
