-- Fields counted one after another.
use Rattle.std.proofs.Common.{◌≡◌, ◌∙◌, ℕ, zero, suc, add-one, ◌+◌, List, [], ◌∷◌, ◌++◌, map, take, Option, Some, None, refl, sym, ap}
use Rattle.std.specs.Prelude.{fold, option_to_list, slice_get}
use Rattle.std.specs.Option.{option_map}
use Rattle.marc_types.specs.declared.key.Class.{Class}
use Rattle.marc_types.specs.declared.key.Key.{Key}
use Rattle.entry_record.specs.Authority.{Linkable}
use Rattle.catalogue_rules.specs.State.{KeptRecord, Row}
use Rattle.worklist_page.specs.Figures.{Figured, mark_of, marks_in, row_marks, with_mark, with_rows}

module _ {F M X : Type 0} (add : F → M → F) (mark : X → M) where
  pub folded : (xs ys : List M) (f : F) → fold add f (xs ++ ys) ≡ fold add (fold add f xs) ys
  folded [] ys f = refl
  folded (x ∷ xs) ys f = folded xs ys (add f x)

  joined : (xs : List X) (i : ℕ) → map mark (take i xs) ++ option_to_list (option_map mark (slice_get xs i)) ≡ map mark (take (suc i) xs)
  joined [] zero = refl
  joined [] (suc i) = refl
  joined (x ∷ xs) zero = refl
  joined (x ∷ xs) (suc i) = ap (λ (l : List M). mark x ∷ l) (joined xs i)

  pub one_more : (xs : List X) (i : ℕ) (begun so_far next : F) → so_far ≡ fold add begun (map mark (take i xs))
      → next ≡ fold add so_far (option_to_list (option_map mark (slice_get xs i))) → next ≡ fold add begun (map mark (take (i + 1) xs))
  one_more xs i begun so_far next before is =
      is ∙ ap (λ (f : F). fold add f (option_to_list (option_map mark (slice_get xs i)))) before
      ∙ sym (folded (map mark (take i xs)) (option_to_list (option_map mark (slice_get xs i))) begun)
      ∙ ap (fold add begun) (joined xs i) ∙ ap (λ (n : ℕ). fold add begun (map mark (take n xs))) (sym (add-one i))

  -- what is found of a field is counted, where there is one
  pub marked : (o : Option X) (x : X) (old new : F) → Some x ≡ o → new ≡ add old (mark x) → new ≡ fold add old (option_to_list (option_map mark o))
  marked o x old new is more = more ∙ ap (λ (p : Option X). fold add old (option_to_list (option_map mark p))) is

  pub not_marked : (o : Option X) (old : F) → None ≡ o → old ≡ fold add old (option_to_list (option_map mark o))
  not_marked o old off = ap (λ (p : Option X). fold add old (option_to_list (option_map mark p))) off

-- ---- rows

-- the next row is counted
pub next_row : (all : List Linkable) (class : Class) (f g goal : Figured) (rows more : List Row) (key : Key) (r : KeptRecord) → rows ≡ (key, r) ∷ more
    → g ≡ fold with_mark f (row_marks all class (key, r)) → with_rows all class f rows ≡ goal → with_rows all class g more ≡ goal
next_row all class f g goal rows more key r is counted so_far =
    ap (λ (h : Figured). with_rows all class h more) counted
    ∙ sym (folded with_mark (mark_of all class key) (row_marks all class (key, r)) (marks_in all class more) f)
    ∙ sym (ap (with_rows all class f) is) ∙ so_far

-- no row is left
pub no_row : (all : List Linkable) (class : Class) (f goal : Figured) (rows : List Row) → rows ≡ [] → with_rows all class f rows ≡ goal → f ≡ goal
no_row all class f goal rows none so_far = sym (ap (with_rows all class f) none) ∙ so_far
