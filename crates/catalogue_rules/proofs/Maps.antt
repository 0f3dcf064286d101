-- Changing the values of a map's entries, and putting an entry in or taking one out.
use Rattle.std.proofs.Common.{◌≡◌, Bool, true, false, cond, List, [], ◌∷◌, map, refl, ap}
use Rattle.std.specs.Map.{remove_entry}
use Rattle.std.specs.BTreeMap.{insert_entry}
use Rattle.std.specs.Ordering.{match_ordering}
use Rattle.std.specs.declared.cmp.Ordering.{Ordering}
use Rattle.std.specs.declared.cmp.Ordering.TheVariants.{Less, Equal, Greater}

-- an entry with its value changed
abbrev pub with_value : {K X Y : Type 0} → (X → Y) → K × X → K × Y
with_value f e = (e.0, f e.1)

module _ {K X Y : Type 0} (f : X → Y) where
  pub map_inserted : (cmp : K → K → Ordering) (es : List (K × X)) (k : K) (v : X) →
      map (with_value f) (insert_entry cmp es k v) ≡ insert_entry cmp (map (with_value f) es) k (f v)
  map_inserted cmp [] k v = refl
  map_inserted cmp (e ∷ es) k v = at (cmp k e.0) (map_inserted cmp es k v)
    where
      at : (o : Ordering) → map (with_value f) (insert_entry cmp es k v) ≡ insert_entry cmp (map (with_value f) es) k (f v) →
          map (with_value f) (match_ordering o ((k, v) ∷ e ∷ es) ((e.0, v) ∷ es) (e ∷ insert_entry cmp es k v))
          ≡ match_ordering o ((k, f v) ∷ (e.0, f e.1) ∷ map (with_value f) es) ((e.0, f v) ∷ map (with_value f) es) ((e.0, f e.1) ∷ insert_entry cmp (map (with_value f) es) k (f v))
      at Less ih = refl
      at Equal ih = refl
      at Greater ih = ap (λ l. (e.0, f e.1) ∷ l) ih

  pub map_removed : (test : K → Bool) (es : List (K × X)) → map (with_value f) (remove_entry test es) ≡ remove_entry test (map (with_value f) es)
  map_removed test [] = refl
  map_removed test (e ∷ es) = at (test e.0) (map_removed test es)
    where
      at : (b : Bool) → map (with_value f) (remove_entry test es) ≡ remove_entry test (map (with_value f) es) →
          map (with_value f) (cond b es (e ∷ remove_entry test es)) ≡ cond b (map (with_value f) es) ((e.0, f e.1) ∷ remove_entry test (map (with_value f) es))
      at true ih = refl
      at false ih = ap (λ l. (e.0, f e.1) ∷ l) ih
