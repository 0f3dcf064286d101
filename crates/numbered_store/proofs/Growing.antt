-- A store whose keys grow: each number stands for its key, and a record put under a number changes the state as before.
use Rattle.std.proofs.Common.{◌≡◌, ℕ, zero, suc, ◌<◌, Bool, true, false, cond, List, [], ◌∷◌, ◌++◌, length, Option, refl, ap, ◌∙◌, arith}
use Rattle.std.specs.Prelude.{slice_get}
use Rattle.numbering.specs.Numbers.{is_known}
use Rattle.marc_types.specs.Order.{same_key}
use Rattle.marc_types.specs.declared.key.Class.{Class}
use Rattle.marc_types.specs.declared.key.Class.TheVariants.{Authority, Bibliographic}
use Rattle.marc_types.specs.declared.key.Key.{Key}
use Rattle.catalogue_rules.specs.State.{KeptRecord, rows_of}
use Rattle.catalogue_rules.specs.Store.{with_rows}
use Rattle.numbered_store.specs.Rows.{with_row}
use Rattle.numbered_store.specs.Numbered.{Grows, IsNumber, Numbered, key_at, with_number, with_record}

get_more : {X : Type 0} (xs more : List X) (n : ℕ) → n < length xs → slice_get (xs ++ more) n ≡ slice_get xs n
get_more [] more n low = absurd (omega (arith, low))
get_more (x ∷ xs) more zero low = refl
get_more (x ∷ xs) more (suc n) low = get_more xs more n (omega (arith, low))

longer_more : {X : Type 0} (xs more : List X) (n : ℕ) → n < length xs → n < length (xs ++ more)
longer_more [] more n low = absurd (omega (arith, low))
longer_more (x ∷ xs) more zero low = omega arith
longer_more (x ∷ xs) more (suc n) low = let rest = longer_more xs more n (omega (arith, low)) in omega (arith, rest)

with_get : (b : Bool) (keys : List Key) (key : Key) (n : ℕ) → n < length keys → slice_get (cond b keys (keys ++ key ∷ [])) n ≡ slice_get keys n
with_get true keys key n low = refl
with_get false keys key n low = get_more keys (key ∷ []) n low

with_long : (b : Bool) (keys : List Key) (key : Key) (n : ℕ) → n < length keys → n < length (cond b keys (keys ++ key ∷ []))
with_long true keys key n low = low
with_long false keys key n low = longer_more keys (key ∷ []) n low

pub grows_by_a_key : (class : Class) (key : Key) (s : Numbered) → Grows s (with_number class key s)
grows_by_a_key Authority key s = record { state = refl; longer = λ c n low. long c n low; same_key = λ c n low. get c n low }
  where
    long : (c : Class) (n : ℕ) → IsNumber c n s → IsNumber c n (with_number Authority key s)
    long Authority n low = with_long (is_known same_key s.keys.authorities key) s.keys.authorities key n low
    long Bibliographic n low = low

    get : (c : Class) (n : ℕ) → IsNumber c n s → key_at c n (with_number Authority key s) ≡ key_at c n s
    get Authority n low = with_get (is_known same_key s.keys.authorities key) s.keys.authorities key n low
    get Bibliographic n low = refl
grows_by_a_key Bibliographic key s = record { state = refl; longer = λ c n low. long c n low; same_key = λ c n low. get c n low }
  where
    long : (c : Class) (n : ℕ) → IsNumber c n s → IsNumber c n (with_number Bibliographic key s)
    long Bibliographic n low = with_long (is_known same_key s.keys.bibliographic key) s.keys.bibliographic key n low
    long Authority n low = low

    get : (c : Class) (n : ℕ) → IsNumber c n s → key_at c n (with_number Bibliographic key s) ≡ key_at c n s
    get Bibliographic n low = with_get (is_known same_key s.keys.bibliographic key) s.keys.bibliographic key n low
    get Authority n low = refl

-- ---- a record put under a number

module _ (old new : Numbered) (grows : Grows old new) where
  -- the same record put under a number gives the same rows
  pub record_state : (class : Class) (number : ℕ) (r : Option KeptRecord) → IsNumber class number old → (with_record class number r new).state ≡ (with_record class number r old).state
  record_state class number r low =
      ap (λ key. with_rows class (with_row key r (rows_of class new.state)) new.state) (grows.same_key class number low)
      ∙ ap (λ s. with_rows class (with_row (key_at class number old) r (rows_of class s)) s) grows.state
