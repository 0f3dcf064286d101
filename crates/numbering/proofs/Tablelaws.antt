-- Few things: where one stands among them, and how they come into a table.
use Rattle.std.proofs.Common.{◌≡◌, ◌∙◌, sym, ap, refl, ℕ, ◌+◌, ◌<◌, ◌≤◌, arith, Bool, true, false, cond, Option, Some, None, position, List, [], ◌∷◌, ◌++◌, length, append-nil, take, drop, slice_get, get_or, nat_lt}
use Rattle.std.specs.Cmp.{IsEquivalence}
use Rattle.std.specs.List.{IsDistinct}
use Rattle.std.proofs.lemmas.Bool.{lt-ltb, le-ltb}
use Rattle.std.proofs.lemmas.List.{take-append-drop, length-take, take_more}
use Rattle.std.proofs.lemmas.Map.Keys.{IsDistinct-push}
use Rattle.std.proofs.lemmas.Option.{get_or_from_slice_get}
use Rattle.indexmap.specs.IndexSet.{insert_key}
use Rattle.numbering.specs.Numbers.{is_known, number_of, IsNumberOf}
use Rattle.numbering.proofs.Numberlaws.{number_at, number_more, number_below, number_beyond}

module _ {T : Type 0} (same : T → T → Bool) where
  -- a thing stands at its number, if it has one
  told_by : (b : Bool) (things : List T) (thing : T) → is_known same things thing ≡ b → position (same thing) things ≡ cond b (Some (number_of same things thing)) None
  told_by true things thing e =
      ap (λ c. cond c (Some (number_of same things thing)) None) (lt-ltb (number_of same things thing) (length things) (number_below same things thing e))
  told_by false things thing e =
      let next : number_of same (things ++ []) thing ≡ length things + 0 = number_beyond same things [] thing e in
      let all : number_of same things thing ≡ length things + 0 = ap (λ xs. number_of same xs thing) (sym (append-nil things)) ∙ next in
      ap (λ c. cond c (Some (number_of same things thing)) None) (le-ltb (number_of same things thing) (length things) (omega arith))

  pub place_told : (things : List T) (thing : T) → position (same thing) things ≡ cond (is_known same things thing) (Some (number_of same things thing)) None
  place_told things thing = told_by (is_known same things thing) things thing refl

  -- what stands at a place has no number before it
  pub unknown_before : IsEquivalence same → (things : List T) (i : ℕ) (thing : T) → IsDistinct same things → slice_get things i ≡ Some thing
      → is_known same (take i things) thing ≡ false
  unknown_before laws things i thing distinct at = by (is_known same (take i things) thing) refl
    where
      by : (b : Bool) → is_known same (take i things) thing ≡ b → is_known same (take i things) thing ≡ false
      by false e = e
      by true e =
          let placed : IsNumberOf same things thing i = number_at same laws things thing i distinct at in
          let whole : take i things ++ drop i things ≡ things = take-append-drop i things in
          let there : number_of same things thing ≡ number_of same (take i things) thing =
          ap (λ xs. number_of same xs thing) (sym whole) ∙ number_more same (take i things) (drop i things) thing e in
          let low = number_below same (take i things) thing e in
          let is = placed.is in
          absurd (omega (arith, length-take i things))

  -- one more thing comes into the table
  pub moved_next : IsEquivalence same → (things keys : List T) (i : ℕ) (thing : T) → IsDistinct same things → slice_get things i ≡ Some thing
      → keys ≡ take i things → insert_key same keys thing ≡ take (i + 1) things
  moved_next laws things keys i thing distinct at so =
      let placed : IsNumberOf same things thing i = number_at same laws things thing i distinct at in
      let low = number_below same things thing placed.known in
      let is = placed.is in
      let inside : i < length things = omega arith in
      let there : get_or things i thing ≡ thing = get_or_from_slice_get things i thing thing at in
      let next : take (i + 1) things ≡ take i things ++ get_or things i thing ∷ [] = take_more things i thing inside in
      let fresh : is_known same (take i things) thing ≡ false = unknown_before laws things i thing distinct at in
      ap (λ ks. insert_key same ks thing) so ∙ ap (λ b. cond b (take i things) (take i things ++ thing ∷ [])) fresh
      ∙ ap (λ t. take i things ++ t ∷ []) (sym there) ∙ sym next

  -- no thing stands twice among none
  pub distinct_none : IsDistinct same []
  unfolding IsDistinct
  distinct_none = tt

  -- things stay distinct with a new one behind them
  pub distinct_more : IsEquivalence same → (things : List T) (thing : T) → IsDistinct same things → is_known same things thing ≡ false → IsDistinct same (things ++ thing ∷ [])
  distinct_more laws things thing distinct unknown = IsDistinct-push laws things thing distinct unknown
