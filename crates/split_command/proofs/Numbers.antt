-- The part of a key, by its number.
use Rattle.std.proofs.Common.{◌≡◌, ◌∙◌, ℕ, zero, suc, ◌+◌, ◌<◌, ◌≤◌, ◌==◌, Bool, true, false, ◌&&◌, not, List, [], ◌∷◌, map, length, Some, drop, get_or, refl, sym, ap, ne_eqb, arith}
use lib.Dec.{eqb-suc-suc}
use Rattle.std.specs.Prelude.{slice_get, if◌then◌else◌}
use Rattle.std.proofs.lemmas.List.{drop_all}
use Rattle.marc_types.specs.declared.key.Key.{Key}
use Rattle.outside.proofs.Fronts.{drop_next}
use Rattle.catalogue_parts.specs.Parts.{Part, every_record, before, from, ranges}
use Rattle.split_command.specs.Shares.{part_number}

-- a key's number is within the parts
pub within_ranges : (bounds : List Key) (key : Key) → part_number bounds key ≤ length bounds
within_ranges [] key = omega arith
within_ranges (bound ∷ bounds) key = at (before bound key) (within_ranges bounds key)
  where
    at : (b : Bool) → part_number bounds key ≤ length bounds → (if b then 0 else suc (part_number bounds key)) ≤ suc (length bounds)
    at true less = omega arith
    at false less = omega (arith, less)

-- the parts behind a bound are those of the other bounds, without the keys before it
got_from : (bound : Key) (parts : List Part) (part : ℕ) (mine : Part) → slice_get (map (from bound) parts) part ≡ Some mine
    → (other : Part) × (slice_get parts part ≡ Some other) × (mine ≡ from bound other)
got_from bound [] part mine got = cc
got_from bound (first ∷ parts) zero mine got = (first, refl, cc)
got_from bound (first ∷ parts) (suc part) mine got = got_from bound parts part mine got

-- a key is in the part that has its number, and in no other
pub in_its_range : (bounds : List Key) (part : ℕ) (mine : Part) (key : Key) → slice_get (ranges bounds) part ≡ Some mine → mine key ≡ (part_number bounds key == part)
in_its_range [] zero mine key got = let is : every_record ≡ mine = cc in ap (λ (m : Part). m key) (sym is)
in_its_range [] (suc part) mine key got = cc
in_its_range (bound ∷ bounds) zero mine key got =
    let is : before bound ≡ mine = cc in
    ap (λ (m : Part). m key) (sym is) ∙ at (before bound key)
  where
    at : (b : Bool) → b ≡ ((if b then 0 else suc (part_number bounds key)) == 0)
    at true = refl
    at false = sym (ne_eqb (suc (part_number bounds key)) 0 (λ same. omega (arith, same)))
in_its_range (bound ∷ bounds) (suc part) mine key got =
    let behind = got_from bound (ranges bounds) part mine got in
    ap (λ (m : Part). m key) behind.2 ∙ at (before bound key) (in_its_range bounds part behind.0 key behind.1)
  where
    at : (b : Bool) {other : Bool} → other ≡ (part_number bounds key == part) → (not b && other) ≡ ((if b then 0 else suc (part_number bounds key)) == suc part)
    at true is = sym (ne_eqb 0 (suc part) (λ same. omega (arith, same)))
    at false is = is ∙ sym (eqb-suc-suc (part_number bounds key) part)

-- ---- the loop over the bounds

at_head : (bounds : List Key) (at : ℕ) (bound key : Key) → at < length bounds → bound ≡ get_or bounds at bound
    → part_number (drop at bounds) key ≡ (if before bound key then 0 else suc (part_number (drop (at + 1) bounds) key))
at_head bounds at bound key within is = ap (λ bs. part_number bs key) (drop_next bounds at bound within is)

-- the key comes before this bound
pub number_here : (bounds : List Key) (at : ℕ) (bound key : Key) → at < length bounds → bound ≡ get_or bounds at bound → before bound key ≡ true
    → part_number (drop at bounds) key ≡ 0
number_here bounds at bound key within is first =
    at_head bounds at bound key within is ∙ ap (λ (b : Bool). if b then 0 else suc (part_number (drop (at + 1) bounds) key)) first

-- it doesn't
pub number_behind : (bounds : List Key) (at : ℕ) (bound key : Key) → at < length bounds → bound ≡ get_or bounds at bound → before bound key ≡ false
    → part_number (drop at bounds) key ≡ suc (part_number (drop (at + 1) bounds) key)
number_behind bounds at bound key within is later =
    at_head bounds at bound key within is ∙ ap (λ (b : Bool). if b then 0 else suc (part_number (drop (at + 1) bounds) key)) later

-- no bound is left
pub number_last : (bounds : List Key) (at : ℕ) (key : Key) → length bounds ≤ at → part_number (drop at bounds) key ≡ 0
number_last bounds at key over = ap (λ bs. part_number bs key) (drop_all at bounds over)
