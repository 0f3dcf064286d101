-- The lengths of a heading's part and of what stands outside it.
use Rattle.std.proofs.Common.{◌≡◌, ◌+◌, ◌≤◌, Bool, true, false, ◌&&◌, ◌||◌, not, cond, List, [], ◌∷◌, ◌++◌, refl, ap, arith, if◌then◌else◌}
use Rattle.std.specs.Prelude.{filter}
use Rattle.std.proofs.lemmas.List.Elements.{filter-append}
use Rattle.marc_types.specs.declared.field.Subfield.{Subfield}
use Rattle.marc_types.specs.declared.key.Key.{Key}
use Rattle.marc_types.specs.declared.form.Kind.{Kind}
use Rattle.marc_types.specs.Valid.{subfields_size}
use Rattle.heading_fields.specs.Tables.{is_controlled, is_subdivision}
use Rattle.heading_fields.specs.Parts.{before, onward, is_dividing, region, behind, is_part, part, outside}
use Rattle.heading_fields.specs.Numbers.{is_naming, unnumbered}
use Rattle.heading_fields.proofs.Sublaws.{size-append, part-unnumbered}

cut : (test : Subfield → Bool) (xs : List Subfield) → before test xs ++ onward test xs ≡ xs
cut test [] = refl
cut test (x ∷ xs) = at (test x) (cut test xs)
  where
    at : (b : Bool) → before test xs ++ onward test xs ≡ xs → (if b then [] else x ∷ before test xs) ++ (if b then x ∷ xs else onward test xs) ≡ x ∷ xs
    at true e = refl
    at false e = rw e refl

-- the region of a part and what stands behind it are the whole
pub regions : (whole : Bool) (subs : List Subfield) → region whole subs ++ behind whole subs ≡ subs
regions true [] = refl
regions true (x ∷ xs) = rw (regions true xs) refl
regions false subs = cut is_dividing subs

-- what passes and what doesn't
split : (test : Subfield → Bool) (xs : List Subfield) → subfields_size (filter test xs) + subfields_size (filter (λ s. not (test s)) xs) ≡ subfields_size xs
split test [] = omega arith
split test (x ∷ xs) = at (test x) (split test xs)
  where
    at : (b : Bool) → subfields_size (filter test xs) + subfields_size (filter (λ s. not (test s)) xs) ≡ subfields_size xs →
        subfields_size (cond b (x ∷ filter test xs) (filter test xs)) + subfields_size (cond (not b) (x ∷ filter (λ s. not (test s)) xs) (filter (λ s. not (test s)) xs)) ≡ subfields_size (x ∷ xs)
    at true e = omega arith
    at false e = omega arith

size_regions : (whole : Bool) (subs : List Subfield) → subfields_size (region whole subs) + subfields_size (behind whole subs) ≡ subfields_size subs
size_regions whole subs = let e = ap subfields_size (regions whole subs) in let s = size-append (region whole subs) (behind whole subs) in omega arith

-- a part and what stands outside it are the whole
pub part_and_outside : (whole : Bool) (kind : Kind) (subs : List Subfield) → subfields_size (part whole kind subs) + subfields_size (outside whole kind subs) ≡ subfields_size subs
unfolding part outside
part_and_outside whole kind subs =
    let both = split (is_part whole kind) (region whole subs) in
    let joined = size-append (filter (λ s. not (is_part whole kind s)) (region whole subs)) (behind whole subs) in
    let all = size_regions whole subs in
    omega arith

base_is_full : (kind : Kind) (s : Subfield) → is_part false kind s ≡ true → is_part true kind s ≡ true
unfolding is_part
base_is_full kind s h = at (is_controlled kind s.code) h
  where
    at : (b : Bool) → (b || (false && is_subdivision s.code)) ≡ true → (b || (true && is_subdivision s.code)) ≡ true
    at true e = refl
    at false e = cc

undivided : (x : Subfield) (ps ws : List Subfield) (b w : Bool) → (b ≡ true → w ≡ true) → subfields_size ps ≤ subfields_size ws →
    subfields_size (cond b (x ∷ ps) ps) ≤ subfields_size (cond w (x ∷ ws) ws)
undivided x ps ws true true h ih = omega arith
undivided x ps ws true false h ih = let no = h refl in cc
undivided x ps ws false true h ih = omega arith
undivided x ps ws false false h ih = ih

smaller_at : (kind : Kind) (x : Subfield) (xs ws : List Subfield) (d : Bool) → subfields_size (filter (is_part false kind) xs) ≤ subfields_size ws →
    subfields_size (filter (is_part false kind) (if d then [] else x ∷ xs)) ≤ subfields_size (cond (is_part true kind x) (x ∷ ws) ws)
smaller_at kind x xs ws true ih = omega arith
smaller_at kind x xs ws false ih = undivided x (filter (is_part false kind) xs) ws (is_part false kind x) (is_part true kind x) (base_is_full kind x) ih

smaller : (kind : Kind) (subs : List Subfield) → subfields_size (filter (is_part false kind) (before is_dividing subs)) ≤ subfields_size (filter (is_part true kind) subs)
smaller kind [] = omega arith
smaller kind (x ∷ xs) = smaller_at kind x (before is_dividing xs) (filter (is_part true kind) xs) (is_dividing x) (smaller kind xs)

-- the base part is no longer than the full part
pub base_within_full : (kind : Kind) (subs : List Subfield) → subfields_size (part false kind subs) ≤ subfields_size (part true kind subs)
unfolding part
base_within_full kind subs = smaller kind subs

-- either part is no longer than the full part
pub part_within_full : (whole : Bool) (kind : Kind) (subs : List Subfield) → subfields_size (part whole kind subs) ≤ subfields_size (part true kind subs)
part_within_full true kind subs = omega arith
part_within_full false kind subs = base_within_full kind subs

-- where more is linked, less stands outside
pub outside_less : (less more : Bool) (kind : Kind) (subs : List Subfield) → (less ≡ true → more ≡ true) → subfields_size (outside more kind subs) ≤ subfields_size (outside less kind subs)
outside_less true true kind subs h = omega arith
outside_less true false kind subs h = let no = h refl in cc
outside_less false true kind subs h = omega (arith, part_and_outside true kind subs, part_and_outside false kind subs, base_within_full kind subs)
outside_less false false kind subs h = omega arith

filters_at : (t q : Subfield → Bool) (x : Subfield) (xs : List Subfield) (b : Bool) → subfields_size (filter t (filter q xs)) ≤ subfields_size (filter t xs) →
    subfields_size (filter t (cond b (x ∷ filter q xs) (filter q xs))) ≤ subfields_size (cond (t x) (x ∷ filter t xs) (filter t xs))
filters_at t q x xs true ih = kept_more x (filter t (filter q xs)) (filter t xs) (t x) ih
  where
    kept_more : (x : Subfield) (ps ws : List Subfield) (b : Bool) → subfields_size ps ≤ subfields_size ws → subfields_size (cond b (x ∷ ps) ps) ≤ subfields_size (cond b (x ∷ ws) ws)
    kept_more x ps ws true h = omega arith
    kept_more x ps ws false h = h
filters_at t q x xs false ih = more x (filter t (filter q xs)) (filter t xs) (t x) ih
  where
    more : (x : Subfield) (ps ws : List Subfield) (b : Bool) → subfields_size ps ≤ subfields_size ws → subfields_size ps ≤ subfields_size (cond b (x ∷ ws) ws)
    more x ps ws true h = omega arith
    more x ps ws false h = h

-- of those that pass one test, those that pass another are no more than of all
filters : (t q : Subfield → Bool) (xs : List Subfield) → subfields_size (filter t (filter q xs)) ≤ subfields_size (filter t xs)
filters t q [] = omega arith
filters t q (x ∷ xs) = filters_at t q x xs (q x) (filters t q xs)

-- the `$0` of a key that stand outside a part are among all that name it
named_outside : (whole : Bool) (kind : Kind) (key : Key) (subs : List Subfield) → subfields_size (filter (is_naming key) (outside whole kind subs)) ≤ subfields_size (filter (is_naming key) subs)
unfolding outside
named_outside whole kind key subs =
    let q = λ (s : Subfield). not (is_part whole kind s) in
    let cut_named = ap (λ xs. subfields_size (filter (is_naming key) xs)) (regions whole subs) in
    let less = filters (is_naming key) q (region whole subs) in
    let left = ap subfields_size (filter-append (is_naming key) (filter q (region whole subs)) (behind whole subs)) in
    let right = ap subfields_size (filter-append (is_naming key) (region whole subs) (behind whole subs)) in
    let left_sum = size-append (filter (is_naming key) (filter q (region whole subs))) (filter (is_naming key) (behind whole subs)) in
    let right_sum = size-append (filter (is_naming key) (region whole subs)) (filter (is_naming key) (behind whole subs)) in
    omega arith

-- what stands outside a part without the `$0` of a key is as long whether they go before or after
pub outside_unnumbered : (whole : Bool) (kind : Kind) (key : Key) (subs : List Subfield) →
    subfields_size (outside whole kind (unnumbered key subs)) ≤ subfields_size (unnumbered key (outside whole kind subs))
outside_unnumbered whole kind key subs =
    let gone = part_and_outside whole kind (unnumbered key subs) in
    let there = part_and_outside whole kind subs in
    let same = ap subfields_size (part-unnumbered whole kind key subs) in
    let named = split (is_naming key) subs in
    let named_out = split (is_naming key) (outside whole kind subs) in
    let fewer = named_outside whole kind key subs in
    omega arith
