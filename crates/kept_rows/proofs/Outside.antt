-- What stands outside a part, without the `$0` of a key, is what is left of a field's other subfields without the part.
use Rattle.std.proofs.Common.{◌≡◌, ℕ, ◌+◌, ◌≤◌, Bool, true, false, not, cond, filter, List, [], ◌∷◌, Option, Some, None, refl, ap, arith}
use Rattle.std.proofs.lemmas.List.Elements.{filter-append}
use Rattle.marc_types.specs.declared.field.Subfield.{Subfield}
use Rattle.marc_types.specs.declared.field.Field.{Field}
use Rattle.marc_types.specs.declared.field.Field.TheVariants.{Control, Variable}
use Rattle.marc_types.specs.declared.key.Key.{Key}
use Rattle.marc_types.specs.declared.form.Kind.{Kind}
use Rattle.marc_types.specs.Fields.{subfields_of}
use Rattle.marc_types.specs.Valid.{subfields_size, field_size}
use Rattle.heading_fields.specs.Parts.{is_dividing, region, behind, is_part, part, outside}
use Rattle.heading_fields.specs.Numbers.{is_naming, unnumbered}
use Rattle.heading_fields.proofs.Codes.{part_not_naming}
use Rattle.heading_fields.proofs.Slices.{size_before}
use Rattle.heading_fields.proofs.Sublaws.{size-append, size_filter}
use Rattle.catalogue_rules.specs.Valid.{other_subfields}
use Rattle.catalogue_rules.proofs.Sizes.{regions, part_and_outside}

-- of those that are kept, the ones of the part and the others
split_at : (t p : Subfield → Bool) (x : Subfield) (xs ys : List Subfield) (b n : Bool) → p x ≡ b → t x ≡ n → (p x ≡ true → t x ≡ false) →
    subfields_size (filter (λ s. not (t s)) ys) + subfields_size (filter p xs) ≡ subfields_size (filter (λ s. not (t s)) xs) →
    subfields_size (filter (λ s. not (t s)) (cond (not b) (x ∷ ys) ys)) + subfields_size (cond b (x ∷ filter p xs) (filter p xs))
    ≡ subfields_size (cond (not n) (x ∷ filter (λ s. not (t s)) xs) (filter (λ s. not (t s)) xs))
split_at t p x xs ys true true is named apart e = let clash = apart is in cc
split_at t p x xs ys true false is named apart e = omega arith
split_at t p x xs ys false true is named apart e = rw named (omega arith)
split_at t p x xs ys false false is named apart e = rw named (omega arith)

split : (t p : Subfield → Bool) → ((s : Subfield) → p s ≡ true → t s ≡ false) → (xs : List Subfield) →
    subfields_size (filter (λ s. not (t s)) (filter (λ s. not (p s)) xs)) + subfields_size (filter p xs) ≡ subfields_size (filter (λ s. not (t s)) xs)
split t p apart [] = omega arith
split t p apart (x ∷ xs) = split_at t p x xs (filter (λ s. not (p s)) xs) (p x) (t x) refl refl (apart x) (split t p apart xs)

numbered : (whole : Bool) (kind : Kind) (key : Key) (subs : List Subfield) →
    subfields_size (unnumbered key (outside whole kind subs)) + subfields_size (part whole kind subs) ≡ subfields_size (unnumbered key subs)
unfolding outside part
numbered whole kind key subs =
    let t = is_naming key in
    let kept = λ (s : Subfield). not (is_naming key s) in
    let others = filter (λ s. not (is_part whole kind s)) (region whole subs) in
    let here = split t (is_part whole kind) (part_not_naming whole kind key) (region whole subs) in
    let all = ap (λ xs. subfields_size (filter kept xs)) (regions whole subs) in
    let left = ap subfields_size (filter-append kept others (behind whole subs)) in
    let right = ap subfields_size (filter-append kept (region whole subs) (behind whole subs)) in
    let left_sum = size-append (filter kept others) (filter kept (behind whole subs)) in
    let right_sum = size-append (filter kept (region whole subs)) (filter kept (behind whole subs)) in
    omega arith

-- of the subfields without each `$0` that names a key, a part is left out
pub outside_left : (whole : Bool) (kind : Kind) (key : Option Key) (subs : List Subfield) →
    subfields_size (other_subfields key (outside whole kind subs)) + subfields_size (part whole kind subs) ≡ subfields_size (other_subfields key subs)
outside_left whole kind None subs = omega (arith, part_and_outside whole kind subs)
outside_left whole kind (Some key) subs = numbered whole kind key subs

pub region_small : (whole : Bool) (subs : List Subfield) → subfields_size (region whole subs) ≤ subfields_size subs
region_small true subs = omega arith
region_small false subs = size_before is_dividing subs

pub subfields_small : (f : Field) → subfields_size (subfields_of f) ≤ field_size f
unfolding field_size
subfields_small (Control tag text) = omega arith
subfields_small (Variable tag ind1 ind2 subs) = omega arith

pub others_small : (key : Option Key) (subs : List Subfield) → subfields_size (other_subfields key subs) ≤ subfields_size subs
others_small None subs = omega arith
others_small (Some key) subs = size_filter (λ s. not (is_naming key s)) subs

-- what is measured of a part, and of the other subfields
pub record AreMeasured (part_len others_len : ℕ) : Type 0 where
  pub within : part_len ≤ others_len
  pub small : others_len ≤ 1000000

pub measured : (f : Field) (whole : Bool) (kind : Kind) (key : Option Key) (region_of : List Subfield) (part_len others_len : ℕ) → field_size f ≤ 1000000 →
    region_of ≡ region whole (subfields_of f) → part_len ≡ subfields_size (filter (is_part whole kind) region_of) →
    others_len ≡ subfields_size (other_subfields key (subfields_of f)) → AreMeasured part_len others_len
unfolding part
measured f whole kind key region_of part_len others_len small at_region is_part_len is_others_len =
    let left = outside_left whole kind key (subfields_of f) in
    let parts = ap (λ xs. subfields_size (filter (is_part whole kind) xs)) at_region in
    let fewer = others_small key (subfields_of f) in
    let within = subfields_small f in
    record { within = omega arith; small = omega arith }
