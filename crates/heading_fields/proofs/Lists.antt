-- Filters of filters.
use Rattle.std.proofs.Common.{◌≡◌, ◌<◌, ◌+◌, ℕ, Bool, not, cond, List, [], ◌∷◌, ◌++◌, take, get_or, filter, length, refl, append_assoc}
use Rattle.marc_types.specs.declared.field.Subfield.{Subfield}
use Rattle.marc_types.specs.declared.key.Key.{Key}
use Rattle.marc_types.specs.declared.form.Kind.{Kind}
use Rattle.heading_fields.specs.Parts.{before, onward, region, behind, is_part, part}
use Rattle.heading_fields.specs.Numbers.{is_naming, unnumbered, number_of}
use Rattle.heading_fields.specs.Rewriting.{front, rest, rewritten_subfields}
use Rattle.std.proofs.lemmas.List.Elements.{filter_more, filter-append}

-- one more element of a slice, seen through two tests
pub outside_more : {A : Type 0} (p q : A → Bool) (xs : List A) (i : ℕ) (d : A) → i < length xs →
    filter p (filter q (take (i + 1) xs)) ≡ filter p (filter q (take i xs)) ++ filter p (cond (q (get_or xs i d)) (get_or xs i d ∷ []) [])
outside_more p q xs i d l = rw (filter_more q xs i d l, filter-append p) refl

-- a rewritten field, as it is laid out piece by piece
pub laid_out : (whole : Bool) (kind : Kind) (key : Key) (heading subs region_of behind_of before_of onward_of o a b c out : List Subfield) →
    region_of ≡ region whole subs → behind_of ≡ behind whole subs →
    before_of ≡ before (is_part whole kind) region_of → onward_of ≡ onward (is_part whole kind) region_of →
    o ≡ [] → a ≡ o ++ unnumbered key before_of → b ≡ a ++ part whole kind heading ++ number_of key ∷ [] →
    c ≡ b ++ unnumbered key (filter (λ s. not (is_part whole kind s)) onward_of) → out ≡ c ++ unnumbered key behind_of →
    out ≡ rewritten_subfields whole kind key heading subs
unfolding rewritten_subfields front rest
laid_out whole kind key heading subs region_of behind_of before_of onward_of o a b c out er eb ef eo en ea eB ec e =
    let kept = λ (s : Subfield). not (is_naming key s) in
    let other = λ (s : Subfield). not (is_part whole kind s) in
    let split = filter-append kept (filter other (onward (is_part whole kind) (region whole subs))) (behind whole subs) in
    rw (e, ec, eB, ea, en, eo, ef, eb, er, split) (simp append_assoc)
