-- Numbers are found subfield by subfield.
use Rattle.std.proofs.Common.{◌≡◌, ◌∙◌, ℕ, ◌+◌, ◌<◌, List, [], ◌∷◌, ◌++◌, length, take, get_or, Option, Some, None, refl, sym, ap, append_assoc}
use Rattle.std.specs.List.{filter_map, cons_option}
use Rattle.std.proofs.lemmas.List.{take_more}
use Rattle.marc_types.specs.declared.field.Subfield.{Subfield}
use Rattle.match_report.specs.declared.number.Number.{Number}

one_more : (o : Option Number) (xs ys : List Number) → cons_option o (xs ++ ys) ≡ cons_option o xs ++ ys
one_more None xs ys = refl
one_more (Some n) xs ys = refl

found_both : (f : Subfield → Option Number) (xs ys : List Subfield) → filter_map f (xs ++ ys) ≡ filter_map f xs ++ filter_map f ys
found_both f [] ys = refl
found_both f (x ∷ xs) ys = ap (cons_option (f x)) (found_both f xs ys) ∙ one_more (f x) (filter_map f xs) (filter_map f ys)

-- the number of the next subfield comes behind those of the subfields before it
pub found_more : (f : Subfield → Option Number) (xs : List Subfield) (i : ℕ) (x : Subfield) (start before now : List Number) → i < length xs → x ≡ get_or xs i x →
    before ≡ start ++ filter_map f (take i xs) → now ≡ before ++ cons_option (f x) [] → now ≡ start ++ filter_map f (take (i + 1) xs)
found_more f xs i x start before now within is so_far added =
    added ∙ ap (λ l. l ++ cons_option (f x) []) so_far ∙ append_assoc start (filter_map f (take i xs)) (cons_option (f x) [])
    ∙ ap (λ l. start ++ l) (sym (found_both f (take i xs) (x ∷ [])))
    ∙ ap (λ l. start ++ filter_map f l) (sym (take_more xs i x within ∙ ap (λ y. take i xs ++ y ∷ []) (sym is)))
