-- The items of a part, one subfield further on.
use Rattle.std.proofs.Common.{◌≡◌, ℕ, ◌+◌, ◌<◌, List, [], ◌∷◌, ◌++◌, map, filter, length, get_or, take, ap, ◌∙◌}
use Rattle.std.proofs.lemmas.List.{take_more, map-append}
use Rattle.std.proofs.lemmas.List.Elements.{filter-append}
use Rattle.marc_types.specs.declared.field.Subfield.{Subfield}
use Rattle.marc_types.specs.declared.form.Item.{Item}
use Rattle.naco_form.specs.Form.{item_of, is_filled, items_of}

pub items_of-append : (xs ys : List Subfield) → items_of (xs ++ ys) ≡ items_of xs ++ items_of ys
unfolding items_of
items_of-append xs ys =
    ap (filter (λ (item : Item). is_filled item.text)) (map-append item_of xs ys) ∙ filter-append (λ (item : Item). is_filled item.text) (map item_of xs) (map item_of ys)

pub items_more : (xs : List Subfield) (i : ℕ) (sub : Subfield) → i < length xs → items_of (take (i + 1) xs) ≡ items_of (take i xs) ++ items_of (get_or xs i sub ∷ [])
items_more xs i sub h = ap items_of (take_more xs i sub h) ∙ items_of-append (take i xs) (get_or xs i sub ∷ [])
