-- The items of a part, one subfield further on.
use Rattle.std.proofs.Common.{◌≡◌, ℕ, ◌+◌, ◌<◌, Bool, false, List, [], ◌∷◌, ◌++◌, filter, length, get_or, take, sym, ap, ◌∙◌, append_assoc}
use Rattle.std.proofs.lemmas.List.{take_more, append-nil}
use Rattle.std.proofs.lemmas.List.Elements.{filter-append}
use Rattle.marc_types.specs.declared.field.Subfield.{Subfield}
use Rattle.marc_types.specs.declared.form.Item.{Item}
use Rattle.naco_form.specs.Form.{items_of}
use Rattle.naco_form.proofs.FormLemmas.{items_of-append}

part_items_more : (belongs : Subfield → Bool) (xs : List Subfield) (i : ℕ) (sub : Subfield) → i < length xs → items_of (filter belongs (take (i + 1) xs)) ≡ items_of (filter belongs (take i xs)) ++ items_of (filter belongs (get_or xs i sub ∷ []))
part_items_more belongs xs i sub h =
    ap (λ l. items_of (filter belongs l)) (take_more xs i sub h)
    ∙ ap items_of (filter-append belongs (take i xs) (get_or xs i sub ∷ []))
    ∙ items_of-append (filter belongs (take i xs)) (filter belongs (get_or xs i sub ∷ []))

-- the same behind what stood before
pub part_items_step : (belongs : Subfield → Bool) (xs : List Subfield) (i : ℕ) (old mid new : List Item) (sub : Subfield) → i < length xs → sub ≡ get_or xs i sub → mid ≡ old ++ items_of (filter belongs (take i xs)) → new ≡ mid ++ items_of (filter belongs (sub ∷ [])) → new ≡ old ++ items_of (filter belongs (take (i + 1) xs))
part_items_step belongs xs i old mid new sub lt is before after =
    let front = items_of (filter belongs (take i xs)) in
    after ∙ ap (λ l. l ++ items_of (filter belongs (sub ∷ []))) before
    ∙ append_assoc old front (items_of (filter belongs (sub ∷ [])))
    ∙ ap (λ s. old ++ (front ++ items_of (filter belongs (s ∷ [])))) is
    ∙ ap (λ l. old ++ l) (sym (part_items_more belongs xs i sub lt))

-- a subfield outside the part has no item
pub not_of_part : (belongs : Subfield → Bool) (sub : Subfield) (old : List Item) → false ≡ belongs sub → old ≡ old ++ items_of (filter belongs (sub ∷ []))
unfolding items_of
not_of_part belongs sub old h = rw (sym h) (sym (append-nil old))
