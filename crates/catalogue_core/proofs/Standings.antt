-- How fields are counted by how they stand is as the rules count them.
use Rattle.std.proofs.Common.{◌≡◌, ◌+◌, Bool, cond, List, [], ◌∷◌, map, refl, sym, ap, ◌∙◌}
use Rattle.std.specs.List.{count_by}
use Rattle.std.proofs.lemmas.List.Sums.{sum_by-cons}
use Rattle.marc_types.specs.declared.key.Class.{Class}
use Rattle.entry_record.specs.Authority.{Linkable}
use Rattle.catalogue_rules.specs.State.{KeptField}
use Rattle.catalogue_rules.specs.Receipt as definition
use Rattle.catalogue_rules.specs.Receipt.{is_linked, is_ambiguous, is_unlinked, standing_of}
use Rattle.catalogue_tables.specs.Stands.{stands_as, field_standing}
use Rattle.catalogue_tables.specs.declared.standing.Standing.{Standing}
use Rattle.catalogue_core.specs.Standings.{is_linked_here, is_ambiguous_here, is_unlinked_here}

pub linked_alike : (s : definition.Standing) → is_linked_here (stands_as s) ≡ is_linked s
linked_alike (definition.LinkedTo key) = refl
linked_alike (definition.AmbiguousAmong keys) = refl
linked_alike definition.WithoutLink = refl
linked_alike definition.WithoutHeading = refl

pub ambiguous_alike : (s : definition.Standing) → is_ambiguous_here (stands_as s) ≡ is_ambiguous s
ambiguous_alike (definition.LinkedTo key) = refl
ambiguous_alike (definition.AmbiguousAmong keys) = refl
ambiguous_alike definition.WithoutLink = refl
ambiguous_alike definition.WithoutHeading = refl

pub unlinked_alike : (s : definition.Standing) → is_unlinked_here (stands_as s) ≡ is_unlinked s
unlinked_alike (definition.LinkedTo key) = refl
unlinked_alike (definition.AmbiguousAmong keys) = refl
unlinked_alike definition.WithoutLink = refl
unlinked_alike definition.WithoutHeading = refl

pub count_alike : (here : Standing → Bool) (test : definition.Standing → Bool) → ((s : definition.Standing) → here (stands_as s) ≡ test s)
    → (all : List Linkable) (class : Class) (hs : List KeptField)
    → count_by here (map (field_standing all class) hs) ≡ count_by (λ h. test (standing_of all class h)) hs
count_alike here test same all class [] = refl
count_alike here test same all class (h ∷ hs) =
    sum_by-cons (λ s. cond (here s) 1 0) (field_standing all class h) (map (field_standing all class) hs)
    ∙ ap (λ b. cond b 1 0 + count_by here (map (field_standing all class) hs)) (same (standing_of all class h))
    ∙ ap (λ n. cond (test (standing_of all class h)) 1 0 + n) (count_alike here test same all class hs)
    ∙ sym (sum_by-cons (λ g. cond (test (standing_of all class g)) 1 0) h hs)
