-- Worked cases of the choice.
use Rattle.std.proofs.Common.{◌≡◌, true, false, [], ◌∷◌, refl, ap, ap₂}
use Rattle.std.specs.Prelude.{codes, filter, unwrap_or}
use Rattle.std.specs.Option.{option_or}
use Rattle.marc_types.specs.Order.{form_cmp, item_cmp}
use Rattle.marc_types.specs.declared.key.Class.TheVariants.{Bibliographic}
use Rattle.marc_types.specs.declared.form.Kind.TheVariants.{Personal, Topical}
use Rattle.heading_fields.specs.Tables.{is_subdividable, is_subdivision}
use Rattle.heading_fields.specs.Numbers.{is_naming, key_text}
use Rattle.entry_record.specs.Authority.{is_bare, base_form, full_form}
use Rattle.catalogue_rules.specs.State.{new_field}
use Rattle.catalogue_rules.specs.Choice.{Link, Ambiguous, Unlinked, by_number, by_form, choice}
use Rattle.catalogue_rules.specs.Worked.{item, twain, doe, women_history, women, numbered, clemens, shouted_doe, french_women, name_form, topic_form}

pub chosen_by_number : choice (doe (codes "n3") ∷ twain ∷ []) Bibliographic Personal (new_field numbered) ≡ Link twain false
unfolding choice by_number is_naming key_text is_subdividable is_subdivision
chosen_by_number = refl

pub chosen_by_see_from : base_form Personal clemens ≡ name_form (codes "clemens, samuel")
    → choice (doe (codes "n3") ∷ twain ∷ []) Bibliographic Personal (new_field clemens) ≡ Link twain false
unfolding choice by_number by_form is_naming key_text is_subdividable is_subdivision form_cmp item_cmp
chosen_by_see_from form_is =
    ap (λ form. unwrap_or (by_form (filter is_bare (doe (codes "n3") ∷ twain ∷ [])) false form) Unlinked) form_is

pub chosen_of_two : base_form Personal shouted_doe ≡ name_form (codes "doe, jane")
    → choice (doe (codes "n3") ∷ twain ∷ doe (codes "n9") ∷ []) Bibliographic Personal (new_field shouted_doe)
    ≡ Ambiguous ((doe (codes "n3")).key ∷ (doe (codes "n9")).key ∷ [])
unfolding choice by_number by_form is_naming key_text is_subdividable is_subdivision form_cmp item_cmp
chosen_of_two form_is =
    ap (λ form. unwrap_or (by_form (filter is_bare (doe (codes "n3") ∷ twain ∷ doe (codes "n9") ∷ [])) false form) Unlinked) form_is

pub chosen_by_base : full_form Topical Bibliographic french_women ≡ topic_form (item 97 (codes "women") ∷ item 122 (codes "france") ∷ [])
    → base_form Topical french_women ≡ topic_form (item 97 (codes "women") ∷ [])
    → choice (women_history ∷ women ∷ []) Bibliographic Topical (new_field french_women) ≡ Link women false
unfolding choice by_number by_form is_naming key_text is_subdividable is_subdivision form_cmp item_cmp
chosen_by_base full_is base_is =
    ap₂ (λ full base. unwrap_or (option_or (by_form (women_history ∷ women ∷ []) true full) (by_form (filter is_bare (women_history ∷ women ∷ [])) false base)) Unlinked)
    full_is base_is
