-- A row of the index: the numbers of its forms, and which lists it belongs to.
use Rattle.std.specs.Prelude.{ℕ, Bool, true, ◌&&◌, List, [], ◌∷◌}
use Rattle.form_index.specs.Order.{has}
use Rattle.form_index.specs.declared.among.Among.{Among}
use Rattle.form_index.specs.declared.among.Among.TheVariants.{All, Bare}
use Rattle.form_index.specs.declared.among.By.{By}
use Rattle.form_index.specs.declared.among.By.TheVariants.{Established, SeeFrom}

-- the numbers of an authority's forms, each see-from form once, and whether its heading is bare
pub record Forms : Type 0 where
  pub established : ℕ
  pub see_from : List ℕ
  pub bare : Bool

-- whether a row counts among these authorities
abbrev pub is_among : Among → Forms → Bool
is_among All row = true
is_among Bare row = row.bare

-- the forms that a row has as its own heading, or as a see-from heading
abbrev pub forms_by : By → Forms → List ℕ
forms_by Established row = row.established ∷ []
forms_by SeeFrom row = row.see_from

-- whether a row belongs to a form's list
abbrev pub belongs : Among → By → ℕ → Forms → Bool
belongs among by form row = is_among among row && has form (forms_by by row)
