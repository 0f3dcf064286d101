-- Rows of a state as they are handed over, one kept record after the other. The rules are this project's own.
use Rattle.std.specs.Prelude.{Bool, true, ◌&&◌, List, [], ◌∷◌, map, filter}
use Rattle.std.specs.declared.cmp.Ordering.{Ordering}
use Rattle.std.specs.Ordering.{nat_cmp, on, then_cmp, is_lt}
use Rattle.marc_types.specs.Order.{class_rank, key_cmp}
use Rattle.marc_types.specs.declared.key.Class.{Class}
use Rattle.marc_types.specs.declared.key.Class.TheVariants.{Authority, Bibliographic}
use Rattle.catalogue_rules.specs.State.{Row, State, tied}
use Rattle.catalogue_rules.specs.Receipt.{same_class}
use Rattle.kept_rows.specs.declared.row.KeptRow.{KeptRow}

-- a kept record under its key, as the rules see it
abbrev pub row_of : KeptRow → Row
row_of r = (r.key, record { leader = r.rec.leader; fields = tied r.rec.fields r.ties })

-- the row is of the class
abbrev pub is_of : Class → KeptRow → Bool
is_of class r = same_class r.class class

-- the rows of a class, in the order in which they stand
unfoldable pub rows_in : Class → List KeptRow → List Row
rows_in class rows = map row_of (filter (is_of class) rows)

-- the state that has these rows
abbrev pub state_of_rows : List KeptRow → State
state_of_rows rows = record { authorities = rows_in Authority rows; bibliographic = rows_in Bibliographic rows }

-- authorities stand first, and in a class the lesser key
unfoldable pub row_cmp : KeptRow → KeptRow → Ordering
row_cmp = then_cmp (on (λ r. class_rank r.class) nat_cmp) (on (λ r. r.key) key_cmp)

-- each row stands before the next
abbrev pub are_in_order : List KeptRow → Bool
are_in_order [] = true
are_in_order (r ∷ []) = true
are_in_order (r ∷ next ∷ rows) = is_lt (row_cmp r next) && are_in_order (next ∷ rows)
