-- Rows that are put into a store one behind the other, and a record that gets its ties one by one.
use Rattle.std.specs.Prelude.{◌≡◌, ℕ, zero, suc, List, [], ◌∷◌, ◌++◌, Some}
use Rattle.std.specs.List.{AllByRecursion}
use Rattle.std.specs.declared.cmp.Ordering.TheVariants.{Less}
use Rattle.marc_types.specs.Order.{key_cmp}
use Rattle.marc_types.specs.declared.key.Class.{Class}
use Rattle.marc_types.specs.declared.key.Key.{Key}
use Rattle.marc_types.specs.declared.field.Field.{Field}
use Rattle.marc_types.specs.declared.field.Leader.{Leader}
use Rattle.numbering.specs.declared.seat.Seat.{Seat}
use Rattle.catalogue_rules.specs.State.{KeptField, KeptRecord, Row, State, fields_of, new_field, rows_of}
use Rattle.catalogue_rules.specs.Store.{with_rows}
use Rattle.catalogue_tables.specs.Seam.{place_at}
use Rattle.linking_laws.specs.Partway.{swapped}
use Rattle.linked_store.specs.Linked.{Linked, record_at}

-- the key stands behind all others of its class
abbrev pub IsLastKey : Class → Key → State → Type 0
IsLastKey class key s = AllByRecursion (λ row. key_cmp row.0 key ≡ Less) (rows_of class s)

-- the state with one row more, behind the others of its class
abbrev pub with_last : Class → Row → State → State
with_last class row s = with_rows class (rows_of class s ++ row ∷ []) s

-- fields of which so many have their ties, and the others are new
abbrev pub tied_to : ℕ → List KeptField → List KeptField
tied_to n [] = []
tied_to zero (h ∷ hs) = new_field h.field ∷ tied_to zero hs
tied_to (suc n) (h ∷ hs) = h ∷ tied_to n hs

-- under the key of a seat stands a record with this leader and these fields, whatever their ties
pub record IsThere (seat : Seat) (leader : Leader) (fields : List Field) (x : Linked) : Type 0 where
  pub row : KeptRecord
  pub there : record_at seat.class seat.number x ≡ Some row
  pub leader_is : row.leader ≡ leader
  pub fields_are : fields_of row ≡ fields

-- at a seat stands this field now, and elsewhere what stood there
abbrev pub IsSwapped : Seat → KeptField → Linked → Linked → Type 0
IsSwapped seat h old new = new.state ≡ swapped (place_at old.keys seat) h old.state
