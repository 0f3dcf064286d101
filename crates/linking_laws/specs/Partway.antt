-- A change of many fields, place by place and in any order, and how far it has come. The rules are this project's own.
use Rattle.std.specs.Prelude.{◌≡◌, ◌≤◌, ℕ, zero, suc, ◌==◌, Bool, false, ◌&&◌, ◌⊎◌, List, [], ◌∷◌, ◌++◌, length, map, Some, if◌then◌else◌}
use Rattle.std.specs.List.{list_any}
use Rattle.std.specs.Option.{option_map}
use Rattle.marc_types.specs.Fields.{tag_of}
use Rattle.marc_types.specs.declared.field.Leader.{Leader}
use Rattle.marc_types.specs.declared.key.Class.{Class}
use Rattle.marc_types.specs.declared.key.Class.TheVariants.{Authority}
use Rattle.marc_types.specs.declared.key.Key.{Key}
use Rattle.marc_types.specs.declared.key.Place.{Place}
use Rattle.marc_types.specs.Order.{same_key}
use Rattle.catalogue_rules.specs.State.{KeptField, KeptRecord, Row, State, rows_of}
use Rattle.catalogue_rules.specs.Receipt.{kept_under, same_class}
use Rattle.catalogue_rules.specs.Valid.{IsAscending}
use Rattle.catalogue_rules.specs.Store.{field_under, with_field_under, with_rows}

-- whether two places are the same
abbrev pub same_place : Place → Place → Bool
same_place p q = same_class p.class q.class && same_key p.key q.key && (p.field == q.field)

-- the place is one of these
abbrev pub is_place_among : List Place → Place → Bool
is_place_among places q = list_any (λ p. same_place p q) places

-- the state with another field and tie at one place
abbrev pub swapped : Place → KeptField → State → State
swapped p h s = with_rows p.class (with_field_under p.key p.field h (rows_of p.class s)) s

-- a row without the content of its fields: its key, its leader, and how many fields it has
abbrev pub row_outline : Row → Key × (Leader × ℕ)
row_outline row = (row.0, (row.1.leader, length row.1.fields))

-- of each row of a class its key, its leader and the number of its fields
abbrev pub outlines : Class → State → List (Key × (Leader × ℕ))
outlines class s = map row_outline (rows_of class s)

-- the change, at the places that are done
abbrev pub changed_among : List Place → (Class → KeptField → KeptField) → Place → KeptField → KeptField
changed_among done change q h = if is_place_among done q then change q.class h else h

-- the rows of either class stand in key order
pub record AreOrdered (s : State) : Type 0 where
  pub authorities : IsAscending s.authorities
  pub bibliographic : IsAscending s.bibliographic

-- of the state before, the fields at the places that are done have changed, and nothing else
pub record IsPartway (change : Class → KeptField → KeptField) (done : List Place) (before now : State) : Type 0 where
  pub outlines_stay : (class : Class) → outlines class now ≡ outlines class before
  pub fields_are : (q : Place) → field_under q now ≡ option_map (changed_among done change q) (field_under q before)

-- a place that isn't done, and the field that stands there
pub record IsNext (done : List Place) (p : Place) (h : KeptField) (now : State) : Type 0 where
  pub is_new : is_place_among done p ≡ false
  pub stands : field_under p now ≡ Some h

-- whatever stands at another place, the change leaves it
pub record IsWhole (change : Class → KeptField → KeptField) (done : List Place) (before : State) : Type 0 where
  pub others_stay : (q : Place) (h : KeptField) → is_place_among done q ≡ false → field_under q before ≡ Some h → change q.class h ≡ h

-- a place of the record of a class under a key
abbrev pub is_place_of : Class → Key → Place → Bool
is_place_of class key q = same_class class q.class && same_key key q.key

-- the places of the first fields of the record of a class under a key, in turn
abbrev pub own_places : Class → Key → ℕ → List Place
own_places class key zero = []
own_places class key (suc n) = own_places class key n ++ (record { class = class; key = key; field = n }) ∷ []

-- the record under the key, if there is one, has at most so many fields
abbrev pub HasAtMost : Class → Key → ℕ → State → Type 0
HasAtMost class key n s = (r : KeptRecord) → kept_under class key s ≡ Some r → length r.fields ≤ n

-- of the places that hold a field exactly the record's own are done
pub record AreOwnDone (class : Class) (key : Key) (done : List Place) (before : State) : Type 0 where
  pub done_are : (q : Place) (h : KeptField) → field_under q before ≡ Some h →
      is_place_among done q ≡ is_place_of class key q

-- a field that stays, or one that is a 5XX before and after
abbrev pub IsSteady : KeptField → KeptField → Type 0
IsSteady g h = (g.field ≡ h.field) ⊎ (((tag_of g.field).a ≡ 53) × ((tag_of h.field).a ≡ 53))

-- at each place of an authority record the change is of a 5XX, or of the tie alone
pub record IsSteadyChange (change : Class → KeptField → KeptField) (before : State) : Type 0 where
  pub steady : (q : Place) (h : KeptField) → q.class ≡ Authority → field_under q before ≡ Some h → IsSteady h (change Authority h)
