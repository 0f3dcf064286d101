-- The parts of a heading. The base part is the heading itself; the full part has its subdivisions too.
use Rattle.std.specs.Prelude.{ℕ, ◌+◌, Bool, true, false, ◌&&◌, ◌||◌, not, List, [], ◌∷◌, ◌++◌, filter, length, if◌then◌else◌}
use Rattle.std.specs.List.{list_any}
use Rattle.marc_types.specs.declared.field.Subfield.{Subfield}
use Rattle.marc_types.specs.declared.field.Field.{Field}
use Rattle.marc_types.specs.declared.field.Field.TheVariants.{Control, Variable}
use Rattle.marc_types.specs.declared.key.Class.{Class}
use Rattle.marc_types.specs.declared.form.Kind.{Kind}
use Rattle.marc_types.specs.Fields.{tag_of, subfields_of}
use Rattle.marc_types.specs.Valid.{subfields_size}
use Rattle.heading_fields.specs.Tables.{is_controlled, is_subdivision, is_subdividable}

-- two indicators, the subfields, and the terminator; a control field has no indicators
abbrev pub written_length : Field → ℕ
written_length (Control tag text) = length text + 1
written_length (Variable tag ind1 ind2 subs) = 3 + subfields_size subs

-- what stands before the first element that passes a test
abbrev pub before : {A : Type 0} → (A → Bool) → List A → List A
before test [] = []
before test (x ∷ xs) = if test x then [] else x ∷ before test xs

-- the first element that passes, and all that stands behind it
abbrev pub onward : {A : Type 0} → (A → Bool) → List A → List A
onward test [] = []
onward test (x ∷ xs) = if test x then x ∷ xs else onward test xs

-- a subfield that begins a subdivision
abbrev pub is_dividing : Subfield → Bool
is_dividing s = is_subdivision s.code

-- whether a heading has a subdivision; one that has none is bare
abbrev pub is_subdivided : List Subfield → Bool
is_subdivided subs = list_any is_dividing subs

-- where a part may stand: the base part before the first subdivision, the full part anywhere
abbrev pub region : Bool → List Subfield → List Subfield
region false subs = before is_dividing subs
region true subs = subs

-- what stands behind it
abbrev pub behind : Bool → List Subfield → List Subfield
behind false subs = onward is_dividing subs
behind true subs = []

-- a subfield of a part: one with a controlled code, in the full part also one of a subdivision
unfoldable pub is_part : Bool → Kind → Subfield → Bool
is_part whole kind s = is_controlled kind s.code || (whole && is_subdivision s.code)

-- the base part (false) or the full part (true) of a heading's subfields, in their order
unfoldable pub part : Bool → Kind → List Subfield → List Subfield
part whole kind subs = filter (is_part whole kind) (region whole subs)

-- the subfields outside that part, in their order
unfoldable pub outside : Bool → Kind → List Subfield → List Subfield
outside whole kind subs = filter (λ s. not (is_part whole kind s)) (region whole subs) ++ behind whole subs

-- whole or base is the part of a field; one that takes no subdivisions has its base part in either case
abbrev pub reaches : Bool → Class → Field → Bool
reaches whole class field = whole && is_subdividable class (tag_of field)

-- the base part of a field
abbrev pub base_part : Kind → Field → List Subfield
base_part kind field = part false kind (subfields_of field)

-- the full part of a field: its base part where it takes no subdivisions
abbrev pub full_part : Kind → Class → Field → List Subfield
full_part kind class field = part (is_subdividable class (tag_of field)) kind (subfields_of field)

-- the part of a field that is linked whole (true) or by its base (false)
abbrev pub field_part : Bool → Kind → Class → Field → List Subfield
field_part whole kind class field = part (reaches whole class field) kind (subfields_of field)

-- the subfields of a field outside that part
abbrev pub field_outside : Bool → Kind → Class → Field → List Subfield
field_outside whole kind class field = outside (reaches whole class field) kind (subfields_of field)
