-- A record that is admitted has room for every heading, and keeps it where its fields' reach doesn't grow.
use Rattle.std.proofs.Common.{◌≡◌, suc, ◌+◌, ◌*◌, ◌≤◌, Bool, true, false, ◌||◌, cond, List, [], ◌∷◌, map, length, Option, Some, None, is_some, refl, ap, arith, if◌then◌else◌}
use Rattle.std.specs.Prelude.{nat_lt}
use Rattle.std.specs.List.{list_any, sum_by, count_by}
use Rattle.std.proofs.lemmas.Bool.{ltb-false}
use Rattle.std.proofs.lemmas.List.Sums.{sum_by-cons}
use Rattle.std.proofs.lemmas.List.Elements.{All-from_recursion, recursion_from_All}
use Rattle.marc_types.specs.declared.field.Field.{Field}
use Rattle.marc_types.specs.declared.field.Field.TheVariants.{Control, Variable}
use Rattle.marc_types.specs.declared.field.Leader.{Leader}
use Rattle.marc_types.specs.declared.key.Class.{Class}
use Rattle.marc_types.specs.declared.key.Key.{Key}
use Rattle.marc_types.specs.declared.form.Kind.{Kind}
use Rattle.marc_types.specs.Valid.{subfields_size}
use Rattle.marc_types.specs.Fields.{subfields_of}
use Rattle.heading_fields.specs.Tables.{kind_of}
use Rattle.iso2709_record.specs.Written.{field_length, fields_length, record_length}
use Rattle.iso2709_record.proofs.Lengths.{field_length-variable}
use Rattle.entry_record.specs.Authority.{heading_kind, is_heading_field}
use Rattle.entry_record.specs.Admission.{grown_length, has_no_room}
use Rattle.catalogue_rules.specs.State.{KeptField, Row, new_field, new_record, each_in_row}
use Rattle.catalogue_rules.specs.Valid.{reach, HasRoom}
use Rattle.catalogue_rules.proofs.Elements.{Each}
use Rattle.catalogue_rules.proofs.Reach.{reach_of, heading_of_kind}
use Rattle.catalogue_rules.proofs.Sizes.{part_and_outside}

-- ---- a record whose fields change

total_within : (class : Class) (change : KeptField → KeptField) (hs : List KeptField) → Each (λ h. reach class (change h) ≤ reach class h) hs →
    sum_by (reach class) (map change hs) ≤ sum_by (reach class) hs
total_within class change [] a = omega arith
total_within class change (h ∷ hs) a =
    let now = sum_by-cons (reach class) (change h) (map change hs) in
    let before = sum_by-cons (reach class) h hs in
    let rest = total_within class change hs a.1 in
    let own = a.0 in
    omega arith

fields_within : (class : Class) (change : KeptField → KeptField) (hs : List KeptField) → Each (λ h. reach class (change h) ≤ reach class h) hs →
    Each (λ h. reach class h ≤ 9999) hs → Each (λ h. reach class h ≤ 9999) (map change hs)
fields_within class change [] a b = tt
fields_within class change (h ∷ hs) a b = (let own = a.0 in let was = b.0 in omega arith, fields_within class change hs a.1 b.1)

changed_length : (change : KeptField → KeptField) (hs : List KeptField) → length (map change hs) ≡ length hs
changed_length change [] = refl
changed_length change (h ∷ hs) = ap suc (changed_length change hs)

-- the record keeps its room
pub room_kept : (class : Class) (change : KeptField → KeptField) (row : Row) → Each (λ h. reach class (change h) ≤ reach class h) row.1.fields → HasRoom class row →
    HasRoom class (each_in_row change row)
room_kept class change row a room = record {
  record_fits = let total = total_within class change row.1.fields a in let same = changed_length change row.1.fields in let was = room.record_fits in omega arith;
  fields_fit = All-from_recursion (λ h. reach class h ≤ 9999) (map change row.1.fields)
      (fields_within class change row.1.fields a (recursion_from_All (λ h. reach class h ≤ 9999) row.1.fields room.fields_fit));
}

-- ---- a record that comes in

-- a heading field isn't a control field
pub kind_of_variable : (class : Class) (f : Field) (kind : Kind) → kind_of class f ≡ Some kind → field_length f ≡ subfields_size (subfields_of f) + 3
kind_of_variable class (Control tag text) kind e = cc
kind_of_variable class (Variable tag ind1 ind2 subs) kind e = field_length-variable tag ind1 ind2 subs

new_heading_reach : (class : Class) (f : Field) (kind : Kind) → heading_kind class f ≡ Some kind → reach class (new_field f) ≤ field_length f + 600
new_heading_reach class f kind e =
    let own = heading_of_kind class f kind e in
    let is = reach_of class (new_field f) kind e in
    let written = kind_of_variable class f kind own.kind_is in
    let parts = part_and_outside false kind (subfields_of f) in
    omega arith

-- the reach of a field that is no heading field
pub other_reach : (class : Class) (h : KeptField) → heading_kind class h.field ≡ None → reach class h ≡ field_length h.field
unfolding reach
other_reach class h e = rw e refl

grown_at : (class : Class) (f : Field) (o : Option Kind) → heading_kind class f ≡ o → reach class (new_field f) ≤ (if is_some o then field_length f + 600 else field_length f)
grown_at class f None e = let is = other_reach class (new_field f) e in omega arith
grown_at class f (Some kind) e = new_heading_reach class f kind e

-- the reach of a new field is what it may grow to
new_reach : (class : Class) (f : Field) → reach class (new_field f) ≤ grown_length class f
new_reach class f = grown_at class f (heading_kind class f) refl

grown_sum : (class : Class) (f : Field) (b : Bool) → is_heading_field class f ≡ b → grown_length class f ≡ field_length f + 600 * cond b 1 0
grown_sum class f true e = rw e (omega arith)
grown_sum class f false e = rw e (omega arith)

new_total : (class : Class) (fields : List Field) → sum_by (reach class) (map new_field fields) ≤ fields_length fields + 600 * count_by (is_heading_field class) fields
new_total class [] = omega arith
new_total class (f ∷ fs) =
    let now = sum_by-cons (reach class) (new_field f) (map new_field fs) in
    let count = sum_by-cons (λ (x : Field). cond (is_heading_field class x) 1 0) f fs in
    let own = new_reach class f in
    let grown = grown_sum class f (is_heading_field class f) refl in
    let rest = new_total class fs in
    omega arith

or_false : (a b : Bool) → (a || b) ≡ false → (a ≡ false) × (b ≡ false)
or_false true b e = cc
or_false false b e = (refl, e)

new_fields_fit : (class : Class) (fields : List Field) → list_any (λ f. nat_lt 9999 (grown_length class f)) fields ≡ false → Each (λ h. reach class h ≤ 9999) (map new_field fields)
new_fields_fit class [] e = tt
new_fields_fit class (f ∷ fs) e =
    let both = or_false (nat_lt 9999 (grown_length class f)) (list_any (λ x. nat_lt 9999 (grown_length class x)) fs) e in
    let own = new_reach class f in
    let grown = ltb-false 9999 (grown_length class f) both.0 in
    (omega arith, new_fields_fit class fs both.1)

new_length : (fields : List Field) → length (map new_field fields) ≡ length fields
new_length [] = refl
new_length (f ∷ fs) = ap suc (new_length fs)

-- a record that isn't refused for want of room has room
pub room_admitted : (class : Class) (key : Key) (l : Leader) (fields : List Field) → has_no_room class fields ≡ false → HasRoom class (key, new_record l fields)
unfolding has_no_room
room_admitted class key l fields e =
    let both = or_false (nat_lt 99999 (record_length fields + 600 * count_by (is_heading_field class) fields)) (list_any (λ f. nat_lt 9999 (grown_length class f)) fields) e in
    let record_ok = ltb-false 99999 (record_length fields + 600 * count_by (is_heading_field class) fields) both.0 in
    let total = new_total class fields in
    let same = new_length fields in
    record {
      record_fits = omega arith;
      fields_fit = All-from_recursion (λ h. reach class h ≤ 9999) (map new_field fields) (new_fields_fit class fields both.1);
    }
