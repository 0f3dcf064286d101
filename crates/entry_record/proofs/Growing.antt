-- The room of a record, one field further on.
use Rattle.std.proofs.Common.{◌≡◌, ℕ, suc, ◌+◌, ◌*◌, ◌<◌, ◌≤◌, Bool, true, false, ◌||◌, nat_lt, List, [], ◌∷◌, find, map, length, get_or, drop, Option, Some, None, is_some, cond, refl, sym, ap, ◌∙◌, add-one, arith}
use Rattle.std.specs.Prelude.{if◌then◌else◌}
use Rattle.std.specs.Option.{option_map}
use Rattle.std.specs.List.{count_by, list_any}
use Rattle.std.proofs.Math.Seq.{drop-cons}
use Rattle.std.proofs.lemmas.Bool.Decides.{nat_tests}
use Rattle.std.proofs.lemmas.List.{get_or-map, drop_all}
use Rattle.std.proofs.lemmas.List.Sums.{sum_by-cons}
use Rattle.marc_types.specs.Valid.{field_size, fields_size}
use Rattle.marc_types.specs.declared.field.Field.{Field}
use Rattle.marc_types.specs.declared.key.Class.{Class}
use Rattle.marc_types.specs.declared.form.Kind.{Kind}
use Rattle.iso2709_record.specs.Written.{record_length, fields_length, field_length}
use Rattle.entry_record.specs.Authority.{is_heading, heading_of, heading_kind, is_heading_field}
use Rattle.entry_record.specs.Admission.{grown_length, has_no_room}
use Rattle.entry_record.specs.Headings.{forms_of_kind, filled_forms, heading_forms}
use Rattle.entry_record.specs.declared.headings.HeadingForms.{HeadingForms}

small_of : (b : Bool) (g f : Field) (o : Option Field) (n : ℕ) → (o ≡ Some f → field_size f ≤ n) → cond b (Some g) o ≡ Some f → field_size f ≤ field_size g + n
small_of true g f o n h e = let same : g ≡ f = cc in let sizes : field_size g ≡ field_size f = ap field_size same in omega arith
small_of false g f o n h e = let rest : field_size f ≤ n = h e in omega arith

-- the heading is one of the fields
pub heading_small : (fields : List Field) (f : Field) → heading_of fields ≡ Some f → field_size f ≤ fields_size fields
heading_small [] f e = cc
heading_small (g ∷ gs) f e = small_of (is_heading g) g f (find is_heading gs) (fields_size gs) (heading_small gs f) e

mapped : (g : Kind → HeadingForms) (o : Option Kind) → is_some (option_map g o) ≡ is_some o
mapped g None = refl
mapped g (Some kind) = refl

-- a heading field has forms, and no other field has
pub has_forms : (class : Class) (f : Field) → is_some (heading_forms class f) ≡ is_heading_field class f
unfolding filled_forms heading_kind
has_forms class f = mapped (forms_of_kind class f) _

pub forms_at : (class : Class) (fields : List Field) (i : ℕ) (d : Field) (e : Option HeadingForms) → i < length fields →
    is_some (get_or (map (heading_forms class) fields) i e) ≡ is_heading_field class (get_or fields i d)
forms_at class fields i d e h = ap is_some (get_or-map (heading_forms class) fields i d e h) ∙ has_forms class (get_or fields i d)

-- the directory entries and the fields, each heading grown
abbrev pub grown_size : Class → List Field → ℕ
grown_size class [] = 0
grown_size class (f ∷ fs) = 12 + grown_length class f + grown_size class fs

grown_by : (b : Bool) (n : ℕ) → (if b then n + 600 else n) ≡ n + 600 * cond b 1 0
grown_by true n = omega arith
grown_by false n = omega arith

-- each heading counts as often as it grows
pub grown_count : (class : Class) (fields : List Field) →
    fields_length fields + 12 * length fields + 600 * count_by (is_heading_field class) fields ≡ grown_size class fields
grown_count class [] = omega arith
grown_count class (f ∷ fs) =
    omega (arith, sum_by-cons (λ g. cond (is_heading_field class g) 1 0) f fs, grown_by (is_heading_field class f) (field_length f), grown_count class fs)

pub grown_record : (class : Class) (fields : List Field) →
    record_length fields + 600 * count_by (is_heading_field class) fields ≡ 26 + grown_size class fields
grown_record class fields = omega (arith, grown_count class fields)

-- what is known of a record's room before the field at a place
pub record IsRoomTo (class : Class) (fields : List Field) (i len : ℕ) : Type 0 where
  pub counted : len + grown_size class (drop i fields) ≡ 26 + grown_size class fields
  pub found : list_any (λ f. nat_lt 9999 (grown_length class f)) (drop i fields) ≡ list_any (λ f. nat_lt 9999 (grown_length class f)) fields
  pub small : fields_size (drop i fields) ≤ 1000000
  pub below : len ≤ 26 + 10011 * i

pub grown_here : (class : Class) (fields : List Field) (headings : List (Option HeadingForms)) (i : ℕ) (f : Field) (e : Option HeadingForms) (n : ℕ) →
    i < length fields → headings ≡ map (heading_forms class) fields → f ≡ get_or fields i f → e ≡ get_or headings i e →
    n ≡ (if is_some e then field_length f + 600 else field_length f) → n ≡ grown_length class f
grown_here class fields headings i f e n h forms at_field at_forms is =
    let same : is_some e ≡ is_heading_field class f =
    ap is_some (at_forms ∙ ap (λ l. get_or l i e) forms) ∙ forms_at class fields i f e h ∙ ap (is_heading_field class) (sym at_field) in
    is ∙ ap (λ b. if b then field_length f + 600 else field_length f) same

split_at : (fields : List Field) (i : ℕ) (f : Field) → i < length fields → f ≡ get_or fields i f → drop i fields ≡ f ∷ drop (i + 1) fields
split_at fields i f h e = rw add-one (drop-cons fields i f h ∙ ap (λ g. g ∷ drop (suc i) fields) (sym e))

below_long : (n : ℕ) → n ≤ 9999 → nat_lt 9999 n ≡ false
below_long n h = grind (arith, nat_tests)

above_long : (n : ℕ) → 9999 < n → nat_lt 9999 n ≡ true
above_long n h = grind (arith, nat_tests)

or_true : (b : Bool) → (b || true) ≡ true
or_true true = refl
or_true false = refl

or_false : (b : Bool) → (b || false) ≡ b
or_false true = refl
or_false false = refl

-- a field that fits is taken in
pub room_more : (class : Class) (fields : List Field) (i : ℕ) (f : Field) (len n : ℕ) → i < length fields → f ≡ get_or fields i f →
    n ≡ grown_length class f → n ≤ 9999 → IsRoomTo class fields i len → IsRoomTo class fields (i + 1) (len + (12 + n))
room_more class fields i f len n h at_field is fit known =
    let next : drop i fields ≡ f ∷ drop (i + 1) fields = split_at fields i f h at_field in
    let sizes : grown_size class (drop i fields) ≡ 12 + grown_length class f + grown_size class (drop (i + 1) fields) = ap (grown_size class) next in
    let bytes : fields_size (drop i fields) ≡ field_size f + fields_size (drop (i + 1) fields) = ap fields_size next in
    let fits : nat_lt 9999 (grown_length class f) ≡ false = below_long (grown_length class f) (omega arith) in
    record {
      counted = omega (arith, known.counted);
      found = sym (ap (list_any (λ g. nat_lt 9999 (grown_length class g))) next ∙ ap (λ b. b || list_any (λ g. nat_lt 9999 (grown_length class g)) (drop (i + 1) fields)) fits) ∙ known.found;
      small = omega (arith, known.small);
      below = omega (arith, known.below);
    }

-- a field that doesn't fit decides
pub room_found : (class : Class) (fields : List Field) (i : ℕ) (f : Field) (len n : ℕ) → i < length fields → f ≡ get_or fields i f →
    n ≡ grown_length class f → 9999 < n → IsRoomTo class fields i len → true ≡ has_no_room class fields
unfolding has_no_room
room_found class fields i f len n h at_field is long known =
    let next : drop i fields ≡ f ∷ drop (i + 1) fields = split_at fields i f h at_field in
    let long' : nat_lt 9999 (grown_length class f) ≡ true = above_long (grown_length class f) (omega arith) in
    let found : list_any (λ g. nat_lt 9999 (grown_length class g)) (drop i fields) ≡ true =
    ap (list_any (λ g. nat_lt 9999 (grown_length class g))) next ∙ ap (λ b. b || list_any (λ g. nat_lt 9999 (grown_length class g)) (drop (i + 1) fields)) long' in
    sym (ap (λ b. nat_lt 99999 (record_length fields + 600 * count_by (is_heading_field class) fields) || b) (sym known.found ∙ found)
    ∙ or_true (nat_lt 99999 (record_length fields + 600 * count_by (is_heading_field class) fields)))

-- where each field fits, the length of the whole decides
pub room_end : (class : Class) (fields : List Field) (i len : ℕ) → length fields ≤ i → IsRoomTo class fields i len → nat_lt 99999 len ≡ has_no_room class fields
unfolding has_no_room
room_end class fields i len h known =
    let none : drop i fields ≡ [] = drop_all i fields h in
    let sizes : grown_size class (drop i fields) ≡ 0 = ap (grown_size class) none in
    let whole : len ≡ record_length fields + 600 * count_by (is_heading_field class) fields = omega (arith, known.counted, grown_record class fields) in
    let found : list_any (λ g. nat_lt 9999 (grown_length class g)) fields ≡ false = sym known.found ∙ ap (list_any (λ g. nat_lt 9999 (grown_length class g))) none in
    ap (nat_lt 99999) whole ∙ sym (ap (λ b. nat_lt 99999 (record_length fields + 600 * count_by (is_heading_field class) fields) || b) found ∙ or_false _)
