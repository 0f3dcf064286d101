-- The laws of rewriting and unlinking, on fields.
use Rattle.std.proofs.Common.{◌≡◌, ◌≢◌, ◌+◌, ◌≤◌, ℕ, Bool, true, false, not, ◌&&◌, List, [], length, refl, arith}
use Rattle.std.specs.List.{list_any, list_all}
use Rattle.std.proofs.lemmas.Bool.{and_parts}
use Rattle.marc_types.specs.declared.field.Tag.{Tag}
use Rattle.marc_types.specs.declared.field.Subfield.{Subfield}
use Rattle.marc_types.specs.declared.field.Field.{Field}
use Rattle.marc_types.specs.declared.field.Field.TheVariants.{Control, Variable}
use Rattle.marc_types.specs.declared.key.Class.{Class}
use Rattle.marc_types.specs.declared.key.Key.{Key}
use Rattle.marc_types.specs.declared.form.Kind.{Kind}
use Rattle.marc_types.specs.declared.form.Kind.TheVariants.{Personal, Corporate, Meeting, Title, Chronological, Topical, Geographic, Genre}
use Rattle.marc_types.specs.Valid.{is_tag, is_control_tag, is_printable, is_text, is_subfield, is_field, subfields_size, field_size}
use Rattle.heading_fields.specs.Tables.{kind_of}
use Rattle.heading_fields.specs.Parts.{written_length, part, base_part, field_part, field_outside, reaches}
use Rattle.marc_types.specs.Fields.{tag_of, subfields_of}
use Rattle.heading_fields.specs.Numbers.{is_naming, unnumbered, is_blankless}
use Rattle.heading_fields.specs.Rewriting.{indicator_of, rewritten_indicator, rewriting, rewritten_subfields, unlinking}
use Rattle.heading_fields.proofs.Passing.{full_from, all_from, each_filter}
use Rattle.heading_fields.proofs.Codes.{number_is_subfield}
use Rattle.heading_fields.proofs.Sublaws.{part-rewritten, base-rewritten, rewritten_subfields_twice, outside-rewritten, size-rewritten, size_outside, size_filter, full_rewritten, none_named, part_is_some, part-unnumbered}

indicator_of_twice : (heading : Field) (ind1 : ℕ) → indicator_of heading (indicator_of heading ind1) ≡ indicator_of heading ind1
indicator_of_twice (Control tag text) ind1 = refl
indicator_of_twice (Variable tag own ind2 subs) ind1 = refl

indicator_twice : (kind : Kind) (heading : Field) (ind1 : ℕ) → rewritten_indicator kind heading (rewritten_indicator kind heading ind1) ≡ rewritten_indicator kind heading ind1
indicator_twice Personal heading ind1 = indicator_of_twice heading ind1
indicator_twice Corporate heading ind1 = indicator_of_twice heading ind1
indicator_twice Meeting heading ind1 = indicator_of_twice heading ind1
indicator_twice Title heading ind1 = refl
indicator_twice Chronological heading ind1 = refl
indicator_twice Topical heading ind1 = refl
indicator_twice Geographic heading ind1 = refl
indicator_twice Genre heading ind1 = refl

-- rewriting a field twice is rewriting it once
pub rewriting_twice : (field : Field) (kind : Kind) (class : Class) (heading : Field) (key : Key) (whole : Bool) → is_blankless key ≡ true → base_part kind heading ≢ [] →
    rewriting (rewriting field kind class heading key whole) kind class heading key whole ≡ rewriting field kind class heading key whole
unfolding rewriting
rewriting_twice (Control tag text) kind class heading key whole filled some = refl
rewriting_twice (Variable tag ind1 ind2 subs) kind class heading key whole filled some =
    let deep = reaches whole class (Variable tag ind1 ind2 subs) in
    let subfields = rewritten_subfields_twice deep kind key (subfields_of heading) subs filled (part_is_some deep kind (subfields_of heading) some) in
    let indicator = indicator_twice kind heading ind1 in
    λ i. Variable tag (indicator i) ind2 (subfields i)

-- a rewritten field has the heading's part as its own
pub field_part_rewriting : (field : Field) (kind : Kind) (class : Class) (heading : Field) (key : Key) (whole : Bool) → base_part kind field ≢ [] →
    field_part whole kind class (rewriting field kind class heading key whole) ≡ part (reaches whole class field) kind (subfields_of heading)
unfolding rewriting part
field_part_rewriting (Control tag text) kind class heading key whole some = absurd (some refl)
field_part_rewriting (Variable tag ind1 ind2 subs) kind class heading key whole some =
    part-rewritten (reaches whole class (Variable tag ind1 ind2 subs)) kind key (subfields_of heading) subs

pub base_part_rewriting : (field : Field) (kind : Kind) (class : Class) (heading : Field) (key : Key) (whole : Bool) → base_part kind field ≢ [] →
    base_part kind (rewriting field kind class heading key whole) ≡ base_part kind heading
unfolding rewriting part
base_part_rewriting (Control tag text) kind class heading key whole some = absurd (some refl)
base_part_rewriting (Variable tag ind1 ind2 subs) kind class heading key whole some =
    base-rewritten (reaches whole class (Variable tag ind1 ind2 subs)) kind key (subfields_of heading) subs

-- what stands outside the part stays, but for the `$0` of the key
pub field_outside_rewriting : (field : Field) (kind : Kind) (class : Class) (heading : Field) (key : Key) (whole : Bool) → is_blankless key ≡ true →
    unnumbered key (field_outside whole kind class (rewriting field kind class heading key whole)) ≡ unnumbered key (field_outside whole kind class field)
unfolding rewriting
field_outside_rewriting (Control tag text) kind class heading key whole filled = refl
field_outside_rewriting (Variable tag ind1 ind2 subs) kind class heading key whole filled =
    outside-rewritten (reaches whole class (Variable tag ind1 ind2 subs)) kind key (subfields_of heading) subs filled

-- the length of a rewritten field
pub written_length_rewriting : (field : Field) (kind : Kind) (class : Class) (heading : Field) (key : Key) (whole : Bool) → base_part kind field ≢ [] →
    written_length (rewriting field kind class heading key whole)
    ≡ 3 + subfields_size (unnumbered key (field_outside whole kind class field)) + subfields_size (part (reaches whole class field) kind (subfields_of heading))
    + (length key.code + length key.number + 4)
unfolding rewriting part
written_length_rewriting (Control tag text) kind class heading key whole some = absurd (some refl)
written_length_rewriting (Variable tag ind1 ind2 subs) kind class heading key whole some =
    let size = size-rewritten (reaches whole class (Variable tag ind1 ind2 subs)) kind key (subfields_of heading) subs in
    omega arith

-- a rewritten field is larger by the heading's part and the `$0` at most
pub field_size_rewriting : (field : Field) (kind : Kind) (class : Class) (heading : Field) (key : Key) (whole : Bool) →
    field_size (rewriting field kind class heading key whole)
    ≤ field_size field + subfields_size (part (reaches whole class field) kind (subfields_of heading)) + (length key.code + length key.number + 4)
unfolding rewriting field_size
field_size_rewriting (Control tag text) kind class heading key whole = omega arith
field_size_rewriting (Variable tag ind1 ind2 subs) kind class heading key whole =
    let deep = reaches whole class (Variable tag ind1 ind2 subs) in
    let size = size-rewritten deep kind key (subfields_of heading) subs in
    let own = size_outside deep kind key subs in
    omega arith

-- the tag and the kind stay
pub tag_of_rewriting : (field : Field) (kind : Kind) (class : Class) (heading : Field) (key : Key) (whole : Bool) →
    tag_of (rewriting field kind class heading key whole) ≡ tag_of field
unfolding rewriting
tag_of_rewriting (Control tag text) kind class heading key whole = refl
tag_of_rewriting (Variable tag ind1 ind2 subs) kind class heading key whole = refl

pub kind_of_rewriting : (field : Field) (kind : Kind) (class : Class) (heading : Field) (key : Key) (whole : Bool) (in_class : Class) →
    kind_of in_class (rewriting field kind class heading key whole) ≡ kind_of in_class field
unfolding rewriting
kind_of_rewriting (Control tag text) kind class heading key whole in_class = refl
kind_of_rewriting (Variable tag ind1 ind2 subs) kind class heading key whole in_class = refl

pub tag_of_unlinking : (field : Field) (key : Key) → tag_of (unlinking field key) ≡ tag_of field
unfolding unlinking
tag_of_unlinking (Control tag text) key = refl
tag_of_unlinking (Variable tag ind1 ind2 subs) key = refl

pub kind_of_unlinking : (field : Field) (key : Key) (in_class : Class) → kind_of in_class (unlinking field key) ≡ kind_of in_class field
unfolding unlinking
kind_of_unlinking (Control tag text) key in_class = refl
kind_of_unlinking (Variable tag ind1 ind2 subs) key in_class = refl

-- unlinking leaves the part, whole or base
pub field_part_unlinking : (field : Field) (key : Key) (kind : Kind) (class : Class) (whole : Bool) →
    field_part whole kind class (unlinking field key) ≡ field_part whole kind class field
unfolding unlinking
field_part_unlinking (Control tag text) key kind class whole = refl
field_part_unlinking (Variable tag ind1 ind2 subs) key kind class whole =
    part-unnumbered (reaches whole class (Variable tag ind1 ind2 subs)) kind key subs

-- after unlinking no `$0` names the key
pub unlinking_none : (field : Field) (key : Key) → list_any (is_naming key) (subfields_of (unlinking field key)) ≡ false
unfolding unlinking
unlinking_none (Control tag text) key = refl
unlinking_none (Variable tag ind1 ind2 subs) key = none_named key subs

pub field_size_unlinking : (field : Field) (key : Key) → field_size (unlinking field key) ≤ field_size field
unfolding unlinking field_size
field_size_unlinking (Control tag text) key = omega arith
field_size_unlinking (Variable tag ind1 ind2 subs) key = size_filter (λ s. not (is_naming key s)) subs

pub record IsVariableField (tag : Tag) (ind1 ind2 : ℕ) (subs : List Subfield) : Type 0 where
  pub tag_ok : is_tag tag ≡ true
  pub not_control : not (is_control_tag tag) ≡ true
  pub first : is_printable ind1 ≡ true
  pub second : is_printable ind2 ≡ true
  pub subfields : list_all is_subfield subs ≡ true

variable_field : (tag : Tag) (ind1 ind2 : ℕ) (subs : List Subfield) → is_field (Variable tag ind1 ind2 subs) ≡ true → IsVariableField tag ind1 ind2 subs
unfolding is_field
variable_field tag ind1 ind2 subs h =
    let last = and_parts (is_tag tag && not (is_control_tag tag) && is_printable ind1 && is_printable ind2) (list_all is_subfield subs) h in
    let fourth = and_parts (is_tag tag && not (is_control_tag tag) && is_printable ind1) (is_printable ind2) last.0 in
    let third = and_parts (is_tag tag && not (is_control_tag tag)) (is_printable ind1) fourth.0 in
    let second_of = and_parts (is_tag tag) (not (is_control_tag tag)) third.0 in
    record { tag_ok = second_of.0; not_control = second_of.1; first = third.1; second = fourth.1; subfields = last.1 }

is_field_from : (tag : Tag) (ind1 ind2 : ℕ) (subs : List Subfield) → IsVariableField tag ind1 ind2 subs → is_field (Variable tag ind1 ind2 subs) ≡ true
unfolding is_field
is_field_from tag ind1 ind2 subs v = rw (v.tag_ok, v.not_control, v.first, v.second, v.subfields) refl

subfields_ok : (field : Field) → is_field field ≡ true → list_all is_subfield (subfields_of field) ≡ true
subfields_ok (Control tag text) h = refl
subfields_ok (Variable tag ind1 ind2 subs) h = (variable_field tag ind1 ind2 subs h).subfields

indicator_ok : (heading : Field) (ind1 : ℕ) → is_field heading ≡ true → is_printable ind1 ≡ true → is_printable (indicator_of heading ind1) ≡ true
indicator_ok (Control tag text) ind1 h p = p
indicator_ok (Variable tag own ind2 subs) ind1 h p = (variable_field tag own ind2 subs h).first

rewritten_indicator_ok : (kind : Kind) (heading : Field) (ind1 : ℕ) → is_field heading ≡ true → is_printable ind1 ≡ true → is_printable (rewritten_indicator kind heading ind1) ≡ true
rewritten_indicator_ok Personal heading ind1 h p = indicator_ok heading ind1 h p
rewritten_indicator_ok Corporate heading ind1 h p = indicator_ok heading ind1 h p
rewritten_indicator_ok Meeting heading ind1 h p = indicator_ok heading ind1 h p
rewritten_indicator_ok Title heading ind1 h p = p
rewritten_indicator_ok Chronological heading ind1 h p = p
rewritten_indicator_ok Topical heading ind1 h p = p
rewritten_indicator_ok Geographic heading ind1 h p = p
rewritten_indicator_ok Genre heading ind1 h p = p

-- a rewritten field is a field as records have them
pub is_field_rewriting : (field : Field) (kind : Kind) (class : Class) (heading : Field) (key : Key) (whole : Bool) →
    is_field field ≡ true → is_field heading ≡ true → is_text key.code ≡ true → is_text key.number ≡ true →
    is_field (rewriting field kind class heading key whole) ≡ true
unfolding rewriting
is_field_rewriting (Control tag text) kind class heading key whole hf hh hc hn = hf
is_field_rewriting (Variable tag ind1 ind2 subs) kind class heading key whole hf hh hc hn =
    let v = variable_field tag ind1 ind2 subs hf in
    let deep = reaches whole class (Variable tag ind1 ind2 subs) in
    let full = full_rewritten is_subfield deep kind key (subfields_of heading) subs
    (full_from is_subfield (subfields_of heading) (subfields_ok heading hh)) (full_from is_subfield subs v.subfields) (number_is_subfield key hc hn) in
    let all = all_from is_subfield (rewritten_subfields deep kind key (subfields_of heading) subs) full in
    is_field_from tag (rewritten_indicator kind heading ind1) ind2 (rewritten_subfields deep kind key (subfields_of heading) subs)
    (record { tag_ok = v.tag_ok; not_control = v.not_control; first = rewritten_indicator_ok kind heading ind1 hh v.first; second = v.second; subfields = all })

-- and so is an unlinked one
pub is_field_unlinking : (field : Field) (key : Key) → is_field field ≡ true → is_field (unlinking field key) ≡ true
unfolding unlinking
is_field_unlinking (Control tag text) key hf = hf
is_field_unlinking (Variable tag ind1 ind2 subs) key hf =
    let v = variable_field tag ind1 ind2 subs hf in
    let kept = λ (s : Subfield). not (is_naming key s) in
    let all = all_from is_subfield (unnumbered key subs) (each_filter true is_subfield kept subs (full_from is_subfield subs v.subfields)) in
    is_field_from tag ind1 ind2 (unnumbered key subs)
    (record { tag_ok = v.tag_ok; not_control = v.not_control; first = v.first; second = v.second; subfields = all })
