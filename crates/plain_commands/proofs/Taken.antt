-- A catalogue takes each record of a workload: it has a known type, a number, a code, where it needs one a short heading, and
-- room.
use Rattle.std.proofs.Common.{◌≡◌, ℕ, ◌+◌, ◌/◌, ◌<◌, ◌≤◌, ◌^◌, Bool, true, false, ◌&&◌, not, nat_lt, List, [], ◌∷◌, length, Some, None, refl, arith}
use Rattle.std.specs.Prelude.{◌==◌, if◌then◌else◌}
use Rattle.std.specs.List.{list_all, list_any}
use Rattle.std.specs.Fmt.{decimal}
use Rattle.std.specs.Option.{is_none}
use Rattle.std.specs.Str.Parse.{AllDigits}
use Rattle.std.proofs.lemmas.Bool.{and_from, or_from, not_from_true, le-ltb, le-leb}
use Rattle.std.proofs.lemmas.Bool.Decides.{nat_tests}
use Rattle.std.proofs.lemmas.Fmt.{decimal_is_IsNumeral}
use Rattle.std.proofs.lemmas.List.Sums.{count_by-le-length}
use Rattle.std.proofs.lemmas.Str.Parse.{digit_from_value}
use Rattle.marc_types.specs.Valid.{is_graphic, is_number, is_code}
use Rattle.marc_types.specs.declared.field.Field.{Field}
use Rattle.marc_types.specs.declared.field.Leader.{Leader}
use Rattle.marc_types.specs.declared.key.Class.{Class}
use Rattle.marc_types.specs.declared.refusal.Refusal.{Refusal}
use Rattle.marc_types.specs.declared.refusal.Refusal.TheVariants.{OtherType, NoNumber, BadCode, NoHeading, HeadingTooLong, NoRoom}
use Rattle.heading_fields.specs.Numbers.{without_blanks}
use Rattle.heading_fields.specs.Parts.{part, is_part}
use Rattle.heading_fields.specs.Tables.{any_kind, authority_kind_of, is_controlled, is_subdivision}
use Rattle.heading_fields.proofs.Passing.{full_from, full_weaker, filter_full}
use Rattle.iso2709_record.specs.Written.{field_length, fields_length, record_length}
use Rattle.entry_record.specs.Identity.{class_of, is_known_type, control_number_of, code_of}
use Rattle.entry_record.specs.Authority.{heading_of, is_heading_field}
use Rattle.entry_record.specs.Admission.{is_living_authority, is_too_long, has_long_heading, grown_length, has_no_room, admission_refusal}
use Rattle.workload.specs.Records.{tag, name_text, alias_text, name_field, authority_leader, bibliographic_leader, authority_fields, linked_authority_fields, deletion_fields, bibliographic_fields}
use Rattle.workload.proofs.Plain.{plain_decimal}
use Rattle.workload.proofs.Sound.{plain_name, plain_alias}
use Rattle.plain_commands.specs.Entries.{workload_library}
use Rattle.plain_commands.proofs.Lengths.{AreFewLight, short_record, authority_light, linked_light, deletion_light, bibliographic_light}

-- ---- numbers

digit_is_graphic : (d : ℕ) → 48 ≤ d → d ≤ 57 → is_graphic d ≡ true
digit_is_graphic d low high = grind (arith, nat_tests)

digits_are_graphic : (ds : List ℕ) → AllDigits 10 ds → list_all is_graphic ds ≡ true
digits_are_graphic [] digits = refl
digits_are_graphic (d ∷ ds) digits =
    let range = digit_from_value d digits.0 in
    and_from _ _ (digit_is_graphic d (omega arith) (omega arith)) (digits_are_graphic ds digits.1)

graphic_is_no_blank : (b : ℕ) → is_graphic b ≡ true → not (b == 0x20) ≡ true
graphic_is_no_blank b h = grind (arith, nat_tests, h)

graphic_stays : (text : List ℕ) → list_all is_graphic text ≡ true → without_blanks text ≡ text
graphic_stays text h =
    let filled = λ (b : ℕ). not (b == 0x20) in
    filter_full filled text (full_weaker is_graphic filled graphic_is_no_blank text (full_from is_graphic text h))

-- a few graphic characters, of which there is one, are a number as they stand
graphic_is_number : (letter : ℕ) (text : List ℕ) → list_all is_graphic (letter ∷ text) ≡ true → length text ≤ 63 → is_number (letter ∷ text) ≡ true
unfolding is_number
graphic_is_number letter text h short =
    let some = le-leb 1 (length (letter ∷ text)) (omega arith) in
    let few = le-leb (length (letter ∷ text)) 64 (omega (arith, short)) in
    and_from _ _ (and_from _ _ some few) h

lettered_number : (letter n : ℕ) → is_graphic letter ≡ true → n < 2 ^ 64 → is_number (without_blanks (letter ∷ decimal n)) ≡ true
lettered_number letter n h small =
    let digits = digits_are_graphic (decimal n) (decimal_is_IsNumeral n small).0.1 in
    let graphic = and_from (is_graphic letter) (list_all is_graphic (decimal n)) h digits in
    let short = (plain_decimal n small).short in
    rw (graphic_stays (letter ∷ decimal n) graphic) (graphic_is_number letter (decimal n) graphic (omega (arith, short)))

-- ---- headings

short_heading : (text : List ℕ) → length text ≤ 500 → is_too_long (name_field (tag 1 0 0) text) ≡ false
unfolding authority_kind_of any_kind part is_part is_controlled is_subdivision
short_heading text short = le-ltb _ _ (omega (arith, short))

short_tracing : (text : List ℕ) → length text ≤ 500 → is_too_long (name_field (tag 4 0 0) text) ≡ false
unfolding authority_kind_of any_kind part is_part is_controlled is_subdivision
short_tracing text short = le-ltb _ _ (omega (arith, short))

-- ---- room

small_grown : (heading : Bool) (n : ℕ) → n ≤ 500 → nat_lt 9999 (if heading then n + 600 else n) ≡ false
small_grown true n small = le-ltb _ _ (omega (arith, small))
small_grown false n small = le-ltb _ _ (omega (arith, small))

small_fields : (class : Class) (fs : List Field) → fields_length fs ≤ 500 → list_any (λ f. nat_lt 9999 (grown_length class f)) fs ≡ false
small_fields class [] small = refl
small_fields class (f ∷ fs) small =
    or_from _ _ (small_grown (is_heading_field class f) (field_length f) (omega (arith, small))) (small_fields class fs (omega (arith, small)))

-- whichever of the fields are heading fields
small_has_room : (class : Class) (fs : List Field) → record_length fs ≤ 500 → length fs ≤ 5 → has_no_room class fs ≡ false
unfolding has_no_room
small_has_room class fs small few =
    let headings = count_by-le-length (is_heading_field class) fs in
    or_from _ _ (le-ltb _ _ (omega (arith, small, few, headings))) (small_fields class fs (omega (arith, small)))

light_has_room : (class : Class) (fs : List Field) → AreFewLight fs → has_no_room class fs ≡ false
light_has_room class fs light = let short = short_record fs light in small_has_room class fs (omega (arith, short)) light.few

-- ---- records

none_of : (a b c d e f : Bool) (p q r s t u : Refusal) → a ≡ false → b ≡ false → c ≡ false → d ≡ false → e ≡ false → f ≡ false →
    (if a then Some p else if b then Some q else if c then Some r else if d then Some s else if e then Some t else if f then Some u else None) ≡ None
none_of a b c d e f p q r s t u ha hb hc hd he hf = rw (ha, hb, hc, hd, he, hf) refl

-- what admission asks for
record IsFit (l : Leader) (fields : List Field) : Type 0 where
  known : is_known_type l.rtype ≡ true
  number : is_number (control_number_of fields) ≡ true
  code : is_code (code_of workload_library fields) ≡ true
  headed : (is_living_authority l && is_none (heading_of fields)) ≡ false
  short : (is_living_authority l && has_long_heading fields) ≡ false
  light : AreFewLight fields

fit_is_taken : (l : Leader) (fields : List Field) → IsFit l fields → admission_refusal workload_library l fields ≡ None
unfolding admission_refusal
fit_is_taken l fields fit =
    none_of _ _ _ _ _ _ OtherType NoNumber BadCode NoHeading HeadingTooLong NoRoom
    (not_from_true _ fit.known) (not_from_true _ fit.number) (not_from_true _ fit.code) fit.headed fit.short (light_has_room (class_of l) fields fit.light)

short_authority : (name variant : ℕ) → name < 2 ^ 64 → variant < 2 ^ 64 → has_long_heading (authority_fields name variant) ≡ false
unfolding has_long_heading authority_fields
short_authority name variant first second =
    let heading = (plain_name name variant first second).short in
    let tracing = (plain_alias (name / 2) (omega arith)).short in
    or_from _ _ (short_heading (name_text name variant) (omega (arith, heading))) (or_from _ _ (short_tracing (alias_text (name / 2)) (omega (arith, tracing))) refl)

short_linked : (name variant other : ℕ) → name < 2 ^ 64 → variant < 2 ^ 64 → has_long_heading (linked_authority_fields name variant other) ≡ false
unfolding has_long_heading authority_fields linked_authority_fields
short_linked name variant other first second =
    let heading = (plain_name name variant first second).short in
    let tracing = (plain_alias (name / 2) (omega arith)).short in
    or_from _ _ (short_heading (name_text name variant) (omega (arith, heading))) (or_from _ _ (short_tracing (alias_text (name / 2)) (omega (arith, tracing))) refl)

pub authority_taken : (name variant : ℕ) → name < 2 ^ 64 → variant < 2 ^ 64 → admission_refusal workload_library (authority_leader 110) (authority_fields name variant) ≡ None
unfolding authority_fields control_number_of code_of is_code
authority_taken name variant first second = fit_is_taken (authority_leader 110) (authority_fields name variant) record {
  known = refl;
  number = lettered_number 97 name refl first;
  code = refl;
  headed = refl;
  short = short_authority name variant first second;
  light = authority_light name variant first second;
}

pub linked_taken : (name variant other : ℕ) → name < 2 ^ 64 → variant < 2 ^ 64 → other < 2 ^ 64
    → admission_refusal workload_library (authority_leader 110) (linked_authority_fields name variant other) ≡ None
unfolding authority_fields linked_authority_fields control_number_of code_of is_code
linked_taken name variant other first second third = fit_is_taken (authority_leader 110) (linked_authority_fields name variant other) record {
  known = refl;
  number = lettered_number 97 name refl first;
  code = refl;
  headed = refl;
  short = short_linked name variant other first second;
  light = linked_light name variant other first second third;
}

pub deletion_taken : (name : ℕ) → name < 2 ^ 64 → admission_refusal workload_library (authority_leader 100) (deletion_fields name) ≡ None
unfolding deletion_fields control_number_of code_of is_code
deletion_taken name small = fit_is_taken (authority_leader 100) (deletion_fields name) record {
  known = refl;
  number = lettered_number 97 name refl small;
  code = refl;
  headed = refl;
  short = refl;
  light = deletion_light name small;
}

pub bibliographic_taken : (number author : ℕ) → number < 2 ^ 64 → author < 2 ^ 64 → admission_refusal workload_library bibliographic_leader (bibliographic_fields number author) ≡ None
unfolding bibliographic_fields control_number_of code_of is_code
bibliographic_taken number author first second = fit_is_taken bibliographic_leader (bibliographic_fields number author) record {
  known = refl;
  number = lettered_number 98 number refl first;
  code = refl;
  headed = refl;
  short = refl;
  light = bibliographic_light number author first second;
}
