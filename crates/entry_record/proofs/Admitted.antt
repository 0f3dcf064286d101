-- A record that is taken fits its written form.
use Rattle.std.proofs.Common.{◌≡◌, ℕ, ◌+◌, ◌*◌, ◌≤◌, Bool, true, false, ◌&&◌, not, nat_lt, nat_le, List, [], ◌∷◌, length, Some, None, refl, sym, subst, arith}
use Rattle.std.specs.Prelude.{if◌then◌else◌}
use Rattle.std.specs.List.{list_any, list_all, count_by}
use Rattle.std.proofs.lemmas.Bool.{or_parts, and_parts, and_from, ltb-false, leb-true, le-leb}
use Rattle.std.proofs.lemmas.List.Sums.{AllPass-from_list_all}
use Rattle.marc_types.specs.Valid.{is_code, is_code_byte, is_number}
use Rattle.marc_types.specs.declared.field.Field.{Field}
use Rattle.marc_types.specs.declared.field.Leader.{Leader}
use Rattle.marc_types.specs.declared.key.Class.{Class}
use Rattle.marc_types.specs.declared.entry.Entry.{Entry}
use Rattle.marc_types.specs.declared.refusal.Refusal.{Refusal}
use Rattle.marc_types.specs.declared.refusal.Refusal.TheVariants.{OtherType, NoNumber, BadCode, NoHeading, HeadingTooLong, NoRoom}
use Rattle.std.specs.Option.{is_none}
use Rattle.iso2709_record.specs.Written.{record_length, field_length, fits}
use Rattle.iso2709_record.proofs.Lengths.{fits_from}
use Rattle.entry_record.specs.Identity.{class_of, is_known_type, control_number_of, code_of}
use Rattle.entry_record.specs.Authority.{is_heading_field, heading_of}
use Rattle.entry_record.specs.Admission.{is_living_authority, has_long_heading, grown_length, has_no_room, admission_refusal}
use Rattle.entry_record.specs.History.{IsAdmitted}
use Rattle.entry_record.proofs.Written.{fitting_length}

-- the last of six reasons in turn
last_of : (a b c d e f : Bool) (p q r s t u : Refusal) →
    (if a then Some p else if b then Some q else if c then Some r else if d then Some s else if e then Some t else if f then Some u else None) ≡ None →
    f ≡ false
last_of true b c d e f p q r s t u h = cc
last_of false true c d e f p q r s t u h = cc
last_of false false true d e f p q r s t u h = cc
last_of false false false true e f p q r s t u h = cc
last_of false false false false true f p q r s t u h = cc
last_of false false false false false true p q r s t u h = cc
last_of false false false false false false p q r s t u h = refl

taken_has_room : (library : List ℕ) (l : Leader) (fields : List Field) → admission_refusal library l fields ≡ None → has_no_room (class_of l) fields ≡ false
unfolding admission_refusal
taken_has_room library l fields h =
    last_of (not (is_known_type l.rtype)) (not (is_number (control_number_of fields))) (not (is_code (code_of library fields)))
    (is_living_authority l && is_none (heading_of fields)) (is_living_authority l && has_long_heading fields) (has_no_room (class_of l) fields)
    OtherType NoNumber BadCode NoHeading HeadingTooLong NoRoom h

grows : (b : Bool) (n : ℕ) → n ≤ (if b then n + 600 else n)
grows true n = omega arith
grows false n = omega arith

fits_grown : (class : Class) (f : Field) → nat_lt 9999 (grown_length class f) ≡ false → nat_le (field_length f) 9999 ≡ true
fits_grown class f h =
    let most : grown_length class f ≤ 9999 = ltb-false 9999 (grown_length class f) h in
    let least : field_length f ≤ grown_length class f = grows (is_heading_field class f) (field_length f) in
    le-leb (field_length f) 9999 (omega arith)

all_fit : (class : Class) (fields : List Field) → list_any (λ f. nat_lt 9999 (grown_length class f)) fields ≡ false →
    list_all (λ f. nat_le (field_length f) 9999) fields ≡ true
all_fit class [] h = refl
all_fit class (f ∷ fs) h =
    let parts = or_parts (nat_lt 9999 (grown_length class f)) (list_any (λ f. nat_lt 9999 (grown_length class f)) fs) h in
    and_from _ _ (fits_grown class f parts.0) (all_fit class fs parts.1)

room_fits : (class : Class) (fields : List Field) → has_no_room class fields ≡ false → fits fields ≡ true
unfolding has_no_room
room_fits class fields h =
    let parts = or_parts (nat_lt 99999 (record_length fields + 600 * count_by (is_heading_field class) fields)) (list_any (λ f. nat_lt 9999 (grown_length class f)) fields) h in
    let most : record_length fields + 600 * count_by (is_heading_field class) fields ≤ 99999 = ltb-false 99999 (record_length fields + 600 * count_by (is_heading_field class) fields) parts.0 in
    fits_from fields (omega arith) (AllPass-from_list_all (λ f. nat_le (field_length f) 9999) fields (all_fit class fields parts.1))

pub admitted_fits : (e : Entry) → IsAdmitted e → fits e.rec.fields ≡ true
admitted_fits e h = room_fits (class_of e.rec.leader) e.rec.fields (taken_has_room e.library e.rec.leader e.rec.fields h.taken)

pub admitted_library : (e : Entry) → IsAdmitted e → length e.library ≤ 16
unfolding is_code
admitted_library e h =
    leb-true (length e.library) 16 (and_parts (nat_le 1 (length e.library)) (nat_le (length e.library) 16)
    (and_parts (nat_le 1 (length e.library) && nat_le (length e.library) 16) (list_all is_code_byte e.library) h.library).0).1

pub admitted_length : (e : Entry) → IsAdmitted e → record_length e.rec.fields ≤ 99999
admitted_length e h = fitting_length e.rec.fields (admitted_fits e h)

-- what is the same as an admitted entry
pub same_fits : (e f : Entry) → e ≡ f → IsAdmitted f → fits e.rec.fields ≡ true
same_fits e f same h = subst (λ (g : Entry). fits g.rec.fields ≡ true) (sym same) (admitted_fits f h)
