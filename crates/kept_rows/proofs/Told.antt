-- The tests say what the records say.
use Rattle.std.proofs.Common.{◌≡◌, ◌↔◌, ◌+◌, ◌*◌, ◌≤◌, Bool, true, false, ◌&&◌, ◌||◌, not, nat_le, List, [], ◌∷◌, length, is_some, refl}
use Rattle.std.specs.Prelude.{All, IsTrue, IfOk, Result, Ok, Err}
use Rattle.std.specs.List.{sum_by, list_all}
use Rattle.std.proofs.lemmas.Bool.{and_parts, and_from, leb-true, le-leb}
use Rattle.std.proofs.lemmas.List.Elements.{All-from_recursion, recursion_from_All}
use Rattle.marc_types.specs.Valid.{is_code, is_number}
use Rattle.marc_types.specs.Fields.{tag_of}
use Rattle.marc_types.specs.declared.key.Class.{Class}
use Rattle.marc_types.specs.declared.key.Class.TheVariants.{Authority, Bibliographic}
use Rattle.heading_fields.specs.Tables.{is_subdividable}
use Rattle.entry_record.specs.Authority.{is_heading_field}
use Rattle.entry_record.specs.Identity.{class_of, is_deletion}
use Rattle.catalogue_rules.specs.State.{KeptField, Row}
use Rattle.catalogue_rules.specs.Receipt.{same_class}
use Rattle.catalogue_rules.specs.Valid.{reach, HasRoom}
use Rattle.catalogue_rules.proofs.Elements.{Each}
use Rattle.kept_rows.specs.Standing.{IsSoundField, IsSoundRow}
use Rattle.kept_rows.specs.Tests.{suits_field, is_sound_field, is_lasting, has_sound_fields, is_sound_row}

says : (a b : Bool) → (not a || b) ≡ true → a ≡ true → b ≡ true
says true b h e = h
says false b h e = cc

said : (a b : Bool) → (a ≡ true → b ≡ true) → (not a || b) ≡ true
said true b h = h refl
said false b h = refl

field_sound : (class : Class) (h : KeptField) → is_sound_field class h ≡ true → IsSoundField class h
unfolding is_sound_field suits_field
field_sound class h e =
    let whole = not h.tie.whole || is_subdividable class (tag_of h.field) in
    let awaits = not (is_some h.tie.awaits) || is_heading_field class h.field in
    let both = and_parts whole awaits e in
    record {
      whole = says h.tie.whole (is_subdividable class (tag_of h.field)) both.0;
      awaits = says (is_some h.tie.awaits) (is_heading_field class h.field) both.1;
    }

sound_field : (class : Class) (h : KeptField) → IsSoundField class h → is_sound_field class h ≡ true
unfolding is_sound_field suits_field
sound_field class h s =
    let whole = not h.tie.whole || is_subdividable class (tag_of h.field) in
    let awaits = not (is_some h.tie.awaits) || is_heading_field class h.field in
    and_from whole awaits (said h.tie.whole (is_subdividable class (tag_of h.field)) s.whole)
    (said (is_some h.tie.awaits) (is_heading_field class h.field) s.awaits)

each_sound : (class : Class) (hs : List KeptField) → list_all (is_lasting class) hs ≡ true → Each (IsSoundField class) hs × Each (λ h. reach class h ≤ 9999) hs
each_sound class [] e = (tt, tt)
each_sound class (h ∷ hs) e =
    let both = and_parts (is_lasting class h) (list_all (is_lasting class) hs) e in
    let own = and_parts (is_sound_field class h) (nat_le (reach class h) 9999) both.0 in
    let rest = each_sound class hs both.1 in
    ((field_sound class h own.0, rest.0), (leb-true (reach class h) 9999 own.1, rest.1))

sound_each : (class : Class) (hs : List KeptField) → Each (IsSoundField class) hs → Each (λ h. reach class h ≤ 9999) hs → list_all (is_lasting class) hs ≡ true
sound_each class [] a b = refl
sound_each class (h ∷ hs) a b =
    let own = and_from (is_sound_field class h) (nat_le (reach class h) 9999) (sound_field class h a.0) (le-leb (reach class h) 9999 b.0) in
    and_from (is_lasting class h) (list_all (is_lasting class) hs) own (sound_each class hs a.1 b.1)

class_same : (a b : Class) → same_class a b ≡ true → a ≡ b
class_same Authority Authority e = refl
class_same Authority Bibliographic e = cc
class_same Bibliographic Authority e = cc
class_same Bibliographic Bibliographic e = refl

same_is : (a : Class) → same_class a a ≡ true
same_is Authority = refl
same_is Bibliographic = refl

fields_sound : (class : Class) (row : Row) → has_sound_fields class row.1.fields ≡ true → All (IsSoundField class) row.1.fields × HasRoom class row
unfolding has_sound_fields
fields_sound class row e =
    let hs = row.1.fields in
    let size = 26 + 12 * length hs + sum_by (reach class) hs in
    let both = and_parts (list_all (is_lasting class) hs) (nat_le size 99999) e in
    let each = each_sound class hs both.0 in (
      All-from_recursion (IsSoundField class) hs each.0,
      record { record_fits = leb-true size 99999 both.1; fields_fit = All-from_recursion (λ h. reach class h ≤ 9999) hs each.1 },
    )

sound_fields : (class : Class) (row : Row) → All (IsSoundField class) row.1.fields → HasRoom class row → has_sound_fields class row.1.fields ≡ true
unfolding has_sound_fields
sound_fields class row sound room =
    let hs = row.1.fields in
    let size = 26 + 12 * length hs + sum_by (reach class) hs in
    and_from (list_all (is_lasting class) hs) (nat_le size 99999)
    (sound_each class hs (recursion_from_All (IsSoundField class) hs sound) (recursion_from_All (λ h. reach class h ≤ 9999) hs room.fields_fit))
    (le-leb size 99999 room.record_fits)

not_true : (b : Bool) → not b ≡ true → b ≡ false
not_true true e = cc
not_true false e = refl

row_sound : (class : Class) (row : Row) → is_sound_row class row ≡ true → IsSoundRow class row
unfolding is_sound_row
row_sound class row e =
    let same = same_class (class_of row.1.leader) class in
    let lives = not (is_deletion row.1.leader) in
    let code = is_code row.0.code in
    let number = is_number row.0.number in
    let fields = has_sound_fields class row.1.fields in
    let last = and_parts (same && lives && code && number) fields e in
    let fourth = and_parts (same && lives && code) number last.0 in
    let third = and_parts (same && lives) code fourth.0 in
    let first = and_parts same lives third.0 in
    let rest = fields_sound class row last.1 in
    record {
      row_is = record { class_is = class_same (class_of row.1.leader) class first.0; code = third.1; number = fourth.1 };
      living = not_true (is_deletion row.1.leader) first.1;
      fields = rest.0;
      room = rest.1;
    }

sound_is : (class : Class) (row : Row) → IsSoundRow class row → is_sound_row class row ≡ true
unfolding is_sound_row
sound_is class row s =
    let fields = sound_fields class row s.fields s.room in
    rw (s.row_is.class_is, same_is class, s.living, s.row_is.code, s.row_is.number, fields) refl

-- a row is told sound exactly where it is
pub sound_row : (class : Class) (row : Row) → IsTrue (is_sound_row class row) ↔ IsSoundRow class row
sound_row class row = (row_sound class row, sound_is class row)

-- where a row's leader and key are proper, its fields decide
pub fields_decide : (class : Class) (row : Row) → (same_class (class_of row.1.leader) class && not (is_deletion row.1.leader)) ≡ true → (is_code row.0.code && is_number row.0.number) ≡ true →
    IsTrue (has_sound_fields class row.1.fields) ↔ IsSoundRow class row
unfolding is_sound_row
fields_decide class row leader key =
    let code = and_parts (is_code row.0.code) (is_number row.0.number) key in
    let same : is_sound_row class row ≡ has_sound_fields class row.1.fields = rw (leader, code.0, code.1) refl in
    rw (← same) (sound_row class row)

pub if_told : {E : Type 0} (r : Result Bool E) (b : Bool) (P : Type 0) → (IsTrue b ↔ P) → IfOk r (λ told. told ≡ b) → IfOk r (λ told. IsTrue told ↔ P)
if_told (Ok told) b P h e = rw e h
if_told (Err fault) b P h e = tt
