-- Records that are too short for anything of them to become too long: each of their fields lasts where it is sound alone.
use Rattle.std.proofs.Common.{◌≡◌, ◌∙◌, ℕ, zero, suc, ◌+◌, ◌*◌, ◌<◌, ◌≤◌, Bool, true, false, ◌&&◌, ◌||◌, not, nat_le, List, [], ◌∷◌, length, get_or, drop, Option, Some, None, is_some, refl, sym, ap, arith, if◌then◌else◌}
use Rattle.std.specs.Prelude.{slice_get, option_map, option_and_then}
use Rattle.std.specs.List.{sum_by, list_all}
use Rattle.std.proofs.lemmas.Bool.{and_left, and_parts, le-leb, leb-true}
use Rattle.std.proofs.lemmas.List.{drop_all}
use Rattle.std.proofs.lemmas.List.Sums.{sum_by-cons}
use Rattle.marc_types.specs.declared.entry.Tie.{Tie}
use Rattle.marc_types.specs.declared.field.Tag.{Tag}
use Rattle.marc_types.specs.declared.field.Field.{Field}
use Rattle.marc_types.specs.declared.key.Class.{Class}
use Rattle.marc_types.specs.declared.form.Kind.{Kind}
use Rattle.marc_types.specs.Fields.{subfields_of, tag_of}
use Rattle.heading_fields.specs.Parts.{field_outside, reaches}
use Rattle.heading_fields.specs.Tables.{is_subdividable}
use Rattle.iso2709_record.specs.Written.{field_length, fields_length, record_length}
use Rattle.entry_record.specs.Authority.{heading_kind}
use Rattle.catalogue_rules.specs.State.{KeptField, kept_field, tied}
use Rattle.catalogue_rules.specs.Valid.{reach}
use Rattle.catalogue_rules.proofs.Reach.{reach_of, heading_of_kind}
use Rattle.catalogue_rules.proofs.Room.{kind_of_variable, other_reach}
use Rattle.catalogue_rules.proofs.Sizes.{part_and_outside}
use Rattle.kept_rows.specs.Tests.{suits_field, is_sound_field, sound_reach, is_lasting, has_sound_fields, is_short}
use Rattle.kept_rows.proofs.Outside.{others_small}
use Rattle.kept_rows.proofs.Places.{length-tied, told_there, split_there, broken, true_left}

-- ---- no field grows by more than the longest heading and a `$0`

heading_grown : (class : Class) (h : KeptField) (kind : Kind) → heading_kind class h.field ≡ Some kind → reach class h ≤ field_length h.field + 596
heading_grown class h kind e =
    let own = heading_of_kind class h.field kind e in
    let is = reach_of class h kind e in
    let written = kind_of_variable class h.field kind own.kind_is in
    let parts = part_and_outside (reaches h.tie.whole class h.field) kind (subfields_of h.field) in
    let fewer = others_small h.tie.key (field_outside h.tie.whole kind class h.field) in
    omega arith

grown_by : (class : Class) (h : KeptField) (o : Option Kind) → heading_kind class h.field ≡ o → reach class h ≤ field_length h.field + 596
grown_by class h None e = let is = other_reach class h e in omega arith
grown_by class h (Some kind) e = heading_grown class h kind e

grown : (class : Class) (h : KeptField) → reach class h ≤ field_length h.field + 596
grown class h = grown_by class h (heading_kind class h.field) refl

total_grown : (class : Class) (fields : List Field) (ties : List Tie) → length ties ≡ length fields → sum_by (reach class) (tied fields ties) ≤ fields_length fields + 596 * length fields
total_grown class [] ties e = omega arith
total_grown class (f ∷ fs) [] e = absurd (omega (arith, e))
total_grown class (f ∷ fs) (t ∷ ts) e =
    let now = sum_by-cons (reach class) (kept_field f t) (tied fs ts) in
    let own = grown class (kept_field f t) in
    let rest = total_grown class fs ts (omega (arith, e)) in
    omega arith

grown_there : (class : Class) (fields : List Field) (ties : List Tie) (i : ℕ) (h : KeptField) → slice_get (tied fields ties) i ≡ Some h → reach class h ≤ fields_length fields + 596
grown_there class [] ties i h e = cc
grown_there class (f ∷ fs) [] i h e = cc
grown_there class (f ∷ fs) (t ∷ ts) zero h e =
    let same : kept_field f t ≡ h = cc in
    let sizes = ap (reach class) same in
    let own = grown class (kept_field f t) in
    omega arith
grown_there class (f ∷ fs) (t ∷ ts) (suc i) h e = let rest = grown_there class fs ts i h e in omega arith

-- ---- a record that is short

short_parts : (fields : List Field) → is_short fields ≡ true → (record_length fields ≤ 9403) × (length fields ≤ 151)
unfolding is_short
short_parts fields e =
    let both = and_parts (nat_le (record_length fields) 9403) (nat_le (length fields) 151) e in
    (leb-true (record_length fields) 9403 both.0, leb-true (length fields) 151 both.1)

sound_told : (class : Class) (h : KeptField) → is_some (sound_reach class h) ≡ is_sound_field class h
unfolding sound_reach
sound_told class h = at (is_sound_field class h)
  where
    at : (b : Bool) → is_some (if b then Some (reach class h) else None) ≡ b
    at true = refl
    at false = refl

-- a field that is told sound lasts
pub more_short : (class : Class) (fields : List Field) (ties : List Tie) (i : ℕ) → is_short fields ≡ true → length ties ≡ length fields → i < length fields →
    is_some (option_and_then (sound_reach class) (slice_get (tied fields ties) i)) ≡ true →
    list_all (is_lasting class) (drop i (tied fields ties)) ≡ list_all (is_lasting class) (tied fields ties) →
    list_all (is_lasting class) (drop (i + 1) (tied fields ties)) ≡ list_all (is_lasting class) (tied fields ties)
more_short class fields ties i short same within sound known =
    let hs = tied fields ties in
    let count = length-tied fields ties same in
    let at = split_there hs i (omega arith) in
    let h = at.0 in
    let is : is_sound_field class h ≡ true = sym (sound_told class h) ∙ sym (ap (λ o. is_some (option_and_then (sound_reach class) o)) at.1) ∙ sound in
    let sizes = short_parts fields short in
    let most = sizes.0 in
    let longest = grown_there class fields ties i h at.1 in
    let fits : nat_le (reach class h) 9999 ≡ true = le-leb (reach class h) 9999 (omega arith) in
    let lasting : is_lasting class h ≡ true = rw (is, fits) refl in
    sym (ap (list_all (is_lasting class)) at.2 ∙ ap (λ b. b && list_all (is_lasting class) (drop (i + 1) hs)) lasting) ∙ known

-- one that isn't decides
pub unsound_there : (class : Class) (fields : List Field) (ties : List Tie) (i : ℕ) → length ties ≡ length fields → i < length fields →
    is_some (option_and_then (sound_reach class) (slice_get (tied fields ties) i)) ≡ false →
    list_all (is_lasting class) (drop i (tied fields ties)) ≡ list_all (is_lasting class) (tied fields ties) → false ≡ has_sound_fields class (tied fields ties)
unsound_there class fields ties i same within sound known =
    let hs = tied fields ties in
    let count = length-tied fields ties same in
    let at = split_there hs i (omega arith) in
    let h = at.0 in
    let fails : is_sound_field class h ≡ false = sym (sound_told class h) ∙ sym (ap (λ o. is_some (option_and_then (sound_reach class) o)) at.1) ∙ sound in
    broken class hs i h at.2 (and_left (is_sound_field class h) (nat_le (reach class h) 9999) fails) known

-- where each field lasts, the record does
pub all_short : (class : Class) (fields : List Field) (ties : List Tie) (i : ℕ) → is_short fields ≡ true → length ties ≡ length fields → length fields ≤ i →
    list_all (is_lasting class) (drop i (tied fields ties)) ≡ list_all (is_lasting class) (tied fields ties) → true ≡ has_sound_fields class (tied fields ties)
unfolding has_sound_fields
all_short class fields ties i short same past known =
    let hs = tied fields ties in
    let count = length-tied fields ties same in
    let none : drop i hs ≡ [] = drop_all i hs (omega arith) in
    let all : list_all (is_lasting class) hs ≡ true = sym known ∙ ap (list_all (is_lasting class)) none in
    let sizes = short_parts fields short in
    let most = sizes.0 in
    let few = sizes.1 in
    let total = total_grown class fields ties same in
    let size = 26 + 12 * length hs + sum_by (reach class) hs in
    sym (true_left (list_all (is_lasting class) hs) (nat_le size 99999) all ∙ le-leb size 99999 (omega arith))

-- ---- one field of it

-- a field that awaits nothing is sound where it isn't whole, or takes subdivisions
sound_by : (class : Class) (f : Field) (t : Tie) (w b : Bool) → t.awaits ≡ None → t.whole ≡ w → (w ≡ true → b ≡ is_subdividable class (tag_of f)) →
    (not w || b) ≡ is_sound_field class (kept_field f t)
unfolding is_sound_field suits_field
sound_by class f t true b none whole is = let own = is refl in rw (none, whole, ← own) (at b)
  where
    at : (c : Bool) → c ≡ (c && true)
    at true = refl
    at false = refl
sound_by class f t false b none whole is = rw (none, whole) refl

none_of : {A : Type 0} (o : Option A) → is_some o ≡ false → o ≡ None
none_of None e = refl
none_of (Some x) e = cc

field_there : (fields : List Field) (i : ℕ) → i < length fields → (f : Field) × (slice_get fields i ≡ Some f)
field_there [] i within = absurd (omega (arith, within))
field_there (f ∷ fs) zero within = (f, refl)
field_there (f ∷ fs) (suc i) within = field_there fs i (omega (arith, within))

pub unawaiting : (class : Class) (fields : List Field) (ties : List Tie) (i : ℕ) (t : Tie) (w b : Bool) → i < length fields → length ties ≡ length fields → t ≡ get_or ties i t →
    is_some t.awaits ≡ false → t.whole ≡ w → (w ≡ true → (f : Field) → slice_get fields i ≡ Some f → b ≡ is_subdividable class (tag_of f)) →
    (not w || b) ≡ is_some (option_and_then (sound_reach class) (slice_get (tied fields ties) i))
unawaiting class fields ties i t w b within same tie none whole is =
    let found = field_there fields i within in
    let f = found.0 in
    sound_by class f t w b (none_of t.awaits none) whole (λ yes. is yes f found.1)
    ∙ sym (sound_told class (kept_field f t))
    ∙ sym (ap is_some (told_there class fields ties i f t found.1 (omega (arith, within, same)) tie))

-- the tag at a place is that of the field there
pub tag_there : (o : Option Field) (tag : Tag) (f : Field) → option_map tag_of o ≡ Some tag → o ≡ Some f → tag ≡ tag_of f
tag_there None tag f e is = cc
tag_there (Some g) tag f e is = cc
