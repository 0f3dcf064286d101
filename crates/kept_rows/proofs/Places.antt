-- The field at a place with its tie, and what is told of the fields as far as a loop has come.
use Rattle.std.proofs.Common.{◌≡◌, ℕ, zero, suc, ◌+◌, ◌*◌, ◌<◌, ◌≤◌, Bool, true, false, ◌&&◌, ◌⊎◌, nat_le, List, [], ◌∷◌, length, get_or, drop, Option, Some, None, is_some, refl, sym, ap, ◌∙◌, add-one, inl, inr, arith, length-append, if◌then◌else◌}
use Rattle.std.specs.Prelude.{slice_get, option_map, option_and_then}
use Rattle.std.specs.List.{sum_by, list_all}
use Rattle.std.proofs.Math.Seq.{drop-cons}
use Rattle.std.proofs.lemmas.Bool.{and_left, and_right, le-leb}
use Rattle.std.proofs.lemmas.Bool.Decides.{nat_tests}
use Rattle.std.proofs.lemmas.Option.{slice_get_cases, slice_get_read}
use Rattle.std.proofs.lemmas.List.{drop_all}
use Rattle.std.proofs.lemmas.List.Sums.{sum_by-cons}
use Rattle.marc_types.specs.Fields.{tag_of}
use Rattle.marc_types.specs.Valid.{field_size, fields_size}
use Rattle.marc_types.specs.declared.entry.Tie.{Tie}
use Rattle.marc_types.specs.declared.field.Tag.{Tag}
use Rattle.marc_types.specs.declared.field.Field.{Field}
use Rattle.marc_types.specs.declared.key.Class.{Class}
use Rattle.marc_types.specs.declared.form.Kind.{Kind}
use Rattle.iso2709_record.specs.Written.{field_terminator, field_data, field_bytes, field_length}
use Rattle.entry_record.specs.Authority.{heading_kind, is_heading_field}
use Rattle.catalogue_rules.specs.State.{KeptField, kept_field, tied}
use Rattle.catalogue_rules.specs.Valid.{reach, heading_reach}
use Rattle.catalogue_rules.proofs.Reach.{reach_of}
use Rattle.catalogue_rules.proofs.Room.{other_reach}
use Rattle.kept_rows.specs.Tests.{may_be_heading, suits_field, is_sound_field, sound_reach, is_lasting, has_sound_fields}
use Rattle.kept_rows.proofs.Headings.{no_kind}

pub length-tied : (fields : List Field) (ties : List Tie) → length ties ≡ length fields → length (tied fields ties) ≡ length fields
length-tied [] ties e = refl
length-tied (f ∷ fs) [] e = omega (arith, e)
length-tied (f ∷ fs) (t ∷ ts) e = ap suc (length-tied fs ts (omega (arith, e)))

-- the field at a place, with the tie there
pub tied_at : (fields : List Field) (ties : List Tie) (i : ℕ) (f : Field) (t : Tie) → slice_get fields i ≡ Some f → slice_get ties i ≡ Some t →
    slice_get (tied fields ties) i ≡ Some (kept_field f t)
tied_at [] ties i f t a b = cc
tied_at (g ∷ fs) [] i f t a b = cc
tied_at (g ∷ fs) (u ∷ ts) zero f t a b =
    let field : g ≡ f = cc in let tie : u ≡ t = cc in rw (field, tie) refl
tied_at (g ∷ fs) (u ∷ ts) (suc i) f t a b = tied_at fs ts i f t a b

pub none_there : (fields : List Field) (ties : List Tie) (i : ℕ) → slice_get fields i ≡ None → slice_get (tied fields ties) i ≡ None
none_there [] ties i e = refl
none_there (f ∷ fs) [] i e = refl
none_there (f ∷ fs) (t ∷ ts) zero e = cc
none_there (f ∷ fs) (t ∷ ts) (suc i) e = none_there fs ts i e

-- what is told of the field there
pub told_there : (class : Class) (fields : List Field) (ties : List Tie) (i : ℕ) (f : Field) (t : Tie) → slice_get fields i ≡ Some f → i < length ties → t ≡ get_or ties i t →
    option_and_then (sound_reach class) (slice_get (tied fields ties) i) ≡ sound_reach class (kept_field f t)
told_there class fields ties i f t field within tie =
    ap (option_and_then (sound_reach class)) (tied_at fields ties i f t field (slice_get_read ties (length ties) i t refl within tie))

pub told_none : (class : Class) (fields : List Field) (ties : List Tie) (i : ℕ) → slice_get fields i ≡ None →
    None ≡ option_and_then (sound_reach class) (slice_get (tied fields ties) i)
told_none class fields ties i e = sym (ap (option_and_then (sound_reach class)) (none_there fields ties i e))

-- ---- a field that isn't a heading field is told of unread

plain_told : (class : Class) (f : Field) (t : Tie) (b : Bool) → may_be_heading class (tag_of f) ≡ false → suits_field class (tag_of f) false t ≡ b →
    (if b then Some (field_length f) else None) ≡ sound_reach class (kept_field f t)
unfolding sound_reach is_sound_field
plain_told class f t b other suits =
    let kind = no_kind class f other in
    let plain : is_heading_field class f ≡ false = ap is_some kind in
    let far : reach class (kept_field f t) ≡ field_length f = other_reach class (kept_field f t) kind in
    rw (plain, suits, far) refl

tag_found : (o : Option Field) (tag : Tag) → option_map tag_of o ≡ Some tag → (f : Field) × (o ≡ Some f) × (tag_of f ≡ tag)
tag_found None tag e = cc
tag_found (Some f) tag e = let same : tag_of f ≡ tag = cc in (f, refl, same)

if_same : (b : Bool) (n m : ℕ) → (b ≡ true → n ≡ m) → (if b then Some n else None) ≡ (if b then Some m else None)
if_same true n m e = ap Some (e refl)
if_same false n m e = refl

pub unread : (class : Class) (fields : List Field) (ties : List Tie) (i : ℕ) (tag : Tag) (t : Tie) (b : Bool) → option_map tag_of (slice_get fields i) ≡ Some tag →
    may_be_heading class tag ≡ false → i < length ties → t ≡ get_or ties i t → suits_field class tag false t ≡ b →
    (n : ℕ) → (b ≡ true → (f : Field) → slice_get fields i ≡ Some f → n ≡ field_length f) →
    (if b then Some n else None) ≡ option_and_then (sound_reach class) (slice_get (tied fields ties) i)
unread class fields ties i tag t b at_tag other within tie suits n is =
    let found = tag_found (slice_get fields i) tag at_tag in
    let plain = plain_told class found.0 t b (ap (may_be_heading class) found.2 ∙ other) (ap (λ x. suits_field class x false t) found.2 ∙ suits) in
    if_same b n (field_length found.0) (λ yes. is yes found.0 found.1) ∙ plain ∙ sym (told_there class fields ties i found.0 t found.1 within tie)

-- ---- the loop over the fields

abbrev pub rest_size : Class → List KeptField → ℕ
rest_size class [] = 0
rest_size class (h ∷ hs) = 12 + reach class h + rest_size class hs

size_is : (class : Class) (hs : List KeptField) → rest_size class hs ≡ 12 * length hs + sum_by (reach class) hs
size_is class [] = omega arith
size_is class (h ∷ hs) = let sum = sum_by-cons (reach class) h hs in let rest = size_is class hs in omega arith

-- what is known before the field at a place
pub record IsSoundTo (class : Class) (hs : List KeptField) (i len : ℕ) : Type 0 where
  pub counted : len + rest_size class (drop i hs) ≡ 26 + rest_size class hs
  pub told : list_all (is_lasting class) (drop i hs) ≡ list_all (is_lasting class) hs
  pub below : len ≤ 26 + 10011 * i

pub none_yet : (class : Class) (hs : List KeptField) → IsSoundTo class hs 0 26
none_yet class hs = record { counted = refl; told = refl; below = omega arith }

-- the field at a place, and those behind it
pub split_there : (hs : List KeptField) (i : ℕ) → i < length hs → (h : KeptField) × (slice_get hs i ≡ Some h) × (drop i hs ≡ h ∷ drop (i + 1) hs)
split_there hs i within = at (slice_get_cases hs i).1
  where
    at : (((x : KeptField) × (i < length hs) × (slice_get hs i ≡ Some x) × (get_or hs i x ≡ x)) ⊎ ((length hs ≤ i) × (slice_get hs i ≡ None))) →
        (h : KeptField) × (slice_get hs i ≡ Some h) × (drop i hs ≡ h ∷ drop (i + 1) hs)
    at (inl found) = (found.0, found.2, rw add-one (drop-cons hs i found.0 within ∙ ap (λ g. g ∷ drop (suc i) hs) found.3))
    at (inr past) = let beyond = past.0 in absurd (omega arith)

told_far : (b : Bool) (n m : ℕ) → (if b then Some n else None) ≡ Some m → (b ≡ true) × (n ≡ m)
told_far true n m e = let same : n ≡ m = cc in (refl, same)
told_far false n m e = cc

told_not : (b : Bool) (n : ℕ) → (if b then Some n else None) ≡ None → b ≡ false
told_not true n e = cc
told_not false n e = refl

pub one_more : (class : Class) (hs : List KeptField) (i len n : ℕ) → i < length hs → Some n ≡ option_and_then (sound_reach class) (slice_get hs i) → n ≤ 9999 →
    IsSoundTo class hs i len → IsSoundTo class hs (i + 1) (len + (12 + n))
unfolding sound_reach
one_more class hs i len n within far fits known =
    let at = split_there hs i within in
    let h = at.0 in
    let is = told_far (is_sound_field class h) (reach class h) n (sym (far ∙ ap (option_and_then (sound_reach class)) at.1)) in
    let sizes = ap (rest_size class) at.2 in
    let short : nat_le (reach class h) 9999 ≡ true = le-leb (reach class h) 9999 (let own = is.1 in omega arith) in
    let lasting : is_lasting class h ≡ true = rw (is.0, short) refl in
    record {
      counted = let was = known.counted in let own = is.1 in omega arith;
      told = sym (ap (list_all (is_lasting class)) at.2 ∙ ap (λ b. b && list_all (is_lasting class) (drop (i + 1) hs)) lasting) ∙ known.told;
      below = let was = known.below in omega arith;
    }

-- a field that isn't told sound, or that becomes too long, decides
pub broken : (class : Class) (hs : List KeptField) (i : ℕ) (h : KeptField) → drop i hs ≡ h ∷ drop (i + 1) hs → is_lasting class h ≡ false →
    list_all (is_lasting class) (drop i hs) ≡ list_all (is_lasting class) hs → false ≡ has_sound_fields class hs
unfolding has_sound_fields
broken class hs i h at fails told =
    let all : list_all (is_lasting class) hs ≡ false = sym told ∙ ap (list_all (is_lasting class)) at ∙ ap (λ b. b && list_all (is_lasting class) (drop (i + 1) hs)) fails in
    sym (and_left (list_all (is_lasting class) hs) (nat_le (26 + 12 * length hs + sum_by (reach class) hs) 99999) all)

pub not_told : (class : Class) (hs : List KeptField) (i len : ℕ) → i < length hs → None ≡ option_and_then (sound_reach class) (slice_get hs i) →
    IsSoundTo class hs i len → false ≡ has_sound_fields class hs
unfolding sound_reach
not_told class hs i len within far known =
    let at = split_there hs i within in
    let h = at.0 in
    let fails = told_not (is_sound_field class h) (reach class h) (sym (far ∙ ap (option_and_then (sound_reach class)) at.1)) in
    broken class hs i h at.2 (and_left (is_sound_field class h) (nat_le (reach class h) 9999) fails) known.told

above : (n : ℕ) → 9999 < n → nat_le n 9999 ≡ false
above n h = grind (arith, nat_tests)

pub too_long : (class : Class) (hs : List KeptField) (i len n : ℕ) → i < length hs → Some n ≡ option_and_then (sound_reach class) (slice_get hs i) → 9999 < n →
    IsSoundTo class hs i len → false ≡ has_sound_fields class hs
unfolding sound_reach
too_long class hs i len n within far long known =
    let at = split_there hs i within in
    let h = at.0 in
    let is = told_far (is_sound_field class h) (reach class h) n (sym (far ∙ ap (option_and_then (sound_reach class)) at.1)) in
    let fails = above (reach class h) (let own = is.1 in omega arith) in
    broken class hs i h at.2 (and_right (is_sound_field class h) (nat_le (reach class h) 9999) fails) known.told

pub true_left : (a b : Bool) → a ≡ true → (a && b) ≡ b
true_left true b e = refl
true_left false b e = cc

-- where each field is told sound and short, the length of the whole decides
pub all_told : (class : Class) (hs : List KeptField) (i len : ℕ) → length hs ≤ i → IsSoundTo class hs i len → nat_le len 99999 ≡ has_sound_fields class hs
unfolding has_sound_fields
all_told class hs i len past known =
    let none : drop i hs ≡ [] = drop_all i hs past in
    let sizes : rest_size class (drop i hs) ≡ 0 = ap (rest_size class) none in
    let whole : len ≡ 26 + 12 * length hs + sum_by (reach class) hs = let was = known.counted in let size = size_is class hs in omega arith in
    let all : list_all (is_lasting class) hs ≡ true = sym known.told ∙ ap (list_all (is_lasting class)) none in
    ap (λ n. nat_le n 99999) whole ∙ sym (true_left (list_all (is_lasting class) hs) (nat_le (26 + 12 * length hs + sum_by (reach class) hs) 99999) all)

-- ---- lengths

pub written_length : (f : Field) → field_length f ≡ length (field_data f) + 1
unfolding field_length field_bytes
written_length f = length-append (field_data f) (field_terminator ∷ [])

field_small_at : (fields : List Field) (i : ℕ) (f : Field) → slice_get fields i ≡ Some f → field_size f ≤ fields_size fields
field_small_at [] i f e = cc
field_small_at (g ∷ fs) zero f e = let same : g ≡ f = cc in let sizes = ap field_size same in omega arith
field_small_at (g ∷ fs) (suc i) f e = let rest = field_small_at fs i f e in omega arith

pub small_there : (fields : List Field) (i : ℕ) (f : Field) → fields_size fields ≤ 1000000 → slice_get fields i ≡ Some f → field_size f ≤ 1000000
small_there fields i f small e = let own = field_small_at fields i f e in omega arith

-- ---- a field that is read

suits_told : (class : Class) (f : Field) (t : Tie) (tag : Tag) (o : Option Kind) (heading b : Bool) → tag ≡ tag_of f → o ≡ heading_kind class f → heading ≡ is_some o →
    suits_field class tag heading t ≡ b → sound_reach class (kept_field f t) ≡ (if b then Some (reach class (kept_field f t)) else None)
unfolding sound_reach is_sound_field
suits_told class f t tag o heading b at_tag kind some suits =
    let same : is_heading_field class f ≡ heading = ap is_some (sym kind) ∙ sym some in
    let all : suits_field class (tag_of f) (is_heading_field class f) t ≡ b = rw (← at_tag, same) suits in
    ap (λ (x : Bool). if x then Some (reach class (kept_field f t)) else None) all

pub heading_told : (class : Class) (f : Field) (t : Tie) (tag : Tag) (o : Option Kind) (heading : Bool) (kind : Kind) (n : ℕ) → tag ≡ tag_of f → o ≡ heading_kind class f →
    heading ≡ is_some o → suits_field class tag heading t ≡ true → o ≡ Some kind → n ≡ heading_reach class (kept_field f t) kind →
    Some n ≡ sound_reach class (kept_field f t)
heading_told class f t tag o heading kind n at_tag of some suits is far =
    let longest = reach_of class (kept_field f t) kind (sym of ∙ is) in
    ap Some (far ∙ sym longest) ∙ sym (suits_told class f t tag o heading true at_tag of some suits)

pub other_told : (class : Class) (f : Field) (t : Tie) (tag : Tag) (o : Option Kind) (heading : Bool) (n : ℕ) → tag ≡ tag_of f → o ≡ heading_kind class f →
    heading ≡ is_some o → suits_field class tag heading t ≡ true → o ≡ None → n ≡ field_length f → Some n ≡ sound_reach class (kept_field f t)
other_told class f t tag o heading n at_tag of some suits is far =
    let longest = other_reach class (kept_field f t) (sym of ∙ is) in
    ap Some (far ∙ sym longest) ∙ sym (suits_told class f t tag o heading true at_tag of some suits)
