-- What the tables of codes say of `$0` and of subdivisions, and which `$0` name a key.
use Rattle.std.proofs.Common.{◌≡◌, ◌+◌, ◌==◌, ℕ, Bool, true, false, not, ◌&&◌, ◌||◌, List, ◌∷◌, ◌++◌, length, bytes_eq, refl, ap, ◌∙◌, arith, length-append}
use Rattle.std.specs.Cmp.{unsigned_Decides}
use Rattle.std.specs.List.{list_all}
use Rattle.std.proofs.lemmas.Bool.Decides.{nat_tests}
use Rattle.std.proofs.lemmas.List.Elements.{filter-append}
use Rattle.marc_types.specs.declared.field.Subfield.{Subfield}
use Rattle.marc_types.specs.declared.key.Key.{Key}
use Rattle.marc_types.specs.declared.form.Kind.{Kind}
use Rattle.marc_types.specs.declared.form.Kind.TheVariants.{Personal, Corporate, Meeting, Title, Chronological, Topical, Geographic, Genre}
use Rattle.marc_types.specs.Order.{text_Decides}
use Rattle.marc_types.specs.Valid.{is_graphic, is_data, is_text, is_subfield}
use Rattle.heading_fields.specs.Tables.{is_controlled, is_subdivision}
use Rattle.heading_fields.specs.Parts.{is_dividing, is_part}
use Rattle.heading_fields.specs.Numbers.{without_blanks, key_text, is_naming, number_of, is_blankless}
use Rattle.heading_fields.proofs.Passing.{full_from, all_from, each_append, full_weaker, filter_full}

zero_not_controlled : (kind : Kind) → is_controlled kind 48 ≡ false
unfolding is_controlled
zero_not_controlled Personal = refl
zero_not_controlled Corporate = refl
zero_not_controlled Meeting = refl
zero_not_controlled Title = refl
zero_not_controlled Chronological = refl
zero_not_controlled Topical = refl
zero_not_controlled Geographic = refl
zero_not_controlled Genre = refl

zero_not_subdivision : is_subdivision 48 ≡ false
unfolding is_subdivision
zero_not_subdivision = refl

-- a `$0` belongs to no part
zero_not_part : (whole : Bool) (kind : Kind) (s : Subfield) → s.code ≡ 48 → is_part whole kind s ≡ false
unfolding is_part
zero_not_part true kind s e = rw (e, zero_not_controlled kind, zero_not_subdivision) refl
zero_not_part false kind s e = rw (e, zero_not_controlled kind) refl

zero_not_dividing : (s : Subfield) → s.code ≡ 48 → is_dividing s ≡ false
zero_not_dividing s e = rw (e, zero_not_subdivision) refl

and_first : (a b : Bool) → (a && b) ≡ true → a ≡ true
and_first true b h = refl
and_first false b h = cc

naming_code : (key : Key) (s : Subfield) → is_naming key s ≡ true → s.code ≡ 48
unfolding is_naming
naming_code key s h = (unsigned_Decides s.code 48).0 (and_first (s.code == 48) (bytes_eq (without_blanks s.text) (key_text key)) h)

not_naming_at : (key : Key) (s : Subfield) (test : Subfield → Bool) → ((t : Subfield) → t.code ≡ 48 → test t ≡ false) → (b : Bool) → is_naming key s ≡ b → test s ≡ true → b ≡ false
not_naming_at key s test zero true e h = let clash = zero s (naming_code key s e) in cc
not_naming_at key s test zero false e h = refl

-- a subfield of a part names no key, and neither does one that begins a subdivision
pub part_not_naming : (whole : Bool) (kind : Kind) (key : Key) (s : Subfield) → is_part whole kind s ≡ true → is_naming key s ≡ false
part_not_naming whole kind key s h = not_naming_at key s (is_part whole kind) (zero_not_part whole kind) (is_naming key s) refl h

pub dividing_not_naming : (key : Key) (s : Subfield) → is_dividing s ≡ true → not (is_naming key s) ≡ true
dividing_not_naming key s h = ap not (not_naming_at key s is_dividing zero_not_dividing (is_naming key s) refl h)

-- a `$0` of a key belongs to no part and begins no subdivision
pub number_not_part : (whole : Bool) (kind : Kind) (key : Key) → is_part whole kind (number_of key) ≡ false
number_not_part whole kind key = zero_not_part whole kind (number_of key) refl

pub number_not_dividing : (key : Key) → is_dividing (number_of key) ≡ false
number_not_dividing key = zero_not_dividing (number_of key) refl

or_first : (a b : Bool) → (a || b) ≡ false → a ≡ false
or_first true b h = cc
or_first false b h = refl

or_second : (a b : Bool) → (a || b) ≡ false → b ≡ false
or_second true b h = cc
or_second false b h = h

-- what is outside a full part begins no subdivision, and is outside the base part
pub outside_not_dividing : (kind : Kind) (s : Subfield) → is_part true kind s ≡ false → is_dividing s ≡ false
unfolding is_part
outside_not_dividing kind s h = or_second (is_controlled kind s.code) (is_subdivision s.code) h

pub outside_base : (kind : Kind) (s : Subfield) → is_part true kind s ≡ false → is_part false kind s ≡ false
unfolding is_part
outside_base kind s h = rw (or_first (is_controlled kind s.code) (is_subdivision s.code) h) refl

or_true : (a : Bool) → (a || true) ≡ true
or_true true = refl
or_true false = refl

-- a subdivision belongs to the full part; before the first one the full part is the base part
pub dividing_is_part : (kind : Kind) (s : Subfield) → is_dividing s ≡ true → is_part true kind s ≡ true
unfolding is_part
dividing_is_part kind s h = rw h (or_true (is_controlled kind s.code))

pub undivided_part : (kind : Kind) (s : Subfield) → is_dividing s ≡ false → is_part true kind s ≡ is_part false kind s
unfolding is_part
undivided_part kind s h = rw h refl

and_second : (a b : Bool) → (a && b) ≡ true → b ≡ true
and_second true b h = h
and_second false b h = cc

blankless : (xs : List ℕ) → list_all (λ b. not (b == 0x20)) xs ≡ true → without_blanks xs ≡ xs
blankless xs e = filter_full (λ b. not (b == 0x20)) xs (full_from (λ b. not (b == 0x20)) xs e)

-- the text of a key without blanks has no blank
blankless_key_text : (key : Key) → is_blankless key ≡ true → without_blanks (key_text key) ≡ key_text key
unfolding key_text is_blankless
blankless_key_text key h =
    let filled = λ (b : ℕ). not (b == 0x20) in
    let split = filter-append filled key.code (0x29 ∷ key.number) in
    let code = blankless key.code (and_first (list_all filled key.code) (list_all filled key.number) h) in
    let number = blankless key.number (and_second (list_all filled key.code) (list_all filled key.number) h) in
    ap (λ xs. 0x28 ∷ xs) (split ∙ rw (code, number) refl)

-- the `$0` of such a key names the key
pub number_is_naming : (key : Key) → is_blankless key ≡ true → is_naming key (number_of key) ≡ true
unfolding is_naming
number_is_naming key h = (text_Decides (without_blanks (key_text key)) (key_text key)).1 (blankless_key_text key h)

-- the `$0` of a key is a subfield as records have them
pub number_is_subfield : (key : Key) → is_text key.code ≡ true → is_text key.number ≡ true → is_subfield (number_of key) ≡ true
unfolding is_subfield is_text key_text
number_is_subfield key hc hn =
    all_from is_data (0x28 ∷ key.code ++ 0x29 ∷ key.number)
    (refl, each_append true is_data key.code (0x29 ∷ key.number) (full_from is_data key.code hc) (refl, full_from is_data key.number hn))

-- the length of a key's text
pub length-key_text : (key : Key) → length (key_text key) ≡ length key.code + length key.number + 2
unfolding key_text
length-key_text key = omega (arith, length-append key.code (0x29 ∷ key.number))

graphic_not_blank : (b : ℕ) → is_graphic b ≡ true → not (b == 0x20) ≡ true
graphic_not_blank b h = grind (arith, nat_tests, h)

graphic_is_data : (b : ℕ) → is_graphic b ≡ true → is_data b ≡ true
graphic_is_data b h = grind (arith, nat_tests, h)

-- a key of graphic characters has no blanks, and its texts have no terminators and delimiters
pub graphic_is_blankless : (key : Key) → list_all is_graphic key.code ≡ true → list_all is_graphic key.number ≡ true → is_blankless key ≡ true
unfolding is_blankless
graphic_is_blankless key hc hn =
    let filled = λ (b : ℕ). not (b == 0x20) in
    let code = all_from filled key.code (full_weaker is_graphic filled graphic_not_blank key.code (full_from is_graphic key.code hc)) in
    let number = all_from filled key.number (full_weaker is_graphic filled graphic_not_blank key.number (full_from is_graphic key.number hn)) in
    rw (code, number) refl

pub graphic_is_text : (xs : List ℕ) → list_all is_graphic xs ≡ true → is_text xs ≡ true
unfolding is_text
graphic_is_text xs h = all_from is_data xs (full_weaker is_graphic is_data graphic_is_data xs (full_from is_graphic xs h))
