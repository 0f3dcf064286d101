-- What is spelled so is one thing: no two records have one written form, and none is a front of another's.
use Rattle.std.proofs.Common.{◌≡◌, ℕ, ◌+◌, ◌≤◌, true, false, List, [], ◌∷◌, ◌++◌, length, refl, sym, ap, ◌∙◌, arith, subst, append_assoc}
use Rattle.std.proofs.lemmas.List.{append_cancel_right}
use Rattle.std.specs.Prelude.{nat_le}
use Rattle.std.specs.List.{flat_map, list_all}
use Rattle.std.proofs.lemmas.Bool.{and_parts, not-true, true≢false, leb-true}
use Rattle.marc_types.specs.declared.field.Tag.{Tag}
use Rattle.marc_types.specs.declared.field.Leader.{Leader}
use Rattle.marc_types.specs.declared.field.Subfield.{Subfield}
use Rattle.marc_types.specs.declared.field.Field.{Field}
use Rattle.marc_types.specs.declared.field.Field.TheVariants.{Control, Variable}
use Rattle.marc_types.specs.Valid.{is_data, is_text, is_subfield, is_field, is_control_tag, is_record}
use Rattle.iso2709_record.specs.Written.{field_terminator, record_terminator, delimiter, four_digits, five_digits, subfield_bytes, field_data, field_bytes, field_length, entry_bytes, directory_bytes, leader_bytes, record_bytes, base_address, fits}
use Rattle.marc_types.specs.Fields.{tag_of}
use Rattle.iso2709_record.proofs.Lengths.{length-leader_bytes, length-entry_bytes, length-directory_bytes, record_bounds}
use Rattle.iso2709_record.proofs.Each.{fields_valid, fields_short}
use Rattle.iso2709_record.proofs.Digits.{four_digits_same, five_digits_same}

-- the first parts of equal lists are equal where they have the same length, and so are the others
pub parts_same : (p q x y : List ℕ) → length p ≡ length q → p ++ x ≡ q ++ y → (p ≡ q) × (x ≡ y)
parts_same [] [] x y len e = (refl, e)
parts_same [] (b ∷ q) x y len e = absurd (omega arith)
parts_same (a ∷ p) [] x y len e = absurd (omega arith)
parts_same (a ∷ p) (b ∷ q) x y len e =
    let head : a ≡ b = cc in
    let tail : p ++ x ≡ q ++ y = cc in
    let rest = parts_same p q x y (omega arith) tail in
    let same : p ≡ q = rest.0 in
    (cc, rest.1)

-- a text has no delimiter
delimiter_is_no_data : (b : ℕ) → is_data b ≡ true → b ≡ delimiter → ⊥
delimiter_is_no_data b h e = let bad = subst (λ x. is_data x ≡ true) e h in cc

-- a text ends where a delimiter, or nothing, follows
text_spelled_once : (t u : List ℕ) (xs ys : List Subfield) → list_all is_data t ≡ true → list_all is_data u ≡ true
    → t ++ flat_map subfield_bytes xs ≡ u ++ flat_map subfield_bytes ys → (t ≡ u) × (flat_map subfield_bytes xs ≡ flat_map subfield_bytes ys)
unfolding subfield_bytes
text_spelled_once [] [] xs ys p q e = (refl, e)
text_spelled_once [] (b ∷ u) [] ys p q e = cc
text_spelled_once [] (b ∷ u) (x ∷ xs) ys p q e =
    let first : delimiter ≡ b = cc in
    absurd (delimiter_is_no_data b (and_parts _ _ q).0 (sym first))
text_spelled_once (a ∷ t) [] xs [] p q e = cc
text_spelled_once (a ∷ t) [] xs (y ∷ ys) p q e =
    let first : a ≡ delimiter = cc in
    absurd (delimiter_is_no_data a (and_parts _ _ p).0 first)
text_spelled_once (a ∷ t) (b ∷ u) xs ys p q e =
    let head : a ≡ b = cc in
    let tail : t ++ flat_map subfield_bytes xs ≡ u ++ flat_map subfield_bytes ys = cc in
    let rest = text_spelled_once t u xs ys (and_parts _ _ p).1 (and_parts _ _ q).1 tail in
    let same : t ≡ u = rest.0 in
    (cc, rest.1)

subfield_same : (x y : Subfield) → x.code ≡ y.code → x.text ≡ y.text → x ≡ y
subfield_same x y code text = λ i. record { code = code i; text = text i }

is_text_of : (s : Subfield) → is_subfield s ≡ true → list_all is_data s.text ≡ true
unfolding is_subfield is_text
is_text_of s h = (and_parts _ _ h).1

-- subfields that are spelled alike are the same
pub subfields_spelled_once : (xs ys : List Subfield) → list_all is_subfield xs ≡ true → list_all is_subfield ys ≡ true
    → flat_map subfield_bytes xs ≡ flat_map subfield_bytes ys → xs ≡ ys
unfolding subfield_bytes
subfields_spelled_once [] [] p q e = refl
subfields_spelled_once [] (y ∷ ys) p q e = cc
subfields_spelled_once (x ∷ xs) [] p q e = cc
subfields_spelled_once (x ∷ xs) (y ∷ ys) p q e =
    let code : x.code ≡ y.code = cc in
    let rest : x.text ++ flat_map subfield_bytes xs ≡ y.text ++ flat_map subfield_bytes ys = cc in
    let valid_x = and_parts _ _ p in
    let valid_y = and_parts _ _ q in
    let texts = text_spelled_once x.text y.text xs ys (is_text_of x valid_x.0) (is_text_of y valid_y.0) rest in
    let first : x ≡ y = subfield_same x y code texts.0 in
    let others : xs ≡ ys = subfields_spelled_once xs ys valid_x.1 valid_y.1 texts.1 in
    cc

is_control : (t : Tag) (text : List ℕ) → is_field (Control t text) ≡ true → is_control_tag t ≡ true
unfolding is_field
is_control t text h = (and_parts _ _ (and_parts _ _ h).0).1

is_no_control : (t : Tag) (i j : ℕ) (subs : List Subfield) → is_field (Variable t i j subs) ≡ true → is_control_tag t ≡ false
unfolding is_field
is_no_control t i j subs h = not-true _ (and_parts _ _ (and_parts _ _ (and_parts _ _ (and_parts _ _ h).0).0).0).1

-- fields of one tag with the same data are the same
pub field_spelled_once : (f g : Field) → is_field f ≡ true → is_field g ≡ true → tag_of f ≡ tag_of g → field_data f ≡ field_data g → f ≡ g
unfolding is_field field_data
field_spelled_once (Control t text) (Control u texts) p q tags bytes = cc
field_spelled_once (Control t text) (Variable u i j subs) p q tags bytes =
    let yes = is_control t text p in
    let no = is_no_control u i j subs q in
    absurd (true≢false (sym yes ∙ ap is_control_tag tags ∙ no))
field_spelled_once (Variable t i j subs) (Control u text) p q tags bytes =
    let yes = is_control u text q in
    let no = is_no_control t i j subs p in
    absurd (true≢false (sym yes ∙ ap is_control_tag (sym tags) ∙ no))
field_spelled_once (Variable t i j subs) (Variable u k l others) p q tags bytes =
    let first : i ≡ k = cc in
    let second : j ≡ l = cc in
    let rest : flat_map subfield_bytes subs ≡ flat_map subfield_bytes others = cc in
    let same = subfields_spelled_once subs others (and_parts _ _ p).1 (and_parts _ _ q).1 rest in
    cc

tag_same : (t u : Tag) → t.a ≡ u.a → t.b ≡ u.b → t.c ≡ u.c → t ≡ u
tag_same t u a b c = λ i. record { a = a i; b = b i; c = c i }

-- entries that are spelled alike have the same tag and the same length of four digits
pub entry_spelled_once : (s t : ℕ) (f g : Field) → field_length f ≤ 9999 → field_length g ≤ 9999 → entry_bytes s f ≡ entry_bytes t g
    → (tag_of f ≡ tag_of g) × (field_length f ≡ field_length g)
unfolding entry_bytes four_digits
entry_spelled_once s t f g p q e =
    let size : four_digits (field_length f) ≡ four_digits (field_length g) = cc in
    (tag_same (tag_of f) (tag_of g) (cc) (cc) (cc), four_digits_same _ _ p q size)

lengths_same : (f g : Field) → field_length f ≡ field_length g → length (field_bytes f) ≡ length (field_bytes g)
unfolding field_length
lengths_same f g e = e

data_same : (f g : Field) → field_bytes f ≡ field_bytes g → field_data f ≡ field_data g
unfolding field_bytes
data_same f g e = append_cancel_right (field_data f) (field_data g) (field_terminator ∷ []) e

-- fields that are spelled alike, in the directory and behind it, are the same, whatever follows them
pub fields_spelled_once : (s t : ℕ) (fs gs : List Field) (x y : List ℕ) → list_all is_field fs ≡ true → list_all is_field gs ≡ true
    → list_all (λ f. nat_le (field_length f) 9999) fs ≡ true → list_all (λ f. nat_le (field_length f) 9999) gs ≡ true
    → directory_bytes s fs ≡ directory_bytes t gs → flat_map field_bytes fs ++ x ≡ flat_map field_bytes gs ++ y → (fs ≡ gs) × (x ≡ y)
fields_spelled_once s t [] [] x y p q m n d e = (refl, e)
fields_spelled_once s t [] (g ∷ gs) x y p q m n d e =
    absurd (omega (arith, ap length d, length-directory_bytes s [], length-directory_bytes t (g ∷ gs)))
fields_spelled_once s t (f ∷ fs) [] x y p q m n d e =
    absurd (omega (arith, ap length d, length-directory_bytes s (f ∷ fs), length-directory_bytes t []))
fields_spelled_once s t (f ∷ fs) (g ∷ gs) x y p q m n d e =
    let valid_f = and_parts _ _ p in
    let valid_g = and_parts _ _ q in
    let short_f = and_parts _ _ m in
    let short_g = and_parts _ _ n in
    let entries = parts_same (entry_bytes s f) (entry_bytes t g) _ _ (length-entry_bytes s f ∙ sym (length-entry_bytes t g)) d in
    let named = entry_spelled_once s t f g (leb-true _ _ short_f.0) (leb-true _ _ short_g.0) entries.0 in
    let areas = parts_same (field_bytes f) (field_bytes g) _ _ (lengths_same f g named.1)
    (sym (append_assoc (field_bytes f) (flat_map field_bytes fs) x) ∙ e ∙ append_assoc (field_bytes g) (flat_map field_bytes gs) y) in
    let first : f ≡ g = field_spelled_once f g valid_f.0 valid_g.0 named.0 (data_same f g areas.0) in
    let rest = fields_spelled_once (s + field_length f) (t + field_length g) fs gs x y valid_f.1 valid_g.1
    short_f.1 short_g.1 entries.1 areas.1 in
    let others : fs ≡ gs = rest.0 in
    (cc, rest.1)

leader_same : (l m : Leader) → l.status ≡ m.status → l.rtype ≡ m.rtype → l.level ≡ m.level → l.control ≡ m.control → l.encoding ≡ m.encoding
    → l.form ≡ m.form → l.linked ≡ m.linked → l ≡ m
leader_same l m a b c d e f g =
    λ i. record { status = a i; rtype = b i; level = c i; control = d i; encoding = e i; form = f i; linked = g i }

leader_spelled_once : (l m : Leader) (fs gs : List Field) → leader_bytes l fs ≡ leader_bytes m gs
    → (l ≡ m) × (five_digits (base_address fs) ≡ five_digits (base_address gs))
unfolding leader_bytes five_digits
leader_spelled_once l m fs gs e = (leader_same l m (cc) (cc) (cc) (cc) (cc) (cc) (cc), cc)

-- what stands behind the directory, and the bytes that follow the record
abbrev behind_directory : List Field → List ℕ → List ℕ
behind_directory fs x = field_terminator ∷ (flat_map field_bytes fs ++ record_terminator ∷ x)

-- what stands behind the leader, and the bytes that follow the record
abbrev behind_leader : List Field → List ℕ → List ℕ
behind_leader fs x = directory_bytes 0 fs ++ behind_directory fs x

pub record_bytes-parts : (l : Leader) (fs : List Field) (x : List ℕ)
    → record_bytes l fs ++ x ≡ leader_bytes l fs ++ behind_leader fs x
unfolding record_bytes
record_bytes-parts l fs x = simp append_assoc

cons_tail : (a b : ℕ) (x y : List ℕ) → a ∷ x ≡ b ∷ y → x ≡ y
cons_tail a b x y e = cc

-- the written form of a record determines it, whatever follows: none is a front of another's
pub record_spelled_once : (l m : Leader) (fs gs : List Field) (x y : List ℕ) → is_record l fs ≡ true → is_record m gs ≡ true
    → fits fs ≡ true → fits gs ≡ true → record_bytes l fs ++ x ≡ record_bytes m gs ++ y → (l ≡ m) × (fs ≡ gs) × (x ≡ y)
record_spelled_once l m fs gs x y p q fits_f fits_g e =
    let leaders = parts_same (leader_bytes l fs) (leader_bytes m gs) _ _
    (length-leader_bytes l fs ∙ sym (length-leader_bytes m gs))
    (sym (record_bytes-parts l fs x) ∙ e ∙ record_bytes-parts m gs y) in
    let led = leader_spelled_once l m fs gs leaders.0 in
    let bounds_f = record_bounds l fs p in
    let bounds_g = record_bounds m gs q in
    let bases = five_digits_same (base_address fs) (base_address gs) (omega arith) (omega arith) led.1 in
    let sizes : length (directory_bytes 0 fs) ≡ length (directory_bytes 0 gs) =
    omega (arith, length-directory_bytes 0 fs, length-directory_bytes 0 gs) in
    let directories = parts_same (directory_bytes 0 fs) (directory_bytes 0 gs) _ _ sizes leaders.1 in
    let areas : flat_map field_bytes fs ++ record_terminator ∷ x ≡ flat_map field_bytes gs ++ record_terminator ∷ y =
    cons_tail _ _ _ _ directories.1 in
    let fields = fields_spelled_once 0 0 fs gs (record_terminator ∷ x) (record_terminator ∷ y)
    (fields_valid l fs p) (fields_valid m gs q) (fields_short fs fits_f) (fields_short gs fits_g) directories.0 areas in
    (led.0, fields.0, cons_tail _ _ _ _ fields.1)
