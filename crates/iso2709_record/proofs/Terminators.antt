-- No terminator stands within what it ends.
use Rattle.std.proofs.Common.{◌≡◌, ℕ, ◌+◌, ◌/◌, ◌≤◌, Bool, true, false, List, [], ◌∷◌, ◌++◌, refl, sym, ◌∙◌, arith, lit≤}
use Rattle.std.specs.Prelude.{◌==◌}
use Rattle.std.specs.List.{flat_map, list_all, list_any}
use Rattle.std.proofs.lemmas.Bool.{and_parts, or_from, ne_eqb}
use Rattle.std.proofs.lemmas.Bool.Decides.{nat_tests}
use Rattle.std.proofs.lemmas.List.Folds.{list_any-append, list_all-append}
use Rattle.marc_types.specs.declared.field.Tag.{Tag}
use Rattle.marc_types.specs.declared.field.Leader.{Leader}
use Rattle.marc_types.specs.declared.field.Subfield.{Subfield}
use Rattle.marc_types.specs.declared.field.Field.{Field}
use Rattle.marc_types.specs.declared.field.Field.TheVariants.{Control, Variable}
use Rattle.marc_types.specs.Valid.{is_data, is_graphic, is_printable, is_alphanumeric, is_tag, is_leader, is_text, is_subfield, is_field, is_record}
use Rattle.iso2709_record.proofs.Each.{leader_valid, fields_valid}
use Rattle.iso2709_record.specs.Written.{field_terminator, record_terminator, delimiter, digit, four_digits, five_digits, subfield_bytes, field_data, field_bytes, field_length, entry_bytes, directory_bytes, leader_bytes, record_bytes, record_length, base_address}
use Rattle.marc_types.specs.Fields.{tag_of}

-- whether a byte is the mark
abbrev pub has : ℕ → List ℕ → Bool
has mark bytes = list_any (λ b. b == mark) bytes

-- a record terminator or a field terminator
pub record IsTerminator (mark : ℕ) : Type 0 where
  pub least : record_terminator ≤ mark
  pub most : mark ≤ field_terminator

no_data : (mark b : ℕ) → record_terminator ≤ mark → mark ≤ delimiter → is_data b ≡ true → (b == mark) ≡ false
no_data mark b least most h = grind (arith, nat_tests)

no_printable : (mark b : ℕ) → IsTerminator mark → is_printable b ≡ true → (b == mark) ≡ false
no_printable mark b m h = grind (arith, nat_tests)

no_graphic : (mark b : ℕ) → IsTerminator mark → is_graphic b ≡ true → (b == mark) ≡ false
no_graphic mark b m h = grind (arith, nat_tests)

no_alphanumeric : (mark b : ℕ) → IsTerminator mark → is_alphanumeric b ≡ true → (b == mark) ≡ false
no_alphanumeric mark b m h = grind (arith, nat_tests)

no_digit : (mark n : ℕ) → IsTerminator mark → (digit n == mark) ≡ false
no_digit mark n m = ne_eqb (digit n) mark (λ e. omega arith)

no_delimiter : (mark : ℕ) → IsTerminator mark → (delimiter == mark) ≡ false
no_delimiter mark m = ne_eqb delimiter mark (λ e. omega arith)

has-append : (mark : ℕ) (xs ys : List ℕ) → has mark xs ≡ false → has mark ys ≡ false → has mark (xs ++ ys) ≡ false
has-append mark xs ys p q = list_any-append (λ b. b == mark) xs ys ∙ or_from _ _ p q

has-cons : (mark b : ℕ) (xs : List ℕ) → (b == mark) ≡ false → has mark xs ≡ false → has mark (b ∷ xs) ≡ false
has-cons mark b xs p q = or_from _ _ p q

-- a text has no terminator and no delimiter
pub text_has_none : (mark : ℕ) (t : List ℕ) → record_terminator ≤ mark → mark ≤ delimiter → list_all is_data t ≡ true → has mark t ≡ false
text_has_none mark [] least most h = refl
text_has_none mark (b ∷ t) least most h =
    let parts = and_parts _ _ h in
    has-cons mark b t (no_data mark b least most parts.0) (text_has_none mark t least most parts.1)

subfield_has_none : (mark : ℕ) (s : Subfield) → IsTerminator mark → is_subfield s ≡ true → has mark (subfield_bytes s) ≡ false
unfolding is_subfield is_text subfield_bytes
subfield_has_none mark s m h =
    let parts = and_parts _ _ h in
    has-cons mark delimiter (s.code ∷ s.text) (no_delimiter mark m)
    (has-cons mark s.code s.text (no_graphic mark s.code m parts.0) (text_has_none mark s.text m.least (omega arith) parts.1))

pub subfields_have_none : (mark : ℕ) (subs : List Subfield) → IsTerminator mark → list_all is_subfield subs ≡ true
    → has mark (flat_map subfield_bytes subs) ≡ false
subfields_have_none mark [] m h = refl
subfields_have_none mark (s ∷ ss) m h =
    let parts = and_parts _ _ h in
    has-append mark (subfield_bytes s) (flat_map subfield_bytes ss) (subfield_has_none mark s m parts.0) (subfields_have_none mark ss m parts.1)

-- no terminator stands in a field's text, or in its indicators and subfields
pub field_data_has_none : (mark : ℕ) (f : Field) → IsTerminator mark → is_field f ≡ true → has mark (field_data f) ≡ false
unfolding is_field is_text field_data
field_data_has_none mark (Control t text) m h = text_has_none mark text m.least (omega arith) (and_parts _ _ h).1
field_data_has_none mark (Variable t i j subs) m h =
    let parts = and_parts _ _ h in
    let others = and_parts _ _ parts.0 in
    has-cons mark i (j ∷ flat_map subfield_bytes subs) (no_printable mark i m (and_parts _ _ others.0).1)
    (has-cons mark j (flat_map subfield_bytes subs) (no_printable mark j m others.1) (subfields_have_none mark subs m parts.1))

pub tag_valid : (f : Field) → is_field f ≡ true → is_tag (tag_of f) ≡ true
unfolding is_field
tag_valid (Control t text) h = (and_parts _ _ (and_parts _ _ h).0).0
tag_valid (Variable t i j subs) h = (and_parts _ _ (and_parts _ _ (and_parts _ _ (and_parts _ _ h).0).0).0).0

four_digits_have_none : (mark n : ℕ) → IsTerminator mark → has mark (four_digits n) ≡ false
unfolding four_digits
four_digits_have_none mark n m =
    or_from _ _ (no_digit mark (n / 1000) m) (or_from _ _ (no_digit mark (n / 100) m) (or_from _ _ (no_digit mark (n / 10) m) (or_from _ _ (no_digit mark n m) refl)))

five_digits_have_none : (mark n : ℕ) → IsTerminator mark → has mark (five_digits n) ≡ false
unfolding five_digits
five_digits_have_none mark n m =
    or_from _ _ (no_digit mark (n / 10000) m)
    (or_from _ _ (no_digit mark (n / 1000) m) (or_from _ _ (no_digit mark (n / 100) m) (or_from _ _ (no_digit mark (n / 10) m) (or_from _ _ (no_digit mark n m) refl))))

tag_has_none : (mark : ℕ) (t : Tag) → IsTerminator mark → is_tag t ≡ true → has mark (t.a ∷ t.b ∷ t.c ∷ []) ≡ false
tag_has_none mark t m h =
    let parts = and_parts _ _ h in
    let first = and_parts _ _ parts.0 in
    or_from _ _ (no_alphanumeric mark t.a m first.0) (or_from _ _ (no_alphanumeric mark t.b m first.1) (or_from _ _ (no_alphanumeric mark t.c m parts.1) refl))

pub entry_has_none : (mark start : ℕ) (f : Field) → IsTerminator mark → is_field f ≡ true → has mark (entry_bytes start f) ≡ false
unfolding entry_bytes
entry_has_none mark start f m h =
    has-append mark (((tag_of f).a ∷ (tag_of f).b ∷ (tag_of f).c ∷ []) ++ four_digits (field_length f)) (five_digits start)
    (has-append mark ((tag_of f).a ∷ (tag_of f).b ∷ (tag_of f).c ∷ []) (four_digits (field_length f))
    (tag_has_none mark (tag_of f) m (tag_valid f h)) (four_digits_have_none mark (field_length f) m))
    (five_digits_have_none mark start m)

pub directory_has_none : (mark start : ℕ) (fs : List Field) → IsTerminator mark → list_all is_field fs ≡ true → has mark (directory_bytes start fs) ≡ false
directory_has_none mark start [] m h = refl
directory_has_none mark start (f ∷ fs) m h =
    let parts = and_parts _ _ h in
    has-append mark (entry_bytes start f) (directory_bytes (start + field_length f) fs)
    (entry_has_none mark start f m parts.0) (directory_has_none mark (start + field_length f) fs m parts.1)

printables_have_none : (mark : ℕ) (bytes : List ℕ) → IsTerminator mark → list_all is_printable bytes ≡ true → has mark bytes ≡ false
printables_have_none mark [] m h = refl
printables_have_none mark (b ∷ bytes) m h =
    let parts = and_parts _ _ h in
    has-cons mark b bytes (no_printable mark b m parts.0) (printables_have_none mark bytes m parts.1)

pub leader_has_none : (mark : ℕ) (l : Leader) (fs : List Field) → IsTerminator mark → is_leader l ≡ true → has mark (leader_bytes l fs) ≡ false
unfolding leader_bytes is_leader
leader_has_none mark l fs m h =
    let size = record_length fs in
    let base = base_address fs in
    let first = l.status ∷ l.rtype ∷ l.level ∷ l.control ∷ [] in
    let last = l.encoding ∷ l.form ∷ l.linked ∷ [] in
    let coding = 97 ∷ 50 ∷ 50 ∷ [] in
    let map = 52 ∷ 53 ∷ 48 ∷ 48 ∷ [] in
    let printable = and_parts (list_all is_printable first) (list_all is_printable last) (sym (list_all-append is_printable first last) ∙ h) in
    has-append mark (five_digits size ++ (first ++ coding) ++ five_digits base) (last ++ map)
    (has-append mark (five_digits size ++ (first ++ coding)) (five_digits base)
    (has-append mark (five_digits size) (first ++ coding) (five_digits_have_none mark size m)
    (has-append mark first coding (printables_have_none mark first m printable.0) (printables_have_none mark coding m refl)))
    (five_digits_have_none mark base m))
    (has-append mark last map (printables_have_none mark last m printable.1) (printables_have_none mark map m refl))

-- fields end by field terminators, which are no record terminators
fields_have_no_record_terminator : (fs : List Field) → list_all is_field fs ≡ true → has record_terminator (flat_map field_bytes fs) ≡ false
unfolding field_bytes
fields_have_no_record_terminator [] h = refl
fields_have_no_record_terminator (f ∷ fs) h =
    let parts = and_parts _ _ h in
    let mark : IsTerminator record_terminator = record { least = lit≤ tt; most = lit≤ tt } in
    has-append record_terminator (field_data f ++ field_terminator ∷ []) (flat_map field_bytes fs)
    (has-append record_terminator (field_data f) (field_terminator ∷ []) (field_data_has_none record_terminator f mark parts.0) refl)
    (fields_have_no_record_terminator fs parts.1)

-- a written record without its terminator
abbrev pub record_front : Leader → List Field → List ℕ
record_front l fs =
    leader_bytes l fs ++ directory_bytes 0 fs ++ field_terminator ∷ [] ++ flat_map field_bytes fs

pub record_bytes-front : (l : Leader) (fs : List Field) → record_bytes l fs ≡ record_front l fs ++ record_terminator ∷ []
unfolding record_bytes
record_bytes-front l fs = refl

-- the only record terminator of a written record is its last byte
pub record_front_has_none : (l : Leader) (fs : List Field) → is_record l fs ≡ true → has record_terminator (record_front l fs) ≡ false
record_front_has_none l fs h =
    let mark : IsTerminator record_terminator = record { least = lit≤ tt; most = lit≤ tt } in
    let leader = leader_bytes l fs in
    let directory = directory_bytes 0 fs in
    has-append record_terminator (leader ++ directory ++ field_terminator ∷ []) (flat_map field_bytes fs)
    (has-append record_terminator (leader ++ directory) (field_terminator ∷ [])
    (has-append record_terminator leader directory
    (leader_has_none record_terminator l fs mark (leader_valid l fs h))
    (directory_has_none record_terminator 0 fs mark (fields_valid l fs h)))
    refl)
    (fields_have_no_record_terminator fs (fields_valid l fs h))
