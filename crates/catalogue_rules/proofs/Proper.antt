-- The linkable authorities of rows in key order: each is found by its own key, and is as the authorities that fields are
-- linked to have to be.
use Rattle.std.proofs.Common.{◌≡◌, ◌≢◌, ℕ, ◌≤◌, ◌==◌, Bool, true, false, ◌&&◌, not, List, [], ◌∷◌, map, length, Option, Some, None, refl, arith, if◌then◌else◌}
use Rattle.std.specs.Prelude.{find, filter, filter_map, nat_le, option_and_then}
use Rattle.std.specs.List.{list_all, AllByRecursion, cons_option}
use Rattle.std.specs.List.Sorted.{IsStrictlySortedBy}
use Rattle.std.specs.Map.{keys_of}
use Rattle.std.specs.Option.{option_map}
use Rattle.std.specs.declared.cmp.Ordering.TheVariants.{Less}
use Rattle.std.specs.Cmp.{eq_by_cmp_equiv}
use Rattle.std.proofs.lemmas.Bool.{leb-true, and_parts}
use Rattle.std.proofs.lemmas.Grind.{common_steps}
use Rattle.marc_types.specs.Valid.{is_code, is_code_byte, is_number, is_graphic, subfields_size}
use Rattle.marc_types.specs.Order.{key_cmp, key_cmp_total, same_key}
use Rattle.marc_types.specs.declared.field.Field.{Field}
use Rattle.marc_types.specs.declared.key.Class.TheVariants.{Authority}
use Rattle.marc_types.specs.declared.key.Key.{Key}
use Rattle.marc_types.specs.declared.form.Kind.{Kind}
use Rattle.marc_types.specs.declared.form.Form.{Form}
use Rattle.heading_fields.specs.Tables.{authority_kind_of, is_subdividable}
use Rattle.heading_fields.specs.Parts.{part, base_part, full_part}
use Rattle.marc_types.specs.Fields.{tag_of, subfields_of}
use Rattle.heading_fields.specs.Numbers.{is_blankless}
use Rattle.naco_form.specs.Form.{form_of, items_of}
use Rattle.entry_record.specs.Authority.{Linkable, is_heading, heading_of, full_form, has_form, option_filter, is_short_in_full, is_tracing_of, see_from_forms, linkable_kind, linkable_with, linkable_by, linkable_of}
use Rattle.catalogue_rules.specs.State.{Row, fields_of, row_linkable}
use Rattle.catalogue_rules.specs.Choice.{has_key}
use Rattle.catalogue_rules.specs.Valid.{IsAscending, IsRow}
use Rattle.catalogue_rules.proofs.Elements.{Each, each_anything, each_weaker, each_both, find_found}
use Rattle.catalogue_rules.proofs.Fit.{IsFit, formed_of}

-- ---- a key of a record has no blank

code_byte_filled : (b : ℕ) → is_code_byte b ≡ true → not (b == 0x20) ≡ true
code_byte_filled b h = grind (arith, common_steps)

graphic_filled : (b : ℕ) → is_graphic b ≡ true → not (b == 0x20) ≡ true
graphic_filled b h = grind (arith, common_steps)

all_weaker : (p q : ℕ → Bool) → ((b : ℕ) → p b ≡ true → q b ≡ true) → (bs : List ℕ) → list_all p bs ≡ true → list_all q bs ≡ true
all_weaker p q f [] h = refl
all_weaker p q f (b ∷ bs) h = let both = and_parts (p b) (list_all p bs) h in rw (f b both.0) (all_weaker p q f bs both.1)

-- code and number are short, and neither has a blank
pub record IsKeyOfRecord (key : Key) : Type 0 where
  pub blankless : is_blankless key ≡ true
  pub code : length key.code ≤ 16
  pub number : length key.number ≤ 64

pub key_of_record : (key : Key) → is_code key.code ≡ true → is_number key.number ≡ true → IsKeyOfRecord key
unfolding is_code is_number is_blankless
key_of_record key c n =
    let code = and_parts (nat_le 1 (length key.code) && nat_le (length key.code) 16) (list_all is_code_byte key.code) c in
    let number = and_parts (nat_le 1 (length key.number) && nat_le (length key.number) 64) (list_all is_graphic key.number) n in
    let short_code = and_parts (nat_le 1 (length key.code)) (nat_le (length key.code) 16) code.0 in
    let short_number = and_parts (nat_le 1 (length key.number)) (nat_le (length key.number) 64) number.0 in
    record {
      blankless = rw (all_weaker is_code_byte (λ b. not (b == 0x20)) code_byte_filled key.code code.1) (all_weaker is_graphic (λ b. not (b == 0x20)) graphic_filled key.number number.1);
      code = leb-true (length key.code) 16 short_code.1;
      number = leb-true (length key.number) 64 short_number.1;
    }

-- ---- what a linkable authority is by itself

pub record IsProper (key : Key) (c : Linkable) : Type 0 where
  pub key_is : c.key ≡ key
  pub heading_part : base_part c.kind c.heading ≢ []
  pub formed : has_form c.heading c.kind ≡ true
  pub short : subfields_size (part true c.kind (subfields_of c.heading)) ≤ 512
  pub established : c.established.kind ≡ c.kind
  pub see_from : Each (λ (f : Form). f.kind ≡ c.kind) c.see_from

pub no_form : (f : Field) (kind : Kind) → base_part kind f ≡ [] → has_form f kind ≡ false
unfolding has_form form_of items_of
no_form f kind e = rw e refl

pub part_of_form : (f : Field) (kind : Kind) → has_form f kind ≡ true → base_part kind f ≢ []
part_of_form f kind h e = let no = no_form f kind e in cc

takes_heading : (f : Field) → is_heading f ≡ true → is_subdividable Authority (tag_of f) ≡ true
unfolding is_subdividable
takes_heading f h = rw h refl

full_of_heading : (f : Field) (kind : Kind) → is_heading f ≡ true → full_part kind Authority f ≡ part true kind (subfields_of f)
full_of_heading f kind h = rw (takes_heading f h) refl

forms_of_kind : (kind : Kind) (fs : List Field) → Each (λ (f : Form). f.kind ≡ kind) (map (full_form kind Authority) fs)
forms_of_kind kind [] = tt
forms_of_kind kind (f ∷ fs) = (formed_of kind (full_part kind Authority f), forms_of_kind kind fs)

see_from_kind : (kind : Kind) (fields : List Field) → Each (λ (f : Form). f.kind ≡ kind) (see_from_forms kind fields)
unfolding see_from_forms
see_from_kind kind fields = forms_of_kind kind (filter (is_tracing_of kind) fields)

pub option_passes : {A : Type 0} (test : A → Bool) (x : A) (o : Option A) → option_filter test o ≡ Some x → (o ≡ Some x) × (test x ≡ true)
option_passes test x None e = cc
option_passes test x (Some y) e = at (test y) refl e
  where
    at : (b : Bool) → test y ≡ b → (if b then Some y else None) ≡ Some x → (Some y ≡ Some x) × (test x ≡ true)
    at true t h = let same : y ≡ x = cc in (h, rw (← same) t)
    at false t h = cc

kind_of_linkable : (f : Field) (kind : Kind) → linkable_kind f ≡ Some kind → (has_form f kind && is_short_in_full f kind) ≡ true
unfolding linkable_kind
kind_of_linkable f kind e = (option_passes (λ k. has_form f k && is_short_in_full f k) kind (authority_kind_of (tag_of f)) e).1

proper_with : (key : Key) (fields : List Field) (f : Field) (kind : Kind) → is_heading f ≡ true → linkable_kind f ≡ Some kind → IsProper key (linkable_with key fields f kind)
proper_with key fields f kind h e =
    let both = and_parts (has_form f kind) (is_short_in_full f kind) (kind_of_linkable f kind e) in
    let short : subfields_size (full_part kind Authority f) ≤ 512 = leb-true (subfields_size (full_part kind Authority f)) 512 both.1 in
    record {
      key_is = refl;
      heading_part = part_of_form f kind both.0;
      formed = both.0;
      short = rw (full_of_heading f kind h) at short;
      established = formed_of kind (full_part kind Authority f);
      see_from = see_from_kind kind fields;
    }

proper_by_kind : (key : Key) (fields : List Field) (f : Field) (c : Linkable) (o : Option Kind) → is_heading f ≡ true → linkable_kind f ≡ o →
    option_map (linkable_with key fields f) o ≡ Some c → IsProper key c
proper_by_kind key fields f c None h e s = cc
proper_by_kind key fields f c (Some kind) h e s =
    let same : linkable_with key fields f kind ≡ c = cc in rw (← same) (proper_with key fields f kind h e)

proper_by : (key : Key) (fields : List Field) (c : Linkable) (o : Option Field) → heading_of fields ≡ o →
    option_and_then (linkable_by key fields) o ≡ Some c → IsProper key c
proper_by key fields c None e s = cc
proper_by key fields c (Some f) e s =
    let found = find_found (λ (g : Field). Unit {0}) is_heading fields f (each_anything fields) e in
    proper_by_kind key fields f c (linkable_kind f) found.1 refl s

pub proper_linkable : (key : Key) (fields : List Field) (c : Linkable) → linkable_of key fields ≡ Some c → IsProper key c
unfolding linkable_of
proper_linkable key fields c e = proper_by key fields c (heading_of fields) refl e

-- ---- among others

-- what holds of each row holds of each linkable authority
pub each_linkable : (P : Row → Type 0) (Q : Linkable → Type 0) → ((row : Row) (c : Linkable) → P row → row_linkable row ≡ Some c → Q c) →
    (rows : List Row) → Each P rows → Each Q (filter_map row_linkable rows)
each_linkable P Q f [] a = tt
each_linkable P Q f (row ∷ rows) a = at (filter_map row_linkable rows) (row_linkable row) refl (each_linkable P Q f rows a.1)
  where
    at : (xs : List Linkable) (o : Option Linkable) → row_linkable row ≡ o → Each Q xs → Each Q (cons_option o xs)
    at xs None e b = b
    at xs (Some c) e b = (f row c a.0 e, b)

apart : (j k : Key) → key_cmp j k ≡ Less → same_key k j ≡ false
apart j k e = let turned = key_cmp_total.antisymm k j in rw turned (rw e refl)

keys_each : (P : Key → Type 0) (rows : List Row) → AllByRecursion P (keys_of rows) → Each (λ (row : Row). P row.0) rows
keys_each P [] a = tt
keys_each P (row ∷ rows) a = (a.0, keys_each P rows a.1)

later_apart : (key : Key) (rows : List Row) → AllByRecursion (λ k. key_cmp key k ≡ Less) (keys_of rows) → Each (λ (c : Linkable). same_key c.key key ≡ false) (filter_map row_linkable rows)
later_apart key rows a =
    each_linkable (λ row. key_cmp key row.0 ≡ Less) (λ c. same_key c.key key ≡ false)
    (λ row c l e. rw ((proper_linkable row.0 (fields_of row.1) c e).key_is) (apart key row.0 l)) rows (keys_each (λ k. key_cmp key k ≡ Less) rows a)

abbrev IsFoundIn : List Linkable → Linkable → Type 0
IsFoundIn list c = find (has_key c.key) list ≡ Some c

found_behind : (c : Linkable) (xs : List Linkable) → Each (λ (d : Linkable). same_key d.key c.key ≡ false) xs → (ys : List Linkable) → Each (IsFoundIn ys) xs → Each (IsFoundIn (c ∷ ys)) xs
found_behind c [] a ys b = tt
found_behind c (d ∷ xs) a ys b = (rw a.0 b.0, found_behind c xs a.1 ys b.1)

found_with : (row : Row) (xs : List Linkable) (o : Option Linkable) → row_linkable row ≡ o → Each (λ (d : Linkable). same_key d.key row.0 ≡ false) xs → Each (IsFoundIn xs) xs →
    Each (IsFoundIn (cons_option o xs)) (cons_option o xs)
found_with row xs None e a b = b
found_with row xs (Some c) e a b =
    let own : same_key c.key c.key ≡ true = (eq_by_cmp_equiv key_cmp_total).refl c.key in
    let proper = proper_linkable row.0 (fields_of row.1) c e in
    let apart_from : Each (λ (d : Linkable). same_key d.key c.key ≡ false) xs = rw (proper.key_is) a in
    (rw own refl, found_behind c xs apart_from xs b)

all_found : (rows : List Row) → IsAscending rows → Each (IsFoundIn (filter_map row_linkable rows)) (filter_map row_linkable rows)
unfolding IsStrictlySortedBy
all_found [] s = tt
all_found (row ∷ rows) s =
    found_with row (filter_map row_linkable rows) (row_linkable row) refl (later_apart row.0 rows s.0) (all_found rows s.1)

-- a linkable authority under a key
record IsApt (c : Linkable) : Type 0 where
  of_record : IsKeyOfRecord c.key
  key : Key
  proper : IsProper key c

key_apt : (key : Key) (c : Linkable) → IsKeyOfRecord key → IsProper key c → IsKeyOfRecord c.key
key_apt key c k p = rw (p.key_is) k

apt : (row : Row) (c : Linkable) → IsRow Authority row → row_linkable row ≡ Some c → IsApt c
apt row c r e =
    let proper = proper_linkable row.0 (fields_of row.1) c e in
    record { of_record = key_apt row.0 c (key_of_record row.0 r.code r.number) proper; key = row.0; proper = proper }

fit_from : (list : List Linkable) (c : Linkable) → IsFoundIn list c → IsApt c → IsFit list c
fit_from list c f a = record {
  found = f;
  blankless = a.of_record.blankless;
  code = a.of_record.code;
  number = a.of_record.number;
  heading_part = a.proper.heading_part;
  formed = a.proper.formed;
  short = a.proper.short;
  established = a.proper.established;
  see_from = a.proper.see_from;
}

-- the linkable authorities of rows in key order are fit to be linked to
pub all_fit : (rows : List Row) → IsAscending rows → Each (IsRow Authority) rows → Each (IsFit (filter_map row_linkable rows)) (filter_map row_linkable rows)
all_fit rows s r =
    let list = filter_map row_linkable rows in
    each_weaker (λ c. IsFoundIn list c × IsApt c) (IsFit list) (λ c both. fit_from list c both.0 both.1) list
    (each_both (IsFoundIn list) IsApt list (all_found rows s) (each_linkable (IsRow Authority) IsApt apt rows r))
