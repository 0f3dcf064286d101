-- Which key a `$0` names, and how many forms a field asks for.
use Rattle.std.proofs.Common.{◌≡◌, ℕ, zero, suc, ◌+◌, ◌≤◌, ◌<◌, Bool, true, false, ◌&&◌, ◌||◌, not, cond, List, [], ◌∷◌, ◌++◌, length, Option, Some, None, refl, sym, ap, ◌∙◌, subst, if◌then◌else◌, arith}
use Rattle.std.specs.Prelude.{◌==◌, filter, bytes_eq, get_or, nat_le, nat_lt, take, drop}
use Rattle.std.specs.Cmp.{unsigned_Decides}
use Rattle.std.specs.List.{list_all, before_first, after_first, position_or_len}
use Rattle.std.specs.Option.{option_map_or}
use Rattle.std.proofs.lemmas.Bool.{and_parts, ltb-true, ltb-false}
use Rattle.std.proofs.lemmas.List.Sums.{split_at_first, passes_at_first}
use Rattle.marc_types.specs.Order.{key_Decides, text_Decides, same_key}
use Rattle.marc_types.specs.Valid.{is_code_byte, is_code, is_number}
use Rattle.marc_types.specs.declared.field.Subfield.{Subfield}
use Rattle.marc_types.specs.declared.key.Class.{Class}
use Rattle.marc_types.specs.declared.key.Key.{Key}
use Rattle.marc_types.specs.declared.form.Kind.{Kind}
use Rattle.marc_types.specs.declared.form.Form.{Form}
use Rattle.marc_types.specs.Fields.{tag_of}
use Rattle.heading_fields.specs.Numbers.{without_blanks, key_text, is_naming}
use Rattle.heading_fields.specs.Tables.{is_subdividable}
use Rattle.entry_record.specs.Authority.{Linkable, is_left_parenthesis, is_right_parenthesis, is_valid_key, key_split_at_parenthesis, key_of_text, full_form, base_form}
use Rattle.catalogue_rules.specs.State.{KeptField}
use Rattle.catalogue_rules.specs.Choice.{takes_subdivisions, has_subdivision, asks_base}
use Rattle.catalogue_rules.specs.Valid.{IsTied}
use Rattle.linking_laws.specs.Waiting.{asked_full, asked_base, asked_forms, is_form_among}

-- ---- the text of a key reads as the key

not_so : (b : Bool) → not b ≡ true → b ≡ false
not_so true e = cc
not_so false e = refl

code_end : (b : ℕ) → is_code_byte b ≡ true → is_right_parenthesis b ≡ false
code_end b e = not_so (b == 41) (and_parts (nat_le 0x21 b && nat_le b 0x7e && not (b == 40)) (not (b == 41)) e).1

code_length : (code number : List ℕ) → list_all is_code_byte code ≡ true → position_or_len is_right_parenthesis (code ++ 0x29 ∷ number) ≡ length code
code_length [] number e = refl
code_length (b ∷ code) number e =
    let parts = and_parts (is_code_byte b) (list_all is_code_byte code) e in
    let rest = code_length code number parts.1 in
    let here : position_or_len is_right_parenthesis (b ∷ code ++ 0x29 ∷ number) ≡ 1 + position_or_len is_right_parenthesis (code ++ 0x29 ∷ number) =
    ap (λ (x : Bool). cond (not x) (1 + position_or_len is_right_parenthesis (code ++ 0x29 ∷ number)) 0) (code_end b parts.0) in
    omega arith

front : (xs ys : List ℕ) → take (length xs) (xs ++ ys) ≡ xs
front [] [] = refl
front [] (y ∷ ys) = refl
front (x ∷ xs) ys = ap (λ (l : List ℕ). x ∷ l) (front xs ys)

none_dropped : (ys : List ℕ) → drop 0 ys ≡ ys
none_dropped [] = refl
none_dropped (y ∷ ys) = refl

back : (xs : List ℕ) (y : ℕ) (ys : List ℕ) → drop (suc (length xs)) (xs ++ y ∷ ys) ≡ ys
back [] y ys = none_dropped ys
back (x ∷ xs) y ys = back xs y ys

behind : (xs : List ℕ) (n y : ℕ) (ys : List ℕ) → n ≡ length xs → drop (n + 1) (xs ++ y ∷ ys) ≡ ys
behind xs n y ys e =
    let last : n + 1 ≡ suc (length xs) = omega arith in
    ap (λ (m : ℕ). drop m (xs ++ y ∷ ys)) last ∙ back xs y ys

code_of : (key : Key) → is_valid_key key ≡ true → list_all is_code_byte key.code ≡ true
unfolding is_code
code_of key valid =
    (and_parts (nat_le 1 (length key.code) && nat_le (length key.code) 16) (list_all is_code_byte key.code) (and_parts (is_code key.code) (is_number key.number) valid).0).1

split_again : (key : Key) → is_valid_key key ≡ true → key_split_at_parenthesis (key.code ++ 0x29 ∷ key.number) ≡ key
split_again key valid =
    let at = code_length key.code key.number (code_of key valid) in
    let text = key.code ++ 0x29 ∷ key.number in
    let code : before_first is_right_parenthesis text ≡ key.code = ap (λ (n : ℕ). take n text) at ∙ front key.code (0x29 ∷ key.number) in
    let number : after_first is_right_parenthesis text ≡ key.number = behind key.code (position_or_len is_right_parenthesis text) 0x29 key.number at in
    λ i. record { code = code i; number = number i }

read_again : (key : Key) → is_valid_key key ≡ true → key_of_text (key_text key) ≡ Some key
unfolding key_text key_of_text
read_again key valid =
    ap (λ (k : Key). if is_valid_key k then Some k else None) (split_again key valid) ∙ ap (λ (b : Bool). if b then Some key else None) valid

-- ---- and nothing else does

some_number : (key : Key) → is_valid_key key ≡ true → key.number ≡ [] → ⊥
unfolding is_number
some_number key valid e =
    let number : is_number key.number ≡ true = (and_parts (is_code key.code) (is_number key.number) valid).1 in
    let none : is_number key.number ≡ false = ap is_number e in
    cc

all_dropped : (n : ℕ) (xs : List ℕ) → length xs ≤ n → drop n xs ≡ []
all_dropped zero [] low = refl
all_dropped (suc n) [] low = refl
all_dropped zero (x ∷ xs) low = absurd (omega arith)
all_dropped (suc n) (x ∷ xs) low = all_dropped n xs (omega arith)

joined : (rest : List ℕ) (b : Bool) → nat_lt (position_or_len is_right_parenthesis rest) (length rest) ≡ b → is_valid_key (key_split_at_parenthesis rest) ≡ true →
    rest ≡ before_first is_right_parenthesis rest ++ 0x29 ∷ after_first is_right_parenthesis rest
joined rest true e valid =
    let low : position_or_len is_right_parenthesis rest < length rest = ltb-true (position_or_len is_right_parenthesis rest) (length rest) e in
    let there : get_or rest (position_or_len is_right_parenthesis rest) 0 ≡ 0x29 =
    (unsigned_Decides (get_or rest (position_or_len is_right_parenthesis rest) 0) 0x29).0 (passes_at_first is_right_parenthesis rest 0 low) in
    split_at_first is_right_parenthesis rest 0 low ∙ ap (λ (x : ℕ). before_first is_right_parenthesis rest ++ x ∷ after_first is_right_parenthesis rest) there
joined rest false e valid =
    let high : length rest ≤ position_or_len is_right_parenthesis rest = ltb-false (position_or_len is_right_parenthesis rest) (length rest) e in
    absurd (some_number (key_split_at_parenthesis rest) valid (all_dropped (position_or_len is_right_parenthesis rest + 1) rest (omega arith)))

text_of_split : (key : Key) (b : ℕ) (rest : List ℕ) (open_is valid_is : Bool) → is_left_parenthesis b ≡ open_is → is_valid_key (key_split_at_parenthesis rest) ≡ valid_is →
    option_map_or (same_key key) (if open_is then (if valid_is then Some (key_split_at_parenthesis rest) else None) else None) false ≡ true → b ∷ rest ≡ key_text key
unfolding key_text
text_of_split key b rest true true e valid same =
    let first : b ≡ 0x28 = (unsigned_Decides b 0x28).0 e in
    let is : key ≡ key_split_at_parenthesis rest = (key_Decides key (key_split_at_parenthesis rest)).0 same in
    let whole = joined rest (nat_lt (position_or_len is_right_parenthesis rest) (length rest)) refl valid in
    ap (λ (x : ℕ). x ∷ rest) first ∙ ap (λ (l : List ℕ). 0x28 ∷ l) whole ∙ ap (λ (k : Key). 0x28 ∷ k.code ++ 0x29 ∷ k.number) (sym is)
text_of_split key b rest true false e valid same = cc
text_of_split key b rest false v e valid same = cc

reads_as : (key : Key) (text : List ℕ) → option_map_or (same_key key) (key_of_text text) false ≡ true → text ≡ key_text key
unfolding key_of_text
reads_as key [] e = cc
reads_as key (b ∷ rest) e = text_of_split key b rest (is_left_parenthesis b) (is_valid_key (key_split_at_parenthesis rest)) refl refl e

pub same_tests : (a b : Bool) → (a ≡ true → b ≡ true) → (b ≡ true → a ≡ true) → a ≡ b
same_tests true b f g = sym (f refl)
same_tests false true f g = g refl
same_tests false false f g = refl

names_text : (key : Key) (text : List ℕ) → is_valid_key key ≡ true → bytes_eq text (key_text key) ≡ option_map_or (same_key key) (key_of_text text) false
names_text key text valid =
    same_tests (bytes_eq text (key_text key)) (option_map_or (same_key key) (key_of_text text) false)
    (λ e. ap (λ (t : List ℕ). option_map_or (same_key key) (key_of_text t) false) ((text_Decides text (key_text key)).0 e)
    ∙ ap (λ (o : Option Key). option_map_or (same_key key) o false) (read_again key valid) ∙ (key_Decides key key).1 refl)
    (λ e. (text_Decides text (key_text key)).1 (reads_as key text e))

pub naming_is : (key : Key) (s : Subfield) → is_valid_key key ≡ true →
    is_naming key s ≡ ((s.code == 48) && option_map_or (same_key key) (key_of_text (without_blanks s.text)) false)
unfolding is_naming
naming_is key s valid = ap (λ (b : Bool). (s.code == 48) && b) (names_text key (without_blanks s.text) valid)

-- ---- how many forms a field asks for

-- without subdivisions a tied field isn't whole, and so it is looked up by its base
base_asked : (all : List Linkable) (class : Class) (h : KeptField) (b : Bool) → h.tie.whole ≡ b → IsTied all class h → takes_subdivisions class h ≡ false → asks_base class h ≡ true
base_asked all class h true e t off = let on : is_subdividable class (tag_of h.field) ≡ true = t.whole e in cc
base_asked all class h false e t off =
    ap (λ (w : Bool). not w && (not (takes_subdivisions class h) || has_subdivision h)) e ∙ ap (λ (s : Bool). not s || has_subdivision h) off

some_asked : (class : Class) (kind : Kind) (h : KeptField) (takes asks : Bool) → takes_subdivisions class h ≡ takes → asks_base class h ≡ asks → (takes ≡ false → asks ≡ true) →
    1 ≤ length (asked_forms class kind h)
unfolding asked_forms
some_asked class kind h true asks e f one =
    let full : asked_full class kind h ≡ full_form kind class h.field ∷ [] = ap (λ (b : Bool). if b then full_form kind class h.field ∷ [] else []) e in
    subst (λ (l : List Form). 1 ≤ length (l ++ filter (λ form. not (is_form_among l form)) (asked_base class kind h))) (sym full) (omega arith)
some_asked class kind h false true e f one =
    let full : asked_full class kind h ≡ [] = ap (λ (b : Bool). if b then full_form kind class h.field ∷ [] else []) e in
    let base : asked_base class kind h ≡ base_form kind h.field ∷ [] = ap (λ (b : Bool). if b then base_form kind h.field ∷ [] else []) f in
    subst (λ (l : List Form). 1 ≤ length (l ++ filter (λ form. not (is_form_among l form)) (asked_base class kind h))) (sym full)
    (subst (λ (l : List Form). 1 ≤ length (filter (λ form. not (is_form_among [] form)) l)) (sym base) (omega arith))
some_asked class kind h false false e f one = let on = one refl in cc

pub asks_something : (all : List Linkable) (class : Class) (kind : Kind) (h : KeptField) → IsTied all class h → 1 ≤ length (asked_forms class kind h)
asks_something all class kind h t =
    some_asked class kind h (takes_subdivisions class h) (asks_base class h) refl refl (λ off. base_asked all class h h.tie.whole refl t off)

most_kept : (test : Form → Bool) (b : Bool) (x : Form) → length (filter test (if b then x ∷ [] else [])) ≤ 1
most_kept test false x = omega arith
most_kept test true x = at (test x)
  where
    at : (c : Bool) → length (cond c (x ∷ []) []) ≤ 1
    at true = omega arith
    at false = omega arith

most_full : (b : Bool) (x : Form) (more : List Form) → length more ≤ 1 → length ((if b then x ∷ [] else []) ++ more) ≤ 2
most_full true x more few = omega arith
most_full false x more few = omega arith

pub asks_few : (class : Class) (kind : Kind) (h : KeptField) → length (asked_forms class kind h) ≤ 2
unfolding asked_forms
asks_few class kind h =
    most_full (takes_subdivisions class h) (full_form kind class h.field) (filter (λ form. not (is_form_among (asked_full class kind h) form)) (asked_base class kind h))
    (most_kept (λ form. not (is_form_among (asked_full class kind h) form)) (asks_base class h) (base_form kind h.field))
