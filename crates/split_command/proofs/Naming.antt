-- The names of a split: no two are the same.
use Rattle.std.proofs.Common.{length, slice_index_or, ◌≡◌, ◌≢◌, ◌∙◌, ℕ, zero, suc, ◌+◌, ◌-◌, ◌≤◌, ◌<◌, ◌^◌, ◌==◌, Bool, true, false, not, List, [], ◌∷◌, ◌++◌, codes, Option, Some, None, IsSome, refl, sym, ap, subst, arith, append_assoc, append-nil, eqb-true, add-one, tests, rules}
use Rattle.std.specs.Fmt.{decimal}
use Rattle.std.specs.List.{All, Contains, list_all}
use Rattle.std.specs.Str.Parse.{digits_value}
use Rattle.std.proofs.lemmas.Bool.{and_parts, eqb-false}
use Rattle.std.proofs.lemmas.Fmt.{digits_decimal, decimal_injective}
use Rattle.std.proofs.lemmas.List.{append_cancel_left}
use Rattle.std.proofs.lemmas.List.Elements.{All-nil, All-cons, All-head, All-tail, Contains-append_left, Contains-append_right, Contains-push}
use Rattle.std.proofs.lemmas.Str.Parse.{IsNumeralModel, IsDigitsTest, numerals_by_value}
use Rattle.marc_types.specs.Valid.{is_digit}
use Rattle.outside.specs.Room.{RoomView, IsNoneOf}
use Rattle.split_command.specs.Names.{share_word, share_name, parts_name, names_from, names_of_files}
use Rattle.split_command.specs.Outputs.{AreApart}

-- ---- words without a full stop

abbrev NoStop : List ℕ → Type 0
NoStop word = All (λ b. b ≢ 46) word

all_digits_test : IsDigitsTest (λ ds. list_all is_digit ds ≡ true)
all_digits_test = search (rules, tests)

all_digits : IsNumeralModel (λ ds. list_all is_digit ds ≡ true) (digits_value 10)
all_digits = numerals_by_value _ all_digits_test

digit_no_stop : (b : ℕ) → is_digit b ≡ true → b ≢ 46
digit_no_stop b is same = let no : is_digit 46 ≡ true = subst (λ x. is_digit x ≡ true) same is in cc

digits_no_stop : (ds : List ℕ) → list_all is_digit ds ≡ true → NoStop ds
digits_no_stop [] all = All-nil (λ b. b ≢ 46)
digits_no_stop (d ∷ ds) all =
    let both = and_parts (is_digit d) (list_all is_digit ds) all in
    All-cons (λ b. b ≢ 46) d ds (digit_no_stop d both.0) (digits_no_stop ds both.1)

decimal_no_stop : (n : ℕ) → n < 2 ^ 64 → NoStop (decimal n)
decimal_no_stop n small = digits_no_stop (decimal n) (digits_decimal all_digits n small)

abbrev not_stop : ℕ → Bool
not_stop b = not (b == 46)

letters_no_stop : (word : List ℕ) → list_all not_stop word ≡ true → NoStop word
letters_no_stop [] all = All-nil (λ b. b ≢ 46)
letters_no_stop (b ∷ word) all =
    let both = and_parts (not_stop b) (list_all not_stop word) all in
    All-cons (λ x. x ≢ 46) b word (λ same. let no : not_stop 46 ≡ true = subst (λ x. not_stop x ≡ true) same both.0 in cc) (letters_no_stop word both.1)

word_no_stop : (share : ℕ) → share < 2 ^ 64 → NoStop (share_word share)
word_no_stop zero small = letters_no_stop (codes "authorities") refl
word_no_stop (suc part) small = decimal_no_stop part (omega (arith, small))

-- words are the same that stand before the first full stop of the same bytes
module _ {x y : List ℕ} where
  cut_at_stop : (a b : List ℕ) → NoStop a → NoStop b → a ++ 46 ∷ x ≡ b ++ 46 ∷ y → (a ≡ b) × (x ≡ y)
  cut_at_stop [] [] p q e = (refl, cc)
  cut_at_stop [] (b ∷ others) p q e = let first : b ≡ 46 = cc in absurd (All-head (λ c. c ≢ 46) b others q first)
  cut_at_stop (a ∷ more) [] p q e = let first : a ≡ 46 = cc in absurd (All-head (λ c. c ≢ 46) a more p first)
  cut_at_stop (a ∷ more) (b ∷ others) p q e =
      let first : a ≡ b = cc in
      let rest = cut_at_stop more others (All-tail (λ c. c ≢ 46) a more p) (All-tail (λ c. c ≢ 46) b others q) (cc) in
      (λ i. first i ∷ rest.0 i, rest.1)

-- there is a full stop in the one, and none in the other
no_stop_within : (a x word : List ℕ) → NoStop word → word ≡ a ++ 46 ∷ x → ⊥
no_stop_within [] x word none e = All-head (λ c. c ≢ 46) 46 x (subst NoStop e none) refl
no_stop_within (a ∷ more) x [] none e = cc
no_stop_within (a ∷ more) x (b ∷ word) none e = no_stop_within more x word (All-tail (λ c. c ≢ 46) b word none) (cc)

-- ---- a share's name, cut at its full stops

abbrev behind_word : ℕ → List ℕ
behind_word file = decimal file ++ codes ".mrc"

name_in_parts : (prefix : List ℕ) (share file : ℕ) → share_name prefix share file ≡ prefix ++ 46 ∷ (share_word share ++ 46 ∷ behind_word file)
unfolding share_name
name_in_parts prefix share file =
    append_assoc (((prefix ++ codes ".") ++ share_word share) ++ codes ".") (decimal file) (codes ".mrc")
    ∙ append_assoc ((prefix ++ codes ".") ++ share_word share) (codes ".") (behind_word file)
    ∙ append_assoc (prefix ++ codes ".") (share_word share) (codes "." ++ behind_word file)
    ∙ append_assoc prefix (codes ".") (share_word share ++ (codes "." ++ behind_word file))

word_apart : (s : ℕ) → s < 2 ^ 64 → codes "authorities" ≢ decimal s
word_apart s small e =
    let all : list_all is_digit (codes "authorities") ≡ true = ap (list_all is_digit) e ∙ digits_decimal all_digits s small in
    cc

word_injective : (s t : ℕ) → s < 2 ^ 64 → t < 2 ^ 64 → share_word s ≡ share_word t → s ≡ t
word_injective zero zero p q e = refl
word_injective zero (suc t) p q e = absurd (word_apart t (omega (arith, q)) e)
word_injective (suc s) zero p q e = absurd (word_apart s (omega (arith, p)) (sym e))
word_injective (suc s) (suc t) p q e = ap suc (decimal_injective s t (omega (arith, p)) (omega (arith, q)) e)

-- shares of the same name are one share of one file
pub name_injective : (prefix : List ℕ) (s t f g : ℕ) → s < 2 ^ 64 → t < 2 ^ 64 → f < 2 ^ 64 → g < 2 ^ 64
    → share_name prefix s f ≡ share_name prefix t g → (s ≡ t) × (f ≡ g)
name_injective prefix s t f g ps pt pf pg e =
    let tails : 46 ∷ (share_word s ++ 46 ∷ behind_word f) ≡ 46 ∷ (share_word t ++ 46 ∷ behind_word g) =
    append_cancel_left prefix _ _ (sym (name_in_parts prefix s f) ∙ e ∙ name_in_parts prefix t g) in
    let words = cut_at_stop {x = behind_word f} {y = behind_word g} (share_word s) (share_word t) (word_no_stop s ps) (word_no_stop t pt) (cc) in
    let files = cut_at_stop {x = codes "mrc"} {y = codes "mrc"} (decimal f) (decimal g) (decimal_no_stop f pf) (decimal_no_stop g pg) words.1 in
    (word_injective s t ps pt words.0, decimal_injective f g pf pg files.0)

-- and none is that of what says how the parts were cut
pub parts_apart : (prefix : List ℕ) (s f : ℕ) → parts_name prefix ≢ share_name prefix s f
unfolding parts_name
parts_apart prefix s f e =
    let tails : codes ".parts" ≡ 46 ∷ (share_word s ++ 46 ∷ behind_word f) = append_cancel_left prefix _ _ (e ∙ name_in_parts prefix s f) in
    no_stop_within (share_word s) (behind_word f) (codes "parts") (letters_no_stop (codes "parts") refl) (cc)

-- ---- lists of names

-- a name that is none of these shares' names
pub none_of_names : (name prefix : List ℕ) (file first many : ℕ) → ((share : ℕ) → first ≤ share → share < first + many → name ≢ share_name prefix share file)
    → IsNoneOf name (names_from prefix file first many)
none_of_names name prefix file first zero other = tt
none_of_names name prefix file first (suc many) other =
    (other first (omega arith) (omega arith), none_of_names name prefix file (first + 1) many (λ share low high. other share (omega (arith, low)) (omega (arith, high))))

next_place : (first share : ℕ) → first ≤ share → (share ≡ first → ⊥) → first + 1 ≤ share
next_place first share low other = grind (arith, low, other)

-- and the other way round
pub other_name : (name prefix : List ℕ) (file first many share : ℕ) → IsNoneOf name (names_from prefix file first many) → first ≤ share → share < first + many
    → name ≢ share_name prefix share file
other_name name prefix file first zero share none low high = absurd (omega (arith, low, high))
other_name name prefix file first (suc many) share none low high =
    at (share == first) refl (λ later. other_name name prefix file (first + 1) many share none.1 later (omega (arith, high)))
  where
    at : (same : Bool) → (share == first) ≡ same → (first + 1 ≤ share → name ≢ share_name prefix share file) → name ≢ share_name prefix share file
    at true is rest e = none.0 (e ∙ ap (λ s. share_name prefix s file) (eqb-true share first is))
    at false is rest e = rest (next_place first share low (eqb-false share first is)) e

-- shares of one file are apart
pub names_apart : (prefix : List ℕ) (file first many : ℕ) → file < 2 ^ 64 → first + many < 2 ^ 64 → AreApart (names_from prefix file first many)
names_apart prefix file first zero small few = tt
names_apart prefix file first (suc many) small few = (
  none_of_names (share_name prefix first file) prefix file (first + 1) many
      (λ share low high e.
      let same = name_injective prefix first share file file (omega (arith, few)) (omega (arith, high, few)) small small e in
      omega (arith, same.0, low)),
  names_apart prefix file (first + 1) many small (omega (arith, few)),
)

-- one name more
names_behind : (prefix : List ℕ) (file first many : ℕ) → names_from prefix file first (suc many) ≡ names_from prefix file first many ++ share_name prefix (first + many) file ∷ []
names_behind prefix file first zero = let here : first ≡ first + 0 = omega arith in ap (λ s. share_name prefix s file ∷ []) here
names_behind prefix file first (suc many) =
    let here : first + 1 + many ≡ first + suc many = omega arith in
    ap (λ l. share_name prefix first file ∷ l)
    (names_behind prefix file (first + 1) many ∙ ap (λ s. names_from prefix file (first + 1) many ++ share_name prefix s file ∷ []) here)

pub names_more : (prefix : List ℕ) (file first many : ℕ) → names_from prefix file first (many + 1) ≡ names_from prefix file first many ++ share_name prefix (first + many) file ∷ []
names_more prefix file first many = ap (names_from prefix file first) (add-one many) ∙ names_behind prefix file first many

-- one share more of a file
pub shares_next : (prefix : List ℕ) (file many : ℕ) → names_from prefix file 0 (many + 1) ≡ names_from prefix file 0 many ++ share_name prefix many file ∷ []
shares_next prefix file many =
    let here : 0 + many ≡ many = omega arith in
    names_more prefix file 0 many ∙ ap (λ s. names_from prefix file 0 many ++ share_name prefix s file ∷ []) here

-- one file more
files_behind : (prefix : List ℕ) (parts file many : ℕ)
    → names_of_files prefix parts file (suc many) ≡ names_of_files prefix parts file many ++ names_from prefix (file + many) 0 (parts + 1)
files_behind prefix parts file zero =
    let here : file ≡ file + 0 = omega arith in
    append-nil (names_from prefix file 0 (parts + 1)) ∙ ap (λ f. names_from prefix f 0 (parts + 1)) here
files_behind prefix parts file (suc many) =
    let here : file + 1 + many ≡ file + suc many = omega arith in
    ap (λ l. names_from prefix file 0 (parts + 1) ++ l)
    (files_behind prefix parts (file + 1) many ∙ ap (λ f. names_of_files prefix parts (file + 1) many ++ names_from prefix f 0 (parts + 1)) here)
    ∙ sym (append_assoc (names_from prefix file 0 (parts + 1)) (names_of_files prefix parts (file + 1) many) (names_from prefix (file + suc many) 0 (parts + 1)))

pub files_next : (prefix : List ℕ) (parts many : ℕ) → names_of_files prefix parts 0 (many + 1) ≡ names_of_files prefix parts 0 many ++ names_from prefix many 0 (parts + 1)
files_next prefix parts many =
    let here : 0 + many ≡ many = omega arith in
    ap (names_of_files prefix parts 0) (add-one many) ∙ files_behind prefix parts 0 many
    ∙ ap (λ f. names_of_files prefix parts 0 many ++ names_from prefix f 0 (parts + 1)) here

-- ---- a name among those of a split

pub share_among : (prefix : List ℕ) (file first many share : ℕ) → first ≤ share → share < first + many → Contains (names_from prefix file first many) (share_name prefix share file)
share_among prefix file first zero share low high = absurd (omega (arith, low, high))
share_among prefix file first (suc many) share low high = at (share == first) refl (λ later. share_among prefix file (first + 1) many share later (omega (arith, high)))
  where
    at : (same : Bool) → (share == first) ≡ same → (first + 1 ≤ share → Contains (names_from prefix file (first + 1) many) (share_name prefix share file))
        → Contains (share_name prefix first file ∷ names_from prefix file (first + 1) many) (share_name prefix share file)
    at true is rest = subst (λ s. Contains (share_name prefix first file ∷ names_from prefix file (first + 1) many) (share_name prefix s file))
        (sym (eqb-true share first is)) (Contains-append_left (share_name prefix first file ∷ []) (names_from prefix file (first + 1) many) (share_name prefix first file) (Contains-push [] (share_name prefix first file)))
    at false is rest = Contains-append_right (share_name prefix first file ∷ []) (names_from prefix file (first + 1) many) (share_name prefix share file)
        (rest (next_place first share low (eqb-false share first is)))

-- a name among some shares' is that of a share
record IsShareAmong (name prefix : List ℕ) (file first many : ℕ) : Type 0 where
  share : ℕ
  low : first ≤ share
  high : share < first + many
  is : name ≡ share_name prefix share file

share_at : (name prefix : List ℕ) (file first many at : ℕ) → at < length (names_from prefix file first many) → slice_index_or (names_from prefix file first many) at name ≡ name
    → IsShareAmong name prefix file first many
share_at name prefix file first zero at within is = absurd (omega (arith, within))
share_at name prefix file first (suc many) zero within is = record { share = first; low = omega arith; high = omega arith; is = sym is }
share_at name prefix file first (suc many) (suc at) within is =
    let rest = share_at name prefix file (first + 1) many at (omega (arith, within)) is in
    let low = rest.low in
    let high = rest.high in
    record { share = rest.share; low = omega (arith, low); high = omega (arith, high); is = rest.is }

-- and is among more shares'
pub among_more : (name prefix : List ℕ) (file first many all : ℕ) → first + many ≤ all → Contains (names_from prefix file first many) name
    → Contains (names_from prefix file 0 all) name
among_more name prefix file first many all within among =
    let it = share_at name prefix file first many among.0 among.1 among.2 in
    let high = it.high in
    subst (Contains (names_from prefix file 0 all)) (sym it.is) (share_among prefix file 0 all it.share (omega arith) (omega (arith, high, within)))

pub file_among : (name prefix : List ℕ) (parts first many file : ℕ) → first ≤ file → file < first + many → Contains (names_from prefix file 0 (parts + 1)) name
    → Contains (names_of_files prefix parts first many) name
file_among name prefix parts first zero file low high among = absurd (omega (arith, low, high))
file_among name prefix parts first (suc many) file low high among =
    at (file == first) refl (λ later. file_among name prefix parts (first + 1) many file later (omega (arith, high)) among)
  where
    at : (same : Bool) → (file == first) ≡ same → (first + 1 ≤ file → Contains (names_of_files prefix parts (first + 1) many) name) → Contains (names_from prefix first 0 (parts + 1) ++ names_of_files prefix parts (first + 1) many) name
    at true is rest = Contains-append_left (names_from prefix first 0 (parts + 1)) (names_of_files prefix parts (first + 1) many) name
        (subst (λ f. Contains (names_from prefix f 0 (parts + 1)) name) (eqb-true file first is) among)
    at false is rest = Contains-append_right (names_from prefix first 0 (parts + 1)) (names_of_files prefix parts (first + 1) many) name
        (rest (next_place first file low (eqb-false file first is)))

-- what is none of a split's names is none of a file's, and none of some of its shares'
pub none_of_front : (n : List ℕ) (xs ys : List (List ℕ)) → IsNoneOf n (xs ++ ys) → IsNoneOf n xs
none_of_front n [] ys none = tt
none_of_front n (x ∷ xs) ys none = (none.0, none_of_front n xs ys none.1)

pub none_of_rest : (n : List ℕ) (xs ys : List (List ℕ)) → IsNoneOf n (xs ++ ys) → IsNoneOf n ys
none_of_rest n [] ys none = none
none_of_rest n (x ∷ xs) ys none = none_of_rest n xs ys none.1

none_of_both : (n : List ℕ) (xs ys : List (List ℕ)) → IsNoneOf n xs → IsNoneOf n ys → IsNoneOf n (xs ++ ys)
none_of_both n [] ys one other = other
none_of_both n (x ∷ xs) ys one other = (one.0, none_of_both n xs ys one.1 other)

pub none_of_file : (n prefix : List ℕ) (parts first many file : ℕ) → first ≤ file → file < first + many → IsNoneOf n (names_of_files prefix parts first many)
    → IsNoneOf n (names_from prefix file 0 (parts + 1))
none_of_file n prefix parts first zero file low high none = absurd (omega (arith, low, high))
none_of_file n prefix parts first (suc many) file low high none =
    at (file == first) refl (λ later. none_of_file n prefix parts (first + 1) many file later (omega (arith, high))
    (none_of_rest n (names_from prefix first 0 (parts + 1)) (names_of_files prefix parts (first + 1) many) none))
  where
    at : (same : Bool) → (file == first) ≡ same → (first + 1 ≤ file → IsNoneOf n (names_from prefix file 0 (parts + 1))) → IsNoneOf n (names_from prefix file 0 (parts + 1))
    at true is rest = subst (λ f. IsNoneOf n (names_from prefix f 0 (parts + 1))) (sym (eqb-true file first is))
        (none_of_front n (names_from prefix first 0 (parts + 1)) (names_of_files prefix parts (first + 1) many) none)
    at false is rest = rest (next_place first file low (eqb-false file first is))

-- what is none of some shares' names is none of those within
pub none_within : (n prefix : List ℕ) (file a m b k : ℕ) → a ≤ b → b + k ≤ a + m → IsNoneOf n (names_from prefix file a m) → IsNoneOf n (names_from prefix file b k)
none_within n prefix file a m b k from upto none =
    none_of_names n prefix file b k (λ share low high. other_name n prefix file a m share none (omega (arith, from, low)) (omega (arith, high, upto)))

-- what says how the parts were cut is none of the shares
pub parts_none : (prefix : List ℕ) (parts first many : ℕ) → IsNoneOf (parts_name prefix) (names_of_files prefix parts first many)
parts_none prefix parts first zero = tt
parts_none prefix parts first (suc many) =
    none_of_both (parts_name prefix) (names_from prefix first 0 (parts + 1)) (names_of_files prefix parts (first + 1) many)
    (none_of_names (parts_name prefix) prefix first 0 (parts + 1) (λ share low high. parts_apart prefix share first)) (parts_none prefix parts (first + 1) many)

-- a share of a file that isn't among these is none of theirs
pub share_none : (prefix : List ℕ) (parts share file first many : ℕ) → parts < 2 ^ 63 → share < 2 ^ 64 → file < 2 ^ 64 → first + many < 2 ^ 64 → first + many ≤ file
    → IsNoneOf (share_name prefix share file) (names_of_files prefix parts first many)
share_none prefix parts share file first zero few small within fits behind = tt
share_none prefix parts share file first (suc many) few small within fits behind =
    none_of_both (share_name prefix share file) (names_from prefix first 0 (parts + 1)) (names_of_files prefix parts (first + 1) many)
    (none_of_names (share_name prefix share file) prefix first 0 (parts + 1)
    (λ other low high e.
    let same = (name_injective prefix share other file first small (omega (arith, high, few)) within (omega (arith, fits)) e).1 in
    omega (arith, same, behind)))
    (share_none prefix parts share file (first + 1) many few small within (omega (arith, fits)) (omega (arith, behind)))

-- where no file of these names is there, what is there is none of them
pub none_there : (room : RoomView) (name : List ℕ) (names : List (List ℕ)) → All (λ n. room.file n ≡ None) names → IsSome (room.file name) → IsNoneOf name names
none_there room name [] all there = tt
none_there room name (n ∷ names) all there = (
  (λ same. missing (room.file name) (ap room.file same ∙ All-head (λ m. room.file m ≡ None) n names all) there),
  none_there room name names (All-tail (λ m. room.file m ≡ None) n names all) there,
)
  where
    missing : (file : Option (List ℕ)) → file ≡ None → IsSome file → ⊥
    missing None is there = cc
    missing (Some bytes) is there = cc

-- what is none of so many files' names is none of fewer files'
pub none_of_fewer : (n prefix : List ℕ) (parts first fewer many : ℕ) → fewer ≤ many → IsNoneOf n (names_of_files prefix parts first many)
    → IsNoneOf n (names_of_files prefix parts first fewer)
none_of_fewer n prefix parts first zero many less none = tt
none_of_fewer n prefix parts first (suc fewer) zero less none = absurd (omega (arith, less))
none_of_fewer n prefix parts first (suc fewer) (suc many) less none =
    none_of_both n (names_from prefix first 0 (parts + 1)) (names_of_files prefix parts (first + 1) fewer)
    (none_of_front n (names_from prefix first 0 (parts + 1)) (names_of_files prefix parts (first + 1) many) none)
    (none_of_fewer n prefix parts (first + 1) fewer many (omega (arith, less))
    (none_of_rest n (names_from prefix first 0 (parts + 1)) (names_of_files prefix parts (first + 1) many) none))

-- the word of the authorities
pub word_of_authorities : (share : ℕ) → share ≡ 0 → share_word share ≡ codes "authorities"
word_of_authorities share is = ap share_word is

-- the word of a part's share
pub word_of_part : (share : ℕ) → (share ≡ 0 → ⊥) → share_word share ≡ decimal (share - 1)
word_of_part zero some = absurd (some refl)
word_of_part (suc part) some = let before : part ≡ suc part - 1 = omega arith in ap decimal before
