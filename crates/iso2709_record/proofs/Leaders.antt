-- What is read of a leader and of a directory's entry that were written.
use Rattle.std.proofs.Common.{◌≡◌, ℕ, ◌-◌, ◌≤◌, Bool, true, false, ◌&&◌, List, [], ◌∷◌, ◌++◌, length, get_or, take, drop, lit<, refl, ap, ◌∙◌, arith}
use Rattle.std.specs.Prelude.{slice_range, slice_index}
use Rattle.std.specs.List.{list_all, AllPass}
use Rattle.std.proofs.lemmas.Bool.{and_parts, and_from, or_from, le-ltb, not_from_true}
use Rattle.std.proofs.lemmas.List.Folds.{list_all-append}
use Rattle.std.proofs.lemmas.List.Sums.{AllPass-from_list_all}
use Rattle.marc_types.specs.declared.field.Tag.{Tag}
use Rattle.marc_types.specs.declared.field.Leader.{Leader}
use Rattle.marc_types.specs.declared.field.Field.{Field}
use Rattle.marc_types.specs.Valid.{is_printable, is_digit, is_alphanumeric, is_tag, is_leader}
use Rattle.iso2709_record.specs.Written.{four_digits, five_digits, leader_bytes, entry_bytes, field_length, base_address, record_length}
use Rattle.marc_types.specs.Fields.{tag_of}
use Rattle.iso2709_record.specs.Layout.{number, base_of, entry_at, tag_at, length_at, start_at}
use Rattle.iso2709_record.specs.Faults.{has_bad_leader, is_good_entry}
use Rattle.iso2709_record.specs.Raw.{leader_at}
use Rattle.iso2709_record.proofs.Digits.{four_digits_number, five_digits_number, four_digits_are_digits, five_digits_are_digits}

-- the leader's parts, whatever stands behind it
pub size_again : (l : Leader) (fs : List Field) (rest : List ℕ) → take 5 (leader_bytes l fs ++ rest) ≡ five_digits (record_length fs)
unfolding leader_bytes five_digits
size_again l fs rest = refl

pub base_again : (l : Leader) (fs : List Field) (rest : List ℕ) → base_address fs ≤ 99999 → base_of (leader_bytes l fs ++ rest) ≡ base_address fs
unfolding leader_bytes five_digits base_of
base_again l fs rest le = five_digits_number (base_address fs) le

pub leader_again : (l : Leader) (fs : List Field) (rest : List ℕ) → leader_at (leader_bytes l fs ++ rest) ≡ l
unfolding leader_bytes five_digits leader_at
leader_again l fs rest = refl

pub coding_again : (l : Leader) (fs : List Field) (rest : List ℕ) → slice_index (leader_bytes l fs ++ rest) 9 ≡ 97
unfolding leader_bytes five_digits
coding_again l fs rest = refl

-- the bytes that a valid leader keeps
kept_printable : (l : Leader) → is_leader l ≡ true → AllPass is_printable (l.status ∷ l.rtype ∷ l.level ∷ l.control ∷ l.encoding ∷ l.form ∷ l.linked ∷ [])
unfolding is_leader
kept_printable l valid = AllPass-from_list_all is_printable (l.status ∷ l.rtype ∷ l.level ∷ l.control ∷ l.encoding ∷ l.form ∷ l.linked ∷ []) valid

-- the same with more printable bytes behind them
front_printable : (l : Leader) (more : List ℕ) → is_leader l ≡ true → list_all is_printable more ≡ true
    → list_all is_printable (l.status ∷ l.rtype ∷ l.level ∷ l.control ∷ more) ≡ true
front_printable l more valid behind =
    let kept = kept_printable l valid in
    and_from _ _ (kept 0 0 (lit< tt)) (and_from _ _ (kept 1 0 (lit< tt)) (and_from _ _ (kept 2 0 (lit< tt)) (and_from _ _ (kept 3 0 (lit< tt)) behind)))

back_printable : (l : Leader) (more : List ℕ) → is_leader l ≡ true → list_all is_printable more ≡ true
    → list_all is_printable (l.encoding ∷ l.form ∷ l.linked ∷ more) ≡ true
back_printable l more valid behind =
    let kept = kept_printable l valid in
    and_from _ _ (kept 4 0 (lit< tt)) (and_from _ _ (kept 5 0 (lit< tt)) (and_from _ _ (kept 6 0 (lit< tt)) behind))

good_leader_from : (bytes : List ℕ) → list_all is_printable (slice_range bytes 5 10) ≡ true → list_all is_printable (slice_range bytes 17 20) ≡ true
    → list_all is_digit (slice_range bytes 12 17) ≡ true → 25 ≤ base_of bytes → base_of bytes ≤ length bytes - 1 → has_bad_leader bytes ≡ false
unfolding has_bad_leader
good_leader_from bytes front back digits low high =
    or_from _ _ (or_from _ _ (or_from _ _ (or_from _ _ (not_from_true _ front) (not_from_true _ back)) (not_from_true _ digits)) (le-ltb _ _ low)) (le-ltb _ _ high)

pub good_leader_again : (l : Leader) (fs : List Field) (rest : List ℕ) → is_leader l ≡ true → base_address fs ≤ 99999
    → base_address fs ≤ length (leader_bytes l fs ++ rest) - 1 → has_bad_leader (leader_bytes l fs ++ rest) ≡ false
unfolding leader_bytes five_digits
good_leader_again l fs rest valid high within =
    let again : base_of (leader_bytes l fs ++ rest) ≡ base_address fs = base_again l fs rest high in
    good_leader_from (leader_bytes l fs ++ rest) (front_printable l (97 ∷ []) valid refl) (back_printable l [] valid refl) (five_digits_are_digits (base_address fs))
    (rw again (omega arith)) (rw again within)

-- tests of joined bytes
joined : (p : ℕ → Bool) (xs ys : List ℕ) → list_all p xs ≡ true → list_all p ys ≡ true → list_all p (xs ++ ys) ≡ true
joined p xs ys first second = list_all-append p xs ys ∙ and_from _ _ first second

-- an entry's digits and the characters of its tag
entry_digits : (start : ℕ) (f : Field) → list_all is_digit (drop 3 (entry_bytes start f)) ≡ true
unfolding entry_bytes
entry_digits start f = joined is_digit (four_digits (field_length f)) (five_digits start) (four_digits_are_digits (field_length f)) (five_digits_are_digits start)

entry_tag : (start : ℕ) (f : Field) → is_tag (tag_of f) ≡ true → list_all is_alphanumeric (take 3 (entry_bytes start f)) ≡ true
unfolding entry_bytes
entry_tag start f valid =
    let parts : ((is_alphanumeric (tag_of f).a && is_alphanumeric (tag_of f).b) ≡ true) × (is_alphanumeric (tag_of f).c ≡ true) = and_parts _ _ valid in
    let front : (is_alphanumeric (tag_of f).a ≡ true) × (is_alphanumeric (tag_of f).b ≡ true) = and_parts _ _ parts.0 in
    and_from _ _ front.0 (and_from _ _ front.1 (and_from _ _ parts.1 refl))

pub good_entry_again : (bytes : List ℕ) (entry start : ℕ) (f : Field) → entry_at bytes entry ≡ entry_bytes start f → is_tag (tag_of f) ≡ true
    → is_good_entry bytes entry ≡ true
unfolding is_good_entry
good_entry_again bytes entry start f e valid =
    and_from _ _ (ap (λ cells. list_all is_alphanumeric (take 3 cells)) e ∙ entry_tag start f valid) (ap (λ cells. list_all is_digit (drop 3 cells)) e ∙ entry_digits start f)

pub tag_again : (bytes : List ℕ) (entry start : ℕ) (f : Field) → entry_at bytes entry ≡ entry_bytes start f → tag_at bytes entry ≡ tag_of f
unfolding tag_at entry_bytes
tag_again bytes entry start f e =
    let read : List ℕ → Tag = λ cells. record { a = get_or cells 0 0; b = get_or cells 1 0; c = get_or cells 2 0 } in
    ap read e

pub length_again : (bytes : List ℕ) (entry start : ℕ) (f : Field) → entry_at bytes entry ≡ entry_bytes start f → field_length f ≤ 9999
    → length_at bytes entry ≡ field_length f
unfolding length_at entry_bytes four_digits five_digits
length_again bytes entry start f e le =
    ap (λ cells. number (take 4 (drop 3 cells))) e ∙ four_digits_number (field_length f) le

pub start_again : (bytes : List ℕ) (entry start : ℕ) (f : Field) → entry_at bytes entry ≡ entry_bytes start f → start ≤ 99999 → start_at bytes entry ≡ start
unfolding start_at entry_bytes four_digits five_digits
start_again bytes entry start f e le =
    ap (λ cells. number (take 5 (drop 7 cells))) e ∙ five_digits_number start le
