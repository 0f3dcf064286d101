-- What was written is read again: a written record is sound, and holds the record.
use Rattle.std.proofs.Common.{◌≡◌, ℕ, zero, suc, ◌+◌, ◌-◌, ◌*◌, ◌%◌, ◌≤◌, ◌<◌, true, false, leb, List, [], ◌∷◌, ◌++◌, length, get_or, take, map, refl, sym, ap, ◌∙◌, arith, append_assoc, length-append}
use Rattle.std.specs.List.{list_all, flat_map, AllPass}
use Rattle.std.proofs.lemmas.Bool.{and_from, or_from, le-leb, lt-ltb, le-ltb, leb-true, eq-eqb, not_from_true}
use Rattle.std.proofs.lemmas.List.{take_at, get_or_at, get_or_default, length-map, get_or-map}
use Rattle.std.proofs.lemmas.List.FromFn.{fill_by_all}
use Rattle.std.proofs.lemmas.List.Sums.{AllPass-from_list_all}
use Rattle.marc_types.specs.declared.field.Leader.{Leader}
use Rattle.marc_types.specs.declared.field.Field.{Field}
use Rattle.marc_types.specs.declared.field.Field.TheVariants.{Control}
use Rattle.marc_types.specs.Valid.{is_digit, is_leader, is_field, is_record}
use Rattle.iso2709_record.specs.Written.{record_terminator, field_terminator, field_data, field_bytes, field_length, fields_length, five_digits, leader_bytes, entry_bytes, directory_bytes, base_address, record_length, record_bytes, fits}
use Rattle.marc_types.specs.Fields.{tag_of}
use Rattle.iso2709_record.specs.Layout.{number, base_of, entry_count, entry_at, tag_at, length_at, start_at, area_at, data_at, lengths_of}
use Rattle.iso2709_record.specs.Faults.{has_bad_length, has_bad_leader, is_ragged, ends_once, is_good_field, HasWholeEntries, IsSound}
use Rattle.iso2709_record.specs.Raw.{leader_at, coding_at, raw_field, raw_fields, raw_record, raw_of, raw_of_record}
use Rattle.iso2709_record.proofs.Lengths.{length-leader_bytes, length-directory_bytes, length-record_bytes, fits_parts}
use Rattle.iso2709_record.proofs.Each.{leader_valid, fields_valid, fields_length-take}
use Rattle.iso2709_record.proofs.Places.{entry_place, area_place}
use Rattle.iso2709_record.proofs.Digits.{five_digits_number, five_digits_are_digits}
use Rattle.iso2709_record.proofs.Terminators.{record_front, record_bytes-front, record_front_has_none, tag_valid}
use Rattle.iso2709_record.proofs.Leaders.{size_again, base_again, leader_again, coding_again, good_leader_again, good_entry_again, tag_again, length_again, start_again}
use Rattle.iso2709_record.proofs.Marked.{ends_once_behind, field_ends_once, data_fits}

-- a record that is valid and fits
record IsWritten (l : Leader) (fs : List Field) : Type 0 where
  pub valid : is_record l fs ≡ true
  pub leader : is_leader l ≡ true
  pub fields : list_all is_field fs ≡ true
  pub size : record_length fs ≤ 99999
  pub short : AllPass (λ f. leb (field_length f) 9999) fs

is_written : (l : Leader) (fs : List Field) → is_record l fs ≡ true → fits fs ≡ true → IsWritten l fs
is_written l fs valid fit =
    let room = fits_parts fs fit in
    record { valid = valid; leader = leader_valid l fs valid; fields = fields_valid l fs valid; size = room.0; short = room.1 }

-- the leader, and what stands behind it
behind : List Field → List ℕ
behind fs = directory_bytes 0 fs ++ field_terminator ∷ (flat_map field_bytes fs ++ record_terminator ∷ [])

parts : (l : Leader) (fs : List Field) → record_bytes l fs ≡ leader_bytes l fs ++ behind fs
unfolding record_bytes behind
parts l fs = simp append_assoc

base_is : (l : Leader) (fs : List Field) → IsWritten l fs → base_of (record_bytes l fs) ≡ base_address fs
base_is l fs w =
    ap base_of (parts l fs) ∙ base_again l fs (behind fs) (omega (arith, w.size))

count_is : (l : Leader) (fs : List Field) → IsWritten l fs → entry_count (record_bytes l fs) ≡ length fs
count_is l fs w = let base = base_is l fs w in omega (arith, base)

record_ends_once : (l : Leader) (fs : List Field) → IsWritten l fs → ends_once record_terminator (record_bytes l fs) ≡ true
record_ends_once l fs w =
    ap (ends_once record_terminator) (record_bytes-front l fs)
    ∙ ends_once_behind record_terminator (record_front l fs) (record_front_has_none l fs w.valid)

good_length : (l : Leader) (fs : List Field) → IsWritten l fs → has_bad_length (record_bytes l fs) ≡ false
unfolding has_bad_length
good_length l fs w =
    let len = length-record_bytes l fs in
    let size : take 5 (record_bytes l fs) ≡ five_digits (record_length fs) = ap (take 5) (parts l fs) ∙ size_again l fs (behind fs) in
    let digits : list_all is_digit (take 5 (record_bytes l fs)) ≡ true = ap (list_all is_digit) size ∙ five_digits_are_digits (record_length fs) in
    let same : number (take 5 (record_bytes l fs)) ≡ length (record_bytes l fs) = ap number size ∙ five_digits_number (record_length fs) w.size ∙ sym len in
    or_from _ _ (or_from _ _ (or_from _ _ (le-ltb (length (record_bytes l fs)) 26 (omega (arith, len))) (not_from_true _ digits)) (not_from_true _ (eq-eqb _ _ same)))
    (not_from_true _ (record_ends_once l fs w))

good_leader : (l : Leader) (fs : List Field) → IsWritten l fs → has_bad_leader (record_bytes l fs) ≡ false
good_leader l fs w =
    let len : length (leader_bytes l fs ++ behind fs) ≡ record_length fs = sym (ap length (parts l fs)) ∙ length-record_bytes l fs in
    ap has_bad_leader (parts l fs)
    ∙ good_leader_again l fs (behind fs) w.leader (omega (arith, w.size)) (omega (arith, len))

-- the byte before the first field is a field terminator
directory_ends : (l : Leader) (fs : List Field) → get_or (record_bytes l fs) (24 + 12 * length fs) 0 ≡ field_terminator
unfolding behind
directory_ends l fs =
    let leader = leader_bytes l fs in
    let fields = flat_map field_bytes fs ++ record_terminator ∷ [] in
    let regrouped : record_bytes l fs ≡ (leader ++ directory_bytes 0 fs) ++ field_terminator ∷ fields = parts l fs ∙ sym (append_assoc leader (directory_bytes 0 fs) (field_terminator ∷ fields)) in
    let at : length (leader ++ directory_bytes 0 fs) ≡ 24 + 12 * length fs =
    omega (arith, length-append leader (directory_bytes 0 fs), length-leader_bytes l fs, length-directory_bytes 0 fs) in
    ap (λ bytes. get_or bytes (24 + 12 * length fs) 0) regrouped ∙ get_or_at (leader ++ directory_bytes 0 fs) field_terminator fields 0 (24 + 12 * length fs) at

not_ragged : (l : Leader) (fs : List Field) → IsWritten l fs → is_ragged (record_bytes l fs) ≡ false
unfolding is_ragged
not_ragged l fs w =
    let base = base_is l fs w in
    let whole : (base_of (record_bytes l fs) - 25) % 12 ≡ 0 = omega (arith, base) in
    let before : base_of (record_bytes l fs) - 1 ≡ 24 + 12 * length fs = omega (arith, base) in
    let ends : get_or (record_bytes l fs) (base_of (record_bytes l fs) - 1) 0 ≡ field_terminator = ap (λ n. get_or (record_bytes l fs) n 0) before ∙ directory_ends l fs in
    or_from _ _ (not_from_true _ (eq-eqb _ _ whole)) (not_from_true _ (eq-eqb _ _ ends))

whole_entries : (l : Leader) (fs : List Field) → IsWritten l fs → HasWholeEntries (record_bytes l fs)
whole_entries l fs w = record { good_length = good_length l fs w; good_leader = good_leader l fs w; not_ragged = not_ragged l fs w }

-- the lengths of so many fields, and of one more
pub fields_length-take_more : (fs : List Field) (i : ℕ) (f : Field) → i < length fs → f ≡ get_or fs i f
    → fields_length (take (suc i) fs) ≡ fields_length (take i fs) + field_length f
fields_length-take_more [] i f lt is = absurd (omega arith)
fields_length-take_more (x ∷ xs) zero f lt is = let same : field_length f ≡ field_length x = ap field_length is in omega arith
fields_length-take_more (x ∷ xs) (suc i) f lt is = let more = fields_length-take_more xs i f (omega arith) is in omega arith

-- a field at its place
record IsAt (fs : List Field) (i : ℕ) (f : Field) : Type 0 where
  pub within : i < length fs
  pub is : f ≡ get_or fs i f
  pub valid : is_field f ≡ true
  pub short : field_length f ≤ 9999

no_field : Field
no_field = Control (record { a = 48; b = 48; c = 48 }) []

at_place : (l : Leader) (fs : List Field) (i : ℕ) → IsWritten l fs → i < length fs → IsAt fs i (get_or fs i no_field)
at_place l fs i w lt = record {
  within = lt;
  is = get_or_default fs i no_field (get_or fs i no_field) lt;
  valid = AllPass-from_list_all is_field fs w.fields i no_field lt;
  short = leb-true _ _ (w.short i no_field lt);
}

entry_is : (l : Leader) (fs : List Field) (i : ℕ) (f : Field) → IsAt fs i f → entry_at (record_bytes l fs) i ≡ entry_bytes (fields_length (take i fs)) f
unfolding entry_at
entry_is l fs i f at = entry_place l fs i f at.within at.is

start_is : (l : Leader) (fs : List Field) (i : ℕ) (f : Field) → IsWritten l fs → IsAt fs i f → start_at (record_bytes l fs) i ≡ fields_length (take i fs)
start_is l fs i f w at =
    let front = fields_length-take i fs in
    start_again (record_bytes l fs) i (fields_length (take i fs)) f (entry_is l fs i f at) (omega (arith, w.size))

-- where the fields begin, and where each of them does
pub record HasStarts (bytes : List ℕ) (fs : List Field) : Type 0 where
  pub base : base_of bytes ≡ base_address fs
  pub starts : (i : ℕ) → i < length fs → start_at bytes i ≡ fields_length (take i fs)

pub written_starts : (l : Leader) (fs : List Field) → is_record l fs ≡ true → fits fs ≡ true → HasStarts (record_bytes l fs) fs
written_starts l fs valid fit =
    let w = is_written l fs valid fit in
    record { base = base_is l fs w; starts = λ i lt. start_is l fs i (get_or fs i no_field) w (at_place l fs i w lt) }

length_is : (l : Leader) (fs : List Field) (i : ℕ) (f : Field) → IsAt fs i f → length_at (record_bytes l fs) i ≡ field_length f
length_is l fs i f at = length_again (record_bytes l fs) i (fields_length (take i fs)) f (entry_is l fs i f at) at.short

tag_is : (l : Leader) (fs : List Field) (i : ℕ) (f : Field) → IsAt fs i f → tag_at (record_bytes l fs) i ≡ tag_of f
tag_is l fs i f at = tag_again (record_bytes l fs) i (fields_length (take i fs)) f (entry_is l fs i f at)

area_is : (l : Leader) (fs : List Field) (i : ℕ) (f : Field) → IsWritten l fs → IsAt fs i f → area_at (record_bytes l fs) i ≡ field_bytes f
unfolding area_at
area_is l fs i f w at =
    let start = fields_length (take i fs) in
    let size : base_address fs + start + field_length f - (base_address fs + start) ≡ field_length f = omega arith in
    rw (base_is l fs w, start_is l fs i f w at, length_is l fs i f at, size) (area_place l fs i f at.within at.is)

without_end : (f : Field) (area : List ℕ) → area ≡ field_bytes f → take (length area - 1) area ≡ field_data f
unfolding field_bytes
without_end f area e =
    let len : length (field_data f) ≡ length (field_data f ++ field_terminator ∷ []) - 1 = omega (arith, length-append (field_data f) (field_terminator ∷ [])) in
    ap (λ bytes. take (length bytes - 1) bytes) e ∙ take_at (field_data f) (field_terminator ∷ []) (length (field_data f ++ field_terminator ∷ []) - 1) len

data_is : (l : Leader) (fs : List Field) (i : ℕ) (f : Field) → IsWritten l fs → IsAt fs i f → data_at (record_bytes l fs) i ≡ field_data f
unfolding data_at
data_is l fs i f w at = without_end f (area_at (record_bytes l fs) i) (area_is l fs i f w at)

lengths_are : (l : Leader) (fs : List Field) (i : ℕ) → IsWritten l fs → i ≤ length fs → lengths_of (record_bytes l fs) i ≡ fields_length (take i fs)
lengths_are l fs zero w le = refl
lengths_are l fs (suc i) w le =
    let at = at_place l fs i w (omega arith) in
    let before = lengths_are l fs i w (omega arith) in
    let here = length_is l fs i (get_or fs i no_field) at in
    let more = fields_length-take_more fs i (get_or fs i no_field) at.within at.is in
    omega (arith, before, here, more)

some_length : (f : Field) → 0 < field_length f
unfolding field_length field_bytes
some_length f = omega (arith, length-append (field_data f) (field_terminator ∷ []))

good_field_at : (l : Leader) (fs : List Field) (i : ℕ) (f : Field) → IsWritten l fs → IsAt fs i f → is_good_field (record_bytes l fs) i ≡ true
unfolding is_good_field
good_field_at l fs i f w at =
    let len = length-record_bytes l fs in
    let base = base_is l fs w in
    let start = start_is l fs i f w at in
    let size = length_is l fs i f at in
    let front = fields_length-take (suc i) fs in
    let more = fields_length-take_more fs i f at.within at.is in
    let lengths = lengths_are l fs (suc i) w (omega (arith, at.within)) in
    let some : 0 < length_at (record_bytes l fs) i = omega (arith, size, some_length f) in
    let ends : base_of (record_bytes l fs) + start_at (record_bytes l fs) i + length_at (record_bytes l fs) i ≤ length (record_bytes l fs) - 1 = omega (arith, base, start, size, front, more, len) in
    let room : lengths_of (record_bytes l fs) (suc i) ≤ length (record_bytes l fs) - base_of (record_bytes l fs) - 1 = omega (arith, lengths, front, base, len) in
    and_from _ _ (and_from _ _ (and_from _ _ (and_from _ _ (lt-ltb _ _ some) (le-leb _ _ ends)) (le-leb _ _ room))
    (ap (ends_once field_terminator) (area_is l fs i f w at) ∙ field_ends_once f at.valid))
    (rw (tag_is l fs i f at, data_is l fs i f w at) (data_fits f at.valid))

pub written_is_sound : (l : Leader) (fs : List Field) → is_record l fs ≡ true → fits fs ≡ true → IsSound (record_bytes l fs)
written_is_sound l fs valid fit =
    let w = is_written l fs valid fit in
    let count = count_is l fs w in
    record {
      directory = record {
        whole = whole_entries l fs w;
        good_entries = λ i lt.
            let at = at_place l fs i w (omega (arith, count)) in
            good_entry_again (record_bytes l fs) i (fields_length (take i fs)) (get_or fs i no_field) (entry_is l fs i (get_or fs i no_field) at) (tag_valid (get_or fs i no_field) at.valid);
      };
      good_fields = λ i lt. good_field_at l fs i (get_or fs i no_field) w (at_place l fs i w (omega (arith, count)));
    }

raw_field_is : (l : Leader) (fs : List Field) (i : ℕ) → IsWritten l fs → i < length fs → get_or (map raw_of fs) i (raw_of no_field) ≡ raw_field (record_bytes l fs) i
raw_field_is l fs i w lt =
    let at = at_place l fs i w lt in
    let f = get_or fs i no_field in
    let tag = tag_is l fs i f at in
    let area = data_is l fs i f w at in
    let same : raw_of f ≡ raw_field (record_bytes l fs) i = λ k. record { tag = sym tag k; area = sym area k } in
    get_or-map raw_of fs i no_field (raw_of no_field) lt ∙ same

pub written_holds : (l : Leader) (fs : List Field) → is_record l fs ≡ true → fits fs ≡ true → raw_record (record_bytes l fs) ≡ raw_of_record l fs
written_holds l fs valid fit =
    let w = is_written l fs valid fit in
    let leader : leader_at (record_bytes l fs) ≡ l = ap leader_at (parts l fs) ∙ leader_again l fs (behind fs) in
    let coding : coding_at (record_bytes l fs) ≡ 97 = ap coding_at (parts l fs) ∙ coding_again l fs (behind fs) in
    let listed : map raw_of fs ≡ raw_fields (record_bytes l fs) (length fs) =
    fill_by_all (raw_field (record_bytes l fs)) (map raw_of fs) (length fs) (raw_of no_field) (length-map fs raw_of) (λ i lt. raw_field_is l fs i w lt) in
    let fields : raw_fields (record_bytes l fs) (entry_count (record_bytes l fs)) ≡ map raw_of fs = ap (raw_fields (record_bytes l fs)) (count_is l fs w) ∙ sym listed in
    λ k. record { leader = leader k; coding = coding k; fields = fields k }
