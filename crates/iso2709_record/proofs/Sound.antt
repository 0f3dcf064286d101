-- What a sound record's bytes keep.
use Rattle.std.proofs.Common.{◌≡◌, ℕ, zero, suc, ◌+◌, ◌-◌, ◌*◌, ◌<◌, ◌≤◌, Bool, true, false, ◌||◌, ◌==◌, ltb as nat_lt, leb as nat_le, List, length, get_or, take, drop, refl, lit<, ◌∙◌, arith}
use Rattle.std.specs.List.{list_all}
use Rattle.std.proofs.lemmas.Bool.{and_parts, and_from, or_parts, or_from, ltb-true, leb-true, not-false, not_from_false}
use Rattle.std.proofs.lemmas.List.{length-take, length-drop, get_or-take, get_or-drop, get_or_default}
use Rattle.std.proofs.lemmas.List.Folds.{list_any_none}
use Rattle.std.proofs.lemmas.List.Sums.{AllPass-from_list_all}
use Rattle.marc_types.specs.Valid.{is_printable, is_digit, is_tag, is_leader, is_alphanumeric}
use Rattle.iso2709_record.specs.Written.{record_terminator, field_terminator}
use Rattle.iso2709_record.specs.Layout.{base_of, entry_count, entry_at, tag_at, length_at, start_at, area_at, data_at, lengths_of}
use Rattle.iso2709_record.specs.Faults.{ends_once, has_bad_length, has_bad_leader, lengths_fit, is_good_entry, is_good_field, fits_tag, IsSound}
use Rattle.iso2709_record.specs.Raw.{leader_at, has_no_terminator}
use Rattle.iso2709_record.proofs.Directory.{extent, size_parts}
use Rattle.iso2709_record.proofs.Endings.{unmarked_before}

pub sound_size : (bytes : List ℕ) → IsSound bytes → 26 ≤ length bytes
sound_size bytes sound = (size_parts bytes sound.directory.whole.good_length).0

-- a byte of a part of the bytes that all pass a test
part_at : (p : ℕ → Bool) (bytes : List ℕ) (from count i : ℕ) → list_all p (take count (drop from bytes)) ≡ true → i < count → from + i < length bytes
    → p (get_or bytes (from + i) 0) ≡ true
part_at p bytes from count i all lt inside =
    let read : get_or (take count (drop from bytes)) i 0 ≡ get_or bytes (from + i) 0 =
    rw (get_or-take count (drop from bytes) i 0 lt) (get_or-drop from bytes i 0) in
    rw (← read) (AllPass-from_list_all p (take count (drop from bytes)) all i 0 (omega (arith, length-take count (drop from bytes), length-drop from bytes)))

leader_parts : (bytes : List ℕ) → has_bad_leader bytes ≡ false
    → (list_all is_printable (take 5 (drop 5 bytes)) ≡ true) × (list_all is_printable (take 3 (drop 17 bytes)) ≡ true)
unfolding has_bad_leader
leader_parts bytes good =
    let a = or_parts _ _ good in
    let b = or_parts _ _ a.0 in
    let c = or_parts _ _ b.0 in
    let d = or_parts _ _ c.0 in
    (not-false _ d.0, not-false _ d.1)

pub sound_leader : (bytes : List ℕ) → IsSound bytes → is_leader (leader_at bytes) ≡ true
unfolding is_leader leader_at
sound_leader bytes sound =
    let size = sound_size bytes sound in
    let parts = leader_parts bytes sound.directory.whole.good_leader in
    let front = λ (i : ℕ) (lt : i < 5). part_at is_printable bytes 5 5 i parts.0 lt (omega arith) in
    let back = λ (i : ℕ) (lt : i < 3). part_at is_printable bytes 17 3 i parts.1 lt (omega arith) in
    and_from _ _ (front 0 (lit< tt)) (and_from _ _ (front 1 (lit< tt)) (and_from _ _ (front 2 (lit< tt)) (and_from _ _ (front 3 (lit< tt))
    (and_from _ _ (back 0 (lit< tt)) (and_from _ _ (back 1 (lit< tt)) (and_from _ _ (back 2 (lit< tt)) refl))))))

-- the base address is of digits
pub sound_base : (bytes : List ℕ) → IsSound bytes → list_all is_digit (take 5 (drop 12 bytes)) ≡ true
unfolding has_bad_leader
sound_base bytes sound =
    let a = or_parts _ _ sound.directory.whole.good_leader in
    let b = or_parts _ _ a.0 in
    let c = or_parts _ _ b.0 in
    not-false _ c.1

once_in_record : (bytes : List ℕ) → has_bad_length bytes ≡ false → ends_once record_terminator bytes ≡ true
unfolding has_bad_length
once_in_record bytes good = not-false _ (or_parts _ _ good).1

-- a sound entry's area
pub record GoodArea (bytes : List ℕ) (entry : ℕ) : Type 0 where
  pub some : 0 < length_at bytes entry
  pub within : base_of bytes + start_at bytes entry + length_at bytes entry < length bytes
  pub room : lengths_fit bytes entry ≡ true
  pub once : ends_once field_terminator (area_at bytes entry) ≡ true
  pub fits : fits_tag (tag_at bytes entry) (data_at bytes entry) ≡ true

good_area : (bytes : List ℕ) (entry : ℕ) → 26 ≤ length bytes → is_good_field bytes entry ≡ true → GoodArea bytes entry
unfolding is_good_field
good_area bytes entry least good =
    let a = and_parts _ _ good in
    let b = and_parts _ _ a.0 in
    let c = and_parts _ _ b.0 in
    let d : (nat_lt 0 (length_at bytes entry) ≡ true) × (nat_le (base_of bytes + start_at bytes entry + length_at bytes entry) (length bytes - 1) ≡ true) = and_parts _ _ c.0 in
    let ends = leb-true _ _ d.1 in
    record { some = ltb-true _ _ d.0; within = omega arith; room = c.1; once = b.1; fits = a.1 }

pub sound_area : (bytes : List ℕ) (entry : ℕ) → IsSound bytes → entry < entry_count bytes → GoodArea bytes entry
sound_area bytes entry sound lt = good_area bytes entry (sound_size bytes sound) (sound.good_fields entry lt)

pub length-area : (bytes : List ℕ) (entry : ℕ) → GoodArea bytes entry → length (area_at bytes entry) ≡ length_at bytes entry
unfolding area_at
length-area bytes entry good =
    let from = base_of bytes + start_at bytes entry in
    omega (arith, length-take (from + length_at bytes entry - from) (drop from bytes), length-drop from bytes, good.within)

area_byte : (bytes : List ℕ) (entry k : ℕ) → k < length_at bytes entry → get_or (area_at bytes entry) k 0 ≡ get_or bytes (base_of bytes + start_at bytes entry + k) 0
unfolding area_at
area_byte bytes entry k lt =
    let from = base_of bytes + start_at bytes entry in
    rw (get_or-take (from + length_at bytes entry - from) (drop from bytes) k 0 (omega arith)) (get_or-drop from bytes k 0)

data_byte : (bytes : List ℕ) (entry k : ℕ) → k < length (area_at bytes entry) - 1 → get_or (data_at bytes entry) k 0 ≡ get_or (area_at bytes entry) k 0
unfolding data_at
data_byte bytes entry k lt = get_or-take (length (area_at bytes entry) - 1) (area_at bytes entry) k 0 lt

pub length_data : (bytes : List ℕ) (entry : ℕ) → GoodArea bytes entry → length (data_at bytes entry) + 1 ≡ length_at bytes entry
unfolding data_at
length_data bytes entry good =
    omega (arith, length-take (length (area_at bytes entry) - 1) (area_at bytes entry), length-area bytes entry good, good.some)

length-entry_at : (bytes : List ℕ) (entry : ℕ) → 36 + 12 * entry ≤ length bytes → length (entry_at bytes entry) ≡ 12
unfolding entry_at
length-entry_at bytes entry le =
    omega (arith, length-take (36 + 12 * entry - (24 + 12 * entry)) (drop (24 + 12 * entry) bytes), length-drop (24 + 12 * entry) bytes)

tag_parts : (bytes : List ℕ) (entry : ℕ) → is_good_entry bytes entry ≡ true → list_all is_alphanumeric (take 3 (entry_at bytes entry)) ≡ true
unfolding is_good_entry
tag_parts bytes entry good = (and_parts _ _ good).0

pub sound_tag : (bytes : List ℕ) (entry : ℕ) → IsSound bytes → entry < entry_count bytes → is_tag (tag_at bytes entry) ≡ true
unfolding tag_at
sound_tag bytes entry sound lt =
    let reach = extent bytes sound.directory.whole in
    let len = length-entry_at bytes entry (omega (arith, reach.entries, reach.base)) in
    let parts = tag_parts bytes entry (sound.directory.good_entries entry lt) in
    let cell = λ (i : ℕ) (below : i < 3). part_at is_alphanumeric (entry_at bytes entry) 0 3 i parts below (omega (arith, len)) in
    and_from _ _ (and_from _ _ (cell 0 (lit< tt)) (cell 1 (lit< tt))) (cell 2 (lit< tt))

pub sound_unended : (bytes : List ℕ) (entry : ℕ) → IsSound bytes → entry < entry_count bytes → has_no_terminator (data_at bytes entry) ≡ true
unfolding has_no_terminator
sound_unended bytes entry sound lt =
    let good = sound_area bytes entry sound lt in
    let once = once_in_record bytes sound.directory.whole.good_length in
    let area = length-area bytes entry good in
    let whole = length_data bytes entry good in
    not_from_false _ (list_any_none (λ b. (b == record_terminator) || (b == field_terminator)) (data_at bytes entry) (λ k d inside.
    let before : k < length (area_at bytes entry) - 1 = omega (arith, area, whole) in
    let below : k < length_at bytes entry = omega (arith, whole) in
    let read : get_or (data_at bytes entry) k d ≡ get_or (area_at bytes entry) k 0 = get_or_default (data_at bytes entry) k d 0 inside ∙ data_byte bytes entry k before in
    let record_end : (get_or (area_at bytes entry) k 0 == record_terminator) ≡ false =
    rw (area_byte bytes entry k below) (unmarked_before record_terminator bytes (base_of bytes + start_at bytes entry + k) once (omega (arith, good.within, below, whole))) in
    let field_end : (get_or (area_at bytes entry) k 0 == field_terminator) ≡ false = unmarked_before field_terminator (area_at bytes entry) k good.once before in
    rw read (or_from _ _ record_end field_end)))

-- how large a sound record is
pub record SoundSizes (bytes : List ℕ) : Type 0 where
  pub size : length bytes ≤ 99999
  pub entries : entry_count bytes ≤ 8331

pub sound_sizes : (bytes : List ℕ) → IsSound bytes → SoundSizes bytes
sound_sizes bytes sound =
    let reach = extent bytes sound.directory.whole in
    record { size = omega (arith, reach.size); entries = omega (arith, reach.entries, reach.base, reach.size) }

-- the lengths of a sound directory's first entries have room behind the base address
pub sound_lengths : (bytes : List ℕ) (entries : ℕ) → IsSound bytes → entries ≤ entry_count bytes → lengths_of bytes entries ≤ length bytes - base_of bytes - 1
sound_lengths bytes zero sound le = omega arith
sound_lengths bytes (suc entries) sound le = leb-true _ _ (sound_area bytes entries sound (omega arith)).room
