-- The written form of a record with another field in the place of one.
use Rattle.std.proofs.Common.{◌≡◌, ◌∙◌, ℕ, zero, suc, add-one, ◌+◌, ◌-◌, ◌*◌, ◌≤◌, ◌<◌, true, List, [], ◌∷◌, ◌++◌, length, get_or, take, drop, sym, ap, arith, append_assoc, length-append, take-append-drop, add-zero, zero-add}
use Rattle.std.specs.Prelude.{slice_range, slice_get, slice_set, Some}
use Rattle.std.proofs.lemmas.Option.{slice_get-get_or}
use Rattle.std.specs.List.{All, flat_map}
use Rattle.std.proofs.lemmas.Bool.{and_parts, leb-true}
use Rattle.std.proofs.lemmas.List.{length-set, length-take-le, length-drop, take_all, get_or_default, set_split, drop_at}
use Rattle.std.proofs.lemmas.List.Elements.{All-set}
use Rattle.std.proofs.lemmas.List.Concat.{flat_map-append}
use Rattle.marc_types.specs.declared.field.Tag.{Tag}
use Rattle.marc_types.specs.declared.field.Leader.{Leader}
use Rattle.marc_types.specs.declared.field.Field.{Field}
use Rattle.marc_types.specs.declared.record.Record.{Record}
use Rattle.marc_types.specs.Fields.{tag_of}
use Rattle.marc_types.specs.Valid.{field_size, fields_size, is_record}
use Rattle.iso2709_record.specs.Written.{field_terminator, record_terminator, field_bytes, field_length, fields_length, entry_of, entry_bytes, directory_bytes, leader_bytes, base_address, record_length, record_bytes, fits}
use Rattle.iso2709_record.specs.Texts.{HasUtf8Texts}
use Rattle.iso2709_record.proofs.Lengths.{length-leader_bytes, length-directory_bytes, length-fields}
use Rattle.iso2709_record.proofs.Places.{entry_is, entry_next, part_place}
use Rattle.iso2709_record.proofs.ReadAgain.{fields_length-take_more}
use Rattle.written_record.specs.Records.{IsOfRecord, IsEntryOf}
use Rattle.written_record.proofs.Parts.{one_of, utf8_of, length_there, field_here, within_there}

-- the entries of fields behind others
directory-append : (start : ℕ) (xs ys : List Field) → directory_bytes start (xs ++ ys) ≡ directory_bytes start xs ++ directory_bytes (start + fields_length xs) ys
directory-append start [] ys = ap (λ n. directory_bytes n ys) (sym (add-zero start))
directory-append start (x ∷ xs) ys =
    let sum : start + field_length x + fields_length xs ≡ start + (field_length x + fields_length xs) = omega arith in
    let front = directory_bytes (start + field_length x) xs in
    ap (λ l. entry_bytes start x ++ l) (directory-append (start + field_length x) xs ys ∙ ap (λ n. front ++ directory_bytes n ys) sum)
    ∙ sym (append_assoc (entry_bytes start x) front (directory_bytes (start + (field_length x + fields_length xs)) ys))

directory_cut : (xs ys : List Field) → directory_bytes 0 (xs ++ ys) ≡ directory_bytes 0 xs ++ directory_bytes (fields_length xs) ys
directory_cut xs ys = directory-append 0 xs ys ∙ ap (λ n. directory_bytes 0 xs ++ directory_bytes n ys) (zero-add (fields_length xs))

-- the list with another field in the place of one
set_cut : (fs : List Field) (i : ℕ) (f : Field) → i < length fs → slice_set fs i f ≡ take i fs ++ f ∷ drop (i + 1) fs
set_cut fs i f lt = set_split fs i f lt ∙ ap (λ n. take i fs ++ f ∷ drop n fs) (sym (add-one i))

pub directory_set : (fs : List Field) (i : ℕ) (f : Field) → i < length fs
    → directory_bytes 0 (slice_set fs i f)
    ≡ directory_bytes 0 (take i fs) ++ (entry_bytes (fields_length (take i fs)) f ++ directory_bytes (fields_length (take i fs) + field_length f) (drop (i + 1) fs))
directory_set fs i f lt = ap (directory_bytes 0) (set_cut fs i f lt) ∙ directory_cut (take i fs) (f ∷ drop (i + 1) fs)

fields_set : (fs : List Field) (i : ℕ) (f : Field) → i < length fs
    → flat_map field_bytes (slice_set fs i f) ≡ flat_map field_bytes (take i fs) ++ (field_bytes f ++ flat_map field_bytes (drop (i + 1) fs))
fields_set fs i f lt = ap (flat_map field_bytes) (set_cut fs i f lt) ∙ flat_map-append field_bytes (take i fs) (f ∷ drop (i + 1) fs)

-- the lengths, with the replaced field's
pub fields_length-set : (fs : List Field) (i : ℕ) (old f : Field) → i < length fs → old ≡ get_or fs i old
    → fields_length (slice_set fs i f) + field_length old ≡ fields_length fs + field_length f
fields_length-set [] i old f lt is = absurd (omega arith)
fields_length-set (x ∷ xs) zero old f lt is = let same : field_length old ≡ field_length x = ap field_length is in omega arith
fields_length-set (x ∷ xs) (suc i) old f lt is = let more = fields_length-set xs i old f (omega arith) is in omega (arith, more)

-- what stands before the place, the new field and what stands behind are no longer than all together
pub fields_length-parts : (fs : List Field) (i : ℕ) (f : Field) → i < length fs
    → fields_length (take i fs) + field_length f + fields_length (drop (i + 1) fs) ≡ fields_length (slice_set fs i f)
fields_length-parts [] i f lt = absurd (omega arith)
fields_length-parts (x ∷ xs) zero f lt = omega arith
fields_length-parts (x ∷ xs) (suc i) f lt =
    let more = fields_length-parts xs i f (omega arith) in
    let behind : fields_length (drop (suc i + 1) (x ∷ xs)) ≡ fields_length (drop (i + 1) xs) = ap (λ n. fields_length (drop n (x ∷ xs))) (add-one (suc i)) ∙ ap (λ n. fields_length (drop n xs)) (sym (add-one i)) in
    omega (arith, more, behind)

pub fields_length-take : (fs : List Field) (i : ℕ) → fields_length (take i fs) ≤ fields_length fs
fields_length-take fs zero = omega arith
fields_length-take [] (suc i) = omega arith
fields_length-take (f ∷ fs) (suc i) = omega (arith, fields_length-take fs i)

pub ends_within : (fs : List Field) (i : ℕ) (f : Field) → i < length fs → f ≡ get_or fs i f → fields_length (take i fs) + field_length f ≤ fields_length fs
ends_within fs i f lt is = omega (arith, fields_length-take_more fs i f lt is, fields_length-take fs (suc i))

-- the record's length with another field in the place of one that had this length
pub length_with : (fs : List Field) (i : ℕ) (f : Field) (size gone : ℕ) → i < length fs → ((g : Field) → slice_get fs i ≡ Some g → gone ≡ field_length g)
    → size ≡ field_length f → record_length fs - gone + size ≡ record_length (slice_set fs i f)
length_with fs i f size gone lt was is =
    let old = get_or fs i f in
    let there : old ≡ get_or fs i old = get_or_default fs i f old lt in
    omega (arith, was old (slice_get-get_or fs i f lt), fields_length-set fs i old f lt there, ends_within fs i old lt there, length-set fs i f, is)

-- a field that stands in a record is no larger than all its fields
field_size-set : (fs : List Field) (i : ℕ) (f : Field) → i < length fs → field_size f ≤ fields_size (slice_set fs i f)
field_size-set [] i f lt = absurd (omega arith)
field_size-set (x ∷ xs) zero f lt = omega arith
field_size-set (x ∷ xs) (suc i) f lt = omega (arith, field_size-set xs i f (omega arith))

record_size : (l : Leader) (fs : List Field) → is_record l fs ≡ true → fields_size fs ≤ 1000000
unfolding is_record
record_size l fs valid = leb-true _ _ (and_parts _ _ valid).1

pub small_field : (l : Leader) (fs : List Field) (i : ℕ) (f : Field) → i < length fs → is_record l (slice_set fs i f) ≡ true → field_size f ≤ 1000000
small_field l fs i f lt valid = omega (arith, field_size-set fs i f lt, record_size l (slice_set fs i f) valid)

-- the entries before a field's stand behind the leader
pub entries_place : (l : Leader) (fs : List Field) (i : ℕ) → i ≤ length fs → slice_range (record_bytes l fs) 24 (24 + 12 * i) ≡ directory_bytes 0 (take i fs)
unfolding record_bytes
entries_place l fs i le =
    let leader = leader_bytes l fs in
    let part = directory_bytes 0 (take i fs) in
    let behind = directory_bytes (fields_length (take i fs)) (drop i fs) in
    let tail = field_terminator ∷ (flat_map field_bytes fs ++ record_terminator ∷ []) in
    let cut : directory_bytes 0 fs ≡ part ++ behind = ap (directory_bytes 0) (sym (take-append-drop i fs)) ∙ directory_cut (take i fs) (drop i fs) in
    let parts : record_bytes l fs ≡ leader ++ (directory_bytes 0 fs ++ tail) = simp append_assoc in
    let whole : record_bytes l fs ≡ leader ++ (part ++ (behind ++ tail)) =
    parts ∙ ap (λ d. leader ++ (d ++ tail)) cut ∙ ap (λ t. leader ++ t) (append_assoc part behind tail) in
    let size : 24 + 12 * i - 24 ≡ 12 * i = omega arith in
    let long : length part ≡ 12 * i = length-directory_bytes 0 (take i fs) ∙ ap (λ n. 12 * n) (length-take-le i fs le) in
    ap (λ n. take n (drop 24 (record_bytes l fs))) size
    ∙ ap (λ bytes. take (12 * i) (drop 24 bytes)) whole
    ∙ part_place leader part (behind ++ tail) 24 (12 * i) (length-leader_bytes l fs) long

-- the leader and the directory, and what stands behind them
abbrev head : Leader → List Field → List ℕ
head l fs = leader_bytes l fs ++ directory_bytes 0 fs

length-head : (l : Leader) (fs : List Field) → length (head l fs) ≡ 24 + 12 * length fs
length-head l fs = omega (arith, length-append (leader_bytes l fs) (directory_bytes 0 fs), length-leader_bytes l fs, length-directory_bytes 0 fs)

-- the record before a place among its fields, and behind it
split_at : (l : Leader) (fs : List Field) (i : ℕ)
    → record_bytes l fs ≡ head l fs ++ ((field_terminator ∷ flat_map field_bytes (take i fs)) ++ (flat_map field_bytes (drop i fs) ++ record_terminator ∷ []))
unfolding record_bytes
split_at l fs i =
    let front = flat_map field_bytes (take i fs) in
    let back = flat_map field_bytes (drop i fs) in
    let cut : flat_map field_bytes fs ≡ front ++ back =
    ap (flat_map field_bytes) (sym (take-append-drop i fs)) ∙ flat_map-append field_bytes (take i fs) (drop i fs) in
    let parts : record_bytes l fs ≡ head l fs ++ (field_terminator ∷ (flat_map field_bytes fs ++ record_terminator ∷ [])) = simp append_assoc in
    parts
    ∙ ap (λ m. head l fs ++ (field_terminator ∷ (m ++ record_terminator ∷ []))) cut
    ∙ ap (λ m. head l fs ++ (field_terminator ∷ m)) (append_assoc front back (record_terminator ∷ []))

-- the directory's terminator and the fields before a place
pub before_place : (l : Leader) (fs : List Field) (i base : ℕ) → base ≡ base_address fs
    → slice_range (record_bytes l fs) (base - 1) (base + fields_length (take i fs)) ≡ field_terminator ∷ flat_map field_bytes (take i fs)
before_place l fs i base is =
    let start = fields_length (take i fs) in
    let part = field_terminator ∷ flat_map field_bytes (take i fs) in
    let size : base + start - (base - 1) ≡ 1 + start = omega (arith, is) in
    let at : length (head l fs) ≡ base - 1 = omega (arith, length-head l fs, is) in
    let long : length part ≡ 1 + start = omega (arith, length-fields (take i fs)) in
    ap (λ n. take n (drop (base - 1) (record_bytes l fs))) size
    ∙ ap (λ bytes. take (1 + start) (drop (base - 1) bytes)) (split_at l fs i)
    ∙ part_place (head l fs) part (flat_map field_bytes (drop i fs) ++ record_terminator ∷ []) (base - 1) (1 + start) at long

-- the fields behind one
pub behind_place : (l : Leader) (fs : List Field) (i base : ℕ) (old : Field) → i < length fs → old ≡ get_or fs i old → base ≡ base_address fs
    → drop (base + fields_length (take i fs) + field_length old) (record_bytes l fs) ≡ flat_map field_bytes (drop (i + 1) fs) ++ record_terminator ∷ []
behind_place l fs i base old lt there is =
    let front = field_terminator ∷ flat_map field_bytes (take (i + 1) fs) in
    let back = flat_map field_bytes (drop (i + 1) fs) ++ record_terminator ∷ [] in
    let from = base + fields_length (take i fs) + field_length old in
    let more : fields_length (take (i + 1) fs) ≡ fields_length (take i fs) + field_length old =
    ap (λ n. fields_length (take n fs)) (add-one i) ∙ fields_length-take_more fs i old lt there in
    let long : length front ≡ 1 + fields_length (take (i + 1) fs) = omega (arith, length-fields (take (i + 1) fs)) in
    let at : length (head l fs ++ front) ≡ from = omega (arith, length-append (head l fs) front, length-head l fs, long, more, is) in
    ap (drop from) (split_at l fs (i + 1) ∙ sym (append_assoc (head l fs) front back))
    ∙ drop_at (head l fs ++ front) back from at

-- and the same as a part that ends where the bytes do
pub behind_there : (l : Leader) (fs : List Field) (i base : ℕ) (old : Field) → i < length fs → old ≡ get_or fs i old → base ≡ base_address fs
    → slice_range (record_bytes l fs) (base + fields_length (take i fs) + field_length old) (length (record_bytes l fs))
    ≡ flat_map field_bytes (drop (i + 1) fs) ++ record_terminator ∷ []
behind_there l fs i base old lt there is =
    let from = base + fields_length (take i fs) + field_length old in
    let left = drop from (record_bytes l fs) in
    let all : length left ≤ length (record_bytes l fs) - from = omega (arith, length-drop from (record_bytes l fs)) in
    take_all (length (record_bytes l fs) - from) left all ∙ behind_place l fs i base old lt there is

-- the record that has the other field
abbrev pub with_field : (l : Leader) (fs : List Field) (i : ℕ) (f : Field) → is_record l (slice_set fs i f) ≡ true → Record
with_field l fs i f valid = record { leader = l; fields = slice_set fs i f; valid = valid }

pub one_with : (l : Leader) (fs : List Field) (i : ℕ) (f : Field) (valid : is_record l (slice_set fs i f) ≡ true) (bytes items : List ℕ) → fits (slice_set fs i f) ≡ true
    → bytes ≡ items → items ≡ record_bytes l (slice_set fs i f) → IsOfRecord bytes
one_with l fs i f valid bytes items fit same spelled = record { rec = with_field l fs i f valid; fitting = fit; spelled = same ∙ spelled }

pub leader_with : (l : Leader) (fs : List Field) (i : ℕ) (f : Field) (bytes items : List ℕ) (w : IsOfRecord bytes) → is_record l (slice_set fs i f) ≡ true
    → fits (slice_set fs i f) ≡ true → bytes ≡ items → items ≡ record_bytes l (slice_set fs i f) → w.rec.leader ≡ l
leader_with l fs i f bytes items w valid fit same spelled =
    ap (λ (r : Record). r.leader) (one_of bytes w (with_field l fs i f valid) fit (same ∙ spelled))

pub fields_with : (l : Leader) (fs : List Field) (i : ℕ) (f : Field) (bytes items : List ℕ) (w : IsOfRecord bytes) → is_record l (slice_set fs i f) ≡ true
    → fits (slice_set fs i f) ≡ true → bytes ≡ items → items ≡ record_bytes l (slice_set fs i f) → w.rec.fields ≡ slice_set fs i f
fields_with l fs i f bytes items w valid fit same spelled =
    ap (λ (r : Record). r.fields) (one_of bytes w (with_field l fs i f valid) fit (same ∙ spelled))

pub utf8_with : (l : Leader) (fs : List Field) (i : ℕ) (f : Field) (bytes items : List ℕ) (w : IsOfRecord bytes) → is_record l (slice_set fs i f) ≡ true
    → fits (slice_set fs i f) ≡ true → bytes ≡ items → items ≡ record_bytes l (slice_set fs i f) → All HasUtf8Texts fs → HasUtf8Texts f
    → All HasUtf8Texts w.rec.fields
utf8_with l fs i f bytes items w valid fit same spelled utf8 its =
    utf8_of bytes w (with_field l fs i f valid) fit (same ∙ spelled) (All-set HasUtf8Texts fs i f its utf8)

regroup : (a d p q r : List ℕ) (t u : ℕ) → ((((a ++ d) ++ (t ∷ p)) ++ q) ++ (r ++ u ∷ [])) ≡ ((((a ++ d) ++ t ∷ []) ++ (p ++ (q ++ r))) ++ u ∷ [])
regroup a d p q r t u = simp append_assoc

-- the parts one after the other are the record with the other field
pub rewritten : (l : Leader) (fs : List Field) (i : ℕ) (f : Field) → i < length fs
    → (((leader_bytes l (slice_set fs i f) ++ directory_bytes 0 (slice_set fs i f)) ++ (field_terminator ∷ flat_map field_bytes (take i fs))) ++ field_bytes f) ++ (flat_map field_bytes (drop (i + 1) fs) ++ record_terminator ∷ [])
    ≡ record_bytes l (slice_set fs i f)
unfolding record_bytes
rewritten l fs i f lt =
    let a = leader_bytes l (slice_set fs i f) in
    let d = directory_bytes 0 (slice_set fs i f) in
    regroup a d (flat_map field_bytes (take i fs)) (field_bytes f) (flat_map field_bytes (drop (i + 1) fs)) field_terminator record_terminator
    ∙ ap (λ m. (((a ++ d) ++ field_terminator ∷ []) ++ m) ++ record_terminator ∷ []) (sym (fields_set fs i f lt))

pub rewritten_all : (l : Leader) (fs : List Field) (i : ℕ) (f : Field) (start leader before behind : List ℕ) → i < length fs → start ≡ [] → leader ≡ leader_bytes l (slice_set fs i f)
    → before ≡ field_terminator ∷ flat_map field_bytes (take i fs) → behind ≡ flat_map field_bytes (drop (i + 1) fs) ++ record_terminator ∷ []
    → ((((start ++ leader) ++ directory_bytes 0 (slice_set fs i f)) ++ before) ++ field_bytes f) ++ behind ≡ record_bytes l (slice_set fs i f)
rewritten_all l fs i f start leader before behind lt none first front back = rw (none, first, front, back) (rewritten l fs i f lt)

-- one more entry
pub entries_more : (fs : List Field) (i start size : ℕ) (out piece whole : List ℕ) (tag : Tag) (area : List ℕ) → IsEntryOf fs i tag area
    → size ≡ length area + 1 → piece ≡ entry_of tag size start → out ++ directory_bytes start (drop i fs) ≡ whole
    → (out ++ piece) ++ directory_bytes (start + size) (drop (i + 1) fs) ≡ whole
entries_more fs i start size out piece whole tag area e long is before =
    let its_size : size ≡ field_length e.field = long ∙ length_there fs i tag area e in
    let next : directory_bytes start (drop i fs) ≡ entry_bytes start e.field ++ directory_bytes (start + size) (drop (i + 1) fs) =
    entry_next start size fs i e.field (within_there fs i tag area e) (field_here fs i tag area e) its_size in
    let named : piece ≡ entry_bytes start e.field = is ∙ entry_is tag size start e.field (sym e.is.its_tag) its_size in
    let behind = directory_bytes (start + size) (drop (i + 1) fs) in
    append_assoc out piece behind ∙ ap (λ p. out ++ (p ++ behind)) named ∙ ap (λ d. out ++ d) (sym next) ∙ before

-- and the length of what is left
pub lengths_more : (fs : List Field) (i size : ℕ) (tag : Tag) (area : List ℕ) → IsEntryOf fs i tag area → size ≡ length area + 1
    → fields_length (drop i fs) ≡ size + fields_length (drop (i + 1) fs)
lengths_more fs i size tag area e long =
    let its_size : size ≡ field_length e.field = long ∙ length_there fs i tag area e in
    of fs i e.field (within_there fs i tag area e) (field_here fs i tag area e) ∙ ap (λ n. n + fields_length (drop (i + 1) fs)) (sym its_size) where
      of : (gs : List Field) (j : ℕ) (g : Field) → j < length gs → g ≡ get_or gs j g → fields_length (drop j gs) ≡ field_length g + fields_length (drop (j + 1) gs)
      of [] j g lt is = absurd (omega arith)
      of (x ∷ xs) zero g lt is = let same : field_length g ≡ field_length x = ap field_length is in omega (arith, same)
      of (x ∷ xs) (suc j) g lt is =
          of xs j g (omega arith) is ∙ ap (λ n. field_length g + fields_length (drop n xs)) (add-one j) ∙ ap (λ n. field_length g + fields_length (drop n (x ∷ xs))) (sym (add-one (suc j)))

-- the field's own part of the directory, and what follows it
pub directory_made : (fs : List Field) (i size start : ℕ) (f : Field) (tag : Tag) (out before piece rest : List ℕ) → i < length fs → tag ≡ tag_of f → size ≡ field_length f
    → start ≡ fields_length (take i fs) → before ≡ directory_bytes 0 (take i fs) → piece ≡ entry_of tag size start
    → rest ≡ directory_bytes (start + size) (drop (i + 1) fs) → ((out ++ before) ++ piece) ++ rest ≡ out ++ directory_bytes 0 (slice_set fs i f)
directory_made fs i size start f tag out before piece rest lt its_tag its_size its_start b p r =
    let here : piece ≡ entry_bytes (fields_length (take i fs)) f = p ∙ entry_is tag size start f its_tag its_size ∙ ap (λ n. entry_bytes n f) its_start in
    let sum : start + size ≡ fields_length (take i fs) + field_length f = ap (λ n. n + size) its_start ∙ ap (λ n. fields_length (take i fs) + n) its_size in
    let left : rest ≡ directory_bytes (fields_length (take i fs) + field_length f) (drop (i + 1) fs) = r ∙ ap (λ n. directory_bytes n (drop (i + 1) fs)) sum in
    append_assoc (out ++ before) piece rest ∙ append_assoc out before (piece ++ rest)
    ∙ ap (λ x. out ++ (x ++ (piece ++ rest))) b
    ∙ ap (λ x. out ++ (directory_bytes 0 (take i fs) ++ (x ++ rest))) here
    ∙ ap (λ x. out ++ (directory_bytes 0 (take i fs) ++ (entry_bytes (fields_length (take i fs)) f ++ x))) left
    ∙ ap (λ x. out ++ x) (sym (directory_set fs i f lt))
