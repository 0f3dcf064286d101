-- Where the parts of a record stand in its written form.
use Rattle.std.proofs.Common.{◌≡◌, ℕ, zero, suc, ◌+◌, ◌-◌, ◌*◌, ◌≤◌, ◌<◌, List, [], ◌∷◌, ◌++◌, length, take, drop, get_or, refl, sym, ap, ◌∙◌, arith, append_assoc, length-append, take-append-drop, add-zero, zero-add}
use Rattle.std.specs.Prelude.{slice_range}
use Rattle.std.specs.List.{flat_map}
use Rattle.std.proofs.Math.Seq.{drop-append-add}
use Rattle.std.proofs.lemmas.List.{drop-append-le, take_at, drop_at}
use Rattle.std.proofs.lemmas.List.Concat.{flat_map-append}
use Rattle.marc_types.specs.declared.field.Tag.{Tag}
use Rattle.marc_types.specs.declared.field.Leader.{Leader}
use Rattle.marc_types.specs.Fields.{tag_of}
use Rattle.marc_types.specs.declared.field.Field.{Field}
use Rattle.iso2709_record.specs.Written.{field_terminator, record_terminator, field_bytes, field_length, fields_length, entry_of, entry_bytes, directory_bytes, leader_of, leader_bytes, record_bytes, record_length, base_address}
use Rattle.iso2709_record.proofs.Lengths.{length-leader_bytes, length-entry_bytes, length-directory_bytes, length-fields}
use Rattle.iso2709_record.proofs.Each.{fields_length-take}
use Rattle.outside.proofs.Fronts.{drop_next, piece_next}

-- an entry by its parts, and a leader
pub entry_is : (tag : Tag) (size start : ℕ) (f : Field) → tag ≡ tag_of f → size ≡ field_length f → entry_of tag size start ≡ entry_bytes start f
unfolding entry_bytes
entry_is tag size start f its_tag its_size = ap (λ t. entry_of t size start) its_tag ∙ ap (λ n. entry_of (tag_of f) n start) its_size

pub leader_is : (l : Leader) (fs : List Field) (size base : ℕ) → size ≡ record_length fs → base ≡ base_address fs → leader_of l size base ≡ leader_bytes l fs
unfolding leader_bytes
leader_is l fs size base its_size its_base = ap (λ n. leader_of l n base) its_size ∙ ap (λ n. leader_of l (record_length fs) n) its_base

-- the next directory entry
pub entry_next : (start n : ℕ) (fields : List Field) (i : ℕ) (f : Field) → i < length fields → f ≡ get_or fields i f → n ≡ field_length f
    → directory_bytes start (drop i fields) ≡ entry_bytes start f ++ directory_bytes (start + n) (drop (i + 1) fields)
entry_next start n fields i f h is len =
    ap (directory_bytes start) (drop_next fields i f h is)
    ∙ ap (λ m. entry_bytes start f ++ directory_bytes (start + m) (drop (i + 1) fields)) (sym len)

-- the part of so many bytes that stands behind another
pub part_place : (front part rest : List ℕ) (from size : ℕ) → length front ≡ from → length part ≡ size
    → take size (drop from (front ++ (part ++ rest))) ≡ part
part_place front part rest from size at long =
    ap (take size) (drop_at front (part ++ rest) from at) ∙ take_at part rest size long

-- what stands behind so many bytes of the second of two parts
behind_place : (front back : List ℕ) (from more : ℕ) → length front ≡ from → drop (from + more) (front ++ back) ≡ drop more back
behind_place front back from more at = ap (λ n. drop (n + more) (front ++ back)) (sym at) ∙ drop-append-add front back more

-- the first 24 bytes are the leader
pub leader_place : (l : Leader) (fs : List Field) → take 24 (record_bytes l fs) ≡ leader_bytes l fs
unfolding record_bytes
leader_place l fs =
    let leader = leader_bytes l fs in
    let rest = directory_bytes 0 fs ++ (field_terminator ∷ (flat_map field_bytes fs ++ record_terminator ∷ [])) in
    simp append_assoc (take_at leader rest 24 (length-leader_bytes l fs))

-- behind so many entries the directory goes on with the next field, which starts behind the fields before it
pub drop-directory_bytes : (start i : ℕ) (fs : List Field) → i ≤ length fs
    → drop (12 * i) (directory_bytes start fs) ≡ directory_bytes (start + fields_length (take i fs)) (drop i fs)
drop-directory_bytes start zero fs h = ap (λ n. directory_bytes n fs) (sym (add-zero start))
drop-directory_bytes start (suc i) [] h = absurd (omega arith)
drop-directory_bytes start (suc i) (f ∷ fs) h =
    let step : 12 * suc i ≡ 12 + 12 * i = omega arith in
    let sum : start + field_length f + fields_length (take i fs) ≡ start + (field_length f + fields_length (take i fs)) = omega arith in
    let rest = directory_bytes (start + field_length f) fs in
    ap (λ n. drop n (entry_bytes start f ++ rest)) step
    ∙ behind_place (entry_bytes start f) rest 12 (12 * i) (length-entry_bytes start f)
    ∙ drop-directory_bytes (start + field_length f) i fs (omega arith)
    ∙ ap (λ n. directory_bytes n (drop i fs)) sum

-- behind so many fields the next ones stand
pub drop-fields : (i : ℕ) (fs : List Field) → drop (fields_length (take i fs)) (flat_map field_bytes fs) ≡ flat_map field_bytes (drop i fs)
drop-fields i fs =
    ap (λ l. drop (fields_length (take i fs)) (flat_map field_bytes l)) (sym (take-append-drop i fs))
    ∙ ap (drop (fields_length (take i fs))) (flat_map-append field_bytes (take i fs) (drop i fs))
    ∙ drop_at (flat_map field_bytes (take i fs)) (flat_map field_bytes (drop i fs)) (fields_length (take i fs)) (length-fields (take i fs))

-- a part of a front, with more behind it
front_place : (front back part rest : List ℕ) (from size : ℕ) → from ≤ length front → drop from front ≡ part ++ rest → length part ≡ size
    → take size (drop from (front ++ back)) ≡ part
front_place front back part rest from size within at long =
    ap (take size) (drop-append-le from front back within ∙ ap (λ l. l ++ back) at ∙ append_assoc part rest back)
    ∙ take_at part (rest ++ back) size long

-- twelve bytes for each entry, behind the leader: each names the start of its field behind the base address
pub entry_place : (l : Leader) (fs : List Field) (i : ℕ) (f : Field) → i < length fs → f ≡ get_or fs i f
    → slice_range (record_bytes l fs) (24 + 12 * i) (36 + 12 * i) ≡ entry_bytes (fields_length (take i fs)) f
unfolding record_bytes
entry_place l fs i f h is =
    let leader = leader_bytes l fs in
    let directory = directory_bytes 0 fs in
    let rest = field_terminator ∷ (flat_map field_bytes fs ++ record_terminator ∷ []) in
    let start = fields_length (take i fs) in
    let parts : record_bytes l fs ≡ leader ++ (directory ++ rest) = simp append_assoc in
    let size : 36 + 12 * i - (24 + 12 * i) ≡ 12 = omega arith in
    let within : 12 * i ≤ length directory = omega (arith, length-directory_bytes 0 fs) in
    let next : drop (12 * i) directory ≡ entry_bytes start f ++ directory_bytes (start + field_length f) (drop (i + 1) fs) =
    drop-directory_bytes 0 i fs (omega arith)
    ∙ ap (λ n. directory_bytes n (drop i fs)) (zero-add start)
    ∙ entry_next start (field_length f) fs i f h is refl in
    ap (λ n. take n (drop (24 + 12 * i) (record_bytes l fs))) size
    ∙ ap (λ bytes. take 12 (drop (24 + 12 * i) bytes)) parts
    ∙ ap (take 12) (behind_place leader (directory ++ rest) 24 (12 * i) (length-leader_bytes l fs))
    ∙ front_place directory rest (entry_bytes start f) _ (12 * i) 12 within next (length-entry_bytes start f)

-- the area of a field: so many bytes from its start on, behind the base address
pub area_place : (l : Leader) (fs : List Field) (i : ℕ) (f : Field) → i < length fs → f ≡ get_or fs i f
    → take (field_length f) (drop (base_address fs + fields_length (take i fs)) (record_bytes l fs)) ≡ field_bytes f
unfolding record_bytes field_length
area_place l fs i f h is =
    let leader = leader_bytes l fs in
    let before = leader ++ directory_bytes 0 fs ++ field_terminator ∷ [] in
    let fields = flat_map field_bytes fs in
    let start = fields_length (take i fs) in
    let parts : record_bytes l fs ≡ before ++ (fields ++ record_terminator ∷ []) = append_assoc before fields (record_terminator ∷ []) in
    let at : length before ≡ base_address fs =
    simp (length-append, length-leader_bytes, length-directory_bytes) (omega arith) in
    let within : start ≤ length fields = omega (arith, length-fields fs, fields_length-take i fs) in
    let next : drop start fields ≡ field_bytes f ++ flat_map field_bytes (drop (i + 1) fs) =
    drop-fields i fs ∙ piece_next field_bytes fs i f h is in
    ap (λ bytes. take (field_length f) (drop (base_address fs + start) bytes)) parts
    ∙ ap (take (field_length f)) (behind_place before (fields ++ record_terminator ∷ []) (base_address fs) start at)
    ∙ front_place fields (record_terminator ∷ []) (field_bytes f) _ start (field_length f) within next refl
