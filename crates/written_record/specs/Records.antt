-- The record whose written form some bytes are.
use mathlib.Core.HLevel.{is_prop→PathP}
use Rattle.std.specs.Prelude.{◌≡◌, ℕ, ◌≤◌, ◌<◌, true, List, [], ◌++◌, length, take, slice_get, Some}
use Rattle.std.specs.Coded.{Coded-set, coded_bool, coded_list, coded_ℕ}
use Rattle.std.proofs.Common.{◌∙◌, sym, ap}
use Rattle.marc_types.specs.declared.field.Tag.{Tag}
use Rattle.marc_types.specs.declared.field.Field.{Field}
use Rattle.marc_types.specs.declared.record.Record.{Record}
use Rattle.marc_types.specs.Valid.{is_record}
use Rattle.iso2709_record.specs.Written.{fields_length, base_address, record_length, record_bytes, fits}
use Rattle.iso2709_record.specs.Layout.{base_of, entry_count, tag_at, start_at, data_at}
use Rattle.iso2709_record.specs.Raw.{leader_at}
use Rattle.iso2709_record.specs.Faults.{IsSound}
use Rattle.iso2709_record.specs.Spelling.{IsFieldOf}
use Rattle.iso2709_record.specs.Texts.{HasUtf8Texts}
use Rattle.iso2709_record.proofs.Spelled.{record_spelled_once}

-- the bytes are this record's written form, and the record fits into one
pub record IsOfRecord (bytes : List ℕ) : Type 0 where
  pub rec : Record
  pub fitting : fits rec.fields ≡ true
  pub spelled : bytes ≡ record_bytes rec.leader rec.fields

-- the tag and the area are those of the field at this place, and its texts are UTF-8
pub record IsEntryOf (fields : List Field) (place : ℕ) (tag : Tag) (area : List ℕ) : Type 0 where
  pub field : Field
  pub there : slice_get fields place ≡ Some field
  pub is : IsFieldOf tag area field
  pub texts : HasUtf8Texts field

-- The bytes of a record are sound, and hold its leader and an entry for each field. Each field stands behind those before it.
pub record HoldsRecord (bytes : List ℕ) (rec : Record) : Type 0 where
  pub sound : IsSound bytes
  pub size : length bytes ≡ record_length rec.fields
  pub most : length bytes ≤ 99999
  pub leader : leader_at bytes ≡ rec.leader
  pub count : entry_count bytes ≡ length rec.fields
  pub base : base_of bytes ≡ base_address rec.fields
  pub entries : (place : ℕ) → place < length rec.fields → IsEntryOf rec.fields place (tag_at bytes place) (data_at bytes place)
  pub starts : (place : ℕ) → place < length rec.fields → start_at bytes place ≡ fields_length (take place rec.fields)

same_record : (one other : Record) → one.leader ≡ other.leader → one.fields ≡ other.fields → one ≡ other
same_record one other l f =
    let valid = is_prop→PathP (λ i. is_record (l i) (f i) ≡ true) (λ i. Coded-set coded_bool (is_record (l i) (f i)) true) one.valid other.valid in
    λ i. record { leader = l i; fields = f i; valid = valid i }

pub one_record : (bytes : List ℕ) (one other : IsOfRecord bytes) → one.rec ≡ other.rec
one_record bytes one other =
    let once =
    record_spelled_once one.rec.leader other.rec.leader one.rec.fields other.rec.fields [] [] one.rec.valid other.rec.valid one.fitting other.fitting
    (ap (λ l. l ++ []) (sym one.spelled ∙ other.spelled)) in
    same_record one.rec other.rec once.0 once.1

-- bytes are the written form of one record at most
pub IsOfRecord-prop : (bytes : List ℕ) → IsProp (IsOfRecord bytes)
IsOfRecord-prop bytes one other =
    let same = one_record bytes one other in
    let fitting = is_prop→PathP (λ i. fits (same i).fields ≡ true) (λ i. Coded-set coded_bool (fits (same i).fields) true) one.fitting other.fitting in
    let spelled =
    is_prop→PathP (λ i. bytes ≡ record_bytes (same i).leader (same i).fields)
    (λ i. Coded-set (coded_list coded_ℕ) bytes (record_bytes (same i).leader (same i).fields)) one.spelled other.spelled in
    λ i. record { rec = same i; fitting = fitting i; spelled = spelled i }
