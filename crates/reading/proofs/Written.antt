-- A written record is read as itself.
use Rattle.std.proofs.Common.{◌≡◌, ◌∙◌, ℕ, ◌<◌, true, false, List, [], length, map, get_or, take, drop, refl, sym, ap, subst, arith}
use Rattle.std.specs.Str.{IsUtf8}
use Rattle.std.specs.List.{All, flat_map, list_all}
use Rattle.std.proofs.lemmas.Bool.{and_parts, not-true}
use Rattle.std.proofs.lemmas.List.{length-map, get_or-map}
use Rattle.std.proofs.lemmas.List.FromFn.{length-map-range_with_len, get_or-map-range_with_len}
use Rattle.std.proofs.lemmas.Option.{slice_get_within, get_or_from_slice_get}
use Rattle.marc_types.specs.Valid.{is_subfield, is_field, is_control_tag, is_record}
use Rattle.marc_types.specs.declared.field.Tag.{Tag}
use Rattle.marc_types.specs.declared.field.Leader.{Leader}
use Rattle.marc_types.specs.declared.field.Subfield.{Subfield}
use Rattle.marc_types.specs.declared.field.Field.{Field}
use Rattle.marc_types.specs.declared.field.Field.TheVariants.{Control, Variable}
use Rattle.iso2709_record.specs.Written.{subfield_bytes, field_data, record_bytes, fits}
use Rattle.iso2709_record.specs.Layout.{entry_count, tag_at, data_at}
use Rattle.iso2709_record.specs.Raw.{coding_at, raw_of, raw_field, raw_fields, raw_record, raw_of_record}
use Rattle.iso2709_record.specs.declared.raw.RawField.{RawField}
use Rattle.iso2709_record.specs.declared.raw.RawRecord.{RawRecord}
use Rattle.iso2709_record.specs.Texts.{HasUtf8Text, HasUtf8Texts}
use Rattle.iso2709_record.proofs.FieldData.{subfields_are_utf8}
use Rattle.iso2709_record.proofs.Each.{fields_valid, each_passes}
use Rattle.iso2709_record.proofs.ReadAgain.{written_is_sound, written_holds}
use Rattle.reading.specs.Reading.{is_marc8, is_known_coding, text_start, InUtf8, IsFieldAt, IsReadAs}
use Rattle.reading.specs.Answers.{IsFieldOfText}

subfields_valid : (tag : Tag) (a b : ℕ) (subs : List Subfield) → is_field (Variable tag a b subs) ≡ true → list_all is_subfield subs ≡ true
unfolding is_field
subfields_valid tag a b subs h = (and_parts _ _ h).1

-- the data of a control field, and of any other, are read as the field
control_read_again : (coding : ℕ) (tag : Tag) (text : List ℕ) → is_marc8 coding ≡ false → is_field (Control tag text) ≡ true → IsUtf8 text
    → IsFieldOfText coding tag [] (field_data (Control tag text)) (Control tag text)
unfolding field_data
control_read_again coding tag text plain valid utf8 = record {
  text = text;
  read = InUtf8 coding text plain utf8;
  is = record { valid = valid; its_tag = refl; its_bytes = refl };
}

variable_read_again : (coding : ℕ) (tag : Tag) (a b : ℕ) (subs : List Subfield) → is_marc8 coding ≡ false → is_field (Variable tag a b subs) ≡ true → All HasUtf8Text subs
    → IsFieldOfText coding tag (take 2 (field_data (Variable tag a b subs))) (drop 2 (field_data (Variable tag a b subs))) (Variable tag a b subs)
unfolding field_data
variable_read_again coding tag a b subs plain valid utf8 = record {
  text = flat_map subfield_bytes subs;
  read = InUtf8 coding (flat_map subfield_bytes subs) plain (subfields_are_utf8 subs (subfields_valid tag a b subs valid) utf8);
  is = record { valid = valid; its_tag = refl; its_bytes = refl };
}

is_control : (tag : Tag) (text : List ℕ) → is_field (Control tag text) ≡ true → is_control_tag tag ≡ true
unfolding is_field
is_control tag text h = (and_parts _ _ (and_parts _ _ h).0).1

is_no_control : (tag : Tag) (a b : ℕ) (subs : List Subfield) → is_field (Variable tag a b subs) ≡ true → is_control_tag tag ≡ false
unfolding is_field
is_no_control tag a b subs h = not-true _ (and_parts _ _ (and_parts _ _ (and_parts _ _ (and_parts _ _ h).0).0).0).1

-- an entry whose text begins so far behind its first byte
at_field : (bytes : List ℕ) (entry : ℕ) (f : Field) (start : ℕ) → text_start bytes entry ≡ start
    → IsFieldOfText (coding_at bytes) (tag_at bytes entry) (take start (data_at bytes entry)) (drop start (data_at bytes entry)) f
    → IsFieldAt bytes entry f
at_field bytes entry f start is read = let there = rw (← is) at read in record { text = there.text; read = there.read; is = there.is }

-- where the tag and the data of an entry are those of a field, the entry is read as the field
field_read_again : (bytes : List ℕ) (entry : ℕ) (f : Field) → is_marc8 (coding_at bytes) ≡ false → is_field f ≡ true → HasUtf8Texts f
    → raw_field bytes entry ≡ raw_of f → IsFieldAt bytes entry f
field_read_again bytes entry (Control tag text) plain valid utf8 same =
    let its_tag : tag_at bytes entry ≡ tag = ap (λ (r : RawField). r.tag) same in
    let its_data : data_at bytes entry ≡ field_data (Control tag text) = ap (λ (r : RawField). r.area) same in
    at_field bytes entry (Control tag text) 0 (rw (its_tag, is_control tag text valid) refl)
    (rw (its_tag, its_data) (control_read_again (coding_at bytes) tag text plain valid utf8))
field_read_again bytes entry (Variable tag a b subs) plain valid utf8 same =
    let its_tag : tag_at bytes entry ≡ tag = ap (λ (r : RawField). r.tag) same in
    let its_data : data_at bytes entry ≡ field_data (Variable tag a b subs) = ap (λ (r : RawField). r.area) same in
    at_field bytes entry (Variable tag a b subs) 2 (rw (its_tag, is_no_control tag a b subs valid) refl)
    (rw (its_tag, its_data) (variable_read_again (coding_at bytes) tag a b subs plain valid utf8))

raw_again : (l : Leader) (fs : List Field) (entry : ℕ) (f : Field) → raw_record (record_bytes l fs) ≡ raw_of_record l fs
    → entry < length fs → entry_count (record_bytes l fs) ≡ length fs → get_or fs entry f ≡ f → raw_field (record_bytes l fs) entry ≡ raw_of f
raw_again l fs entry f same within count is =
    let listed : raw_fields (record_bytes l fs) (entry_count (record_bytes l fs)) ≡ map raw_of fs = ap (λ (r : RawRecord). r.fields) same in
    sym (get_or-map-range_with_len (raw_field (record_bytes l fs)) 0 (entry_count (record_bytes l fs)) entry entry (raw_of f) (omega arith) (omega arith))
    ∙ ap (λ fields. get_or fields entry (raw_of f)) listed
    ∙ get_or-map raw_of fs entry f (raw_of f) within ∙ ap raw_of is

count_again : (l : Leader) (fs : List Field) → raw_record (record_bytes l fs) ≡ raw_of_record l fs → entry_count (record_bytes l fs) ≡ length fs
count_again l fs same =
    sym (length-map-range_with_len (raw_field (record_bytes l fs)) 0 (entry_count (record_bytes l fs)))
    ∙ ap (λ (r : RawRecord). length r.fields) same ∙ length-map fs raw_of

-- a written record is read as itself
pub written_reads : (l : Leader) (fs : List Field) → is_record l fs ≡ true → fits fs ≡ true → All HasUtf8Texts fs → IsReadAs (record_bytes l fs) l fs
written_reads l fs valid fit utf8 =
    let same = written_holds l fs valid fit in
    let coding : coding_at (record_bytes l fs) ≡ 97 = ap (λ (r : RawRecord). r.coding) same in
    let count : entry_count (record_bytes l fs) ≡ length fs = count_again l fs same in
    record {
      sound = written_is_sound l fs valid fit;
      coding = ap is_known_coding coding;
      leader_is = sym (ap (λ (r : RawRecord). r.leader) same);
      count = sym count;
      fields_are = λ entry f found.
          let within : entry < length fs = slice_get_within fs entry f found in
          let is : get_or fs entry f ≡ f = get_or_from_slice_get fs entry f f found in
          field_read_again (record_bytes l fs) entry f (ap is_marc8 coding)
          (each_passes is_field fs entry f (fields_valid l fs valid) within (sym is))
          (subst HasUtf8Texts is (utf8 entry f within))
          (raw_again l fs entry f same within count is);
    }
