-- What stands in the written form of a record.
use Rattle.std.proofs.Common.{◌≡◌, ◌∙◌, ℕ, ◌+◌, ◌<◌, true, List, [], ◌∷◌, ◌++◌, length, map, get_or, take, sym, ap, subst, arith, Some, option_map, length-append}
use Rattle.std.specs.Prelude.{slice_get}
use Rattle.std.specs.List.{All}
use Rattle.std.proofs.lemmas.List.{length-map, get_or-map, get_or_default, take_more}
use Rattle.std.proofs.lemmas.List.FromFn.{length-map-range_with_len, get_or-map-range_with_len}
use Rattle.std.proofs.lemmas.Option.{slice_get-get_or, slice_get_within, get_or_from_slice_get}
use Rattle.marc_types.specs.declared.field.Tag.{Tag}
use Rattle.marc_types.specs.declared.field.Leader.{Leader}
use Rattle.marc_types.specs.declared.field.Field.{Field}
use Rattle.marc_types.specs.declared.field.Field.TheVariants.{Control}
use Rattle.marc_types.specs.declared.record.Record.{Record}
use Rattle.marc_types.specs.Fields.{tag_of}
use Rattle.marc_types.specs.Valid.{is_record}
use Rattle.iso2709_record.specs.Written.{field_terminator, field_data, field_bytes, field_length, record_bytes, fits}
use Rattle.iso2709_record.specs.Layout.{entry_count, tag_at, data_at}
use Rattle.iso2709_record.specs.Raw.{raw_of, raw_field, raw_fields, raw_record, raw_of_record}
use Rattle.iso2709_record.specs.Spelling.{IsFieldOf}
use Rattle.iso2709_record.specs.Texts.{HasUtf8Texts, SpellsField}
use Rattle.iso2709_record.specs.declared.raw.RawField.{RawField}
use Rattle.iso2709_record.specs.declared.raw.RawRecord.{RawRecord}
use Rattle.iso2709_record.proofs.Each.{field_valid}
use Rattle.iso2709_record.proofs.Lengths.{length-record_bytes, fits_parts}
use Rattle.iso2709_record.proofs.ReadAgain.{written_is_sound, written_holds, written_starts}
use Rattle.iso2709_record.proofs.Spellings.{field_once}
use Rattle.written_record.specs.Records.{IsOfRecord, IsEntryOf, HoldsRecord, one_record}

count_again : (l : Leader) (fs : List Field) → raw_record (record_bytes l fs) ≡ raw_of_record l fs → entry_count (record_bytes l fs) ≡ length fs
count_again l fs same =
    sym (length-map-range_with_len (raw_field (record_bytes l fs)) 0 (entry_count (record_bytes l fs)))
    ∙ ap (λ (r : RawRecord). length r.fields) same ∙ length-map fs raw_of

field_again : (l : Leader) (fs : List Field) (entry : ℕ) (f : Field) → raw_record (record_bytes l fs) ≡ raw_of_record l fs
    → entry < length fs → entry_count (record_bytes l fs) ≡ length fs → get_or fs entry f ≡ f → raw_field (record_bytes l fs) entry ≡ raw_of f
field_again l fs entry f same within count is =
    let listed : raw_fields (record_bytes l fs) (entry_count (record_bytes l fs)) ≡ map raw_of fs = ap (λ (r : RawRecord). r.fields) same in
    sym (get_or-map-range_with_len (raw_field (record_bytes l fs)) 0 (entry_count (record_bytes l fs)) entry entry (raw_of f) (omega arith) (omega arith))
    ∙ ap (λ fields. get_or fields entry (raw_of f)) listed
    ∙ get_or-map raw_of fs entry f (raw_of f) within ∙ ap raw_of is

no_field : Field
no_field = Control (record { a = 48; b = 48; c = 48 }) []

-- the entry of each field holds its tag and its data
entry_again : (l : Leader) (fs : List Field) → is_record l fs ≡ true → fits fs ≡ true → All HasUtf8Texts fs → (place : ℕ) → place < length fs
    → IsEntryOf fs place (tag_at (record_bytes l fs) place) (data_at (record_bytes l fs) place)
entry_again l fs valid fit utf8 place within =
    let same = written_holds l fs valid fit in
    let f = get_or fs place no_field in
    let is : f ≡ get_or fs place f = get_or_default fs place no_field f within in
    let raw : raw_field (record_bytes l fs) place ≡ raw_of f = field_again l fs place f same within (count_again l fs same) (sym is) in
    record {
      field = f;
      there = slice_get-get_or fs place no_field within;
      is = record {
        valid = field_valid l fs place f valid within is;
        its_tag = sym (ap (λ (r : RawField). r.tag) raw);
        its_bytes = sym (ap (λ (r : RawField). r.area) raw);
      };
      texts = utf8 place no_field within;
    }

written : (r : Record) → fits r.fields ≡ true → All HasUtf8Texts r.fields → HoldsRecord (record_bytes r.leader r.fields) r
written r fit utf8 =
    let same = written_holds r.leader r.fields r.valid fit in
    let places = written_starts r.leader r.fields r.valid fit in
    let size = length-record_bytes r.leader r.fields in
    record {
      sound = written_is_sound r.leader r.fields r.valid fit;
      size = size;
      most = omega (arith, size, (fits_parts r.fields fit).0);
      leader = ap (λ (raw : RawRecord). raw.leader) same;
      count = count_again r.leader r.fields same;
      base = places.base;
      entries = entry_again r.leader r.fields r.valid fit utf8;
      starts = places.starts;
    }

-- the bytes of a written record hold it
pub holds : (bytes : List ℕ) (w : IsOfRecord bytes) → All HasUtf8Texts w.rec.fields → HoldsRecord bytes w.rec
holds bytes w utf8 = subst (λ b. HoldsRecord b w.rec) (sym w.spelled) (written w.rec w.fitting utf8)

-- bytes that are written as a record hold no other
pub one_of : (bytes : List ℕ) (w : IsOfRecord bytes) (r : Record) → fits r.fields ≡ true → bytes ≡ record_bytes r.leader r.fields → w.rec ≡ r
one_of bytes w r fit spelled = one_record bytes w (record { rec = r; fitting = fit; spelled = spelled })

-- and their texts are then that record's
pub utf8_of : (bytes : List ℕ) (w : IsOfRecord bytes) (r : Record) → fits r.fields ≡ true → bytes ≡ record_bytes r.leader r.fields
    → All HasUtf8Texts r.fields → All HasUtf8Texts w.rec.fields
utf8_of bytes w r fit spelled utf8 = subst (λ (s : Record). All HasUtf8Texts s.fields) (sym (one_of bytes w r fit spelled)) utf8

-- the same bytes hold the same record
pub one_copy : (bytes other : List ℕ) (w : IsOfRecord bytes) (v : IsOfRecord other) → bytes ≡ other → w.rec ≡ v.rec
one_copy bytes other w v same = one_of bytes w v.rec v.fitting (same ∙ v.spelled)

pub utf8_copy : (bytes other : List ℕ) (w : IsOfRecord bytes) (v : IsOfRecord other) → bytes ≡ other
    → All HasUtf8Texts v.rec.fields → All HasUtf8Texts w.rec.fields
utf8_copy bytes other w v same utf8 = utf8_of bytes w v.rec v.fitting (same ∙ v.spelled) utf8

-- the entry that was found in the bytes
pub entry_found : (bytes : List ℕ) (r : Record) (place : ℕ) (tag : Tag) (area : List ℕ) → HoldsRecord bytes r → place < length r.fields
    → tag ≡ tag_at bytes place → area ≡ data_at bytes place → IsEntryOf r.fields place tag area
entry_found bytes r place tag area h within its_tag its_area = rw (its_tag, its_area) (h.entries place within)

-- what an entry says of the field at its place
pub tag_there : (fields : List Field) (place : ℕ) (tag : Tag) (area : List ℕ) → IsEntryOf fields place tag area
    → Some tag ≡ option_map tag_of (slice_get fields place)
tag_there fields place tag area e = sym (ap (option_map tag_of) e.there ∙ ap Some e.is.its_tag)

pub area_there : (fields : List Field) (place : ℕ) (tag : Tag) (area : List ℕ) → IsEntryOf fields place tag area
    → Some area ≡ option_map field_data (slice_get fields place)
area_there fields place tag area e = sym (ap (option_map field_data) e.there ∙ ap Some e.is.its_bytes)

pub spells : (fields : List Field) (place : ℕ) (tag : Tag) (area : List ℕ) → IsEntryOf fields place tag area → SpellsField tag area
spells fields place tag area e = record { field = e.field; is = e.is; texts = e.texts }

pub field_there : (fields : List Field) (place : ℕ) (tag : Tag) (area : List ℕ) (field : Field) → IsEntryOf fields place tag area
    → IsFieldOf tag area field → Some field ≡ slice_get fields place
field_there fields place tag area field e is = ap Some (field_once tag area field e.field is e.is) ∙ sym e.there

pub length_there : (fields : List Field) (place : ℕ) (tag : Tag) (area : List ℕ) (e : IsEntryOf fields place tag area)
    → length area + 1 ≡ field_length e.field
unfolding field_length field_bytes
length_there fields place tag area e =
    omega (arith, length-append (field_data e.field) (field_terminator ∷ []), ap length e.is.its_bytes)

pub length_known : (fields : List Field) (place : ℕ) (tag : Tag) (area : List ℕ) (field : Field) → IsEntryOf fields place tag area
    → slice_get fields place ≡ Some field → length area + 1 ≡ field_length field
length_known fields place tag area field e there =
    let same : e.field ≡ field = sym (get_or_from_slice_get fields place e.field e.field e.there) ∙ get_or_from_slice_get fields place field e.field there in
    length_there fields place tag area e ∙ ap field_length same

-- the field itself, where one is known to stand there
pub field_here : (fields : List Field) (place : ℕ) (tag : Tag) (area : List ℕ) (e : IsEntryOf fields place tag area) → e.field ≡ get_or fields place e.field
field_here fields place tag area e = sym (get_or_from_slice_get fields place e.field e.field e.there)

pub within_there : (fields : List Field) (place : ℕ) (tag : Tag) (area : List ℕ) → IsEntryOf fields place tag area → place < length fields
within_there fields place tag area e = slice_get_within fields place e.field e.there

-- one more of the fields
pub take_there : (fields : List Field) (place : ℕ) (tag : Tag) (area : List ℕ) (front : List Field) (field : Field) → IsEntryOf fields place tag area
    → IsFieldOf tag area field → front ≡ take place fields → front ++ field ∷ [] ≡ take (place + 1) fields
take_there fields place tag area front field e is before =
    let more : take (place + 1) fields ≡ take place fields ++ get_or fields place e.field ∷ [] = take_more fields place e.field (within_there fields place tag area e) in
    let same : field ≡ get_or fields place e.field = field_once tag area field e.field is e.is ∙ field_here fields place tag area e in
    ap (λ l. l ++ field ∷ []) before ∙ ap (λ f. take place fields ++ f ∷ []) same ∙ sym more
