-- A piece of a file makes an entry, or is refused.
use Rattle.std.proofs.Common.{◌≡◌, ℕ, zero, suc, ◌+◌, ◌*◌, ◌≤◌, ◌<◌, Bool, true, false, List, [], ◌∷◌, ◌++◌, length, take, drop, get_or, Option, Some, None, refl, sym, subst, arith, ◌⊎◌, inl, inr, leb, add-one}
use Rattle.std.proofs.lemmas.Bool.Decides.{leb_tells}
use Rattle.std.specs.Bool.{MatchBool}
use Rattle.marc_types.specs.Valid.{is_control_tag, field_size}
use Rattle.marc_types.specs.declared.entry.Entry.{Entry}
use Rattle.marc_types.specs.declared.field.Field.{Field}
use Rattle.marc_types.specs.declared.field.Field.TheVariants.{Control, Variable}
use Rattle.marc_types.specs.declared.record.Record.{Record}
use Rattle.marc_types.specs.declared.refusal.Refusal.{Refusal}
use Rattle.marc_types.specs.declared.refusal.Refusal.TheVariants.{BadLength, BadLeader, BadDirectory, BadField, UnknownCoding}
use Rattle.marc_types.specs.declared.refusal.RecordFault.TheVariants.{Refused}
use Rattle.iso2709_record.specs.First.{AllGood, IsFirstBad}
use Rattle.iso2709_record.specs.Layout.{entry_count, tag_at, data_at, length_at}
use Rattle.iso2709_record.specs.Raw.{leader_at, coding_at}
use Rattle.iso2709_record.specs.Faults.{has_bad_length, has_bad_leader, is_ragged, is_good_entry, is_good_field, HasWholeEntries, HasDirectory, IsSound}
use Rattle.iso2709_record.proofs.Sound.{sound_area, sound_leader, sound_tag, sound_unended, length_data}
use Rattle.entry_record.specs.Admission.{admission_refusal}
use Rattle.entry_record.specs.Prepared.{new_entry}
use Rattle.reading.specs.Reading.{is_known_coding, text_start, IsFieldAt, IsFaultIn, IsEntryFault, IsReadAs, IsRefusedAs}
use Rattle.reading.specs.Answers.{IsFieldOfText, AreFieldsUpTo}
use Rattle.reading.specs.Preparing.{MakesEntry, IsRefusedInFile, Unread, NotTaken}
use Rattle.reading.proofs.Fields.{control_read, variable_read, subfields_there, size_of_control, size_of_variable}
use Rattle.reading.proofs.Records.{no_fields, fields_more, piece_refused, piece_is_record}
use Rattle.marc8_latin.specs.declared.fault.Marc8Fault.{Marc8Fault}
use Rattle.file_entries.proofs.EveryText.{IsOfBytes, HasTextOr, Reads, Fails, text_or_fault, refused_some}

-- the test holds at each place, or fails at a first one
data FirstBadOr (is_good : ℕ → Bool) (count : ℕ) : Type 0 where
  AllAre : AllGood is_good count → FirstBadOr is_good count
  Bad : (place : ℕ) → IsFirstBad is_good count place → FirstBadOr is_good count

good_more : (is_good : ℕ → Bool) (count : ℕ) → AllGood is_good count → is_good count ≡ true → AllGood is_good (suc count)
good_more is_good count all last k within = by (leb_tells (suc k) count) where
  by : ((leb (suc k) count ≡ true) × (suc k ≤ count)) ⊎ ((leb (suc k) count ≡ false) × (count < suc k)) → is_good k ≡ true
  by (inl h) = all k (omega (arith, h.1))
  by (inr h) = let same : k ≡ count = omega (arith, h.1, within) in subst (λ n. is_good n ≡ true) (sym same) last

first_bad_or : (is_good : ℕ → Bool) (count : ℕ) → FirstBadOr is_good count
first_bad_or is_good zero = AllAre (λ k within. absurd (omega arith))
first_bad_or is_good (suc count) = before (first_bad_or is_good count) where
  here : (b : Bool) → AllGood is_good count → is_good count ≡ b → FirstBadOr is_good (suc count)
  here true all e = AllAre (good_more is_good count all e)
  here false all e = Bad count (record { within = omega arith; bad = e; before = all })

  before : FirstBadOr is_good count → FirstBadOr is_good (suc count)
  before (AllAre all) = here (is_good count) all refl
  before (Bad place is) = Bad place (record { within = omega (arith, is.within); bad = is.bad; before = is.before })

-- nothing is refused before the coding is looked at, or there is a refusal
data SoundOr (bytes : List ℕ) : Type 0 where
  Sound : IsSound bytes → SoundOr bytes
  Unsound : (refusal : Refusal) → IsRefusedAs bytes refusal → SoundOr bytes

fields_sound : (bytes : List ℕ) → HasDirectory bytes → FirstBadOr (is_good_field bytes) (entry_count bytes) → SoundOr bytes
fields_sound bytes directory (AllAre all) = Sound (record { directory = directory; good_fields = all })
fields_sound bytes directory (Bad place is) = Unsound (BadField place) (directory, is)

entries_sound : (bytes : List ℕ) → HasWholeEntries bytes → FirstBadOr (is_good_entry bytes) (entry_count bytes) → SoundOr bytes
entries_sound bytes whole (AllAre all) = fields_sound bytes (record { whole = whole; good_entries = all }) (first_bad_or (is_good_field bytes) (entry_count bytes))
entries_sound bytes whole (Bad place is) =
    Unsound (BadDirectory place) (
      whole.good_length,
      whole.good_leader,
      subst (λ b. MatchBool b (place ≡ entry_count bytes) (IsFirstBad (is_good_entry bytes) (entry_count bytes) place)) (sym whole.not_ragged) is,
    )

directory_sound : (bytes : List ℕ) (b : Bool) → has_bad_length bytes ≡ false → has_bad_leader bytes ≡ false → is_ragged bytes ≡ b → SoundOr bytes
directory_sound bytes false length leader e =
    entries_sound bytes (record { good_length = length; good_leader = leader; not_ragged = e }) (first_bad_or (is_good_entry bytes) (entry_count bytes))
directory_sound bytes true length leader e =
    Unsound (BadDirectory (entry_count bytes)) (
      length,
      leader,
      subst (λ b. MatchBool b (entry_count bytes ≡ entry_count bytes) (IsFirstBad (is_good_entry bytes) (entry_count bytes) (entry_count bytes))) (sym e) refl,
    )

leader_sound : (bytes : List ℕ) (b : Bool) → has_bad_length bytes ≡ false → has_bad_leader bytes ≡ b → SoundOr bytes
leader_sound bytes false length e = directory_sound bytes (is_ragged bytes) length e refl
leader_sound bytes true length e = Unsound BadLeader (length, e)

length_sound : (bytes : List ℕ) (b : Bool) → has_bad_length bytes ≡ b → SoundOr bytes
length_sound bytes false e = leader_sound bytes (has_bad_leader bytes) e refl
length_sound bytes true e = Unsound BadLength e

-- the field of an entry, or the refusal of its text
data FieldOr (bytes : List ℕ) (entry : ℕ) : Type 0 where
  AField : (f : Field) → IsFieldAt bytes entry f → field_size f ≤ 3 * length_at bytes entry → FieldOr bytes entry
  NoField : (refusal : Refusal) → IsEntryFault bytes entry refusal → FieldOr bytes entry

-- an entry whose text begins so far behind its first byte
at_field : (bytes : List ℕ) (entry : ℕ) (f : Field) (start : ℕ) → text_start bytes entry ≡ start
    → IsFieldOfText (coding_at bytes) (tag_at bytes entry) (take start (data_at bytes entry)) (drop start (data_at bytes entry)) f
    → IsFieldAt bytes entry f
at_field bytes entry f start is read = let there = rw (← is) at read in record { text = there.text; read = there.read; is = there.is }

no_field : (bytes : List ℕ) (entry start : ℕ) (fault : Marc8Fault) → text_start bytes entry ≡ start
    → IsFaultIn (coding_at bytes) (drop start (data_at bytes entry)) fault → IsOfBytes fault → FieldOr bytes entry
no_field bytes entry start fault e is named =
    let some = refused_some entry (text_start bytes entry) fault named in
    NoField some.refusal (record {
      fault = fault;
      here = subst (λ n. IsFaultIn (coding_at bytes) (drop n (data_at bytes entry)) fault) (sym e) is;
      named = some.named;
    })

control_field : (bytes : List ℕ) (entry : ℕ) → IsSound bytes → entry < entry_count bytes → is_control_tag (tag_at bytes entry) ≡ true
    → HasTextOr (coding_at bytes) (data_at bytes entry) → FieldOr bytes entry
control_field bytes entry sound within control (Reads text is size) =
    let good = sound_area bytes entry sound within in
    let whole = length_data bytes entry good in
    AField (Control (tag_at bytes entry) text)
    (at_field bytes entry (Control (tag_at bytes entry) text) 0 (rw control refl)
    (control_read (coding_at bytes) (tag_at bytes entry) (data_at bytes entry) text (sound_tag bytes entry sound within) control good.fits
    (sound_unended bytes entry sound within) is))
    (size_of_control (tag_at bytes entry) text (3 * length_at bytes entry) (omega (arith, size, whole)))
control_field bytes entry sound within control (Fails fault is named) = no_field bytes entry 0 fault (rw control refl) is named

variable_field : (bytes : List ℕ) (entry : ℕ) → IsSound bytes → entry < entry_count bytes → is_control_tag (tag_at bytes entry) ≡ false
    → HasTextOr (coding_at bytes) (drop 2 (data_at bytes entry)) → FieldOr bytes entry
variable_field bytes entry sound within variable (Reads text is size) =
    let good = sound_area bytes entry sound within in
    let area = data_at bytes entry in
    let unended = sound_unended bytes entry sound within in
    let subs = subfields_there (coding_at bytes) (tag_at bytes entry) area text variable good.fits unended is in
    let f : Field = Variable (tag_at bytes entry) (get_or area 0 0) (get_or area 1 0) subs.0 in
    AField f
    (at_field bytes entry f 2 (rw variable refl)
    (variable_read (coding_at bytes) (tag_at bytes entry) area text subs.0 (sound_tag bytes entry sound within) variable good.fits is subs.1))
    (omega (arith, size_of_variable (tag_at bytes entry) (get_or area 0 0) (get_or area 1 0) subs.0 text area subs.1 size, length_data bytes entry good))
variable_field bytes entry sound within variable (Fails fault is named) = no_field bytes entry 2 fault (rw variable refl) is named

field_or : (bytes : List ℕ) (entry : ℕ) → IsSound bytes → entry < entry_count bytes → FieldOr bytes entry
field_or bytes entry sound within = by (is_control_tag (tag_at bytes entry)) refl where
  by : (b : Bool) → is_control_tag (tag_at bytes entry) ≡ b → FieldOr bytes entry
  by true e = control_field bytes entry sound within e (text_or_fault (coding_at bytes) (data_at bytes entry))
  by false e = variable_field bytes entry sound within e (text_or_fault (coding_at bytes) (drop 2 (data_at bytes entry)))

-- the fields of so many first entries, or the piece's refusal
data FieldsOr (bytes : List ℕ) (entries : ℕ) : Type 0 where
  Fields : (fields : List Field) → AreFieldsUpTo bytes entries fields → FieldsOr bytes entries
  NoFields : (refusal : Refusal) → IsRefusedAs bytes refusal → FieldsOr bytes entries

fields_or : (bytes : List ℕ) (entries : ℕ) → IsSound bytes → is_known_coding (coding_at bytes) ≡ true → entries ≤ entry_count bytes → FieldsOr bytes entries
fields_or bytes zero sound known within = Fields [] (no_fields bytes)
fields_or bytes (suc entries) sound known within = before (fields_or bytes entries sound known (omega arith)) where
  here : (fields : List Field) → AreFieldsUpTo bytes entries fields → FieldOr bytes entries → FieldsOr bytes (suc entries)
  here fields up (AField f is size) =
      Fields (fields ++ f ∷ []) (subst (λ n. AreFieldsUpTo bytes n (fields ++ f ∷ [])) (add-one entries) (fields_more bytes entries fields f up is size))
  here fields up (NoField refusal is) = NoFields refusal (piece_refused bytes entries fields (Refused refusal) sound known (omega arith) up is)

  before : FieldsOr bytes entries → FieldsOr bytes (suc entries)
  before (Fields fields up) = here fields up (field_or bytes entries sound (omega arith))
  before (NoFields refusal is) = NoFields refusal is

-- the record that a piece is, or its refusal
data RecordOr (bytes : List ℕ) : Type 0 where
  ARecord : (rec : Record) → IsReadAs bytes rec.leader rec.fields → RecordOr bytes
  NoRecord : (refusal : Refusal) → IsRefusedAs bytes refusal → RecordOr bytes

record_of : (bytes : List ℕ) → IsSound bytes → is_known_coding (coding_at bytes) ≡ true → FieldsOr bytes (entry_count bytes) → RecordOr bytes
record_of bytes sound known (Fields fields up) =
    let rec : Record = record {
      leader = leader_at bytes;
      fields = fields;
      valid = piece_is_record bytes (leader_at bytes) fields sound (sound_leader bytes sound) up;
    } in
    ARecord rec (record { sound = sound; coding = known; leader_is = refl; count = up.count; fields_are = up.are })
record_of bytes sound known (NoFields refusal is) = NoRecord refusal is

record_or : (bytes : List ℕ) → SoundOr bytes → RecordOr bytes
record_or bytes (Unsound refusal is) = NoRecord refusal is
record_or bytes (Sound sound) = by (is_known_coding (coding_at bytes)) refl where
  by : (b : Bool) → is_known_coding (coding_at bytes) ≡ b → RecordOr bytes
  by true known = record_of bytes sound known (fields_or bytes (entry_count bytes) sound known (omega arith))
  by false unknown = NoRecord UnknownCoding (sound, unknown)

-- the entry that a loader makes of a piece, or its refusal
pub data EntryOr (library bytes : List ℕ) (loader ordinal : ℕ) : Type 0 where
  AnEntry : (e : Entry) → MakesEntry library bytes loader ordinal e → EntryOr library bytes loader ordinal
  NotMade : (refusal : Refusal) → IsRefusedInFile library bytes refusal → EntryOr library bytes loader ordinal

admitted_or : (library bytes : List ℕ) (loader ordinal : ℕ) (rec : Record) (why : Option Refusal) → IsReadAs bytes rec.leader rec.fields
    → admission_refusal library rec.leader rec.fields ≡ why → EntryOr library bytes loader ordinal
admitted_or library bytes loader ordinal rec None read is =
    AnEntry (new_entry library loader ordinal rec) (record { read = read; taken = is; is_new = refl })
admitted_or library bytes loader ordinal rec (Some refusal) read is = NotMade refusal (NotTaken rec read is)

read_or : (library bytes : List ℕ) (loader ordinal : ℕ) → RecordOr bytes → EntryOr library bytes loader ordinal
read_or library bytes loader ordinal (ARecord rec read) =
    admitted_or library bytes loader ordinal rec (admission_refusal library rec.leader rec.fields) read refl
read_or library bytes loader ordinal (NoRecord refusal is) = NotMade refusal (Unread is)

pub entry_or_refusal : (library bytes : List ℕ) (loader ordinal : ℕ) → EntryOr library bytes loader ordinal
entry_or_refusal library bytes loader ordinal = read_or library bytes loader ordinal (record_or bytes (length_sound bytes (has_bad_length bytes) refl))
