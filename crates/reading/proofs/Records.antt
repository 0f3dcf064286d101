-- The fields of a piece, one after the other, and the record that they make.
use Rattle.std.proofs.Common.{◌≡◌, ◌∙◌, ℕ, suc, ◌+◌, ◌*◌, ◌<◌, ◌≤◌, true, false, List, [], ◌∷◌, ◌++◌, length, length-append, get_or, Some, None, refl, sym, ap, subst, arith, add-one, leb, inl, inr, ◌⊎◌}
use Rattle.std.proofs.Math.ListN.{get_or-append}
use Rattle.std.specs.Prelude.{slice_get}
use Rattle.std.specs.List.{list_all}
use Rattle.std.proofs.lemmas.Grind.{common_steps}
use Rattle.std.proofs.lemmas.Bool.Decides.{nat_tests, leb_tells}
use Rattle.std.proofs.lemmas.Option.{slice_get_within, slice_get-get_or, get_or_from_slice_get, slice_get_cases}
use Rattle.std.proofs.Math.Seq.{get_or-append_seam}
use Rattle.marc_types.specs.Valid.{is_field, is_leader, is_record, field_size, fields_size}
use Rattle.marc_types.specs.declared.field.Leader.{Leader}
use Rattle.marc_types.specs.declared.field.Field.{Field}
use Rattle.marc_types.specs.declared.refusal.Refusal.{Refusal}
use Rattle.marc_types.specs.declared.refusal.RecordFault.{RecordFault}
use Rattle.marc_types.specs.declared.refusal.RecordFault.TheVariants.{Refused, NoMemory}
use Rattle.iso2709_record.specs.Layout.{entry_count, length_at}
use Rattle.iso2709_record.specs.Faults.{IsSound}
use Rattle.iso2709_record.specs.Raw.{coding_at}
use Rattle.iso2709_record.proofs.Sound.{sound_sizes, sound_lengths}
use Rattle.marc8_latin.specs.declared.fault.Marc8Fault.{Marc8Fault}
use Rattle.marc8_latin.specs.declared.fault.Marc8Fault.TheVariants.{BadByte}
use Rattle.marc8_latin.specs.declared.fault.Marc8Fault.TheVariants as marc8
use Rattle.reading.specs.Reading.{is_known_coding, text_start, IsFieldAt, HasText, IsTextRefusal, IsEntryFault, IsTextFault, IsRefusedAs}
use Rattle.reading.specs.Answers.{AreFieldsUpTo, IsRefusedEntry, IsRefusedPiece}

fields_size-push : (fields : List Field) (f : Field) → fields_size (fields ++ f ∷ []) ≡ fields_size fields + field_size f
fields_size-push [] f = omega arith
fields_size-push (g ∷ fields) f = omega (arith, fields_size-push fields f)

valid-push : (fields : List Field) (f : Field) → list_all is_field fields ≡ true → is_field f ≡ true → list_all is_field (fields ++ f ∷ []) ≡ true
valid-push [] f all one = grind (arith, common_steps)
valid-push (g ∷ fields) f all one =
    let first : is_field g ≡ true = grind (arith, common_steps) in
    let rest : list_all is_field (fields ++ f ∷ []) ≡ true = valid-push fields f (grind (arith, common_steps)) one in
    grind (arith, common_steps)

-- a place of a list with one more element is one of the list, or the last
get-push : {X : Type 0} (P : ℕ → X → Type 0) (xs : List X) (x : X) → ((k : ℕ) (y : X) → slice_get xs k ≡ Some y → P k y)
    → P (length xs) x → (k : ℕ) (y : X) → slice_get (xs ++ x ∷ []) k ≡ Some y → P k y
get-push P xs x old new k y found = at (leb_tells (suc k) (length xs)) where
  whole : get_or (xs ++ x ∷ []) k y ≡ y
  whole = get_or_from_slice_get (xs ++ x ∷ []) k y y found

  before : k < length xs → P k y
  before h = old k y (slice_get-get_or xs k y h ∙ ap Some (sym (get_or-append xs (x ∷ []) y k h) ∙ whole))

  last : k ≡ length xs → P k y
  last e =
      let is : x ≡ y = sym (get_or-append_seam xs x [] y) ∙ ap (λ n. get_or (xs ++ x ∷ []) n y) (sym e) ∙ whole in
      subst (P k) is (subst (λ n. P n x) (sym e) new)

  at : ((leb (suc k) (length xs) ≡ true) × (suc k ≤ length xs)) ⊎ ((leb (suc k) (length xs) ≡ false) × (length xs < suc k)) → P k y
  at (inl h) = before (omega (arith, h.1))
  at (inr h) = last (let within = slice_get_within (xs ++ x ∷ []) k y found in omega (arith, within, h.1, length-append xs (x ∷ [])))

pub no_fields : (bytes : List ℕ) → AreFieldsUpTo bytes 0 []
no_fields bytes = record { count = refl; are = λ k f found. cc; valid = refl; size = omega arith }

pub fields_more : (bytes : List ℕ) (entry : ℕ) (fields : List Field) (f : Field) → AreFieldsUpTo bytes entry fields
    → IsFieldAt bytes entry f → field_size f ≤ 3 * length_at bytes entry → AreFieldsUpTo bytes (entry + 1) (fields ++ f ∷ [])
fields_more bytes entry fields f up here size = record {
  count = omega (arith, length-append fields (f ∷ []), up.count);
  are = get-push (IsFieldAt bytes) fields f up.are (rw up.count here);
  valid = valid-push fields f up.valid here.is.valid;
  size = rw add-one (omega (arith, fields_size-push fields f, up.size));
}

has_text : (bytes : List ℕ) (entry : ℕ) (fields : List Field) → AreFieldsUpTo bytes entry fields → (earlier : ℕ) → earlier < entry → HasText bytes earlier
has_text bytes entry fields up earlier before = at (slice_get_cases fields earlier).1 where
  at : ((f : Field) × (earlier < length fields) × (slice_get fields earlier ≡ Some f) × (get_or fields earlier f ≡ f))
      ⊎ ((length fields ≤ earlier) × (slice_get fields earlier ≡ None)) → HasText bytes earlier
  at (inl (f, h, there, same)) = let here = up.are earlier f there in (here.text, here.read)
  at (inr h) = absurd (omega (arith, h.0, up.count))

text_fault : (bytes : List ℕ) (entry : ℕ) (fields : List Field) (refusal : Refusal) → IsSound bytes → is_known_coding (coding_at bytes) ≡ true
    → entry < entry_count bytes → AreFieldsUpTo bytes entry fields → IsEntryFault bytes entry refusal → IsTextFault bytes refusal
text_fault bytes entry fields refusal sound known within up here = record {
  sound = sound;
  coding = known;
  entry = entry;
  within = within;
  before = has_text bytes entry fields up;
  here = here;
}

refused_by : (bytes : List ℕ) (entry start : ℕ) (fault : Marc8Fault) (refusal : Refusal) → IsTextRefusal entry start fault refusal
    → IsTextFault bytes refusal → IsRefusedAs bytes refusal
refused_by bytes entry start (BadByte place) refusal named h = rw named (rw named at h)
refused_by bytes entry start (marc8.OtherSet set place) refusal named h = rw named (rw named at h)
refused_by bytes entry start marc8.NoMemory refusal named h = absurd named

-- a fault of an entry's text refuses the piece
pub piece_refused : (bytes : List ℕ) (entry : ℕ) (fields : List Field) (fault : RecordFault) → IsSound bytes → is_known_coding (coding_at bytes) ≡ true
    → entry < entry_count bytes → AreFieldsUpTo bytes entry fields → IsRefusedEntry bytes entry fault → IsRefusedPiece bytes fault
piece_refused bytes entry fields (Refused refusal) sound known within up h =
    refused_by bytes entry (text_start bytes entry) h.fault refusal h.named (text_fault bytes entry fields refusal sound known within up h)
piece_refused bytes entry fields NoMemory sound known within up h = tt

-- leader and fields of a sound piece make a record
pub piece_is_record : (bytes : List ℕ) (l : Leader) (fields : List Field) → IsSound bytes → is_leader l ≡ true
    → AreFieldsUpTo bytes (entry_count bytes) fields → is_record l fields ≡ true
unfolding is_record
piece_is_record bytes l fields sound leader up =
    let sizes = sound_sizes bytes sound in
    let few : length fields ≤ 8331 = omega (arith, sizes.entries, up.count) in
    let room : fields_size fields ≤ 1000000 = omega (arith, up.size, sound_lengths bytes (entry_count bytes) sound (omega arith), sizes.size) in
    let all = up.valid in
    grind (arith, nat_tests, common_steps)
