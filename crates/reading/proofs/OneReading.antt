-- A piece has one reading: one record, or one refusal.
use Rattle.std.proofs.Common.{◌≡◌, ◌∙◌, ℕ, suc, ◌<◌, ◌≤◌, true, false, List, [], ◌∷◌, ◌++◌, length, get_or, Some, None, refl, sym, subst, arith, inl, inr, ◌⊎◌}
use Rattle.std.specs.Prelude.{slice_get}
use Rattle.std.specs.Str.{IsUtf8}
use Rattle.std.specs.Str.Lossy.{utf8_valid_len}
use Rattle.std.proofs.lemmas.Bool.{both_ways, cases_order}
use Rattle.std.proofs.lemmas.Option.{slice_get_cases}
use Rattle.marc_types.specs.declared.field.Leader.{Leader}
use Rattle.marc_types.specs.declared.field.Field.{Field}
use Rattle.marc_types.specs.declared.refusal.Refusal.{Refusal}
use Rattle.marc_types.specs.declared.refusal.Refusal.TheVariants.{UnknownCoding, BadText, OtherSet}
use Rattle.iso2709_record.specs.Layout.{entry_count, tag_at}
use Rattle.iso2709_record.specs.Faults.{IsSound, IsFirstFault}
use Rattle.iso2709_record.specs.Raw.{coding_at}
use Rattle.iso2709_record.specs.Spelling.{IsFieldOf}
use Rattle.iso2709_record.proofs.Refusals.{sound_or_refused, refused_once}
use Rattle.iso2709_record.proofs.Spellings.{field_once}
use Rattle.marc8_latin.specs.Text.{IsText, IsFault}
use Rattle.marc8_latin.specs.declared.fault.Marc8Fault.{Marc8Fault}
use Rattle.marc8_latin.specs.declared.fault.Marc8Fault.TheVariants.{BadByte, NoMemory}
use Rattle.marc8_latin.specs.declared.fault.Marc8Fault.TheVariants as marc8
use Rattle.marc8_latin.proofs.OneReading.{one_text, text_or_fault, one_fault}
use Rattle.reading.specs.Reading.{is_marc8, is_known_coding, text_at, text_start, indicators_at, IsTextIn, InMarc8, InUtf8, IsFaultIn, OfMarc8, OfUtf8, IsFieldAt, IsReadAs, IsTextRefusal, IsEntryFault, HasText, IsTextFault, IsRefusedAs}

marc8_once : (coding : ℕ) (bytes one other : List ℕ) → is_marc8 coding ≡ true → IsText bytes one → IsTextIn coding bytes other → one ≡ other
marc8_once _ _ one _ e p (InMarc8 coding bytes other f q) = one_text bytes one other p q
marc8_once _ _ one _ e p (InUtf8 coding bytes f q) = absurd (both_ways _ f e)

utf8_once : (coding : ℕ) (bytes other : List ℕ) → is_marc8 coding ≡ false → IsTextIn coding bytes other → bytes ≡ other
utf8_once _ _ _ e (InMarc8 coding bytes other f q) = absurd (both_ways _ e f)
utf8_once _ _ _ e (InUtf8 coding bytes f q) = refl

-- bytes have one text in a coding
pub text_once : (coding : ℕ) (bytes one other : List ℕ) → IsTextIn coding bytes one → IsTextIn coding bytes other → one ≡ other
text_once _ _ _ other (InMarc8 coding bytes one e p) q = marc8_once coding bytes one other e p q
text_once _ _ _ other (InUtf8 coding bytes e p) q = utf8_once coding bytes other e q

marc8_text_or_fault : (coding : ℕ) (bytes text : List ℕ) (fault : Marc8Fault) → is_marc8 coding ≡ true → IsText bytes text → IsFaultIn coding bytes fault → ⊥
marc8_text_or_fault _ _ text _ e p (OfMarc8 coding bytes fault f q) = text_or_fault bytes text fault p q
marc8_text_or_fault _ _ text _ e p (OfUtf8 coding bytes f q) = both_ways _ f e

utf8_text_or_fault : (coding : ℕ) (bytes : List ℕ) (fault : Marc8Fault) → is_marc8 coding ≡ false → IsUtf8 bytes → IsFaultIn coding bytes fault → ⊥
utf8_text_or_fault _ _ _ e p (OfMarc8 coding bytes fault f q) = both_ways _ e f
utf8_text_or_fault _ _ _ e p (OfUtf8 coding bytes f q) = q p

-- and no fault beside it
pub text_or_fault_in : (coding : ℕ) (bytes text : List ℕ) (fault : Marc8Fault) → IsTextIn coding bytes text → IsFaultIn coding bytes fault → ⊥
text_or_fault_in _ _ _ fault (InMarc8 coding bytes text e p) q = marc8_text_or_fault coding bytes text fault e p q
text_or_fault_in _ _ _ fault (InUtf8 coding bytes e p) q = utf8_text_or_fault coding bytes fault e p q

-- an entry is that of one field
field_once_at : (bytes : List ℕ) (entry : ℕ) (one other : Field) → IsFieldAt bytes entry one → IsFieldAt bytes entry other → one ≡ other
field_once_at bytes entry one other p q =
    let same : q.text ≡ p.text = text_once (coding_at bytes) (text_at bytes entry) q.text p.text q.read p.read in
    field_once (tag_at bytes entry) (indicators_at bytes entry ++ p.text) one other p.is
    (subst (λ text. IsFieldOf (tag_at bytes entry) (indicators_at bytes entry ++ text) other) same q.is)

same_lists : {X : Type 0} (xs ys : List X) → length xs ≡ length ys
    → ((k : ℕ) (x y : X) → slice_get xs k ≡ Some x → slice_get ys k ≡ Some y → x ≡ y) → xs ≡ ys
same_lists [] [] len each = refl
same_lists [] (y ∷ ys) len each = absurd (omega arith)
same_lists (x ∷ xs) [] len each = absurd (omega arith)
same_lists (x ∷ xs) (y ∷ ys) len each =
    let first : x ≡ y = each 0 x y refl refl in
    let others : xs ≡ ys = same_lists xs ys (omega arith) (λ k. each (suc k)) in
    cc

pub one_leader : (bytes : List ℕ) (l m : Leader) (fs gs : List Field) → IsReadAs bytes l fs → IsReadAs bytes m gs → l ≡ m
one_leader bytes l m fs gs p q = p.leader_is ∙ sym q.leader_is

pub one_fields : (bytes : List ℕ) (l m : Leader) (fs gs : List Field) → IsReadAs bytes l fs → IsReadAs bytes m gs → fs ≡ gs
one_fields bytes l m fs gs p q =
    same_lists fs gs (p.count ∙ sym q.count)
    (λ entry f g here there. field_once_at bytes entry f g (p.fields_are entry f here) (q.fields_are entry g there))

-- each entry of a piece that is read has a text
has_text : (bytes : List ℕ) (l : Leader) (fs : List Field) (entry : ℕ) → IsReadAs bytes l fs → entry < entry_count bytes → HasText bytes entry
has_text bytes l fs entry p within = at (slice_get_cases fs entry).1 where
  at : ((f : Field) × (entry < length fs) × (slice_get fs entry ≡ Some f) × (get_or fs entry f ≡ f))
      ⊎ ((length fs ≤ entry) × (slice_get fs entry ≡ None)) → HasText bytes entry
  at (inl (f, h, there, same)) = let here = p.fields_are entry f there in (here.text, here.read)
  at (inr h) = absurd (omega (arith, h.0, p.count, within))

no_fault : (bytes : List ℕ) (entry : ℕ) (refusal : Refusal) → HasText bytes entry → IsEntryFault bytes entry refusal → ⊥
no_fault bytes entry refusal text fault = text_or_fault_in (coding_at bytes) (text_at bytes entry) text.0 fault.fault text.1 fault.here

text_refused : (bytes : List ℕ) (l : Leader) (fs : List Field) (refusal : Refusal) → IsReadAs bytes l fs → IsTextFault bytes refusal → ⊥
text_refused bytes l fs refusal p q = no_fault bytes q.entry refusal (has_text bytes l fs q.entry p q.within) q.here

-- a piece that is read as a record is refused for no reason
pub read_or_refused : (bytes : List ℕ) (l : Leader) (fs : List Field) (refusal : Refusal) → IsReadAs bytes l fs → IsRefusedAs bytes refusal → ⊥
read_or_refused bytes l fs UnknownCoding p q = both_ways _ q.1 p.coding
read_or_refused bytes l fs (BadText entry offset) p q = text_refused bytes l fs (BadText entry offset) p q
read_or_refused bytes l fs (OtherSet set entry offset) p q = text_refused bytes l fs (OtherSet set entry offset) p q
read_or_refused bytes l fs refusal p q = sound_or_refused bytes refusal p.sound q

marc8_fault_once : (coding : ℕ) (bytes : List ℕ) (one other : Marc8Fault) → is_marc8 coding ≡ true → IsFault bytes one → IsFaultIn coding bytes other → one ≡ other
marc8_fault_once _ _ one _ e p (OfMarc8 coding bytes other f q) = one_fault bytes one other p q
marc8_fault_once _ _ one _ e p (OfUtf8 coding bytes f q) = absurd (both_ways _ f e)

utf8_fault_once : (coding : ℕ) (bytes : List ℕ) (other : Marc8Fault) → is_marc8 coding ≡ false → IsFaultIn coding bytes other → BadByte (utf8_valid_len bytes) ≡ other
utf8_fault_once _ _ _ e (OfMarc8 coding bytes other f q) = absurd (both_ways _ e f)
utf8_fault_once _ _ _ e (OfUtf8 coding bytes f q) = refl

-- bytes have one first fault in a coding
fault_once : (coding : ℕ) (bytes : List ℕ) (one other : Marc8Fault) → IsFaultIn coding bytes one → IsFaultIn coding bytes other → one ≡ other
fault_once _ _ _ other (OfMarc8 coding bytes one e p) q = marc8_fault_once coding bytes one other e p q
fault_once _ _ _ other (OfUtf8 coding bytes e p) q = utf8_fault_once coding bytes other e q

named_once : (entry start : ℕ) (fault : Marc8Fault) (one other : Refusal) → IsTextRefusal entry start fault one → IsTextRefusal entry start fault other → one ≡ other
named_once entry start (BadByte place) one other p q = p ∙ sym q
named_once entry start (marc8.OtherSet set place) one other p q = p ∙ sym q
named_once entry start NoMemory one other p q = absurd p

entry_fault_once : (bytes : List ℕ) (entry : ℕ) (one other : Refusal) → IsEntryFault bytes entry one → IsEntryFault bytes entry other → one ≡ other
entry_fault_once bytes entry one other p q =
    let same : q.fault ≡ p.fault = fault_once (coding_at bytes) (text_at bytes entry) q.fault p.fault q.here p.here in
    named_once entry (text_start bytes entry) p.fault one other p.named (subst (λ fault. IsTextRefusal entry (text_start bytes entry) fault other) same q.named)

text_fault_once : (bytes : List ℕ) (one other : Refusal) → IsTextFault bytes one → IsTextFault bytes other → one ≡ other
text_fault_once bytes one other p q =
    elim (cases_order p.entry q.entry) [
      | inl same ↦ entry_fault_once bytes q.entry one other (subst (λ entry. IsEntryFault bytes entry one) same p.here) q.here
      | inr (inl below) ↦ absurd (no_fault bytes p.entry one (q.before p.entry below) p.here)
      | inr (inr above) ↦ absurd (no_fault bytes q.entry other (p.before q.entry above) q.here)
    ]

-- the three reasons against a piece: its layout, its coding, or a text
data Reason (bytes : List ℕ) (refusal : Refusal) : Type 0 where
  OfLayout : IsFirstFault bytes refusal → Reason bytes refusal
  OfCoding : refusal ≡ UnknownCoding → IsSound bytes → is_known_coding (coding_at bytes) ≡ false → Reason bytes refusal
  OfText : IsTextFault bytes refusal → Reason bytes refusal

reason_of : (bytes : List ℕ) (refusal : Refusal) → IsRefusedAs bytes refusal → Reason bytes refusal
reason_of bytes UnknownCoding h = OfCoding refl h.0 h.1
reason_of bytes (BadText entry offset) h = OfText h
reason_of bytes (OtherSet set entry offset) h = OfText h
reason_of bytes refusal h = OfLayout h

reason_once : (bytes : List ℕ) (one other : Refusal) → Reason bytes one → Reason bytes other → one ≡ other
reason_once bytes one other (OfLayout p) (OfLayout q) = refused_once bytes one other p q
reason_once bytes one other (OfLayout p) (OfCoding is sound unknown) = absurd (sound_or_refused bytes one sound p)
reason_once bytes one other (OfLayout p) (OfText q) = absurd (sound_or_refused bytes one q.sound p)
reason_once bytes one other (OfCoding is sound unknown) (OfLayout q) = absurd (sound_or_refused bytes other sound q)
reason_once bytes one other (OfCoding is sound unknown) (OfCoding also s u) = is ∙ sym also
reason_once bytes one other (OfCoding is sound unknown) (OfText q) = absurd (both_ways _ unknown q.coding)
reason_once bytes one other (OfText p) (OfLayout q) = absurd (sound_or_refused bytes other p.sound q)
reason_once bytes one other (OfText p) (OfCoding is sound unknown) = absurd (both_ways _ unknown p.coding)
reason_once bytes one other (OfText p) (OfText q) = text_fault_once bytes one other p q

-- a piece is refused for one reason alone
pub refused_as_once : (bytes : List ℕ) (one other : Refusal) → IsRefusedAs bytes one → IsRefusedAs bytes other → one ≡ other
refused_as_once bytes one other p q = reason_once bytes one other (reason_of bytes one p) (reason_of bytes other q)
