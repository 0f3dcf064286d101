-- Bytes in a coding have a text, or a fault.
use Rattle.std.proofs.Common.{◌≡◌, ◌∙◌, ℕ, zero, suc, ◌+◌, ◌*◌, ◌≤◌, ◌<◌, ◌==◌, ◌||◌, Bool, true, false, List, [], ◌∷◌, ◌++◌, length, take, drop, Option, Some, None, refl, sym, ap, subst, arith, eqb-true, ◌⊎◌, inl, inr, leb}
use Rattle.std.proofs.lemmas.List.{take_all, length-drop}
use Rattle.std.proofs.lemmas.Bool.Decides.{leb_tells}
use Rattle.std.proofs.lemmas.Str.{IsUtf8-from_is_utf8, is_utf8-from_IsUtf8}
use Rattle.std.specs.Str.{is_utf8}
use Rattle.std.specs.Str.Lossy.{utf8_valid_len}
use Rattle.std.specs.Prelude.{encode_utf8}
use Rattle.marc_types.specs.Valid.{is_graphic}
use Rattle.marc_types.specs.declared.refusal.Refusal.{Refusal}
use Rattle.marc_types.specs.declared.refusal.Refusal.TheVariants.{BadText, OtherSet}
use Rattle.marc_types.specs.declared.refusal.Set.TheVariants.{GreekSymbols, Subscripts, Superscripts, Unknown}
use Rattle.marc8_latin.specs.declared.fault.Marc8Fault.{Marc8Fault}
use Rattle.marc8_latin.specs.declared.fault.Marc8Fault.TheVariants.{BadByte, NoMemory}
use Rattle.marc8_latin.specs.declared.fault.Marc8Fault.TheVariants as marc8
use Rattle.marc8_latin.specs.declared.charset.Charset.{Charset}
use Rattle.marc8_latin.specs.declared.charset.Charset.TheVariants.{BasicLatin, ExtendedLatin}
use Rattle.marc8_latin.specs.declared.part.Designations.{Designations}
use Rattle.marc8_latin.specs.declared.part.Meaning.{Meaning}
use Rattle.marc8_latin.specs.declared.part.Meaning.TheVariants.{DesignatesG0, DesignatesG1, Base, Mark, Control, Subfield}
use Rattle.marc8_latin.specs.Parts.{character, designation_code, designation_fault, is_first_side, is_second_side, escape_fault, code_fault, byte_fault, fault_of, other_set, multibyte_set, IsFront}
use Rattle.marc8_latin.specs.Text.{IsText, IsFault, latin, after, shown, moved}
use Rattle.marc8_latin.specs.Progress.{IsWritten, IsRead}
use Rattle.marc8_latin.proofs.Choices.{third}
use Rattle.marc8_latin.proofs.Fronts.{front_byte, front_code, front_reset, front_first, front_second}
use Rattle.marc8_latin.proofs.Readings.{read_none, read_more, text_of_read, fault_of_read}
use Rattle.marc8_latin.proofs.Sizes.{text_size}
use Rattle.marc8_latin.proofs.Writing.{written_base, written_control, written_subfield, written_mark, written_nothing}
use Rattle.reading.specs.Reading.{is_marc8, IsTextIn, InMarc8, InUtf8, IsFaultIn, OfMarc8, OfUtf8, IsTextRefusal}

-- a fault of the bytes, and not want of memory
abbrev pub IsOfBytes : Marc8Fault → Type 0
IsOfBytes (BadByte place) = Unit {0}
IsOfBytes (marc8.OtherSet set place) = Unit {0}
IsOfBytes NoMemory = ⊥

moved_of_bytes : (by : ℕ) (fault : Marc8Fault) → IsOfBytes fault → IsOfBytes (moved by fault)
moved_of_bytes by (BadByte place) h = tt
moved_of_bytes by (marc8.OtherSet set place) h = tt
moved_of_bytes by NoMemory h = absurd h

-- a set is designated, or there is a fault
data Designated (code : List ℕ) : Type 0 where
  ASet : (set : Charset) → take (length (designation_code set)) code ≡ designation_code set → Designated code
  NoSet : (fault : Marc8Fault) → designation_fault code ≡ Some fault → IsOfBytes fault → Designated code

designated : (code : List ℕ) → Designated code
designated [] = NoSet (BadByte 0) refl tt
designated (byte ∷ []) = basic (byte == 0x42) refl where
  extended : (b : Bool) → (byte == 0x42) ≡ false → (byte == 0x21) ≡ b → Designated (byte ∷ [])
  extended true n e = NoSet (BadByte 0) (rw (n, e) refl) tt
  extended false n e = NoSet (marc8.OtherSet (other_set byte) 0) (rw (n, e) refl) tt

  basic : (b : Bool) → (byte == 0x42) ≡ b → Designated (byte ∷ [])
  basic true e = ASet BasicLatin (ap (λ b. b ∷ []) (eqb-true byte 0x42 e))
  basic false n = extended (byte == 0x21) n refl
designated (byte ∷ next ∷ rest) = basic (byte == 0x42) refl where
  second : (b : Bool) → (byte == 0x42) ≡ false → (byte == 0x21) ≡ true → (next == 0x45) ≡ b → Designated (byte ∷ next ∷ rest)
  second true n e f = ASet ExtendedLatin (rw (eqb-true byte 0x21 e, eqb-true next 0x45 f) refl)
  second false n e f = NoSet (marc8.OtherSet Unknown 0) (rw (n, e, f) refl) tt

  extended : (b : Bool) → (byte == 0x42) ≡ false → (byte == 0x21) ≡ b → Designated (byte ∷ next ∷ rest)
  extended true n e = second (next == 0x45) n e refl
  extended false n e = NoSet (marc8.OtherSet (other_set byte) 0) (rw (n, e) refl) tt

  basic : (b : Bool) → (byte == 0x42) ≡ b → Designated (byte ∷ next ∷ rest)
  basic true e = ASet BasicLatin (ap (λ b. b ∷ []) (eqb-true byte 0x42 e))
  basic false n = extended (byte == 0x21) n refl

-- a part stands in front, or there is a fault
data Begins (sets : Designations) (bytes : List ℕ) : Type 0 where
  APart : (meaning : Meaning) (len : ℕ) → IsFront sets bytes meaning len → Begins sets bytes
  NoPart : (fault : Marc8Fault) → fault_of sets bytes ≡ Some fault → IsOfBytes fault → Begins sets bytes

-- behind ESC
escape_no_part : (sets : Designations) (rest : List ℕ) (fault : Marc8Fault) → escape_fault rest ≡ Some fault → IsOfBytes fault → Begins sets (0x1b ∷ rest)
unfolding fault_of
escape_no_part sets rest fault e named = NoPart fault e named

side_no_set : (byte : ℕ) (code : List ℕ) (fault : Marc8Fault) → (is_first_side byte || is_second_side byte) ≡ true → designation_fault code ≡ Some fault
    → escape_fault (byte ∷ code) ≡ Some fault
side_no_set byte code fault side e = rw side e

escape_begins : (sets : Designations) (rest : List ℕ) → Begins sets (0x1b ∷ rest)
escape_begins sets [] = escape_no_part sets [] (BadByte 0) refl tt
escape_begins sets (byte ∷ code) = first (is_first_side byte) refl where
  set_first : is_first_side byte ≡ true → Designated code → Begins sets (0x1b ∷ byte ∷ code)
  set_first side (ASet set is) = APart (DesignatesG0 set) (2 + length (designation_code set))
      (front_first sets byte (byte ∷ code) code set (length (designation_code set)) refl side is refl)
  set_first side (NoSet fault e named) = escape_no_part sets (byte ∷ code) fault (side_no_set byte code fault (rw side refl) e) named

  set_second : is_first_side byte ≡ false → is_second_side byte ≡ true → Designated code → Begins sets (0x1b ∷ byte ∷ code)
  set_second other side (ASet set is) = APart (DesignatesG1 set) (2 + length (designation_code set))
      (front_second sets byte (byte ∷ code) code set (length (designation_code set)) refl other side is refl)
  set_second other side (NoSet fault e named) = escape_no_part sets (byte ∷ code) fault (side_no_set byte code fault (rw (other, side) refl) e) named

  reset : (b : Bool) → (is_first_side byte || is_second_side byte) ≡ false → (byte == 0x24) ≡ false → (byte == 0x67) ≡ false → (byte == 0x62) ≡ false
      → (byte == 0x70) ≡ false → (byte == 0x73) ≡ b → Begins sets (0x1b ∷ byte ∷ code)
  reset true s d g l p e = APart (DesignatesG0 BasicLatin) 2 (front_reset sets (byte ∷ code) (omega arith) (eqb-true byte 0x73 e))
  reset false s d g l p e = escape_no_part sets (byte ∷ code) (BadByte 0) (rw (s, d, g, l, p, e) refl) tt

  superscript : (b : Bool) → (is_first_side byte || is_second_side byte) ≡ false → (byte == 0x24) ≡ false → (byte == 0x67) ≡ false → (byte == 0x62) ≡ false
      → (byte == 0x70) ≡ b → Begins sets (0x1b ∷ byte ∷ code)
  superscript true s d g l p = escape_no_part sets (byte ∷ code) (marc8.OtherSet Superscripts 0) (rw (s, d, g, l, p) refl) tt
  superscript false s d g l p = reset (byte == 0x73) s d g l p refl

  subscript : (b : Bool) → (is_first_side byte || is_second_side byte) ≡ false → (byte == 0x24) ≡ false → (byte == 0x67) ≡ false → (byte == 0x62) ≡ b
      → Begins sets (0x1b ∷ byte ∷ code)
  subscript true s d g l = escape_no_part sets (byte ∷ code) (marc8.OtherSet Subscripts 0) (rw (s, d, g, l) refl) tt
  subscript false s d g l = superscript (byte == 0x70) s d g l refl

  greek : (b : Bool) → (is_first_side byte || is_second_side byte) ≡ false → (byte == 0x24) ≡ false → (byte == 0x67) ≡ b → Begins sets (0x1b ∷ byte ∷ code)
  greek true s d g = escape_no_part sets (byte ∷ code) (marc8.OtherSet GreekSymbols 0) (rw (s, d, g) refl) tt
  greek false s d g = subscript (byte == 0x62) s d g refl

  multibyte : (b : Bool) → (is_first_side byte || is_second_side byte) ≡ false → (byte == 0x24) ≡ b → Begins sets (0x1b ∷ byte ∷ code)
  multibyte true s d = escape_no_part sets (byte ∷ code) (marc8.OtherSet (multibyte_set code) 0) (rw (s, d) refl) tt
  multibyte false s d = greek (byte == 0x67) s d refl

  second : (b : Bool) → is_first_side byte ≡ false → is_second_side byte ≡ b → Begins sets (0x1b ∷ byte ∷ code)
  second true other side = set_second other side (designated code)
  second false other none = multibyte (byte == 0x24) (rw (other, none) refl) refl

  first : (b : Bool) → is_first_side byte ≡ b → Begins sets (0x1b ∷ byte ∷ code)
  first true side = set_first side (designated code)
  first false other = second (is_second_side byte) other refl

-- behind a delimiter
delimiter_no_part : (sets : Designations) (rest : List ℕ) (fault : Marc8Fault) → code_fault rest ≡ Some fault → IsOfBytes fault → Begins sets (0x1f ∷ rest)
unfolding fault_of
delimiter_no_part sets rest fault e named = NoPart fault e named

delimiter_begins : (sets : Designations) (rest : List ℕ) → Begins sets (0x1f ∷ rest)
delimiter_begins sets [] = delimiter_no_part sets [] (BadByte 0) refl tt
delimiter_begins sets (code ∷ rest) = by (is_graphic code) refl where
  by : (b : Bool) → is_graphic code ≡ b → Begins sets (0x1f ∷ code ∷ rest)
  by true e = APart (Subfield code) 2 (front_code sets (code ∷ rest) (omega arith) e)
  by false e = delimiter_no_part sets (code ∷ rest) (BadByte 1) (rw e refl) tt

-- any other byte
byte_begins : (sets : Designations) (byte : ℕ) (rest : List ℕ) (meaning : Option Meaning) → (byte == 0x1b) ≡ false → (byte == 0x1f) ≡ false
    → character sets byte ≡ meaning → Begins sets (byte ∷ rest)
unfolding fault_of
byte_begins sets byte rest (Some meaning) e d is = APart meaning 1 (front_byte sets (byte ∷ rest) meaning (omega arith) is)
byte_begins sets byte rest None e d is = NoPart (BadByte 0) (third (byte == 0x1b) (byte == 0x1f) _ _ _ e d ∙ ap byte_fault is) tt

begins : (sets : Designations) (bytes : List ℕ) → 0 < length bytes → Begins sets bytes
begins sets [] some = absurd (omega arith)
begins sets (byte ∷ rest) some = escape (byte == 0x1b) refl where
  delimiter : (b : Bool) → (byte == 0x1b) ≡ false → (byte == 0x1f) ≡ b → Begins sets (byte ∷ rest)
  delimiter true n e = subst (λ b. Begins sets (b ∷ rest)) (sym (eqb-true byte 0x1f e)) (delimiter_begins sets rest)
  delimiter false n e = byte_begins sets byte rest (character sets byte) n e refl

  escape : (b : Bool) → (byte == 0x1b) ≡ b → Begins sets (byte ∷ rest)
  escape true e = subst (λ b. Begins sets (b ∷ rest)) (sym (eqb-true byte 0x1b e)) (escape_begins sets rest)
  escape false n = delimiter (byte == 0x1f) n refl

-- what a part shows is written
record Puts (meaning : Meaning) (text run : List ℕ) : Type 0 where
  text_then : List ℕ
  run_then : List ℕ
  written : (characters : List Meaning) → IsWritten characters text run → IsWritten (characters ++ shown meaning) text_then run_then

puts : (meaning : Meaning) (text run : List ℕ) → Puts meaning text run
puts (DesignatesG0 set) text run = record { text_then = text; run_then = run; written = λ characters w. written_nothing characters text run w }
puts (DesignatesG1 set) text run = record { text_then = text; run_then = run; written = λ characters w. written_nothing characters text run w }
puts (Base c) text run = record {
  text_then = text ++ encode_utf8 c ++ run;
  run_then = [];
  written = λ characters w. written_base characters text run (text ++ encode_utf8 c ++ run) c w refl;
}
puts (Mark c) text run = record {
  text_then = text;
  run_then = run ++ encode_utf8 c;
  written = λ characters w. written_mark characters text run (run ++ encode_utf8 c) c w refl;
}
puts (Control c) text run = record {
  text_then = text ++ run ++ encode_utf8 c;
  run_then = [];
  written = λ characters w. written_control characters text run (text ++ run ++ encode_utf8 c) c w refl;
}
puts (Subfield code) text run = record {
  text_then = text ++ run ++ encode_utf8 0x1f ++ encode_utf8 code;
  run_then = [];
  written = λ characters w. written_subfield characters text run (text ++ run ++ encode_utf8 0x1f ++ encode_utf8 code) code w refl;
}

-- a text in MARC-8, or a fault
data InLatin (bytes : List ℕ) : Type 0 where
  AText : (text : List ℕ) → IsText bytes text → InLatin bytes
  NoText : (fault : Marc8Fault) → IsFault bytes fault → IsOfBytes fault → InLatin bytes

-- so many bytes at most are left behind those that were read
abbrev ReadsOn : List ℕ → ℕ → Type 0
ReadsOn bytes most = (at : ℕ) (sets : Designations) (text run : List ℕ) → at ≤ length bytes → length bytes ≤ at + most → IsRead (take at bytes) sets text run → InLatin bytes

read_all : (bytes : List ℕ) (at : ℕ) (sets : Designations) (text run : List ℕ) → length bytes ≤ at → IsRead (take at bytes) sets text run → InLatin bytes
read_all bytes at sets text run all read =
    AText (text ++ run) (text_of_read bytes sets text run (text ++ run) (subst (λ front. IsRead front sets text run) (take_all at bytes all) read) refl)

read_step : (most : ℕ) (bytes : List ℕ) (at : ℕ) (sets : Designations) (text run : List ℕ) → ReadsOn bytes most → at ≤ length bytes → length bytes ≤ at + suc most
    → IsRead (take at bytes) sets text run → Begins sets (drop at bytes) → InLatin bytes
read_step most bytes at sets text run next within all read (APart meaning len front) =
    let put = puts meaning text run in
    next (at + len) (after sets meaning) put.text_then put.run_then
    (omega (arith, front.within, length-drop at bytes, within)) (omega (arith, front.some, all))
    (read_more bytes at len sets (after sets meaning) meaning text run put.text_then put.run_then read front refl put.written)
read_step most bytes at sets text run next within all read (NoPart fault e named) =
    NoText (moved at fault) (fault_of_read bytes at sets text run fault (moved at fault) within read e refl) (moved_of_bytes at fault named)

read_more_or_all : (most : ℕ) (bytes : List ℕ) → ReadsOn bytes most → ReadsOn bytes (suc most)
read_more_or_all most bytes next at sets text run within all read = by (leb_tells (length bytes) at) where
  by : ((leb (length bytes) at ≡ true) × (length bytes ≤ at)) ⊎ ((leb (length bytes) at ≡ false) × (at < length bytes)) → InLatin bytes
  by (inl h) = read_all bytes at sets text run h.1 read
  by (inr h) = read_step most bytes at sets text run next within all read (begins sets (drop at bytes) (omega (arith, h.1, length-drop at bytes)))

read_on : (most : ℕ) (bytes : List ℕ) → ReadsOn bytes most
read_on zero bytes at sets text run within all read = read_all bytes at sets text run (omega arith) read
read_on (suc most) bytes at sets text run within all read = read_more_or_all most bytes (read_on most bytes) at sets text run within all read

in_latin : (bytes : List ℕ) → InLatin bytes
in_latin bytes = read_on (length bytes) bytes 0 latin [] [] (omega arith) (omega arith) (read_none bytes)

-- a text in a coding and its length, or a fault
pub data HasTextOr (coding : ℕ) (bytes : List ℕ) : Type 0 where
  Reads : (text : List ℕ) → IsTextIn coding bytes text → length text ≤ 3 * length bytes → HasTextOr coding bytes
  Fails : (fault : Marc8Fault) → IsFaultIn coding bytes fault → IsOfBytes fault → HasTextOr coding bytes

in_marc8 : (coding : ℕ) (bytes : List ℕ) → is_marc8 coding ≡ true → InLatin bytes → HasTextOr coding bytes
in_marc8 coding bytes e (AText text is) = Reads text (InMarc8 coding bytes text e is) (text_size bytes text is)
in_marc8 coding bytes e (NoText fault is named) = Fails fault (OfMarc8 coding bytes fault e is) named

in_utf8 : (coding : ℕ) (bytes : List ℕ) (b : Bool) → is_marc8 coding ≡ false → is_utf8 bytes ≡ b → HasTextOr coding bytes
in_utf8 coding bytes true e is = Reads bytes (InUtf8 coding bytes e (IsUtf8-from_is_utf8 bytes is)) (omega arith)
in_utf8 coding bytes false e is =
    Fails (BadByte (utf8_valid_len bytes)) (OfUtf8 coding bytes e (λ whole. let yes = is_utf8-from_IsUtf8 bytes whole in cc)) tt

pub text_or_fault : (coding : ℕ) (bytes : List ℕ) → HasTextOr coding bytes
text_or_fault coding bytes = by (is_marc8 coding) refl where
  by : (b : Bool) → is_marc8 coding ≡ b → HasTextOr coding bytes
  by true e = in_marc8 coding bytes e (in_latin bytes)
  by false e = in_utf8 coding bytes (is_utf8 bytes) e refl

-- each fault of the bytes is refused in some way
pub record IsRefusedSome (entry start : ℕ) (fault : Marc8Fault) : Type 0 where
  pub refusal : Refusal
  pub named : IsTextRefusal entry start fault refusal

pub refused_some : (entry start : ℕ) (fault : Marc8Fault) → IsOfBytes fault → IsRefusedSome entry start fault
refused_some entry start (BadByte place) h = record { refusal = BadText entry (start + place); named = refl }
refused_some entry start (marc8.OtherSet set place) h = record { refusal = OtherSet set entry (start + place); named = refl }
refused_some entry start NoMemory h = absurd h
