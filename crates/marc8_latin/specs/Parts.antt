-- The parts of a MARC-8 text, and the faults where no part begins. Source: MARC 21 Specifications for Record Structure,
-- Character Sets, and Exchange Media, MARC-8 (escape sequences, Basic and Extended Latin). Bytes are in hexadecimal.
use Rattle.std.specs.Prelude.{◌≡◌, ℕ, ◌-◌, ◌<◌, ◌≤◌, ◌==◌, Bool, ◌&&◌, ◌||◌, nat_le, nat_lt, List, [], ◌∷◌, length, take, slice_index, if◌then◌else◌, Option, Some, None}
use Rattle.marc_types.specs.Valid.{is_graphic}
use Rattle.marc_types.specs.declared.refusal.Set.{Set}
use Rattle.marc_types.specs.declared.refusal.Set.TheVariants.{Eacc, BasicHebrew, BasicArabic, ExtendedArabic, BasicCyrillic, ExtendedCyrillic, BasicGreek, GreekSymbols, Subscripts, Superscripts, Unknown}
use Rattle.marc8_latin.specs.declared.fault.Marc8Fault.{Marc8Fault}
use Rattle.marc8_latin.specs.declared.fault.Marc8Fault.TheVariants.{BadByte, OtherSet}
use Rattle.marc8_latin.specs.declared.charset.Charset.{Charset}
use Rattle.marc8_latin.specs.declared.charset.Charset.TheVariants.{BasicLatin, ExtendedLatin}
use Rattle.marc8_latin.specs.declared.part.Designations.{Designations}
use Rattle.marc8_latin.specs.declared.part.Meaning.{Meaning}
use Rattle.marc8_latin.specs.declared.part.Meaning.TheVariants.{DesignatesG0, DesignatesG1, Base, Mark, Control, Subfield}
use Rattle.marc8_latin.specs.Tables.{spacing, marks}

-- the character of a table's entry, where the entry has one
abbrev pub listed : (ℕ → Meaning) → ℕ → Option Meaning
listed kind point = if point == 0 then None else Some (kind point)

-- the character that a code of 21 to 7E has in a set; codes of Extended Latin from 60 on are marks
abbrev pub graphic : Charset → ℕ → Option Meaning
graphic BasicLatin code = Some (Base code)
graphic ExtendedLatin code =
    if nat_lt code 0x60 then listed Base (slice_index spacing (code - 0x21)) else listed Mark (slice_index marks (code - 0x60))

-- the control characters of 80 to 9F that aren't the code point of their number
abbrev pub control : ℕ → ℕ
control byte =
    if byte == 0x88 then 0x98 else if byte == 0x89 then 0x9c else if byte == 0x8d then 0x200d else if byte == 0x8e then 0x200c else byte

-- what a byte means by itself: ESC, a delimiter, A0 and FF mean nothing
abbrev pub character : Designations → ℕ → Option Meaning
character sets byte =
    if (byte == 0x1b) || (byte == 0x1f) then None
    else if byte == 0x20 then Some (Base byte)
    else if is_graphic byte then graphic sets.g0 byte
    else if nat_lt byte 0xa0 then Some (Control (control byte))
    else if nat_le 0xa1 byte && nat_le byte 0xfe then graphic sets.g1 (byte - 0x80)
    else None

-- `(` and `,` stand for G0, `)` and `-` for G1
abbrev pub is_first_side : ℕ → Bool
is_first_side byte = (byte == 0x28) || (byte == 0x2c)

-- the byte of an escape sequence that designates a set as G1
abbrev pub is_second_side : ℕ → Bool
is_second_side byte = (byte == 0x29) || (byte == 0x2d)

-- the bytes that designate a set, behind ESC and a side
abbrev pub designation_code : Charset → List ℕ
designation_code BasicLatin = 0x42 ∷ []
designation_code ExtendedLatin = 0x21 ∷ 0x45 ∷ []

-- the set is designated as G0 or G1, by the byte behind ESC
abbrev pub designates : ℕ → Charset → Option Meaning
designates side set =
    if is_first_side side then Some (DesignatesG0 set) else if is_second_side side then Some (DesignatesG1 set) else None

-- what bytes mean that are one part: a character, a delimiter with its code, ESC `s`, or a designation
unfoldable pub meaning_of : Designations → List ℕ → Option Meaning
meaning_of sets (byte ∷ []) = character sets byte
meaning_of sets (a ∷ b ∷ []) =
    if (a == 0x1f) && is_graphic b then Some (Subfield b) else if (a == 0x1b) && (b == 0x73) then Some (DesignatesG0 BasicLatin) else None
meaning_of sets (a ∷ side ∷ b ∷ []) = if (a == 0x1b) && (b == 0x42) then designates side BasicLatin else None
meaning_of sets (a ∷ side ∷ b ∷ c ∷ []) =
    if (a == 0x1b) && (b == 0x21) && (c == 0x45) then designates side ExtendedLatin else None
meaning_of sets _ = None

-- the sets that aren't read, by the byte that designates them
abbrev pub other_set : ℕ → Set
other_set byte =
    if byte == 0x31 then Eacc else if byte == 0x32 then BasicHebrew else if byte == 0x33 then BasicArabic
    else if byte == 0x34 then ExtendedArabic else if byte == 0x4e then BasicCyrillic else if byte == 0x51 then ExtendedCyrillic
    else if byte == 0x53 then BasicGreek else Unknown

-- behind ESC `$`: EACC by 31, also with a side before it
abbrev pub multibyte_set : List ℕ → Set
multibyte_set [] = Unknown
multibyte_set (byte ∷ []) = if byte == 0x31 then Eacc else Unknown
multibyte_set (byte ∷ next ∷ _) =
    if byte == 0x31 then Eacc else if (is_first_side byte || is_second_side byte) && (next == 0x31) then Eacc else Unknown

-- behind ESC and a side
abbrev pub designation_fault : List ℕ → Option Marc8Fault
designation_fault [] = Some (BadByte 0)
designation_fault (byte ∷ []) =
    if byte == 0x42 then None else if byte == 0x21 then Some (BadByte 0) else Some (OtherSet (other_set byte) 0)
designation_fault (byte ∷ next ∷ _) =
    if byte == 0x42 then None
    else if byte == 0x21 then (if next == 0x45 then None else Some (OtherSet Unknown 0))
    else Some (OtherSet (other_set byte) 0)

-- behind ESC
abbrev pub escape_fault : List ℕ → Option Marc8Fault
escape_fault [] = Some (BadByte 0)
escape_fault (byte ∷ rest) =
    if is_first_side byte || is_second_side byte then designation_fault rest
    else if byte == 0x24 then Some (OtherSet (multibyte_set rest) 0)
    else if byte == 0x67 then Some (OtherSet GreekSymbols 0)
    else if byte == 0x62 then Some (OtherSet Subscripts 0)
    else if byte == 0x70 then Some (OtherSet Superscripts 0)
    else if byte == 0x73 then None
    else Some (BadByte 0)

-- behind a delimiter
abbrev pub code_fault : List ℕ → Option Marc8Fault
code_fault [] = Some (BadByte 0)
code_fault (byte ∷ rest) = if is_graphic byte then None else Some (BadByte 1)

-- a byte that means nothing is a fault at its place
abbrev pub byte_fault : Option Meaning → Option Marc8Fault
byte_fault None = Some (BadByte 0)
byte_fault (Some meaning) = None

-- the fault of bytes that no part begins, with its place in them
unfoldable pub fault_of : Designations → List ℕ → Option Marc8Fault
fault_of sets [] = None
fault_of sets (byte ∷ rest) =
    if byte == 0x1b then escape_fault rest else if byte == 0x1f then code_fault rest else byte_fault (character sets byte)

-- the first bytes are a part of this meaning
pub record IsFront (sets : Designations) (bytes : List ℕ) (meaning : Meaning) (len : ℕ) : Type 0 where
  pub some : 0 < len
  pub within : len ≤ length bytes
  pub known : meaning_of sets (take len bytes) ≡ Some meaning
