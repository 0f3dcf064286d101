-- What a conversion's answer says of a text in its coding.
use Rattle.std.proofs.Common.{◌≡◌, ◌≢◌, ℕ, ◌+◌, ◌≤◌, true, false, List, ◌++◌, length, length-append, Option, Some, None, refl, ap, subst, arith}
use Rattle.std.specs.Option.{option_map}
use Rattle.std.specs.Str.{IsUtf8}
use Rattle.std.specs.Str.Lossy.{utf8_valid_len}
use Rattle.marc8_latin.specs.Text.{IsText, IsFault, joined, after_all, latin, moved}
use Rattle.marc8_latin.specs.Parts.{fault_of}
use Rattle.marc8_latin.specs.Progress.{place_of}
use Rattle.marc8_latin.proofs.Places.{place_of_fault}
use Rattle.marc8_latin.specs.declared.fault.Marc8Fault.{Marc8Fault}
use Rattle.marc8_latin.specs.declared.fault.Marc8Fault.TheVariants.{BadByte, OtherSet, NoMemory}
use Rattle.reading.specs.Reading.{is_marc8, IsTextIn, InMarc8, InUtf8, IsFaultIn, OfMarc8, OfUtf8}

pub marc8_text : (coding : ℕ) (bytes text : List ℕ) → is_marc8 coding ≡ true → IsText bytes text → IsTextIn coding bytes text
marc8_text coding bytes text e h = InMarc8 coding bytes text e h

pub marc8_fault : (coding : ℕ) (bytes : List ℕ) (fault : Marc8Fault) → is_marc8 coding ≡ true
    → (fault ≢ NoMemory → IsFault bytes fault) → fault ≢ NoMemory → IsFaultIn coding bytes fault
marc8_fault coding bytes fault e h other = OfMarc8 coding bytes fault e (h other)

pub utf8_text : (coding : ℕ) (bytes text : List ℕ) → is_marc8 coding ≡ false → IsUtf8 bytes → text ≡ bytes → IsTextIn coding bytes text
utf8_text coding bytes text e h same = rw same (InUtf8 coding bytes e h)

pub utf8_fault : (coding place : ℕ) (bytes : List ℕ) → is_marc8 coding ≡ false → ¬ IsUtf8 bytes → place ≡ utf8_valid_len bytes
    → IsFaultIn coding bytes (BadByte place)
utf8_fault coding place bytes e h same = rw same (OfUtf8 coding bytes e h)

moved_place : (by : ℕ) (fault : Marc8Fault) → place_of (moved by fault) ≤ by + place_of fault
moved_place by (BadByte place) = omega arith
moved_place by (OtherSet set place) = omega arith
moved_place by NoMemory = omega arith

stopped_place : (by : ℕ) (found : Option Marc8Fault) (fault : Marc8Fault) → ((f : Marc8Fault) → found ≡ Some f → place_of f ≤ 1)
    → option_map (moved by) found ≡ Some fault → place_of fault ≤ by + 1
stopped_place by None fault near stops = cc
stopped_place by (Some f) fault near stops =
    let is : moved by f ≡ fault = cc in
    let close : place_of f ≤ 1 = near f refl in
    subst (λ x. place_of x ≤ by + 1) is (omega (arith, moved_place by f))

-- a fault stands in the bytes, or one place behind
pub fault_place : (bytes : List ℕ) (fault : Marc8Fault) → IsFault bytes fault → place_of fault ≤ length bytes + 1
fault_place bytes fault h =
    let size : length (joined h.parts ++ h.rest) ≡ length bytes = ap length h.cut in
    let near : place_of fault ≤ length (joined h.parts) + 1 =
    stopped_place (length (joined h.parts)) (fault_of (after_all latin h.parts) h.rest) fault
    (λ f. place_of_fault (after_all latin h.parts) h.rest f) h.stops in
    omega (arith, length-append (joined h.parts) h.rest)

pub marc8_place : (bytes : List ℕ) (fault : Marc8Fault) → length bytes ≤ 99999 → (fault ≢ NoMemory → IsFault bytes fault)
    → place_of fault ≤ 100000
marc8_place bytes (BadByte place) short h = omega (arith, fault_place bytes (BadByte place) (h (λ e. cc)))
marc8_place bytes (OtherSet set place) short h = omega (arith, fault_place bytes (OtherSet set place) (h (λ e. cc)))
marc8_place bytes NoMemory short h = omega arith
