-- The parts of a payload, and how long they are.
use Rattle.std.proofs.Common.{◌≡◌, ℕ, ◌+◌, List, [], ◌∷◌, ◌++◌, length, take, arith, append_assoc, length-append}
use Rattle.std.proofs.Math.Seq.{take-append_seam}
use Rattle.std.specs.Int.{w32, w64, to_be_bytes}
use Rattle.marc_types.specs.declared.entry.Entry.{Entry}
use Rattle.iso2709_record.specs.Written.{record_length, record_bytes}
use Rattle.iso2709_record.proofs.Lengths.{length-record_bytes}
use Rattle.entry_history.specs.Format.{payload_head, entry_bytes, payload_bytes, payload_of}

-- pieces that are appended one after the other are appended together
pub head_joined : (out run loader library : List ℕ) (n count : ℕ) →
    ((((out ++ run) ++ loader) ++ n ∷ []) ++ library) ++ count ∷ [] ≡ out ++ (run ++ loader ++ n ∷ library ++ count ∷ [])
head_joined out run loader library n count = simp append_assoc

pub entry_joined : (out ordinal len rec : List ℕ) → ((out ++ ordinal) ++ len) ++ rec ≡ out ++ (ordinal ++ len ++ rec)
entry_joined out ordinal len rec = simp append_assoc

-- what was there before something was appended
pub front_alone : (out part : List ℕ) → take (length out) (out ++ part) ≡ out
front_alone out part = take-append_seam out part

length-head : (run loader count : ℕ) (library : List ℕ) → length (payload_head run loader library count) ≡ 14 + length library
unfolding payload_head
length-head run loader count library =
    omega (
      arith,
      length-append (to_be_bytes w64 run ++ to_be_bytes w32 loader ++ length library ∷ library) (count ∷ []),
      length-append (to_be_bytes w64 run ++ to_be_bytes w32 loader) (length library ∷ library),
      length-append (to_be_bytes w64 run) (to_be_bytes w32 loader),
    )

pub length_entry : (e : Entry) → length (entry_bytes e) ≡ 12 + record_length e.rec.fields
unfolding entry_bytes
length_entry e =
    omega (
      arith,
      length-append (to_be_bytes w64 e.ordinal ++ to_be_bytes w32 (record_length e.rec.fields)) (record_bytes e.rec.leader e.rec.fields),
      length-append (to_be_bytes w64 e.ordinal) (to_be_bytes w32 (record_length e.rec.fields)),
      length-record_bytes e.rec.leader e.rec.fields,
    )

pub length-payload : (e : Entry) → length (payload_of e) ≡ 26 + length e.library + record_length e.rec.fields
unfolding payload_bytes
length-payload e =
    omega (
      arith,
      length-append (payload_head e.run e.loader e.library 1) (entry_bytes e ++ []),
      length-append (entry_bytes e) [],
      length-head e.run e.loader 1 e.library,
      length_entry e,
    )
