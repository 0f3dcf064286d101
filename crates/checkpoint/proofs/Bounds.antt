-- How long the parts of a payload are.
use Rattle.std.proofs.Common.{◌≡◌, ℕ, suc, ◌+◌, ◌*◌, ◌≤◌, true, ◌&&◌, nat_le, List, [], ◌∷◌, length, Option, Some, None, ap, arith, length-append}
use Rattle.std.specs.Prelude.{IfSome}
use Rattle.std.specs.Int.{w32, to_be_bytes}
use Rattle.std.specs.List.{All, flat_map, list_all}
use Rattle.std.proofs.lemmas.Bool.{and_parts, leb-true}
use Rattle.marc_types.specs.Valid.{is_graphic, is_code_byte, is_code, is_number}
use Rattle.marc_types.specs.declared.key.Key.{Key}
use Rattle.marc_types.specs.declared.entry.Tie.{Tie}
use Rattle.iso2709_record.specs.Written.{record_bytes}
use Rattle.iso2709_record.proofs.Lengths.{length-record_bytes}
use Rattle.entry_record.proofs.Written.{fitting_length}
use Rattle.kept_rows.specs.declared.row.KeptRow.{KeptRow}
use Rattle.checkpoint.specs.Format.{coded, sized, key_bytes, optional_key_bytes, tie_bytes, head_bytes, row_bytes}
use Rattle.checkpoint.specs.Parts.{IsProperKey, IsProperTie, IsKeptRow}
use Rattle.checkpoint.proofs.Kept.{row_written}

code_short : (code : List ℕ) → is_code code ≡ true → length code ≤ 16
unfolding is_code
code_short code h =
    leb-true (length code) 16 (and_parts (nat_le 1 (length code)) (nat_le (length code) 16)
    (and_parts (nat_le 1 (length code) && nat_le (length code) 16) (list_all is_code_byte code) h).0).1

number_short : (number : List ℕ) → is_number number ≡ true → length number ≤ 64
unfolding is_number
number_short number h =
    leb-true (length number) 64 (and_parts (nat_le 1 (length number)) (nat_le (length number) 64)
    (and_parts (nat_le 1 (length number) && nat_le (length number) 64) (list_all is_graphic number) h).0).1

pub proper_code : (key : Key) → IsProperKey key → length key.code ≤ 16
proper_code key h = code_short key.code (and_parts (is_code key.code) (is_number key.number) h).0

pub proper_number : (key : Key) → IsProperKey key → length key.number ≤ 64
proper_number key h = number_short key.number (and_parts (is_code key.code) (is_number key.number) h).1

length_coded : (text : List ℕ) → length (coded text) ≡ 1 + length text
unfolding coded
length_coded text = omega arith

length_sized : (bytes : List ℕ) → length (sized bytes) ≡ 4 + length bytes
unfolding sized
length_sized bytes = omega (arith, length-append (to_be_bytes w32 (length bytes)) bytes)

key_length : (key : Key) → IsProperKey key → length (key_bytes key) ≤ 82
unfolding key_bytes
key_length key h =
    omega (arith, length-append (coded key.code) (coded key.number), length_coded key.code, length_coded key.number, proper_code key h, proper_number key h)

optional_length : (key : Option Key) → IfSome key IsProperKey → length (optional_key_bytes key) ≤ 82
optional_length None h = omega arith
optional_length (Some key) h = key_length key h

tie_length : (t : Tie) → IsProperTie t → length (tie_bytes t) ≤ 165
unfolding tie_bytes
tie_length t h =
    omega (
      arith,
      length-append (optional_key_bytes t.key) (optional_key_bytes t.awaits),
      optional_length t.key h.linked,
      optional_length t.awaits h.awaited,
    )

ties_length : (ts : List Tie) → All IsProperTie ts → length (flat_map tie_bytes ts) ≤ 165 * length ts
ties_length [] h = omega arith
ties_length (t ∷ ts) h =
    omega (
      arith,
      length-append (tie_bytes t) (flat_map tie_bytes ts),
      tie_length t (h 0 t (omega arith)),
      ties_length ts (λ k d within. h (suc k) d (omega (arith, within))),
    )

length_head : (r : KeptRow) (written : List ℕ) → length (head_bytes r.class r.key.code written) ≡ 6 + length r.key.code + length written
unfolding head_bytes
length_head r written = omega (arith, length-append (coded r.key.code) (sized written), length_coded r.key.code, length_sized written)

-- a kept record has room in a frame, whatever it is
pub row_length : (r : KeptRow) → IsKeptRow r → length (row_bytes r) ≤ 1474636
row_length r h =
    let written = record_bytes r.rec.leader r.rec.fields in
    omega (
      arith,
      ap length (row_written r),
      length-append (head_bytes r.class r.key.code written) (flat_map tie_bytes r.ties),
      length_head r written,
      length-record_bytes r.rec.leader r.rec.fields,
      fitting_length r.rec.fields h.writable.fitting,
      proper_code r.key h.key,
      ties_length r.ties h.ties,
      r.tied,
    )
