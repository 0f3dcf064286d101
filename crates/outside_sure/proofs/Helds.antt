-- At most so many bytes.
use Rattle.std.proofs.Common.{◌≡◌, ℕ, zero, suc, ◌+◌, ◌-◌, ◌<◌, ◌≤◌, List, [], ◌∷◌, ◌++◌, length, take, drop, min, Some, sym, ap, ◌∙◌, arith, append_assoc, append-nil, drop_of_length-le, take_all, inl, inr, take-append-drop, length-take-le, length-take}
use Rattle.std.proofs.lemmas.Bool.{cases_lt}
use Rattle.std.proofs.lemmas.Grind.{common_steps}
use Rattle.outside.specs.Disk.{patch, Torn}
use Rattle.outside.specs.Sink.{WritesFront}
use Rattle.outside.proofs.Disks.{length-patch}

take_more : (k : ℕ) (xs ys : List ℕ) → length xs ≤ k → take k (xs ++ ys) ≡ xs ++ take (k - length xs) ys
take_more k [] ys most = grind (arith, common_steps)
take_more zero (x ∷ xs) ys most = absurd (omega (arith, most))
take_more (suc k) (x ∷ xs) ys most = grind (arith, common_steps, take_more k xs ys (omega (arith, most)))

-- what is written past the end
patch_past : (at : ℕ) (bytes held : List ℕ) → length held ≤ at + length bytes → patch at bytes held ≡ take at held ++ bytes
patch_past at bytes held past =
    ap (λ rest. take at held ++ bytes ++ rest) (drop_of_length-le held past) ∙ append-nil (take at held ++ bytes)

-- what is written over what is there leaves it as long
pub over_len : (at : ℕ) (bytes held : List ℕ) → at + length bytes ≤ length held → length (patch at bytes held) ≡ length held
over_len at bytes held within = omega (arith, length-patch at bytes held (omega (arith, within)), within)

-- what is written over what is there, and the rest added at the end
pub over_and_past : (at over : ℕ) (bytes held : List ℕ) → at ≤ length held → over ≡ min (length bytes) (length held - at)
    → patch at (take over bytes) held ++ drop over bytes ≡ patch at bytes held
over_and_past at over bytes held within is = elim (cases_lt (length held - at) (length bytes)) [
  | inl past ↦
      let len : length (take over bytes) ≡ over = length-take-le over bytes (omega (arith, is, past)) in
      ap (λ l. l ++ drop over bytes) (patch_past at (take over bytes) held (omega (arith, is, past, len)))
      ∙ append_assoc (take at held) (take over bytes) (drop over bytes)
      ∙ ap (λ l. take at held ++ l) (take-append-drop over bytes)
      ∙ sym (patch_past at bytes held (omega (arith, past)))
  | inr fits ↦
      let all : take over bytes ≡ bytes = take_all over bytes (omega (arith, is, fits)) in
      let none : drop over bytes ≡ [] = drop_of_length-le bytes (omega (arith, is, fits)) in
      rw (all, none) (append-nil (patch at bytes held))
]

-- what fits is as far as there is room
pub fitting : (room at : ℕ) (bytes held : List ℕ) → at ≤ length held → length held ≤ room
    → patch at (take (min (length bytes) (room - at)) bytes) held ≡ take room (patch at bytes held)
fitting room at bytes held within most = elim (cases_lt (room - at) (length bytes)) [
  | inl past ↦
      let front : length (take at held) ≡ at = length-take-le at held within in
      let least : min (length bytes) (room - at) ≡ room - at = omega (arith, past) in
      let len : length (take (room - at) bytes) ≡ room - at = length-take-le (room - at) bytes (omega (arith, past)) in
      rw least (patch_past at (take (room - at) bytes) held (omega (arith, len, within, most)))
      ∙ sym (take_more room (take at held) bytes (omega (arith, front, within, most)) ∙ ap (λ n. take at held ++ take (room - n) bytes) front)
      ∙ ap (take room) (sym (patch_past at bytes held (omega (arith, past, within, most))))
  | inr fits ↦
      let all : take (min (length bytes) (room - at)) bytes ≡ bytes = take_all (min (length bytes) (room - at)) bytes (omega (arith, fits)) in
      rw all (sym (take_all room (patch at bytes held) (omega (arith, length-patch at bytes held within, fits, within, most))))
]

-- what fits whole
pub all_fits : (room at : ℕ) (bytes held : List ℕ) → at ≤ length held → length held ≤ room → at + length bytes ≤ room → take room (patch at bytes held) ≡ patch at bytes held
all_fits room at bytes held within most fits = take_all room (patch at bytes held) (omega (arith, length-patch at bytes held within))

-- what doesn't fit fills the room
pub fills : (room at : ℕ) (bytes held : List ℕ) → at ≤ length held → room < at + length bytes → length (take room (patch at bytes held)) ≡ room
fills room at bytes held within past = length-take-le room (patch at bytes held) (omega (arith, length-patch at bytes held within, past))

-- as far as there is room, any write is torn at most
pub torn_full : (room at : ℕ) (bytes held : List ℕ) → at ≤ length held → length held ≤ room → Torn at (length bytes) held (take room (patch at bytes held))
torn_full room at bytes held within most = grind (arith, common_steps)

-- what is written at the end is appended
pub appended : (bytes held : List ℕ) → patch (length held) bytes held ≡ held ++ bytes
appended bytes held = grind (arith, common_steps)

-- a front of the piece is appended
pub sink_front : (room : ℕ) (held piece : List ℕ) → length held ≤ room → WritesFront (Some held) (Some (take room (held ++ piece))) piece
sink_front room held piece most = record {
  front = take (room - length held) piece;
  rest = drop (room - length held) piece;
  split = sym (take-append-drop (room - length held) piece);
  wrote = take_more room held piece most;
}

-- so many bytes are no more than there is room for
pub fits : (room : ℕ) (bytes : List ℕ) → length (take room bytes) ≤ room
fits room bytes = omega (arith, length-take room bytes)
