-- Whole frames, by the bytes that stand behind a gate.
use Rattle.std.proofs.Common.{◌≡◌, ℕ, ◌+◌, ◌<◌, ◌≤◌, true, false, List, [], ◌∷◌, length, take, drop, get_or, refl, ap, arith, length-drop}
use Rattle.std.specs.Int.{w32, from_be_bytes}
use Rattle.std.proofs.lemmas.List.{length-take}
use Rattle.commit_journal.specs.declared.format.TheConstants.{LARGEST_PAYLOAD, LENGTH_BYTES}
use Rattle.commit_journal.specs.Log.{payload_length, has_frame, payload_of}
use Rattle.commit_journal.proofs.Walks.{frame_sizes, frame_whole, frame_missing}
use Rattle.sound_frames.specs.Sound.{behind_gate, next_gate}

pub length_bytes : (bytes : List ℕ) → 4 ≤ length bytes → from_be_bytes w32 (get_or bytes 0 0 ∷ get_or bytes 1 0 ∷ get_or bytes 2 0 ∷ get_or bytes 3 0 ∷ []) ≡ payload_length bytes
unfolding payload_length
length_bytes [] is = absurd (omega (arith, is))
length_bytes (a ∷ []) is = absurd (omega (arith, is))
length_bytes (a ∷ b ∷ []) is = absurd (omega (arith, is))
length_bytes (a ∷ b ∷ c ∷ []) is = absurd (omega (arith, is))
length_bytes (a ∷ b ∷ c ∷ d ∷ rest) is = refl

pub whole_here : (bytes : List ℕ) (n : ℕ) → n ≡ payload_length bytes → 1 ≤ n → n ≤ LARGEST_PAYLOAD → LENGTH_BYTES + n < length bytes → has_frame bytes ≡ true
whole_here bytes n is least most whole = frame_whole bytes (record {
  least = omega (arith, is, least);
  most = omega (arith, is, most);
  whole = omega (arith, is, whole);
})

pub none_short : (bytes : List ℕ) → length bytes < LENGTH_BYTES → has_frame bytes ≡ false
none_short bytes short = frame_missing bytes (λ sizes. let whole = sizes.whole in omega (arith, whole, short))

pub none_empty : (bytes : List ℕ) (n : ℕ) → n ≡ payload_length bytes → n ≡ 0 → has_frame bytes ≡ false
none_empty bytes n is none = frame_missing bytes (λ sizes. let least = sizes.least in omega (arith, least, is, none))

pub none_great : (bytes : List ℕ) (n : ℕ) → n ≡ payload_length bytes → LARGEST_PAYLOAD < n → has_frame bytes ≡ false
none_great bytes n is great = frame_missing bytes (λ sizes. let most = sizes.most in omega (arith, most, is, great))

pub none_cut : (bytes : List ℕ) (n : ℕ) → n ≡ payload_length bytes → length bytes ≤ LENGTH_BYTES + n → has_frame bytes ≡ false
none_cut bytes n is short = frame_missing bytes (λ sizes. let whole = sizes.whole in omega (arith, whole, is, short))

module _ (log : List ℕ) (place : ℕ) (payload : List ℕ) (has : has_frame (behind_gate log place) ≡ true) (is : payload ≡ payload_of (behind_gate log place)) where
  sized : length payload ≡ payload_length (behind_gate log place)
  sized =
      let whole = (frame_sizes (behind_gate log place) has).whole in
      let left = length-drop LENGTH_BYTES (behind_gate log place) in
      let taken = length-take (payload_length (behind_gate log place)) (drop LENGTH_BYTES (behind_gate log place)) in
      omega (arith, ap (length {A = ℕ}) is, taken, left, whole)

  -- where the next gate stands
  pub next_of : place + 5 + length payload ≡ next_gate log place
  next_of = let n = sized in omega (arith, n)

  pub next_inside : place + 5 + length payload < length log
  next_inside =
      let n = sized in
      let whole = (frame_sizes (behind_gate log place) has).whole in
      let left = length-drop (place + 1) log in
      omega (arith, n, whole, left)
