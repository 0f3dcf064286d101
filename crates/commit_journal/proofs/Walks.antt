-- What a walk over gates and frames comes to, and what it does where other bytes stand behind its end.
use Rattle.std.proofs.Common.{◌≡◌, ℕ, zero, suc, ◌+◌, ◌<◌, ◌≤◌, Bool, true, false, List, [], ◌∷◌, ◌++◌, length, take, drop, nat_lt, nat_le, ◌==◌, ◌&&◌, refl, sym, ap, ◌∙◌, arith, add-zero, length-append, true≢false}
use Rattle.std.proofs.lemmas.List.{take-append-le}
use Rattle.std.proofs.lemmas.Bool.Decides.{nat_tests}
use Rattle.std.proofs.lemmas.Grind.{common_steps}
use Rattle.std.specs.Int.{w32, from_be_bytes}
use Rattle.commit_journal.specs.declared.format.TheConstants.{CLOSED_GATE, LARGEST_PAYLOAD, LENGTH_BYTES}
use Rattle.commit_journal.specs.Log.{payload_length, payload_of, has_frame, Walk, walk, closed_at, lost_at, behind}

-- the three ways in which a walk goes on at a gate
pub walk_closed : (place gate : ℕ) (bytes : List ℕ) → (gate == CLOSED_GATE) ≡ true → walk place 0 (gate ∷ bytes) ≡ closed_at place
unfolding walk
walk_closed place gate bytes is = rw is refl

pub walk_frame : (place gate : ℕ) (bytes : List ℕ) → (gate == CLOSED_GATE) ≡ false → has_frame bytes ≡ true
    → walk place 0 (gate ∷ bytes) ≡ behind (record { gate = place; payload = payload_of bytes } ∷ []) (walk (place + 1) (LENGTH_BYTES + payload_length bytes) bytes)
unfolding walk
walk_frame place gate bytes is has = rw (is, has) refl

pub walk_lost : (place gate : ℕ) (bytes : List ℕ) → (gate == CLOSED_GATE) ≡ false → has_frame bytes ≡ false → walk place 0 (gate ∷ bytes) ≡ lost_at place
unfolding walk
walk_lost place gate bytes is has = rw (is, has) refl

pub walk_none : (place skip : ℕ) → walk place skip [] ≡ lost_at place
unfolding walk
walk_none place zero = refl
walk_none place (suc skip) = refl

walk_byte : (place skip byte : ℕ) (bytes : List ℕ) → walk place (suc skip) (byte ∷ bytes) ≡ walk (place + 1) skip bytes
unfolding walk
walk_byte place skip byte bytes = refl

-- a walk passes the bytes of a frame
pub walk_skip : (place skip : ℕ) (bytes : List ℕ) → skip ≤ length bytes → walk place skip bytes ≡ walk (place + skip) 0 (drop skip bytes)
walk_skip place zero bytes le = rw add-zero refl
walk_skip place (suc skip) [] le = absurd (omega (arith, le))
walk_skip place (suc skip) (byte ∷ bytes) le =
    let same : place + 1 + skip ≡ place + suc skip = omega arith in
    walk_byte place skip byte bytes ∙ walk_skip (place + 1) skip bytes (omega (arith, le)) ∙ ap (λ p. walk p 0 (drop skip bytes)) same

-- the sizes of a whole frame
pub record Sizes (bytes : List ℕ) : Type 0 where
  pub least : 1 ≤ payload_length bytes
  pub most : payload_length bytes ≤ LARGEST_PAYLOAD
  pub whole : LENGTH_BYTES + payload_length bytes < length bytes

all_three : (a b c : Bool) → (a && b && c) ≡ true → (a ≡ true) × (b ≡ true) × (c ≡ true)
all_three true true true is = (refl, refl, refl)
all_three true true false is = absurd (true≢false (sym is))
all_three true false c is = absurd (true≢false (sym is))
all_three false b c is = absurd (true≢false (sym is))

pub frame_sizes : (bytes : List ℕ) → has_frame bytes ≡ true → Sizes bytes
unfolding has_frame
frame_sizes bytes has =
    let tests = all_three (nat_le 1 (payload_length bytes)) (nat_le (payload_length bytes) LARGEST_PAYLOAD) (nat_lt (LENGTH_BYTES + payload_length bytes) (length bytes)) has in
    record {
      least = (let t = tests.0 in grind (arith, nat_tests));
      most = (let t = tests.1 in grind (arith, nat_tests));
      whole = (let t = tests.2 in grind (arith, nat_tests));
    }

pub frame_whole : (bytes : List ℕ) → Sizes bytes → has_frame bytes ≡ true
unfolding has_frame
frame_whole bytes sizes =
    let first : nat_le 1 (payload_length bytes) ≡ true = (let l = sizes.least in grind (arith, nat_tests)) in
    let second : nat_le (payload_length bytes) LARGEST_PAYLOAD ≡ true = (let l = sizes.most in grind (arith, nat_tests)) in
    let third : nat_lt (LENGTH_BYTES + payload_length bytes) (length bytes) ≡ true = (let l = sizes.whole in grind (arith, nat_tests)) in
    rw (first, second, third) refl

pub frame_missing : (bytes : List ℕ) → (Sizes bytes → ⊥) → has_frame bytes ≡ false
frame_missing bytes none = decided (has_frame bytes) refl
  where
    decided : (b : Bool) → has_frame bytes ≡ b → b ≡ false
    decided true is = absurd (none (frame_sizes bytes is))
    decided false is = refl

-- a frame is in its bytes alone
payload_length_front : (front x y : List ℕ) → LENGTH_BYTES ≤ length front → payload_length (front ++ x) ≡ payload_length (front ++ y)
unfolding payload_length
payload_length_front front x y long = ap (from_be_bytes w32) (take-append-le LENGTH_BYTES front x long ∙ sym (take-append-le LENGTH_BYTES front y long))

take_drop_front : (front x y : List ℕ) (i n : ℕ) → i + n ≤ length front → take n (drop i (front ++ x)) ≡ take n (drop i (front ++ y))
take_drop_front front x y i n long = grind (arith, common_steps)

payload_front : (front x y : List ℕ) (n : ℕ) → payload_length (front ++ x) ≡ n → LENGTH_BYTES + n ≤ length front → payload_of (front ++ y) ≡ payload_of (front ++ x)
payload_front front x y n is long =
    let other : payload_length (front ++ y) ≡ n = payload_length_front front y x (omega (arith, long)) ∙ is in
    rw (is, other) (take_drop_front front y x LENGTH_BYTES n long)

-- A walk that ends at a closed gate: what stands before that gate and behind it, and how the walk goes on where other bytes stand there.
pub record Split (place skip : ℕ) (bytes : List ℕ) : Type 0 where
  pub front : List ℕ
  pub tail : List ℕ
  pub is : bytes ≡ front ++ CLOSED_GATE ∷ tail
  pub at : (walk place skip bytes).place ≡ place + length front
  pub long : skip ≤ length front
  pub none : length front ≡ 0 → (walk place skip bytes).frames ≡ []
  pub goes_on : (gate : ℕ) (rest : List ℕ) → walk place skip (front ++ gate ∷ rest) ≡ behind (walk place skip bytes).frames (walk (place + length front) 0 (gate ∷ rest))

split_byte : (place skip byte : ℕ) (bytes : List ℕ) → Split (place + 1) skip bytes → Split place (suc skip) (byte ∷ bytes)
split_byte place skip byte bytes s =
    let same : place + 1 + length s.front ≡ place + suc (length s.front) = omega arith in
    record {
      front = byte ∷ s.front;
      tail = s.tail;
      is = ap (λ l. byte ∷ l) s.is;
      at = ap (λ w. w.place) (walk_byte place skip byte bytes) ∙ s.at ∙ same;
      long = omega (arith, s.long);
      none = λ no. absurd (omega (arith, no));
      goes_on = λ gate rest. walk_byte place skip byte (s.front ++ gate ∷ rest) ∙ s.goes_on gate rest
          ∙ ap (λ w. behind w.frames (walk (place + 1 + length s.front) 0 (gate ∷ rest))) (sym (walk_byte place skip byte bytes))
          ∙ ap (λ p. behind (walk place (suc skip) (byte ∷ bytes)).frames (walk p 0 (gate ∷ rest))) same;
    }

split_closed : (place gate : ℕ) (bytes : List ℕ) → (gate == CLOSED_GATE) ≡ true → Split place 0 (gate ∷ bytes)
split_closed place gate bytes is =
    let walked = walk_closed place gate bytes is in
    let same : gate ≡ CLOSED_GATE = grind (arith, nat_tests) in
    record {
      front = [];
      tail = bytes;
      is = ap (λ g. g ∷ bytes) same;
      at = ap (λ w. w.place) walked ∙ sym (add-zero place);
      long = omega arith;
      none = λ no. ap (λ w. w.frames) walked;
      goes_on = λ other rest. rw (walked, add-zero) refl;
    }

split_frame : (place gate : ℕ) (bytes : List ℕ) → (gate == CLOSED_GATE) ≡ false → has_frame bytes ≡ true → Split (place + 1) (LENGTH_BYTES + payload_length bytes) bytes → Split place 0 (gate ∷ bytes)
split_frame place gate bytes is has s =
    let walked = walk_frame place gate bytes is has in
    let sizes = frame_sizes bytes has in
    let same : place + 1 + length s.front ≡ place + suc (length s.front) = omega arith in
    record {
      front = gate ∷ s.front;
      tail = s.tail;
      is = ap (λ l. gate ∷ l) s.is;
      at = ap (λ w. w.place) walked ∙ s.at ∙ same;
      long = omega arith;
      none = λ no. absurd (omega (arith, no));
      goes_on = λ other rest. frame_again other rest walked sizes same;
    }
  where
    frame_again : (other : ℕ) (rest : List ℕ) → walk place 0 (gate ∷ bytes) ≡ behind (record { gate = place; payload = payload_of bytes } ∷ []) (walk (place + 1) (LENGTH_BYTES + payload_length bytes) bytes)
        → Sizes bytes → place + 1 + length s.front ≡ place + suc (length s.front)
        → walk place 0 (gate ∷ (s.front ++ other ∷ rest)) ≡ behind (walk place 0 (gate ∷ bytes)).frames (walk (place + suc (length s.front)) 0 (other ∷ rest))
    frame_again other rest walked sizes same =
        let now = s.front ++ other ∷ rest in
        let n = payload_length bytes in
        let long = s.long in
        let was : payload_length (s.front ++ CLOSED_GATE ∷ s.tail) ≡ n = ap payload_length (sym s.is) in
        let n_now : payload_length now ≡ n = payload_length_front s.front (other ∷ rest) (CLOSED_GATE ∷ s.tail) (omega (arith, long)) ∙ was in
        let payload_now : payload_of now ≡ payload_of bytes = payload_front s.front (CLOSED_GATE ∷ s.tail) (other ∷ rest) n was long ∙ ap payload_of (sym s.is) in
        let has_now : has_frame now ≡ true = frame_whole now (record {
          least = rw n_now sizes.least;
          most = rw n_now sizes.most;
          whole = omega (arith, n_now, long, length-append s.front (other ∷ rest));
        }) in
        walk_frame place gate now is has_now
        ∙ ap (λ p. behind (record { gate = place; payload = p } ∷ []) (walk (place + 1) (LENGTH_BYTES + payload_length now) now)) payload_now
        ∙ ap (λ k. behind (record { gate = place; payload = payload_of bytes } ∷ []) (walk (place + 1) (LENGTH_BYTES + k) now)) n_now
        ∙ ap (λ w. behind (record { gate = place; payload = payload_of bytes } ∷ []) w) (s.goes_on other rest)
        ∙ ap (λ p. behind (record { gate = place; payload = payload_of bytes } ∷ (walk (place + 1) (LENGTH_BYTES + n) bytes).frames) (walk p 0 (other ∷ rest))) same
        ∙ ap (λ w. behind w.frames (walk (place + suc (length s.front)) 0 (other ∷ rest))) (sym walked)

pub never : (w : Walk) (place : ℕ) → w ≡ lost_at place → w.is_closed ≡ true → ⊥
never w place lost closed = true≢false (sym closed ∙ ap (λ v. v.is_closed) lost)

split_gate : (place gate : ℕ) (bytes : List ℕ) (shut has : Bool) → (gate == CLOSED_GATE) ≡ shut → has_frame bytes ≡ has
    → ((walk (place + 1) (LENGTH_BYTES + payload_length bytes) bytes).is_closed ≡ true → Split (place + 1) (LENGTH_BYTES + payload_length bytes) bytes)
    → (walk place 0 (gate ∷ bytes)).is_closed ≡ true → Split place 0 (gate ∷ bytes)
split_gate place gate bytes true has is_shut is_has further closed = split_closed place gate bytes is_shut
split_gate place gate bytes false true is_shut is_has further closed =
    split_frame place gate bytes is_shut is_has (further (ap (λ w. w.is_closed) (sym (walk_frame place gate bytes is_shut is_has)) ∙ closed))
split_gate place gate bytes false false is_shut is_has further closed = absurd (never (walk place 0 (gate ∷ bytes)) place (walk_lost place gate bytes is_shut is_has) closed)

pub split : (place skip : ℕ) (bytes : List ℕ) → (walk place skip bytes).is_closed ≡ true → Split place skip bytes
split place skip [] closed = absurd (never (walk place skip []) place (walk_none place skip) closed)
split place (suc skip) (byte ∷ bytes) closed = split_byte place skip byte bytes (split (place + 1) skip bytes (ap (λ w. w.is_closed) (sym (walk_byte place skip byte bytes)) ∙ closed))
split place zero (gate ∷ bytes) closed =
    split_gate place gate bytes (gate == CLOSED_GATE) (has_frame bytes) refl refl (split (place + 1) (LENGTH_BYTES + payload_length bytes) bytes) closed
