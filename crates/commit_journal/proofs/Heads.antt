-- What stands at a gate's place, by the bytes that were read there.
use Rattle.std.proofs.Common.{◌≡◌, ◌≢◌, ◌⊎◌, ℕ, ◌+◌, ◌-◌, ◌<◌, ◌≤◌, min, true, false, List, [], ◌∷◌, length, take, drop, get_or, ◌==◌, refl, sym, ap, ◌∙◌, arith, length-drop}
use Rattle.std.specs.Int.{w32, from_be_bytes}
use Rattle.std.proofs.lemmas.List.{drop_more, drop-take}
use Rattle.std.proofs.lemmas.Bool.Decides.{nat_tests}
use Rattle.std.proofs.lemmas.Grind.{common_steps}
use Rattle.commit_journal.specs.declared.frame.Frame.{Frame}
use Rattle.commit_journal.specs.declared.reading.Head.{Head}
use Rattle.commit_journal.specs.declared.reading.Head.TheVariants.{Closed, Lost, Frame as HeadFrame}
use Rattle.commit_journal.specs.declared.format.TheConstants.{LENGTH_BYTES, CLOSED_GATE, LARGEST_PAYLOAD}
use Rattle.commit_journal.specs.Log.{payload_length, payload_of, has_frame, walk, walk_of, lost_at, behind}
use Rattle.commit_journal.specs.Reading.{HeadSays, IsHead, IsWalk}
use Rattle.commit_journal.proofs.Walks.{Sizes, frame_whole, frame_missing, walk_closed, walk_frame, walk_lost, walk_skip}

drop_twice : (i j : ℕ) (l : List ℕ) → drop j (drop i l) ≡ drop (i + j) l
drop_twice i j l = grind (arith, common_steps)

-- the bytes of a length, behind the gate
pub length_bytes : (head : List ℕ) → length head ≡ 5 → from_be_bytes w32 (get_or head 1 0 ∷ get_or head 2 0 ∷ get_or head 3 0 ∷ get_or head 4 0 ∷ []) ≡ payload_length (drop 1 head)
unfolding payload_length
length_bytes [] is = absurd (omega (arith, is))
length_bytes (a ∷ []) is = absurd (omega (arith, is))
length_bytes (a ∷ b ∷ []) is = absurd (omega (arith, is))
length_bytes (a ∷ b ∷ c ∷ []) is = absurd (omega (arith, is))
length_bytes (a ∷ b ∷ c ∷ d ∷ []) is = absurd (omega (arith, is))
length_bytes (a ∷ b ∷ c ∷ d ∷ e ∷ rest) is = refl

gate_there : (head log : List ℕ) (place count : ℕ) → 1 ≤ count → count ≤ 5 → length head ≡ 5 → take count head ≡ take count (drop place log) → place < length log → get_or head 0 0 ≡ get_or log place 0
gate_there head log place count least most len same within =
    first count head (drop place log) least same ∙ grind (arith, common_steps)
  where
    first : (n : ℕ) (a b : List ℕ) → 1 ≤ n → take n a ≡ take n b → get_or a 0 0 ≡ get_or b 0 0
    first n a b some is = grind (arith, common_steps)

length_there : (head log : List ℕ) (place : ℕ) → length head ≡ 5 → take 5 head ≡ take 5 (drop place log) → payload_length (drop 1 head) ≡ payload_length (drop (place + 1) log)
unfolding payload_length
length_there head log place len same =
    let mine : take LENGTH_BYTES (drop 1 head) ≡ drop 1 (take 5 head) = sym (drop-take 1 LENGTH_BYTES head) in
    let theirs : drop 1 (take 5 (drop place log)) ≡ take LENGTH_BYTES (drop 1 (drop place log)) = drop-take 1 LENGTH_BYTES (drop place log) in
    ap (from_be_bytes w32) (mine ∙ ap (drop 1) same ∙ theirs ∙ ap (take LENGTH_BYTES) (drop_twice place 1 log))

is_shut : (gate : ℕ) → gate ≡ CLOSED_GATE → (gate == CLOSED_GATE) ≡ true
is_shut gate is = grind (arith, nat_tests)

is_open : (gate : ℕ) → gate ≢ CLOSED_GATE → (gate == CLOSED_GATE) ≡ false
is_open gate differs = grind (arith, nat_tests)

-- a frame leads to the gate behind it
pub frame_there : (log : List ℕ) (place count : ℕ) → place < length log → get_or log place 0 ≢ CLOSED_GATE → payload_length (drop (place + 1) log) ≡ count → 1 ≤ count → count ≤ LARGEST_PAYLOAD
    → place + 1 + LENGTH_BYTES + count < length log → IsHead place log (HeadFrame count)
frame_there log place count within gate_open is least most whole =
    let rest = drop (place + 1) log in
    let rest_len : length rest ≡ length log - (place + 1) = length-drop (place + 1) log in
    let has : has_frame rest ≡ true = frame_whole rest (record { least = rw is least; most = rw is most; whole = omega (arith, is, rest_len, whole) }) in
    let here : drop place log ≡ get_or log place 0 ∷ rest = drop_more log place 0 within in
    let payload : payload_of rest ≡ take count (drop (place + 1 + LENGTH_BYTES) log) = ap (λ n. take n (drop LENGTH_BYTES rest)) is ∙ ap (take count) (drop_twice (place + 1) LENGTH_BYTES log) in
    let onward : walk (place + 1) (LENGTH_BYTES + payload_length rest) rest ≡ walk (place + 1 + LENGTH_BYTES + count) 0 (drop (place + 1 + LENGTH_BYTES + count) log) =
    ap (λ n. walk (place + 1) (LENGTH_BYTES + n) rest) is ∙ walk_skip (place + 1) (LENGTH_BYTES + count) rest (omega (arith, rest_len, whole))
    ∙ ap (λ l. walk (place + 1 + (LENGTH_BYTES + count)) 0 l) (drop_twice (place + 1) (LENGTH_BYTES + count) log) ∙ ap (λ p. walk p 0 (drop p log)) (regroup place count) in
    ap (walk place 0) here ∙ walk_frame place (get_or log place 0) rest (is_open (get_or log place 0) gate_open) has
    ∙ ap (λ p. behind (record { gate = place; payload = p } ∷ []) (walk (place + 1) (LENGTH_BYTES + payload_length rest) rest)) payload
    ∙ ap (λ w. behind (record { gate = place; payload = take count (drop (place + 1 + LENGTH_BYTES) log) } ∷ []) w) onward
  where
    regroup : (p n : ℕ) → p + 1 + (LENGTH_BYTES + n) ≡ p + 1 + LENGTH_BYTES + n
    regroup p n = omega arith

-- no frame
pub lost_there : (log : List ℕ) (place : ℕ) → place < length log → get_or log place 0 ≢ CLOSED_GATE → (Sizes (drop (place + 1) log) → ⊥) → IsHead place log Lost
lost_there log place within gate_open none =
    ap (walk place 0) (drop_more log place 0 within) ∙ walk_lost place (get_or log place 0) (drop (place + 1) log) (is_open (get_or log place 0) gate_open) (frame_missing (drop (place + 1) log) none)

pub closed_there : (log : List ℕ) (place : ℕ) → place < length log → get_or log place 0 ≡ CLOSED_GATE → IsHead place log Closed
closed_there log place within is = ap (walk place 0) (drop_more log place 0 within) ∙ walk_closed place (get_or log place 0) (drop (place + 1) log) (is_shut (get_or log place 0) is)

-- what the bytes say is what stands there
pub head_there : (place left : ℕ) (head log : List ℕ) (h : Head) → left ≡ length log - place → place < length log → length head ≡ 5 → take (min left 5) head ≡ take (min left 5) (drop place log) → HeadSays head left h → IsHead place log h
head_there place left head log Closed left_is within len same says =
    closed_there log place within (sym (gate_there head log place (min left 5) (omega arith) (omega arith) len same within) ∙ says)
head_there place left head log (HeadFrame count) left_is within len same says =
    let five : min left 5 ≡ 5 = (let fits = says.4 in omega (arith, fits)) in
    let gate = gate_there head log place (min left 5) (omega arith) (omega arith) len same within in
    let all : take 5 head ≡ take 5 (drop place log) = ap (λ n. take n head) (sym five) ∙ same ∙ ap (λ n. take n (drop place log)) five in
    frame_there log place count within (λ is. says.0 (gate ∙ is)) (sym (length_there head log place len all) ∙ sym says.1) says.2 says.3 (let fits = says.4 in omega (arith, fits, left_is, within))
head_there place left head log Lost left_is within len same says =
    let gate = gate_there head log place (min left 5) (omega arith) (omega arith) len same within in
    lost_there log place within (λ is. says.0 (gate ∙ is)) (λ sizes. no_frame sizes says.1)
  where
    no_frame : Sizes (drop (place + 1) log) → (payload_length (drop 1 head) ≡ 0) ⊎ (LARGEST_PAYLOAD < payload_length (drop 1 head)) ⊎ (left ≤ 1 + LENGTH_BYTES + payload_length (drop 1 head)) → ⊥
    no_frame sizes missing =
        let whole = sizes.whole in
        let least = sizes.least in
        let most = sizes.most in
        let rest_len = length-drop (place + 1) log in
        let five : min left 5 ≡ 5 = omega (arith, whole, least, rest_len, left_is) in
        let all : take 5 head ≡ take 5 (drop place log) = ap (λ n. take n head) (sym five) ∙ same ∙ ap (λ n. take n (drop place log)) five in
        let n_is = length_there head log place len all in
        omega (arith, whole, least, most, rest_len, left_is, n_is, missing)

-- frames, and then none
pub lost_walk : (log : List ℕ) (frames : List Frame) (place wrong : ℕ) → walk_of log ≡ behind frames (walk place 0 (drop place log)) → walk place 0 (drop place log) ≡ lost_at wrong → IsWalk wrong log
lost_walk log frames place wrong so_far lost =
    let all : walk_of log ≡ behind frames (lost_at wrong) = so_far ∙ ap (behind frames) lost in
    record { at = ap (λ w. w.place) all; lost = ap (λ w. w.is_closed) all }
