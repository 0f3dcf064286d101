-- What the bytes at a gate's place say of the walk from there.
use Rattle.std.proofs.Common.{◌≡◌, ◌≢◌, ◌∙◌, ℕ, ◌+◌, ◌<◌, ◌≤◌, true, false, List, [], ◌∷◌, ◌++◌, length, take, drop, get_or, Option, ◌==◌, refl, sym, ap, arith, length-append, length-drop}
use Rattle.std.specs.Int.{w32, from_be_bytes}
use Rattle.std.proofs.lemmas.Bool.Decides.{nat_tests}
use Rattle.std.proofs.lemmas.Grind.{common_steps}
use Rattle.commit_journal.specs.declared.format.TheConstants.{CLOSED_GATE, LARGEST_PAYLOAD, LENGTH_BYTES}
use Rattle.commit_journal.specs.Log.{payload_length, walk, behind}
use Rattle.commit_journal.proofs.Walks.{Sizes, walk_closed, walk_frame, walk_lost, walk_none, walk_skip, frame_missing, frame_whole}
use Rattle.journal_verification.specs.Coming.{Comes}
use Rattle.journal_verification.specs.declared.gate.Gate.TheVariants.{Closed, Frame, Lost}
use Rattle.journal_verification.specs.Gates.{GateSays}

pub length_bytes : (head : List ℕ) → 5 ≤ length head → from_be_bytes w32 (get_or head 1 0 ∷ get_or head 2 0 ∷ get_or head 3 0 ∷ get_or head 4 0 ∷ []) ≡ payload_length (drop 1 head)
unfolding payload_length
length_bytes [] is = absurd (omega (arith, is))
length_bytes (a ∷ []) is = absurd (omega (arith, is))
length_bytes (a ∷ b ∷ []) is = absurd (omega (arith, is))
length_bytes (a ∷ b ∷ c ∷ []) is = absurd (omega (arith, is))
length_bytes (a ∷ b ∷ c ∷ d ∷ []) is = absurd (omega (arith, is))
length_bytes (a ∷ b ∷ c ∷ d ∷ e ∷ rest) is = refl

shut : (gate : ℕ) → gate ≢ CLOSED_GATE → (gate == CLOSED_GATE) ≡ false
shut gate differs = grind (arith, nat_tests)

first_byte : (bytes : List ℕ) (left : Option (List ℕ)) (window : List ℕ) → Comes window left bytes → 1 ≤ length window → get_or bytes 0 0 ≡ get_or window 0 0
first_byte bytes left [] c some = absurd (omega (arith, some))
first_byte bytes left (gate ∷ window) c some = ap (λ l. get_or l 0 0) c.is

-- the gate with which bytes begin is open
pub opened : (bytes : List ℕ) (left : Option (List ℕ)) (window : List ℕ) → Comes window left bytes → 1 ≤ length window → get_or window 0 0 ≢ CLOSED_GATE
    → get_or bytes 0 0 ≢ CLOSED_GATE
opened bytes left window c some differs is = differs (sym (first_byte bytes left window c some) ∙ is)

-- a gate that is open, before bytes that are no whole frame
open_lost : (bytes : List ℕ) → get_or bytes 0 0 ≢ CLOSED_GATE → (Sizes (drop 1 bytes) → ⊥) → GateSays bytes Lost
open_lost [] differs none = λ place. walk_none place 0
open_lost (gate ∷ bytes) differs none =
    let test : (gate == CLOSED_GATE) ≡ false = grind (arith, nat_tests) in
    λ place. walk_lost place gate bytes test (frame_missing bytes none)

pub no_gate : (bytes window : List ℕ) → bytes ≡ window → length bytes < 1 → GateSays bytes Lost
no_gate [] window is short = λ place. walk_none place 0
no_gate (byte ∷ bytes) window is short = absurd (omega (arith, short))

pub closed_here : (bytes : List ℕ) (left : Option (List ℕ)) (window : List ℕ) → Comes window left bytes → 1 ≤ length window → get_or window 0 0 ≡ CLOSED_GATE
    → GateSays bytes Closed
closed_here bytes left [] c some is = absurd (omega (arith, some))
closed_here bytes left (gate ∷ window) c some is =
    let test : (gate == CLOSED_GATE) ≡ true = grind (arith, nat_tests) in
    λ place. ap (walk place 0) c.is ∙ walk_closed place gate (window ++ c.rest) test

-- the bytes behind the gate are too few for a length
pub short_head : (bytes : List ℕ) (left : Option (List ℕ)) (window : List ℕ) → Comes window left bytes → 1 ≤ length window → get_or window 0 0 ≢ CLOSED_GATE
    → length bytes < 5 → GateSays bytes Lost
short_head bytes left window c some differs short =
    open_lost bytes (opened bytes left window c some differs) (λ sizes. let whole = sizes.whole in let len = length-drop 1 bytes in omega (arith, whole, len, short))

length_front : (window rest : List ℕ) → 5 ≤ length window → payload_length (drop 1 (window ++ rest)) ≡ payload_length (drop 1 window)
unfolding payload_length
length_front window rest long = ap (from_be_bytes w32) (same window rest long)
  where
    same : (a b : List ℕ) → 5 ≤ length a → take LENGTH_BYTES (drop 1 (a ++ b)) ≡ take LENGTH_BYTES (drop 1 a)
    same a b long = grind (arith, common_steps)

-- the length that the bytes name
length_here : (bytes : List ℕ) (left : Option (List ℕ)) (window : List ℕ) → Comes window left bytes → 5 ≤ length window
    → payload_length (drop 1 bytes) ≡ payload_length (drop 1 window)
length_here bytes left window c long = ap (λ l. payload_length (drop 1 l)) c.is ∙ length_front window c.rest long

pub no_length : (bytes : List ℕ) (left : Option (List ℕ)) (window : List ℕ) (count : ℕ) → Comes window left bytes → 5 ≤ length window
    → get_or bytes 0 0 ≢ CLOSED_GATE → count ≡ payload_length (drop 1 window) → count ≡ 0 → GateSays bytes Lost
no_length bytes left window count c long differs is none =
    let named = length_here bytes left window c long in
    open_lost bytes differs (λ sizes. let least = sizes.least in omega (arith, least, named, is, none))

pub great_length : (bytes : List ℕ) (left : Option (List ℕ)) (window : List ℕ) (count : ℕ) → Comes window left bytes → 5 ≤ length window
    → get_or bytes 0 0 ≢ CLOSED_GATE → count ≡ payload_length (drop 1 window) → LARGEST_PAYLOAD < count → GateSays bytes Lost
great_length bytes left window count c long differs is great =
    let named = length_here bytes left window c long in
    open_lost bytes differs (λ sizes. let most = sizes.most in omega (arith, most, named, is, great))

pub short_frame : (bytes : List ℕ) (left : Option (List ℕ)) (window : List ℕ) (count : ℕ) → Comes window left bytes → 5 ≤ length window
    → get_or bytes 0 0 ≢ CLOSED_GATE → count ≡ payload_length (drop 1 window) → length bytes < 5 + count + 1 → GateSays bytes Lost
short_frame bytes left window count c long differs is short =
    let named = length_here bytes left window c long in
    let len = length-drop 1 bytes in
    open_lost bytes differs (λ sizes. let whole = sizes.whole in omega (arith, whole, named, is, short, len))

drop_two : (n : ℕ) (gate : ℕ) (bytes : List ℕ) → drop (LENGTH_BYTES + n) bytes ≡ drop (5 + n) (gate ∷ bytes)
drop_two n gate bytes = grind (arith, common_steps)

pub frame_here : (bytes : List ℕ) (left : Option (List ℕ)) (window : List ℕ) (count : ℕ) → Comes window left bytes → 5 ≤ length window
    → get_or bytes 0 0 ≢ CLOSED_GATE → count ≡ payload_length (drop 1 window) → 1 ≤ count → count ≤ LARGEST_PAYLOAD → 5 + count + 1 ≤ length bytes
    → GateSays bytes (Frame count)
frame_here bytes left [] count c long differs is some most whole = absurd (omega (arith, long))
frame_here bytes left (gate ∷ window) count c long differs is some most whole =
    let first = first_byte bytes left (gate ∷ window) c (omega (arith, long)) in
    let test : (gate == CLOSED_GATE) ≡ false = shut gate (λ is. differs (first ∙ is)) in
    let behind_gate = window ++ c.rest in
    let named : payload_length behind_gate ≡ count =
    ap (λ l. payload_length (drop 1 l)) (sym c.is) ∙ length_here bytes left (gate ∷ window) c long ∙ sym is in
    let all = ap (length {A = ℕ}) c.is in
    let len : length bytes ≡ 1 + length behind_gate = omega (arith, all) in
    let has = frame_whole behind_gate (record { least = omega (arith, named, some); most = omega (arith, named, most); whole = omega (arith, named, whole, len) }) in
    λ place.
    ap (walk place 0) c.is ∙ walk_frame place gate behind_gate test has
    ∙ ap (λ n. behind (record { gate = place; payload = take n (drop LENGTH_BYTES behind_gate) } ∷ []) (walk (place + 1) (LENGTH_BYTES + n) behind_gate)) named
    ∙ ap (behind (record { gate = place; payload = take count (drop LENGTH_BYTES behind_gate) } ∷ []))
    (walk_skip (place + 1) (LENGTH_BYTES + count) behind_gate (omega (arith, whole, len)) ∙ onward place behind_gate)
    ∙ ap (λ l. behind (record { gate = place; payload = take count (drop 5 l) } ∷ []) (walk (place + (5 + count)) 0 (drop (5 + count) l))) (sym c.is)
  where
    onward : (place : ℕ) (l : List ℕ) → walk (place + 1 + (LENGTH_BYTES + count)) 0 (drop (LENGTH_BYTES + count) l) ≡ walk (place + (5 + count)) 0 (drop (5 + count) (gate ∷ l))
    onward place l =
        let p : place + 1 + (LENGTH_BYTES + count) ≡ place + (5 + count) = omega arith in
        ap (λ n. walk n 0 (drop (LENGTH_BYTES + count) l)) p ∙ ap (walk (place + (5 + count)) 0) (drop_two count gate l)

-- as many bytes come as were read
pub no_shorter : (bytes : List ℕ) (left : Option (List ℕ)) (window : List ℕ) (count : ℕ) → Comes window left bytes → count ≤ length window → count ≤ length bytes
no_shorter bytes left window count c within =
    let all = ap (length {A = ℕ}) c.is in
    let parts = length-append window c.rest in
    omega (arith, all, parts, within)
