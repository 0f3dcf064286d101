-- What an append leaves of a log at each of its device calls.
use Rattle.std.proofs.Common.{◌≡◌, ◌⊎◌, inl, inr, ℕ, suc, ◌+◌, ◌<◌, ◌≤◌, max, All, Bool, true, false, List, [], ◌∷◌, ◌++◌, length, take, drop, get_or, ◌==◌, Some, Ok, Err, Result, refl, sym, ap, ◌∙◌, subst, arith, append_assoc, length-append, take-append-drop}
use Rattle.std.proofs.lemmas.List.{take_at, drop_at, take_all, drop_all, drop_more, append-nil}
use Rattle.std.proofs.lemmas.Bool.Decides.{nat_tests}
use Rattle.std.proofs.lemmas.Grind.{common_steps}
use Rattle.std.specs.Int.{w32, from_be_bytes, to_be_bytes}
use Rattle.std.specs.List.{flat_map}
use Rattle.std.proofs.lemmas.Nat.{from_be_bytes-to_be_bytes_4}
use Rattle.std.specs.Option.{option_map}
use Rattle.outside.specs.Disk.{DiskView, OnlyContent, patch, Torn}
use Rattle.commit_journal.specs.declared.frame.Frame.{Frame}
use Rattle.commit_journal.specs.declared.format.TheConstants.{CLOSED_GATE, OPEN_GATE, FIRST_GATE, LARGEST_PAYLOAD, LENGTH_BYTES}
use Rattle.commit_journal.specs.Log.{payload_length, payload_of, has_frame, version_of_header, walk, walk_of, closed_at, behind, frames_of}
use Rattle.commit_journal.specs.Journal.{gated, frame_text, chain_text, frames_from, frames_len, IsPayload, and_frame, and_frames, EndsAt, HasFrameOrNot, HasAllOrNone, IsDurableLog, Steps, Keeps}
use Rattle.commit_journal.proofs.Steps.{keeps_only, keeps_then, told_map}
use Rattle.commit_journal.proofs.Walks.{walk_none, never, walk_closed, walk_frame, walk_skip, frame_whole}
use Rattle.commit_journal.proofs.Logs.{Parts, parts, short_or_long, frames_walked, frames_closed, frames_self, front_kept, version_two}

-- a frame, the gate behind it, and what stands behind that
module _ (payload : List ℕ) (next : ℕ) (rest : List ℕ) where
  text_len : length (gated next payload) ≡ LENGTH_BYTES + length payload + 1
  text_len = omega (arith, length_len, length-append (to_be_bytes w32 (length payload) ++ payload) (next ∷ []), length-append (to_be_bytes w32 (length payload)) payload)
    where
      length_len : length (to_be_bytes w32 (length payload)) ≡ LENGTH_BYTES
      length_len = refl

  text_split : gated next payload ++ rest ≡ to_be_bytes w32 (length payload) ++ (payload ++ next ∷ rest)
  text_split = append_assoc (to_be_bytes w32 (length payload) ++ payload) (next ∷ []) rest ∙ append_assoc (to_be_bytes w32 (length payload)) payload (next ∷ rest)

  text_length : length payload ≤ LARGEST_PAYLOAD → payload_length (gated next payload ++ rest) ≡ length payload
  unfolding payload_length
  text_length most =
      ap (λ l. from_be_bytes w32 (take LENGTH_BYTES l)) text_split ∙ ap (from_be_bytes w32) (take_at (to_be_bytes w32 (length payload)) (payload ++ next ∷ rest) LENGTH_BYTES refl)
      ∙ from_be_bytes-to_be_bytes_4 (length payload) (omega (arith, most))

  text_payload : length payload ≤ LARGEST_PAYLOAD → payload_of (gated next payload ++ rest) ≡ payload
  text_payload most =
      ap (λ n. take n (drop LENGTH_BYTES (gated next payload ++ rest))) (text_length most) ∙ ap (λ l. take (length payload) (drop LENGTH_BYTES l)) text_split
      ∙ ap (take (length payload)) (drop_at (to_be_bytes w32 (length payload)) (payload ++ next ∷ rest) LENGTH_BYTES refl) ∙ take_at payload (next ∷ rest) (length payload) refl

  text_end : drop (LENGTH_BYTES + length payload) (gated next payload ++ rest) ≡ next ∷ rest
  text_end =
      ap (drop (LENGTH_BYTES + length payload)) (append_assoc (to_be_bytes w32 (length payload) ++ payload) (next ∷ []) rest)
      ∙ drop_at (to_be_bytes w32 (length payload) ++ payload) (next ∷ rest) (LENGTH_BYTES + length payload) (length-append (to_be_bytes w32 (length payload)) payload)

  -- behind an open gate it leads to the gate behind it
  text_walk : (place gate : ℕ) → IsPayload payload → (gate == CLOSED_GATE) ≡ false
      → walk place 0 (gate ∷ (gated next payload ++ rest)) ≡ behind (record { gate = place; payload = payload } ∷ []) (walk (place + 1 + LENGTH_BYTES + length payload) 0 (next ∷ rest))
  text_walk place gate fits gate_open =
      let text = gated next payload ++ rest in
      let n_is = text_length fits.1 in
      let len : length text ≡ LENGTH_BYTES + length payload + 1 + length rest = length-append (gated next payload) rest ∙ ap (λ n. n + length rest) text_len in
      let has : has_frame text ≡ true = frame_whole text (record { least = rw n_is fits.0; most = rw n_is fits.1; whole = omega (arith, n_is, len) }) in
      let regroup : place + 1 + (LENGTH_BYTES + length payload) ≡ place + 1 + LENGTH_BYTES + length payload = omega arith in
      let onward : walk (place + 1) (LENGTH_BYTES + payload_length text) text ≡ walk (place + 1 + LENGTH_BYTES + length payload) 0 (next ∷ rest) =
      ap (λ n. walk (place + 1) (LENGTH_BYTES + n) text) n_is ∙ walk_skip (place + 1) (LENGTH_BYTES + length payload) text (omega (arith, len))
      ∙ ap (walk (place + 1 + (LENGTH_BYTES + length payload)) 0) text_end ∙ ap (λ p. walk p 0 (next ∷ rest)) regroup in
      walk_frame place gate text gate_open has
      ∙ ap (λ p. behind (record { gate = place; payload = p } ∷ []) (walk (place + 1) (LENGTH_BYTES + payload_length text) text)) (text_payload fits.1)
      ∙ ap (behind (record { gate = place; payload = payload } ∷ [])) onward

-- Behind a gate that is open these bytes lead over payloads' frames to their own last byte, which is a closed gate.
pub record Leads (place : ℕ) (text : List ℕ) (payloads : List (List ℕ)) : Type 0 where
  pub walked : (gate : ℕ) → (gate == CLOSED_GATE) ≡ false → walk place 0 (gate ∷ text) ≡ behind (frames_from place payloads) (closed_at (place + length text))
  pub size : length text ≡ frames_len payloads
  pub some : 1 ≤ length text

pub gated_len : (payload : List ℕ) (gate : ℕ) → length (gated gate payload) ≡ LENGTH_BYTES + length payload + 1
gated_len payload gate = text_len payload gate []

pub frame_len : (payload : List ℕ) → length (frame_text payload) ≡ LENGTH_BYTES + length payload + 1
frame_len payload = gated_len payload CLOSED_GATE

one_leads : (place : ℕ) (last : List ℕ) → IsPayload last → Leads place (frame_text last) (last ∷ [])
one_leads place last fits = record {
  walked = λ gate gate_open. ap (λ l. walk place 0 (gate ∷ l)) (sym (append-nil (frame_text last))) ∙ text_walk last CLOSED_GATE [] place gate fits gate_open
      ∙ ap (behind (record { gate = place; payload = last } ∷ [])) (walk_closed (place + 1 + LENGTH_BYTES + length last) CLOSED_GATE [] refl ∙ ap closed_at (at len));
  size = omega (arith, len);
  some = omega (arith, len);
}
  where
    len : length (frame_text last) ≡ LENGTH_BYTES + length last + 1
    len = frame_len last

    at : length (frame_text last) ≡ LENGTH_BYTES + length last + 1 → place + 1 + LENGTH_BYTES + length last ≡ place + length (frame_text last)
    at is = omega (arith, is)

-- so do several frames with open gates between them
pub chain_leads : (place : ℕ) (front : List (List ℕ)) (last : List ℕ) → All IsPayload front → IsPayload last → Leads place (chain_text front last) (front ++ last ∷ [])
chain_leads place [] last fit fits = one_leads place last fits
chain_leads place (payload ∷ front) last fit fits =
    let next = place + 1 + LENGTH_BYTES + length payload in
    let rest = chain_text front last in
    let first = fit 0 payload (omega arith) in
    let further = chain_leads next front last (λ k d within. fit (suc k) d (omega (arith, within))) fits in
    let split : chain_text (payload ∷ front) last ≡ gated OPEN_GATE payload ++ rest = append_assoc (gated OPEN_GATE payload) (flat_map (gated OPEN_GATE) front) (frame_text last) in
    let len : length (chain_text (payload ∷ front) last) ≡ LENGTH_BYTES + length payload + 1 + length rest = ap length split ∙ length-append (gated OPEN_GATE payload) rest ∙ ap (λ n. n + length rest) (text_len payload OPEN_GATE rest) in
    let at : next + length rest ≡ place + length (chain_text (payload ∷ front) last) = omega (arith, len) in
    record {
      walked = λ gate gate_open. ap (λ l. walk place 0 (gate ∷ l)) split ∙ text_walk payload OPEN_GATE rest place gate first gate_open
          ∙ ap (behind (record { gate = place; payload = payload } ∷ [])) (further.walked OPEN_GATE refl ∙ ap (λ n. behind (frames_from next (front ++ last ∷ [])) (closed_at n)) at);
      size = (let size = further.size in omega (arith, len, size));
      some = omega (arith, len);
    }

-- a log that ends at its closed gate, in its parts
pub record Ended (place : ℕ) (log : List ℕ) : Type 0 where
  pub parts : Parts log
  pub at : length parts.front ≡ place
  pub is : log ≡ parts.front ++ CLOSED_GATE ∷ []

ends_long : (place : ℕ) (log : List ℕ) → EndsAt place log → FIRST_GATE ≤ length log
ends_long place log ends = decided (short_or_long (length log) FIRST_GATE)
  where
    decided : (length log ≤ FIRST_GATE) ⊎ (FIRST_GATE < length log) → FIRST_GATE ≤ length log
    decided (inl short) = absurd (never (walk_of log) FIRST_GATE (ap (walk FIRST_GATE 0) (drop_all FIRST_GATE log short) ∙ walk_none FIRST_GATE 0) ends.closed)
    decided (inr long) = omega (arith, long)

no_more : (tail : List ℕ) → length tail ≡ 0 → tail ≡ []
no_more [] none = refl
no_more (x ∷ xs) none = absurd (omega (arith, none))

pub ended : (place : ℕ) (log : List ℕ) → EndsAt place log → Ended place log
ended place log ends =
    let p = parts log (ends_long place log ends) ends.closed in
    let at : length p.front ≡ place = p.at ∙ ends.gate in
    let len : length p.tail ≡ 0 = omega (arith, at, ends.end, ap length p.is, length-append p.front (CLOSED_GATE ∷ p.tail)) in
    record { parts = p; at = at; is = p.is ∙ ap (λ l. p.front ++ CLOSED_GATE ∷ l) (no_more p.tail len) }

-- the frames are being written behind the closed gate
torn_behind : (place m : ℕ) (log c : List ℕ) (payloads : List (List ℕ)) → EndsAt place log → version_of_header log ≡ 2 → m ≡ frames_len payloads → Torn (place + 1) m log c → HasAllOrNone log place payloads c
torn_behind place m log c payloads ends two size torn =
    let e = ended place log ends in
    let kept : take (length e.parts.front + 1) c ≡ take (length e.parts.front + 1) log = subst (λ n. take (n + 1) c ≡ take (n + 1) log) (sym e.at) torn.before in
    let is = front_kept log c e.parts kept in
    let rest = drop (length e.parts.front + 1) c in
    let longest = torn.no_longer in
    let len = ends.end in
    record {
      frames = inl (ap frames_of is ∙ frames_closed log e.parts rest ends.header ∙ sym (frames_self log e.parts ends.header));
      version = version_two c (ap version_of_header is ∙ e.parts.says (CLOSED_GATE ∷ rest) ∙ two) ∙ sym (version_two log two);
      no_longer = omega (arith, longest, len, size);
    }

-- the log with the frame behind its closed gate
pub written_behind : (place : ℕ) (log text : List ℕ) (ends : EndsAt place log) → patch (place + 1) text log ≡ (ended place log ends).parts.front ++ CLOSED_GATE ∷ text
written_behind place log text ends =
    let e = ended place log ends in
    let len = ends.end in
    ap (λ l. l ++ text ++ drop (place + 1 + length text) log) (take_all (place + 1) log (omega (arith, len)))
    ∙ ap (λ l. log ++ text ++ l) (drop_all (place + 1 + length text) log (omega (arith, len)))
    ∙ append-nil (log ++ text) ∙ ap (λ l. l ++ text) e.is ∙ append_assoc e.parts.front (CLOSED_GATE ∷ []) text

-- the gate is being opened
record GateTorn (front text c : List ℕ) : Type 0 where
  gate : ℕ
  is : c ≡ front ++ gate ∷ text

gate_torn : (place : ℕ) (front text c : List ℕ) → length front ≡ place → Torn place 1 (front ++ CLOSED_GATE ∷ text) c → GateTorn front text c
gate_torn place front text c at torn =
    let shortest = torn.no_shorter in
    let long : place < length c = omega (arith, at, shortest, length-append front (CLOSED_GATE ∷ text)) in
    let front_is : take place c ≡ front = torn.before ∙ take_at front (CLOSED_GATE ∷ text) place at in
    let regroup : front ++ CLOSED_GATE ∷ text ≡ (front ++ CLOSED_GATE ∷ []) ++ text = sym (append_assoc front (CLOSED_GATE ∷ []) text) in
    let text_is : drop (place + 1) c ≡ text = torn.behind ∙ ap (drop (place + 1)) regroup ∙ drop_at (front ++ CLOSED_GATE ∷ []) text (place + 1) (omega (arith, at, length-append front (CLOSED_GATE ∷ []))) in
    record {
      gate = get_or c place 0;
      is = sym (take-append-drop place c) ∙ ap (λ l. l ++ drop place c) front_is ∙ ap (λ l. front ++ l) (drop_more c place 0 long ∙ ap (λ l. get_or c place 0 ∷ l) text_is);
    }

gate_patched : (place : ℕ) (front text : List ℕ) → length front ≡ place → patch place (OPEN_GATE ∷ []) (front ++ CLOSED_GATE ∷ text) ≡ front ++ OPEN_GATE ∷ text
gate_patched place front text at =
    let regroup : front ++ CLOSED_GATE ∷ text ≡ (front ++ CLOSED_GATE ∷ []) ++ text = sym (append_assoc front (CLOSED_GATE ∷ []) text) in
    let behind_gate : drop (place + 1) (front ++ CLOSED_GATE ∷ text) ≡ text = ap (drop (place + 1)) regroup ∙ drop_at (front ++ CLOSED_GATE ∷ []) text (place + 1) (omega (arith, at, length-append front (CLOSED_GATE ∷ []))) in
    ap (λ l. l ++ (OPEN_GATE ∷ []) ++ drop (place + 1) (front ++ CLOSED_GATE ∷ text)) (take_at front (CLOSED_GATE ∷ text) place at)
    ∙ ap (λ l. front ++ (OPEN_GATE ∷ []) ++ l) behind_gate ∙ append_assoc front (OPEN_GATE ∷ []) text

-- an open gate adds the frames
opened : (place gate : ℕ) (log text : List ℕ) (payloads : List (List ℕ)) (ends : EndsAt place log) → Leads place text payloads → (gate == CLOSED_GATE) ≡ false
    → frames_of ((ended place log ends).parts.front ++ gate ∷ text) ≡ and_frames (frames_of log) (frames_from place payloads)
opened place gate log text payloads ends leads gate_open =
    let some = leads.some in
    let e = ended place log ends in
    let bytes = e.parts.front ++ gate ∷ text in
    let last = closed_at (place + length text) in
    let walked : walk_of bytes ≡ behind (walk_of log).frames (behind (frames_from place payloads) last) =
    e.parts.goes_on gate text ∙ ap (λ n. behind (walk_of log).frames (walk n 0 (gate ∷ text))) e.at
    ∙ ap (behind (walk_of log).frames) (leads.walked gate gate_open) in
    let room = e.parts.room in
    frames_walked bytes (behind (walk_of log).frames (behind (frames_from place payloads) last))
    (omega (arith, room, some, length-append e.parts.front (gate ∷ text))) (e.parts.header (gate ∷ text) ∙ ends.header) walked refl
    ∙ ap (λ l. Ok ((walk_of log).frames ++ l)) (append-nil (frames_from place payloads))
    ∙ sym (ap (λ r. and_frames r (frames_from place payloads)) (frames_self log e.parts ends.header))

torn_gate : (place : ℕ) (log text c : List ℕ) (payloads : List (List ℕ)) → EndsAt place log → version_of_header log ≡ 2 → Leads place text payloads
    → Torn place 1 (patch (place + 1) text log) c → HasAllOrNone log place payloads c
torn_gate place log text c payloads ends two leads torn =
    let e = ended place log ends in
    let written = written_behind place log text ends in
    let t = gate_torn place e.parts.front text c e.at (subst (λ l. Torn place 1 l c) written torn) in
    let longest = torn.no_longer in
    record {
      frames = by_gate (t.gate == CLOSED_GATE) t.gate refl t.is;
      version = version_two c (ap version_of_header t.is ∙ e.parts.says (t.gate ∷ text) ∙ two) ∙ sym (version_two log two);
      no_longer = omega (arith, longest, ap length written, length-append e.parts.front (CLOSED_GATE ∷ text), leads.size, e.at, ends.end);
    }
  where
    by_gate : (shut : Bool) (gate : ℕ) → (gate == CLOSED_GATE) ≡ shut → c ≡ (ended place log ends).parts.front ++ gate ∷ text
        → (frames_of c ≡ frames_of log) ⊎ (frames_of c ≡ and_frames (frames_of log) (frames_from place payloads))
    by_gate true gate test is =
        let p = (ended place log ends).parts in
        let shut : gate ≡ CLOSED_GATE = grind (arith, nat_tests) in
        inl (ap frames_of (is ∙ ap (λ g. p.front ++ g ∷ text) shut) ∙ frames_closed log p text ends.header ∙ sym (frames_self log p ends.header))
    by_gate false gate test is = inr (ap frames_of is ∙ opened place gate log text payloads ends leads test)

-- the log once its gate is open
pub record Appended (place : ℕ) (log text : List ℕ) (payloads : List (List ℕ)) (c : List ℕ) : Type 0 where
  pub frames : frames_of c ≡ and_frames (frames_of log) (frames_from place payloads)
  pub ends : EndsAt (place + length text) c
  pub says : version_of_header c ≡ version_of_header log

appended : (place : ℕ) (log text : List ℕ) (payloads : List (List ℕ)) → EndsAt place log → Leads place text payloads
    → Appended place log text payloads (patch place (OPEN_GATE ∷ []) (patch (place + 1) text log))
appended place log text payloads ends leads = subst (Appended place log text payloads) (sym is) (record {
  frames = opened place OPEN_GATE log text payloads ends leads refl;
  ends = record {
    header = e.parts.header (OPEN_GATE ∷ text) ∙ ends.header;
    closed = ap (λ w. w.is_closed) walked;
    gate = ap (λ w. w.place) walked;
    end = omega (arith, length-append e.parts.front (OPEN_GATE ∷ text), e.at);
  };
  says = e.parts.says (OPEN_GATE ∷ text);
})
  where
    e : Ended place log
    e = ended place log ends

    walked : walk_of (e.parts.front ++ OPEN_GATE ∷ text) ≡ behind (walk_of log).frames (behind (frames_from place payloads) (closed_at (place + length text)))
    walked = e.parts.goes_on OPEN_GATE text ∙ ap (λ n. behind (walk_of log).frames (walk n 0 (OPEN_GATE ∷ text))) e.at
        ∙ ap (behind (walk_of log).frames) (leads.walked OPEN_GATE refl)

    is : patch place (OPEN_GATE ∷ []) (patch (place + 1) text log) ≡ e.parts.front ++ OPEN_GATE ∷ text
    is = ap (patch place (OPEN_GATE ∷ [])) (written_behind place log text ends) ∙ gate_patched place e.parts.front text e.at

-- the log itself has its frames
pub has_none : (log : List ℕ) (place : ℕ) (payloads : List (List ℕ)) → HasAllOrNone log place payloads log
has_none log place payloads = record { frames = inl refl; version = refl; no_longer = omega arith }

-- one payload
pub and_one : (frames : Result (List Frame) ℕ) (frame : Frame) → and_frames frames (frame ∷ []) ≡ and_frame frames frame
and_one (Ok frames) frame = refl
and_one (Err place) frame = refl

pub one_or_none : (log : List ℕ) (place : ℕ) (payload image : List ℕ) → HasAllOrNone log place (payload ∷ []) image → HasFrameOrNot log (record { gate = place; payload = payload }) image
one_or_none log place payload image has = record {
  frames = decided has.frames;
  version = has.version;
  no_longer = (let l = has.no_longer in omega (arith, l));
}
  where
    frame : Frame
    frame = record { gate = place; payload = payload }

    decided : (frames_of image ≡ frames_of log) ⊎ (frames_of image ≡ and_frames (frames_of log) (frames_from place (payload ∷ []))) → (frames_of image ≡ frames_of log) ⊎ (frames_of image ≡ and_frame (frames_of log) frame)
    decided (inl none) = inl none
    decided (inr all) = inr (all ∙ and_one (frames_of log) frame)

-- an append over a disk: bytes that lead over the payloads are written behind the closed gate, and then it is opened
module _ (place : ℕ) (old mid : DiskView) (text : List ℕ) (payloads : List (List ℕ)) (settled : IsDurableLog place 2 old) (leads : Leads place text payloads) where
  -- its first half
  pub append_begun : (log : List ℕ) → old.content ≡ Some log → Steps (Torn (place + 1) (length text)) old mid → Keeps (HasAllOrNone log place payloads) old mid
  append_begun log told first =
      keeps_only (Torn (place + 1) (length text)) (HasAllOrNone log place payloads) old mid log settled.only told first
      (λ c torn. torn_behind place (length text) log c payloads (settled.ends log told) (settled.header log told) leads.size torn)

  module _ (new : DiskView) (first : mid.content ≡ option_map (patch (place + 1) text) old.content) where
    pub append_kept : (log : List ℕ) → old.content ≡ Some log → Steps (Torn (place + 1) (length text)) old mid → OnlyContent mid → Steps (Torn place 1) mid new → Keeps (HasAllOrNone log place payloads) old new
    append_kept log told begun only second =
        let mid_told : mid.content ≡ Some (patch (place + 1) text log) = first ∙ ap (option_map (patch (place + 1) text)) told in
        keeps_then (HasAllOrNone log place payloads) old mid new begun.continues.later (append_begun log told begun)
        (keeps_only (Torn place 1) (HasAllOrNone log place payloads) mid new (patch (place + 1) text log) only mid_told second
        (λ c torn. torn_gate place log text c payloads (settled.ends log told) (settled.header log told) leads torn))

    -- what the append leaves
    pub append_done : new.content ≡ option_map (patch place (OPEN_GATE ∷ [])) mid.content → (b c : List ℕ) → old.content ≡ Some b → new.content ≡ Some c → Appended place b text payloads c
    append_done second b c told told_new =
        let from = told_map (patch place (OPEN_GATE ∷ [])) mid.content c (sym second ∙ told_new) in
        let before = told_map (patch (place + 1) text) old.content from.0 (sym first ∙ from.1) in
        let same : before.0 ≡ b = (let e : Some before.0 ≡ Some b = sym before.1 ∙ told in cc) in
        let is : c ≡ patch place (OPEN_GATE ∷ []) (patch (place + 1) text b) = from.2 ∙ ap (patch place (OPEN_GATE ∷ [])) (before.2 ∙ ap (patch (place + 1) text) same) in
        subst (Appended place b text payloads) (sym is) (appended place b text payloads (settled.ends b told) leads)

    pub append_settled : (next : ℕ) → next ≡ place + length text → new.content ≡ option_map (patch place (OPEN_GATE ∷ [])) mid.content
        → mid.len ≡ max old.len (place + 1 + length text) → new.len ≡ max mid.len (place + 1) → OnlyContent new → IsDurableLog next 2 new
    append_settled next next_is second mid_len new_len only = record {
      ends = λ c told. let b = before c told in rw next_is (append_done second b.0 c b.1 told).ends;
      header = λ c told. let b = before c told in (append_done second b.0 c b.1 told).says ∙ settled.header b.0 b.1;
      only = only;
      len = (let l = settled.len in omega (arith, l, next_is, mid_len, new_len));
    }
      where
        before : (c : List ℕ) → new.content ≡ Some c → (b : List ℕ) × (old.content ≡ Some b)
        before c told =
            let from = told_map (patch place (OPEN_GATE ∷ [])) mid.content c (sym second ∙ told) in
            let b = told_map (patch (place + 1) text) old.content from.0 (sym first ∙ from.1) in
            (b.0, b.1)

-- payloads whose last one is apart
pub parted_fit : (payloads front : List (List ℕ)) (last : List ℕ) → payloads ≡ front ++ last ∷ [] → All IsPayload payloads → All IsPayload front × IsPayload last
parted_fit payloads front last is fit = (first, end)
  where
    all : All IsPayload (front ++ last ∷ [])
    all = subst (All IsPayload) is fit

    first : All IsPayload front
    first k d within = subst IsPayload (get_front front (last ∷ []) k d within) (all k d (omega (arith, within, length-append front (last ∷ []))))
      where
        get_front : (a b : List (List ℕ)) (k : ℕ) (d : List ℕ) → k < length a → get_or (a ++ b) k d ≡ get_or a k d
        get_front a b k d within = grind (arith, common_steps)

    end : IsPayload last
    end = subst IsPayload (get_end front last) (all (length front) last (omega (arith, length-append front (last ∷ []))))
      where
        get_end : (a : List (List ℕ)) (x : List ℕ) → get_or (a ++ x ∷ []) (length a) x ≡ x
        get_end a x = grind (arith, common_steps)
