-- How frames are written one behind the other.
use Rattle.std.proofs.Common.{◌≡◌, inl, inr, ⊎_elim, ℕ, zero, suc, ◌+◌, ◌-◌, ◌≤◌, max, List, [], ◌∷◌, ◌++◌, length, take, drop, Option, Some, None, refl, sym, ap, subst, ◌∙◌, arith, append_assoc, length-append, take-append-drop, add-zero}
use Rattle.std.proofs.lemmas.List.{append-nil, take_at, drop_at, length-take-le}
use Rattle.std.proofs.lemmas.Grind.{common_steps, flat_map-append}
use Rattle.std.specs.List.{flat_map}
use Rattle.std.specs.Option.{option_map}
use Rattle.outside.specs.Disk.{DiskView, Elapses, SameSyncs, Follows, patch, Torn}
use Rattle.outside.proofs.Disks.{torn_self, same_disk}
use Rattle.commit_journal.specs.declared.format.TheConstants.{OPEN_GATE, LENGTH_BYTES}
use Rattle.commit_journal.specs.Journal.{gated, frame_text, chain_text, frames_len, Steps}
use Rattle.commit_journal.proofs.Steps.{step_once, steps_then, unchanged_continues}
use Rattle.commit_journal.proofs.Appends.{gated_len}

-- how long frames are
pub open_len : (payloads : List (List ℕ)) → length (flat_map (gated OPEN_GATE) payloads) ≡ frames_len payloads
open_len [] = refl
open_len (payload ∷ payloads) =
    length-append (gated OPEN_GATE payload) (flat_map (gated OPEN_GATE) payloads) ∙ ap (λ n. n + length (flat_map (gated OPEN_GATE) payloads)) (gated_len payload OPEN_GATE)
    ∙ ap (λ n. LENGTH_BYTES + length payload + 1 + n) (open_len payloads)

pub chain_len : (front : List (List ℕ)) (last : List ℕ) → length (chain_text front last) ≡ frames_len front + (LENGTH_BYTES + length last + 1)
chain_len front last =
    let first = open_len front in
    let second = gated_len last 67 in
    omega (arith, length-append (flat_map (gated OPEN_GATE) front) (frame_text last), first, second)

frames_more : (payloads : List (List ℕ)) (payload : List ℕ) → frames_len (payloads ++ payload ∷ []) ≡ frames_len payloads + (LENGTH_BYTES + length payload + 1)
frames_more [] payload = omega arith
frames_more (first ∷ payloads) payload = let more = frames_more payloads payload in omega (arith, more)

frames_front : (i : ℕ) (payloads : List (List ℕ)) → frames_len (take i payloads) ≤ frames_len payloads
frames_front zero payloads = omega arith
frames_front (suc i) [] = omega arith
frames_front (suc i) (payload ∷ payloads) = let less = frames_front i payloads in omega (arith, less)

open_more : (payloads : List (List ℕ)) (payload : List ℕ) → flat_map (gated OPEN_GATE) (payloads ++ payload ∷ []) ≡ flat_map (gated OPEN_GATE) payloads ++ gated OPEN_GATE payload
open_more payloads payload = flat_map-append (gated OPEN_GATE) payloads (payload ∷ []) ∙ ap (λ l. flat_map (gated OPEN_GATE) payloads ++ l) (append-nil (gated OPEN_GATE payload))

-- two writes, one behind the other
patch_none : (at : ℕ) (b : List ℕ) → patch at [] b ≡ b
patch_none at b = ap (λ l. l ++ drop (at + 0) b) (append-nil (take at b)) ∙ ap (λ n. take at b ++ drop n b) (add-zero at) ∙ take-append-drop at b

pub patch_twice : (at : ℕ) (first second b : List ℕ) → at ≤ length b → patch (at + length first) second (patch at first b) ≡ patch at (first ++ second) b
patch_twice at first second b within =
    let k = at + length first in
    let tail = drop k b in
    let front : List ℕ = take at b ++ first in
    let len : length front ≡ k = length-append (take at b) first ∙ ap (λ n. n + length first) (length-take-le at b within) in
    let kept : take k (front ++ tail) ≡ front = take_at front tail k len in
    let left : drop (k + length second) (front ++ tail) ≡ drop (at + length (first ++ second)) b =
    drop_sum k (length second) (front ++ tail) ∙ ap (drop (length second)) (drop_at front tail k len) ∙ sym (drop_sum k (length second) b) ∙ ap (λ n. drop n b) (at_end (length-append first second)) in
    ap (λ l. l ++ second ++ drop (k + length second) (front ++ tail)) kept ∙ ap (λ l. front ++ second ++ l) left ∙ ap (λ l. l ++ drop (at + length (first ++ second)) b) (append_assoc (take at b) first second)
  where
    drop_sum : (i j : ℕ) (l : List ℕ) → drop (i + j) l ≡ drop j (drop i l)
    drop_sum i j l = grind (arith, common_steps)

    at_end : length (first ++ second) ≡ length first + length second → at + length first + length second ≡ at + length (first ++ second)
    at_end len = omega (arith, len)

content_twice : (at : ℕ) (first second : List ℕ) (o : Option (List ℕ)) → ((b : List ℕ) → o ≡ Some b → at ≤ length b)
    → option_map (patch (at + length first) second) (option_map (patch at first) o) ≡ option_map (patch at (first ++ second)) o
content_twice at first second None within = refl
content_twice at first second (Some b) within = ap Some (patch_twice at first second b (within b refl))

content_none : (at : ℕ) (o : Option (List ℕ)) → o ≡ option_map (patch at []) o
content_none at None = refl
content_none at (Some b) = ap Some (sym (patch_none at b))

take_less : (i j : ℕ) (a b : List ℕ) → i ≤ j → take j a ≡ take j b → take i a ≡ take i b
take_less i j a b le same = sym (again a) ∙ ap (take i) same ∙ again b
  where
    again : (l : List ℕ) → take i (take j l) ≡ take i l
    again l = grind (arith, common_steps)

drop_more_of : (i j : ℕ) (a b : List ℕ) → drop i a ≡ drop i b → drop (i + j) a ≡ drop (i + j) b
drop_more_of i j a b same = apart a ∙ ap (drop j) same ∙ sym (apart b)
  where
    apart : (l : List ℕ) → drop (i + j) l ≡ drop j (drop i l)
    apart l = grind (arith, common_steps)

torn_wider : (at n m : ℕ) (d e : List ℕ) → Torn at n d e → Torn at (n + m) d e
torn_wider at n m d e torn = record {
  before = torn.before;
  behind = ap (λ k. drop k e) (add at n m) ∙ drop_more_of (at + n) m e d torn.behind ∙ ap (λ k. drop k d) (sym (add at n m));
  no_shorter = torn.no_shorter;
  no_longer = (let l = torn.no_longer in omega (arith, l));
}
  where
    add : (a b c : ℕ) → a + (b + c) ≡ a + b + c
    add a b c = omega arith

torn_then : (at n m : ℕ) (d e f : List ℕ) → Torn at n d e → Torn (at + n) m e f → Torn at (n + m) d f
torn_then at n m d e f first second =
    let wider = torn_wider at n m d e first in
    record {
      before = take_less at (at + n) f e (omega arith) second.before ∙ first.before;
      behind = ap (λ k. drop k f) (add at n m) ∙ second.behind ∙ ap (λ k. drop k e) (sym (add at n m)) ∙ wider.behind;
      no_shorter = (let s = first.no_shorter in let t = second.no_shorter in omega (arith, s, t));
      no_longer = (let s = first.no_longer in let t = second.no_longer in omega (arith, s, t));
    }
  where
    add : (a b c : ℕ) → a + (b + c) ≡ a + b + c
    add a b c = omega arith

pub steps_wider : (at n m : ℕ) (a b : DiskView) → Steps (Torn at n) a b → Steps (Torn at (n + m)) a b
steps_wider at n m a b steps = record {
  continues = steps.continues;
  since = λ t c le left. ⊎_elim (λ was. inl was) (λ w. inr (w.0, w.1, torn_wider at n m w.0 c w.2)) (steps.since t c le left);
  now = λ c image. let w = steps.now c image in (w.0, w.1, torn_wider at n m w.0 c w.2);
}

pub steps_torn : (at n m : ℕ) (a b c : DiskView) → Steps (Torn at n) a b → Steps (Torn (at + n) m) b c → Steps (Torn at (n + m)) a c
steps_torn at n m a b c first second =
    steps_then (Torn at n) (Torn (at + n) m) (Torn at (n + m)) a b c first second (λ d e torn. torn_wider at n m d e torn) (λ d e f one two. torn_then at n m d e f one two)

-- frames of these payloads, each with an open gate behind it, were written from that place on, and the next one is to stand there
pub record AreWritten (at : ℕ) (payloads : List (List ℕ)) (next : ℕ) (old now : DiskView) : Type 0 where
  pub next_is : next ≡ at + frames_len payloads
  pub content : now.content ≡ option_map (patch at (flat_map (gated OPEN_GATE) payloads)) old.content
  pub len : now.len ≡ max old.len (at + frames_len payloads)
  pub crash : Steps (Torn at (frames_len payloads)) old now
  pub later : old.faults ≤ now.faults

pub none_written : (at : ℕ) (disk : DiskView) → at ≤ disk.len → AreWritten at [] at disk disk
none_written at disk within = record {
  next_is = omega arith;
  content = content_none at disk.content;
  len = omega (arith, within);
  crash = record {
    continues = unchanged_continues disk disk (same_disk disk).unchanged;
    since = λ t c le left. inl left;
    now = λ c image. (c, image, torn_self at 0 c);
  };
  later = omega arith;
}

module _ (at : ℕ) (payloads : List (List ℕ)) (payload : List ℕ) (next n : ℕ) (old mid new : DiskView) (so_far : AreWritten at payloads next old mid) (n_is : n ≡ LENGTH_BYTES + length payload + 1)
    (time : Elapses mid new) (same : SameSyncs mid new) (follows : Follows (Torn next n) mid new) (later : mid.faults ≤ new.faults) where
  -- one more is being written
  more_steps : Steps (Torn at (frames_len (payloads ++ payload ∷ []))) old new
  more_steps =
      rw (frames_more payloads payload, sym n_is) (steps_torn at (frames_len payloads) n old mid new so_far.crash (step_once (Torn (at + frames_len payloads) n) mid new time same (rw (sym so_far.next_is) follows)))

  pub failed_steps : (i : ℕ) (all : List (List ℕ)) → take i all ≡ payloads ++ payload ∷ [] → Steps (Torn at (frames_len all)) old new
  failed_steps i all is =
      let front : frames_len (payloads ++ payload ∷ []) ≤ frames_len all = rw (sym is) (frames_front i all) in
      widened (frames_len (payloads ++ payload ∷ [])) (frames_len all) front more_steps
    where
      widened : (few many : ℕ) → few ≤ many → Steps (Torn at few) old new → Steps (Torn at many) old new
      widened few many le steps = let sum : few + (many - few) ≡ many = omega (arith, le) in rw (sym sum) (steps_wider at few (many - few) old new steps)

  -- and is written
  pub more_written : at ≤ old.len → ((b : List ℕ) → old.content ≡ Some b → length b ≡ old.len) → new.content ≡ option_map (patch next (gated OPEN_GATE payload)) mid.content → new.len ≡ max mid.len (next + n)
      → AreWritten at (payloads ++ payload ∷ []) (next + n) old new
  more_written within sized content len =
      let more = frames_more payloads payload in
      let text = flat_map (gated OPEN_GATE) payloads in
      let place : next ≡ at + length text = so_far.next_is ∙ ap (λ k. at + k) (sym (open_len payloads)) in
      let so_len = so_far.len in
      let so_next = so_far.next_is in
      let so_later = so_far.later in
      record {
        next_is = omega (arith, more, so_next, n_is);
        content = content ∙ ap (option_map (patch next (gated OPEN_GATE payload))) so_far.content ∙ ap (λ k. option_map (patch k (gated OPEN_GATE payload)) (option_map (patch at text) old.content)) place
            ∙ content_twice at text (gated OPEN_GATE payload) old.content (λ b told. omega (arith, within, sized b told)) ∙ ap (λ t. option_map (patch at t) old.content) (sym (open_more payloads payload));
        len = omega (arith, more, so_next, so_len, len, n_is, within);
        crash = more_steps;
        later = omega (arith, so_later, later);
      }

-- the last one behind them
pub chain_content : (at next : ℕ) (front : List (List ℕ)) (last : List ℕ) (old mid new : DiskView) → at ≤ old.len → ((b : List ℕ) → old.content ≡ Some b → length b ≡ old.len)
    → next ≡ at + frames_len front
    → mid.content ≡ option_map (patch at (flat_map (gated OPEN_GATE) front)) old.content → new.content ≡ option_map (patch next (frame_text last)) mid.content
    → new.content ≡ option_map (patch at (chain_text front last)) old.content
chain_content at next front last old mid new within sized next_is first second =
    let text = flat_map (gated OPEN_GATE) front in
    second ∙ ap (option_map (patch next (frame_text last))) first
    ∙ ap (λ k. option_map (patch k (frame_text last)) (option_map (patch at text) old.content)) (next_is ∙ ap (λ k. at + k) (sym (open_len front)))
    ∙ content_twice at text (frame_text last) old.content (λ b told. omega (arith, within, sized b told))

pub chain_begun : (at : ℕ) (front : List (List ℕ)) (last : List ℕ) (old mid : DiskView) → Steps (Torn at (frames_len front)) old mid → Steps (Torn at (length (chain_text front last))) old mid
chain_begun at front last old mid steps = rw (chain_len front last) (steps_wider at (frames_len front) (LENGTH_BYTES + length last + 1) old mid steps)

pub chain_steps : (at next : ℕ) (front : List (List ℕ)) (last : List ℕ) (old mid new : DiskView) → next ≡ at + frames_len front
    → Steps (Torn at (frames_len front)) old mid → Steps (Torn next (LENGTH_BYTES + length last + 1)) mid new → Steps (Torn at (length (chain_text front last))) old new
chain_steps at next front last old mid new next_is first second =
    rw (chain_len front last) (steps_torn at (frames_len front) (LENGTH_BYTES + length last + 1) old mid new first
    (subst (λ k. Steps (Torn k (LENGTH_BYTES + length last + 1)) mid new) next_is second))
