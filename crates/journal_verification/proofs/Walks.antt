-- A walk as its bytes come.
use Rattle.std.proofs.Common.{◌≡◌, ◌≢◌, ◌∙◌, ℕ, ◌+◌, ◌<◌, ◌≤◌, true, List, [], ◌∷◌, ◌++◌, length, take, drop, Option, Some, None, refl, sym, ap, subst, arith, append_assoc, length-append, length-drop}
use Rattle.std.proofs.lemmas.List.{map-append, length-take}
use Rattle.std.specs.Prelude.{IsErrOf, Err}
use Rattle.std.proofs.lemmas.Grind.{common_steps}
use Rattle.marc_types.specs.declared.entry.Entry.{Entry}
use Rattle.commit_journal.specs.declared.frame.Frame.{Frame}
use Rattle.commit_journal.specs.Log.{Walk, walk, closed_at, lost_at, behind, payloads_of}
use Rattle.entry_history.specs.Payloads.{Holds, IsHistory, NoMore}
use Rattle.entry_history.specs.Readers.{HasExtent, Counted, CountsEntries}
use Rattle.entry_history.specs.declared.extent.Extent.{Extent}
use Rattle.entry_history.proofs.Histories.{history_more}
use Rattle.journal_verification.specs.Coming.{Comes, ComesOn}
use Rattle.journal_verification.specs.declared.gate.Gate.TheVariants as gate
use Rattle.journal_verification.specs.declared.fault.VerifyFault.{VerifyFault}
use Rattle.journal_verification.specs.declared.fault.VerifyFault.TheVariants as verify
use Rattle.journal_verification.specs.Gates.{GateSays}
use Rattle.journal_verification.specs.Walking.{IsLostAt, WalksOn, Digesting, AreDigested, HasTaken, IsRead, IsUnread, NoGate, NoPayload}
use Rattle.journal_verification.proofs.Digests.{payload_length_is, rest_more, front_more, some_entry, digested_none, digested_more}
use Rattle.sha2.specs.Sha256.{sha256}
use Rattle.sha2.specs.Hashers.{Holds256}
use Rattle.sha2.specs.declared.Sha256.{Sha256}

behind_none : (w : Walk) → behind [] w ≡ w
behind_none w = refl

behind_both : (front back : List Frame) (w : Walk) → behind front (behind back w) ≡ behind (front ++ back) w
behind_both front back w = ap (λ l. record w { frames = l }) (sym (append_assoc front back w.frames))

pub walks_first : (window bytes : List ℕ) (left : Option (List ℕ)) (place : ℕ) → Comes window left bytes → WalksOn place bytes [] place window left
walks_first window bytes left place c = record { now = bytes; comes = c; size = refl; rest = refl; walked = sym (behind_none (walk place 0 bytes)) }

pub walks_comes : (from place : ℕ) (bytes window : List ℕ) (frames : List Frame) (left : Option (List ℕ)) → WalksOn from bytes frames place window left
    → ComesOn from bytes place window left
walks_comes from place bytes window frames left w = record { now = w.now; comes = w.comes; size = w.size }

payload_front : (count : ℕ) (window rest : List ℕ) → 5 + count ≤ length window → take count (drop 5 (window ++ rest)) ≡ take count (drop 5 window)
payload_front count window rest within = grind (arith, common_steps)

-- a walk that a gate ends
pub ends_closed : (from place : ℕ) (bytes window : List ℕ) (frames : List Frame) (left : Option (List ℕ)) → WalksOn from bytes frames place window left
    → ((b : List ℕ) → Comes window left b → GateSays b gate.Closed) → walk from 0 bytes ≡ behind frames (closed_at place)
ends_closed from place bytes window frames left w says = w.walked ∙ ap (behind frames) (says w.now w.comes place)

pub ends_lost : (from place : ℕ) (bytes window : List ℕ) (frames : List Frame) (left : Option (List ℕ)) → WalksOn from bytes frames place window left
    → ((b : List ℕ) → Comes window left b → GateSays b gate.Lost) → IsLostAt place (walk from 0 bytes)
ends_lost from place bytes window frames left w says =
    let all : walk from 0 bytes ≡ behind frames (lost_at place) = w.walked ∙ ap (behind frames) (says w.now w.comes place) in
    record { at = ap (λ w. w.place) all; lost = ap (λ w. w.is_closed) all }

pub is_shut : (from place : ℕ) (bytes window : List ℕ) (frames : List Frame) (left : Option (List ℕ)) → WalksOn from bytes frames place window left
    → ((b : List ℕ) → Comes window left b → GateSays b gate.Closed) → (walk from 0 bytes).is_closed ≡ true
is_shut from place bytes window frames left w says = ap (λ w. w.is_closed) (ends_closed from place bytes window frames left w says)

-- one more frame is passed
module _ (from place count next : ℕ) (bytes window filled passed payload : List ℕ) (frames : List Frame) (left read after : Option (List ℕ))
    (w : WalksOn from bytes frames place window left)
    (says : (b : List ℕ) → Comes window left b → GateSays b (gate.Frame count))
    (fills : (b : List ℕ) → Comes window left b → Comes filled read b)
    (passes : (b : List ℕ) → Comes filled read b → Comes passed after (drop (5 + count) b))
    (within : 5 + count < length filled) (at : next ≡ place + (5 + count)) (is : payload ≡ take count (drop 5 filled)) where
  abbrev frame : Frame
  frame = record { gate = place; payload = payload }

  same_payload : take count (drop 5 w.now) ≡ payload
  same_payload =
      let c = fills w.now w.comes in
      ap (λ l. take count (drop 5 l)) c.is ∙ payload_front count filled c.rest (omega (arith, within)) ∙ sym is

  pub walks_frame : WalksOn from bytes (frames ++ record { gate = place; payload = payload } ∷ []) next passed after
  walks_frame =
      let c = fills w.now w.comes in
      let len = ap (length {A = ℕ}) c.is in
      let parts = length-append filled c.rest in
      let rest = length-drop (5 + count) w.now in
      let size = w.size in
      record {
        now = drop (5 + count) w.now;
        comes = passes w.now c;
        size = omega (arith, len, parts, rest, size, within, at);
        rest = rest_more count bytes w.now frames frame w.rest (payload_length_is count filled payload within is);
        walked = w.walked ∙ ap (behind frames) (says w.now w.comes place)
            ∙ ap (λ p. behind frames (behind (record { gate = place; payload = p } ∷ []) (walk (place + (5 + count)) 0 (drop (5 + count) w.now)))) same_payload
            ∙ ap (λ n. behind frames (behind (frame ∷ []) (walk n 0 (drop (5 + count) w.now)))) (sym at)
            ∙ behind_both frames (frame ∷ []) (walk next 0 (drop (5 + count) w.now));
      }

payloads_more : (frames : List Frame) (f : Frame) → payloads_of (frames ++ f ∷ []) ≡ payloads_of frames ++ f.payload ∷ []
payloads_more frames f = map-append (λ g. g.payload) frames (f ∷ [])

pub taken_none : (version from wanted : ℕ) (started : Sha256) (front : Option (List ℕ)) (bytes window : List ℕ) (left : Option (List ℕ)) (extent : Extent) → HasExtent [] extent
    → extent.count ≡ 0 → Comes window left bytes
    → (wanted ≡ 0 → (passed : List ℕ) → Holds256 started passed → front ≡ Some (sha256 passed)) → (wanted ≢ 0 → front ≡ None)
    → HasTaken version from (record { started = started; wanted = wanted; hasher = started; front = front }) bytes extent 0 from window left
taken_none version from wanted started front bytes window left extent none zero c found not =
    record {
      frames = [];
      entries = [];
      on = walks_first window bytes left from c;
      holds = NoMore [];
      count_is = refl;
      extent_is = none;
      digested = λ header held. subst (AreDigested version (record { started = started; wanted = wanted; hasher = started; front = front }) header bytes []) (sym zero)
          (digested_none version wanted header bytes started front held (λ is. found is header held) not);
    }

-- what one more frame does to what is digested
pub record Digests (count : ℕ) (filled : List ℕ) (wanted now : ℕ) (old new : Sha256) (front front_now : Option (List ℕ)) : Type 0 where
  pub hashed : (passed : List ℕ) → Holds256 old passed → Holds256 new (passed ++ take (5 + count) filled)
  pub kept : now ≢ wanted → front_now ≡ front
  pub found : now ≡ wanted → (passed : List ℕ) → Holds256 new passed → front_now ≡ Some (sha256 passed)

pub taken_more : (version from place next count wanted : ℕ) (started hasher hasher_now : Sha256) (front front_now : Option (List ℕ)) (bytes window filled passed : List ℕ) (length_is : ℕ) (payload : List ℕ)
    (left read after : Option (List ℕ)) (old new : Counted)
    (t : HasTaken version from (record { started = started; wanted = wanted; hasher = hasher; front = front }) bytes old.extent count place window left) (entries : List Entry) → old.version ≡ version
    → CountsEntries old t.entries entries payload new
    → WalksOn from bytes (t.frames ++ record { gate = place; payload = payload } ∷ []) next passed after
    → ((b : List ℕ) → Comes window left b → Comes filled read b)
    → 5 + length_is < length filled → payload ≡ take length_is (drop 5 filled)
    → Digests length_is filled wanted new.extent.count hasher hasher_now front front_now
    → HasTaken version from (record { started = started; wanted = wanted; hasher = hasher_now; front = front_now }) bytes new.extent (count + 1) next passed after
taken_more version from place next count wanted started hasher hasher_now front front_now bytes window filled passed length_is payload left read after old new t entries same counts on fills within is d =
    let holds : Holds version t.entries entries payload = subst (λ v. Holds v t.entries entries payload) same counts.holds in
    let more = history_more version [] t.entries entries (payloads_of t.frames) payload t.holds holds in
    let count_is = t.count_is in
    let len = length-append t.frames (record { gate = place; payload = payload } ∷ []) in
    let frame : Frame = record { gate = place; payload = payload } in
    let all = subst (λ ps. IsHistory version [] ps (t.entries ++ entries)) (sym (payloads_more t.frames frame)) more in
    let some = some_entry version t.entries entries payload holds in
    let both = length-append t.entries entries in
    let before = t.extent_is.count_is in
    let after_is = counts.extent.count_is in
    let filled_is = fills t.on.now t.on.comes in
    record {
      frames = t.frames ++ frame ∷ [];
      entries = t.entries ++ entries;
      on = on;
      holds = all;
      count_is = omega (arith, count_is, len);
      extent_is = counts.extent;
      digested = λ header held.
          let digested = t.digested header held in
          let size = payload_length_is length_is filled payload within is in
          let front_is = front_more length_is header bytes t.on.now filled filled_is.rest t.frames frame t.on.rest filled_is.is (omega (arith, within)) size in
          let hashed = subst (Holds256 hasher_now) front_is (d.hashed _ digested.hashed) in
          digested_more version wanted old.extent.count new.extent.count header bytes t.frames frame (t.entries ++ entries) started hasher hasher_now front front_now
          digested all (sym after_is) (omega (arith, some, both, before, after_is)) hashed d.kept (λ is. d.found is _ hashed);
    }

pub read_all : (version from place count wanted : ℕ) (started hasher : Sha256) (front : Option (List ℕ)) (digest bytes window : List ℕ) (left : Option (List ℕ)) (extent : Extent)
    → HasTaken version from (record { started = started; wanted = wanted; hasher = hasher; front = front }) bytes extent count place window left
    → ((passed : List ℕ) → Holds256 hasher passed → digest ≡ sha256 passed)
    → ((b : List ℕ) → Comes window left b → GateSays b gate.Closed)
    → IsRead version from wanted started bytes (record { entries = extent.count; frames = count; digest = digest; front = front }) place
read_all version from place count wanted started hasher front digest bytes window left extent t digests says = record {
  frames = t.frames;
  history = t.entries;
  walked = ends_closed from place bytes window t.frames left t.on says;
  holds = t.holds;
  count_is = t.count_is;
  entries_is = sym t.extent_is.count_is;
  digests = λ header held. let d = t.digested header held in record { whole = digests _ d.hashed; front = d.front };
}

-- a payload that isn't valid
pub unread_bad : (version from place next count : ℕ) (d : Digesting) (bytes window passed payload : List ℕ) (left after : Option (List ℕ)) (old : Counted)
    (t : HasTaken version from d bytes old.extent count place window left) → old.version ≡ version
    → ((entries : List Entry) → Holds old.version t.entries entries payload → ⊥)
    → WalksOn from bytes (t.frames ++ record { gate = place; payload = payload } ∷ []) next passed after
    → ((b : List ℕ) → Comes passed after b → (walk next 0 b).is_closed ≡ true)
    → IsUnread version (walk from 0 bytes) place
unread_bad version from place next count d bytes window passed payload left after old t same none on shut =
    let bad : Frame = record { gate = place; payload = payload } in
    let rest = walk next 0 on.now in
    let closed : (walk from 0 bytes).is_closed ≡ true = ap (λ w. w.is_closed) on.walked ∙ shut on.now on.comes in
    let split : (walk from 0 bytes).frames ≡ t.frames ++ bad ∷ rest.frames = ap (λ w. w.frames) on.walked ∙ append_assoc t.frames (bad ∷ []) rest.frames in
    NoPayload closed (record {
      front = t.frames;
      bad = bad;
      behind = rest.frames;
      entries = t.entries;
      split = split;
      history = t.holds;
      invalid = λ more holds. none more (subst (λ v. Holds v t.entries more payload) (sym same) holds);
      at = refl;
    })

-- a walk that is lost behind it
pub unread_behind : (version from next wrong : ℕ) (bytes passed : List ℕ) (after : Option (List ℕ)) (frames : List Frame) → WalksOn from bytes frames next passed after
    → ((b : List ℕ) → Comes passed after b → IsLostAt wrong (walk next 0 b)) → IsUnread version (walk from 0 bytes) wrong
unread_behind version from next wrong bytes passed after frames on lost =
    let l = lost on.now on.comes in
    NoGate (record { at = ap (λ w. w.place) on.walked ∙ l.at; lost = ap (λ w. w.is_closed) on.walked ∙ l.lost })

pub same_place : {T : Type 0} (one other : ℕ) → IsErrOf {T = T} (Err (verify.NotAJournal one)) (verify.NotAJournal other) → one ≡ other
same_place one other is = cc

pub same_fault : {T : Type 0} (one other : VerifyFault) → IsErrOf {T = T} (Err one) other → one ≡ other
same_fault one other is = cc

pub most_taken : (count : ℕ) (l : List ℕ) → length (take count l) ≤ count
most_taken count l = omega (arith, length-take count l)
