-- What a log is found to be, from what came of it.
use Rattle.std.proofs.Common.{◌≡◌, ◌≢◌, ◌⊎◌, inl, inr, IfSome, take, ◌∙◌, ℕ, ◌+◌, ◌<◌, ◌≤◌, true, false, List, [], ◌++◌, length, drop, Option, Some, None, Result, Ok, refl, sym, ap, subst, arith, nat_le, nat_lt, append-nil, length-append}
use Rattle.std.proofs.lemmas.Bool.Decides.{nat_tests}
use Rattle.std.proofs.lemmas.List.{take-append-le}
use Rattle.sha2.specs.Sha256.{sha256}
use Rattle.sha2.specs.Hashers.{Holds256}
use Rattle.sha2.specs.declared.Sha256.{Sha256}
use Rattle.commit_journal.specs.declared.frame.Frame.{Frame}
use Rattle.commit_journal.specs.declared.format.TheConstants.{BLANK_LENGTH, FIRST_GATE}
use Rattle.commit_journal.specs.Log.{frames_of, header_fault, version_of_header, walk, walk_of, closed_at, behind, version_of, payloads_of}
use Rattle.commit_journal.proofs.Logs.{frames_blank, version_blank, version_long, frames_walked, frames_wrong, frames_lost}
use Rattle.entry_history.specs.Payloads.{IsHistory, NoMore}
use Rattle.journal_verification.specs.Coming.{Comes}
use Rattle.journal_verification.specs.Walking.{HasFrontAt, HaveDigests, IsRead, IsUnread}
use Rattle.journal_verification.specs.declared.walking.Found.{Found}
use Rattle.journal_verification.specs.Digests.{frames_length, front_of, HasFront, IsFrontDigest}
use Rattle.journal_verification.proofs.Digests.{same_or_other, if_some_more, take_more, none_before, no_entries}
use Rattle.entry_history.specs.Frames.{IsBadFrame, IsNoJournal, NoGate, NoPayload}
use Rattle.journal_verification.specs.Walking as walking
use Rattle.commit_journal.specs.Tails.{tail_behind, tail_of}
use Rattle.commit_journal.specs.declared.tail.Tail.{Tail}
use Rattle.commit_journal.specs.declared.tail.Tail.TheVariants.{Nothing}
use Rattle.journal_verification.specs.Contents.{torn_behind, torn_of, IsVerified}
use Rattle.journal_verification.proofs.Headers.{header_there, version_there}

pub blank_is : (log window : List ℕ) → log ≡ window → length log < 18
    → IsVerified log (record { version = 2; entries = 0; frames = 0; bytes = length window; digest = sha256 (take FIRST_GATE window); torn = None; tail = Nothing })
blank_is log window same few =
    let short : length log ≤ BLANK_LENGTH = omega (arith, few) in
    let test : nat_le (length log) BLANK_LENGTH ≡ true = grind (arith, nat_tests) in
    record {
      history = [];
      found = [];
      frames_are = frames_blank log short;
      holds = NoMore [];
      version = sym (version_blank log short);
      entries = refl;
      frames = refl;
      bytes = ap length (sym same);
      digest = ap (λ l. sha256 (take FIRST_GATE l)) (sym same);
      torn = rw test refl;
      tail = rw test refl;
    }

ok_once : (r : Result (List Frame) ℕ) (one other : List Frame) → r ≡ Ok one → r ≡ Ok other → one ≡ other
ok_once r one other is also = cc

-- the front of a blank log is its header, as far as it is there
module _ (log : List ℕ) (count : ℕ) (few : length log < 18) where
  blank_frames : frames_of log ≡ Ok []
  blank_frames = frames_blank log (omega (arith, few))

  blank_first : (digest : List ℕ) (h : HasFront log count digest) → h.frames ≡ []
  blank_first digest h = none_before h.frames h.more (ok_once (frames_of log) [] (h.frames ++ h.more) blank_frames h.frames_are)

  blank_count : (digest : List ℕ) → HasFront log count digest → count ≡ 0
  blank_count digest h =
      let holds = subst (λ l. IsHistory (version_of log) [] (payloads_of l) h.entries) (blank_first digest h) h.holds in
      sym h.count_is ∙ ap length (no_entries (version_of log) [] h.entries holds)

  blank_digest : (digest : List ℕ) → HasFront log count digest → digest ≡ sha256 (take FIRST_GATE log)
  blank_digest digest h = h.digest_is ∙ ap (λ l. sha256 (front_of log l)) (blank_first digest h)

  blank_there : (front : Option (List ℕ)) → front ≡ Some (sha256 (take FIRST_GATE log)) → count ≡ 0 → IfSome front (HasFront log count)
  blank_there front is none = subst (λ o. IfSome o (HasFront log count)) (sym is) (record {
    frames = [];
    more = [];
    entries = [];
    frames_are = blank_frames;
    holds = NoMore [];
    count_is = sym none;
    digest_is = refl;
  })

  pub blank_front : (front : Option (List ℕ)) → (count ≡ 0 → front ≡ Some (sha256 (take FIRST_GATE log))) → (count ≢ 0 → front ≡ None) → IsFrontDigest log count front
  blank_front front found none = record {
    there = by (same_or_other count 0);
    only = λ digest h. found (blank_count digest h) ∙ ap Some (sym (blank_digest digest h));
  }
    where
      by : (count ≡ 0) ⊎ (count ≢ 0) → IfSome front (HasFront log count)
      by (inl is) = blank_there front (found is) is
      by (inr differs) = subst (λ o. IfSome o (HasFront log count)) (sym (none differs)) tt

module _ (log window : List ℕ) (left : Option (List ℕ)) (c : Comes window left log) (long : 18 ≤ length window) where
  longer : BLANK_LENGTH < length log
  longer = let all = ap (length {A = ℕ}) c.is in let parts = length-append window c.rest in omega (arith, all, parts, long)

  pub wrong_header : (place : ℕ) → header_fault window ≡ Some place → IsNoJournal log place
  wrong_header place wrong = NoGate (frames_wrong log place longer (header_there log window left c (omega (arith, long)) ∙ wrong))

  module _ (version : ℕ) (right : header_fault window ≡ None) (says : version ≡ version_of_header window) where
    header : header_fault log ≡ None
    header = header_there log window left c (omega (arith, long)) ∙ right

    version_is : version ≡ version_of log
    version_is = says ∙ sym (version_there log window left c (omega (arith, long))) ∙ sym (version_long log longer)

    header_is : take FIRST_GATE log ≡ take FIRST_GATE window
    header_is = ap (take FIRST_GATE) c.is ∙ take-append-le FIRST_GATE window c.rest (omega (arith, long))

    front_is : (frames : List Frame) → front_of log frames ≡ take FIRST_GATE window ++ take (frames_length frames) (drop 16 log)
    front_is frames = take_more log FIRST_GATE (frames_length frames) ∙ ap (λ l. l ++ take (frames_length frames) (drop 16 log)) header_is

    module _ (wanted place bytes : ℕ) (started : Sha256) (found : Found) (torn : Option ℕ) (tail : Tail) (r : IsRead version 16 wanted started (drop 16 log) found place)
        (held : Holds256 started (take FIRST_GATE window)) where
      d : HaveDigests version wanted (take FIRST_GATE window) (drop 16 log) r.frames found
      d = r.digests (take FIRST_GATE window) held

      frames_are : frames_of log ≡ Ok r.frames
      frames_are = frames_walked log (behind r.frames (closed_at place)) longer header r.walked refl ∙ ap Ok (append-nil r.frames)

      there : (digest : List ℕ) → HasFrontAt version wanted (take FIRST_GATE window) (drop 16 log) r.frames digest → HasFront log wanted digest
      there digest h = record {
        frames = h.first;
        more = h.more;
        entries = h.entries;
        frames_are = frames_are ∙ ap Ok h.split;
        holds = subst (λ v. IsHistory v [] (payloads_of h.first) h.entries) version_is h.holds;
        count_is = h.count_is;
        digest_is = h.digest_is ∙ ap sha256 (sym (front_is h.first));
      }

      back : (digest : List ℕ) → HasFront log wanted digest → HasFrontAt version wanted (take FIRST_GATE window) (drop 16 log) r.frames digest
      back digest h = record {
        first = h.frames;
        more = h.more;
        entries = h.entries;
        split = ok_once (frames_of log) r.frames (h.frames ++ h.more) frames_are h.frames_are;
        holds = subst (λ v. IsHistory v [] (payloads_of h.frames) h.entries) (sym version_is) h.holds;
        count_is = h.count_is;
        digest_is = h.digest_is ∙ ap sha256 (front_is h.frames);
      }

      pub front_read : IsFrontDigest log wanted found.front
      front_read = record { there = if_some_more found.front there d.front.there; only = λ digest h. d.front.only digest (back digest h) }

      pub whole_is : bytes ≡ length log → torn ≡ torn_behind place bytes → tail ≡ tail_behind place bytes
          → IsVerified log (record {
            version = version;
            entries = found.entries;
            frames = found.frames;
            bytes = bytes;
            digest = found.digest;
            torn = torn;
            tail = tail;
          })
      whole_is total is tail_is =
          let test : nat_le (length log) BLANK_LENGTH ≡ false = (let l = longer in grind (arith, nat_tests)) in
          let place_is : (walk_of log).place ≡ place = ap (λ w. w.place) r.walked in
          record {
            history = r.history;
            found = r.frames;
            frames_are = frames_are;
            holds = subst (λ v. IsHistory v [] (payloads_of r.frames) r.history) version_is r.holds;
            version = version_is;
            entries = sym r.entries_is;
            frames = sym r.count_is;
            bytes = total;
            digest = d.whole ∙ ap sha256 (sym (front_is r.frames));
            torn = is ∙ ap (torn_behind place) total ∙ ap (λ p. torn_behind p (length log)) (sym place_is) ∙ sym (long_torn test);
            tail = tail_is ∙ ap (tail_behind place) total ∙ ap (λ p. tail_behind p (length log)) (sym place_is) ∙ sym (long_tail test);
          }
        where
          long_torn : nat_le (length log) BLANK_LENGTH ≡ false → torn_of log ≡ torn_behind (walk_of log).place (length log)
          long_torn test = rw test refl

          long_tail : nat_le (length log) BLANK_LENGTH ≡ false → tail_of log ≡ tail_behind (walk_of log).place (length log)
          long_tail test = rw test refl

    pub unread_is : (wrong : ℕ) → IsUnread version (walk 16 0 (drop 16 log)) wrong → IsNoJournal log wrong
    unread_is wrong (walking.NoGate lost) = NoGate (frames_lost log wrong longer header (record { at = lost.at; lost = lost.lost }))
    unread_is wrong (walking.NoPayload closed bad) =
        NoPayload (walk_of log).frames (frames_walked log (walk_of log) longer header refl closed)
        (subst (λ v. IsBadFrame v (walk_of log).frames wrong) version_is bad)

-- all that comes of an input
pub comes_all : (log : List ℕ) (left : Option (List ℕ)) (window : List ℕ) → window ≡ [] → left ≡ Some log → Comes window left log
comes_all log left window none told = record { rest = log; told = told; is = sym (ap (λ l. l ++ log) none) }

pub torn_some : (place bytes : ℕ) → place + 1 < bytes → Some place ≡ torn_behind place bytes
torn_some place bytes more = let test : nat_lt (place + 1) bytes ≡ true = grind (arith, nat_tests) in rw test refl

pub torn_none : (place bytes : ℕ) → bytes ≤ place + 1 → None ≡ torn_behind place bytes
torn_none place bytes none = let test : nat_lt (place + 1) bytes ≡ false = grind (arith, nat_tests) in rw test refl

pub no_less : (log window : List ℕ) (left : Option (List ℕ)) → Comes window left log → 18 ≤ length window → 18 ≤ length log
no_less log window left c long = let all = ap (length {A = ℕ}) c.is in let parts = length-append window c.rest in omega (arith, all, parts, long)
