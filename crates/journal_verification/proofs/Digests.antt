-- What is digested as frames are passed.
use Rattle.std.proofs.Common.{◌≡◌, ◌≢◌, ◌⊎◌, inl, inr, ⊎_elim, ◌∙◌, true, false, ◌==◌, ℕ, ◌+◌, ◌<◌, ◌≤◌, List, [], ◌∷◌, ◌++◌, length, take, drop, Option, Some, None, IsSome, IfSome, refl, sym, ap, subst, arith, append-nil, append_assoc, length-drop, drop-drop}
use Rattle.std.proofs.lemmas.List.{drop-take, take-append-drop, take-take, take-append-le, length-take}
use Rattle.std.proofs.lemmas.List.Sums.{sum_by_push}
use Rattle.std.proofs.lemmas.Bool.Decides.{nat_tests, eqb_tells}
use Rattle.sha2.specs.Sha256.{sha256}
use Rattle.sha2.specs.Hashers.{Holds256}
use Rattle.sha2.specs.declared.Sha256.{Sha256}
use Rattle.marc_types.specs.declared.entry.Entry.{Entry}
use Rattle.commit_journal.specs.declared.frame.Frame.{Frame}
use Rattle.commit_journal.specs.declared.format.TheConstants.{HEAD_BYTES}
use Rattle.commit_journal.specs.Log.{payloads_of}
use Rattle.entry_history.specs.Payloads.{Holds, IsHistory, NoMore, Newer, Older}
use Rattle.entry_history.proofs.Histories.{history_once}
use Rattle.journal_verification.specs.Digests.{frames_length}
use Rattle.journal_verification.specs.Walking.{HasFrontAt, IsDigestAt, AreDigested}

-- two numbers are the same, or differ
pub same_or_other : (a b : ℕ) → (a ≡ b) ⊎ (a ≢ b)
same_or_other a b = ⊎_elim (λ h. inl h.1) (λ h. inr h.1) (eqb_tells a b)

pub if_some_more : {P Q : List ℕ → Type 0} (o : Option (List ℕ)) → ((x : List ℕ) → P x → Q x) → IfSome o P → IfSome o Q
if_some_more None more is = is
if_some_more (Some x) more is = more x is

some_is_some : {A : Type 0} (o : Option A) (x : A) → o ≡ Some x → IsSome o
some_is_some o x is = subst IsSome (sym is) refl

never_some : (o : Option (List ℕ)) → o ≡ None → IsSome o → ⊥
never_some o is some = let never : IsSome {T = List ℕ} None = subst IsSome is some in cc

-- the first bytes, so many and more
pub take_more : (bytes : List ℕ) (a b : ℕ) → take (a + b) bytes ≡ take a bytes ++ take b (drop a bytes)
take_more bytes a b =
    let whole = take-append-drop a (take (a + b) bytes) in
    sym (rw (take-take a (a + b) bytes (omega arith), drop-take a b bytes) at whole)

pub drop_on : (bytes : List ℕ) (a b : ℕ) → drop b (drop a bytes) ≡ drop (a + b) bytes
drop_on bytes a b = drop-drop b a bytes

-- the bytes of one more frame
pub frames_more : (frames : List Frame) (f : Frame) → frames_length (frames ++ f ∷ []) ≡ frames_length frames + (HEAD_BYTES + length f.payload)
frames_more frames f = sum_by_push (λ g. HEAD_BYTES + length g.payload) frames f

-- a payload has as many bytes as its length says
pub payload_length_is : (count : ℕ) (window payload : List ℕ) → 5 + count < length window → payload ≡ take count (drop 5 window) → length payload ≡ count
payload_length_is count window payload within is =
    let all = ap (length {A = ℕ}) is in
    let taken = length-take count (drop 5 window) in
    let rest = length-drop 5 window in
    omega (arith, all, taken, rest, within)

-- what is behind one more frame
pub rest_more : (count : ℕ) (bytes now : List ℕ) (frames : List Frame) (f : Frame) → now ≡ drop (frames_length frames) bytes → length f.payload ≡ count
    → drop (5 + count) now ≡ drop (frames_length (frames ++ f ∷ [])) bytes
rest_more count bytes now frames f rest is =
    ap (drop (5 + count)) rest ∙ drop_on bytes (frames_length frames) (5 + count)
    ∙ ap (λ n. drop (frames_length frames + (5 + n)) bytes) (sym is) ∙ ap (λ n. drop n bytes) (sym (frames_more frames f))

-- what is in front of the gate behind one more frame
pub front_more : (count : ℕ) (header bytes now filled rest : List ℕ) (frames : List Frame) (f : Frame) → now ≡ drop (frames_length frames) bytes → now ≡ filled ++ rest
    → 5 + count ≤ length filled → length f.payload ≡ count
    → (header ++ take (frames_length frames) bytes) ++ take (5 + count) filled ≡ header ++ take (frames_length (frames ++ f ∷ [])) bytes
front_more count header bytes now filled rest frames f behind split within is =
    let piece : take (5 + count) filled ≡ take (5 + count) (drop (frames_length frames) bytes) =
    sym (take-append-le (5 + count) filled rest within) ∙ ap (take (5 + count)) (sym split ∙ behind) in
    append_assoc header (take (frames_length frames) bytes) (take (5 + count) filled)
    ∙ ap (λ l. header ++ (take (frames_length frames) bytes ++ l)) piece
    ∙ ap (λ l. header ++ l) (sym (take_more bytes (frames_length frames) (5 + count)))
    ∙ ap (λ n. header ++ take (frames_length frames + (5 + n)) bytes) (sym is)
    ∙ ap (λ n. header ++ take n bytes) (sym (frames_more frames f))

-- a payload that is valid has an entry
pub some_entry : (version : ℕ) (before entries : List Entry) (payload : List ℕ) → Holds version before entries payload → 1 ≤ length entries
some_entry version before entries payload (Newer is h) = h.count.some
some_entry version before entries payload (Older is h) = h.count.some

first_same : (a b : Frame) (x y : List Frame) → a ∷ x ≡ b ∷ y → a ≡ b
first_same a b x y e = cc

others_same : (a b : Frame) (x y : List Frame) → a ∷ x ≡ b ∷ y → x ≡ y
others_same a b x y e = cc

pub none_before : (first more : List Frame) → [] ≡ first ++ more → first ≡ []
none_before [] more is = refl
none_before (f ∷ first) more is = cc

-- the frames before a last one that some are
pub record IsShort (frames first : List Frame) : Type 0 where
  pub more : List Frame
  pub split : frames ≡ first ++ more

-- the first of some frames with one more are all of them, or the first of those before
prefix : (frames : List Frame) (f : Frame) (first more : List Frame) → frames ++ f ∷ [] ≡ first ++ more → (first ≡ frames ++ f ∷ []) ⊎ IsShort frames first
prefix frames f [] more is = inr (record { more = frames; split = refl })
prefix [] f (g ∷ first) more is =
    let none : first ≡ [] = none_before first more (others_same f g [] (first ++ more) is) in
    inl (ap (λ l. g ∷ l) none ∙ ap (λ h. h ∷ []) (sym (first_same f g [] (first ++ more) is)))
prefix (h ∷ frames) f (g ∷ first) more is = longer (prefix frames f first more (others_same h g (frames ++ f ∷ []) (first ++ more) is))
  where
    same : h ≡ g
    same = first_same h g (frames ++ f ∷ []) (first ++ more) is

    longer : (first ≡ frames ++ f ∷ []) ⊎ IsShort frames first → (g ∷ first ≡ (h ∷ frames) ++ f ∷ []) ⊎ IsShort (h ∷ frames) (g ∷ first)
    longer (inl all) = inl (ap (λ l. g ∷ l) all ∙ ap (λ k. k ∷ (frames ++ f ∷ [])) (sym same))
    longer (inr short) = inr (record { more = short.more; split = ap (λ k. k ∷ frames) same ∙ ap (λ l. g ∷ l) short.split })

pub no_entries : (version : ℕ) (before all : List Entry) → IsHistory version before [] all → all ≡ before
no_entries version _ _ (NoMore entries) = refl

-- nothing is digested but the header
module _ (version wanted : ℕ) (header bytes : List ℕ) (started : Sha256) (front : Option (List ℕ)) (held : Holds256 started header) where
  empty_is : header ++ take (frames_length []) bytes ≡ header
  empty_is = append-nil header

  none_first : (digest : List ℕ) (h : HasFrontAt version wanted header bytes [] digest) → h.first ≡ []
  none_first digest h = none_before h.first h.more h.split

  digest_none : (digest : List ℕ) → HasFrontAt version wanted header bytes [] digest → digest ≡ sha256 header
  digest_none digest h = h.digest_is ∙ ap (λ l. sha256 (header ++ take (frames_length l) bytes)) (none_first digest h) ∙ ap sha256 empty_is

  wanted_none : (digest : List ℕ) → HasFrontAt version wanted header bytes [] digest → wanted ≡ 0
  wanted_none digest h =
      let holds = subst (λ l. IsHistory version [] (payloads_of l) h.entries) (none_first digest h) h.holds in
      sym h.count_is ∙ ap length (no_entries version [] h.entries holds)

  pub digested_none : (wanted ≡ 0 → front ≡ Some (sha256 header)) → (wanted ≢ 0 → front ≡ None)
      → AreDigested version (record { started = started; wanted = wanted; hasher = started; front = front }) header bytes [] 0
  digested_none found none = record { hashed = subst (Holds256 started) (sym empty_is) held; front = at; reached = λ some. few (same_or_other wanted 0) some }
    where
      there : (wanted ≡ 0) ⊎ (wanted ≢ 0) → IfSome front (HasFrontAt version wanted header bytes [])
      there (inl is) = subst (λ o. IfSome o (HasFrontAt version wanted header bytes [])) (sym (found is))
          (record { first = []; more = []; entries = []; split = refl; holds = NoMore []; count_is = sym is; digest_is = ap sha256 (sym empty_is) })
      there (inr differs) = subst (λ o. IfSome o (HasFrontAt version wanted header bytes [])) (sym (none differs)) tt

      at : IsDigestAt version wanted header bytes [] front
      at = record { there = there (same_or_other wanted 0); only = λ digest h. found (wanted_none digest h) ∙ ap Some (sym (digest_none digest h)) }

      few : (wanted ≡ 0) ⊎ (wanted ≢ 0) → IsSome front → wanted ≤ 0
      few (inl is) some = omega (arith, is)
      few (inr differs) some = absurd (never_some front (none differs) some)

-- one more frame is digested
module _ (version wanted before now : ℕ) (header bytes : List ℕ) (frames : List Frame) (f : Frame) (all : List Entry) (started old new : Sha256) (front front_now : Option (List ℕ))
    (d : AreDigested version (record { started = started; wanted = wanted; hasher = old; front = front }) header bytes frames before)
    (holds : IsHistory version [] (payloads_of (frames ++ f ∷ [])) all) (count_is : length all ≡ now) (grew : before < now)
    (hashed : Holds256 new (header ++ take (frames_length (frames ++ f ∷ [])) bytes))
    (kept : now ≢ wanted → front_now ≡ front)
    (found : now ≡ wanted → front_now ≡ Some (sha256 (header ++ take (frames_length (frames ++ f ∷ [])) bytes))) where
  abbrev Here : List ℕ → Type 0
  Here digest = HasFrontAt version wanted header bytes (frames ++ f ∷ []) digest

  further : (digest : List ℕ) → HasFrontAt version wanted header bytes frames digest → Here digest
  further digest h = record {
    first = h.first;
    more = h.more ++ f ∷ [];
    entries = h.entries;
    split = ap (λ l. l ++ f ∷ []) h.split ∙ append_assoc h.first h.more (f ∷ []);
    holds = h.holds;
    count_is = h.count_is;
    digest_is = h.digest_is;
  }

  nearer : (digest : List ℕ) (h : Here digest) → IsShort frames h.first → HasFrontAt version wanted header bytes frames digest
  nearer digest h short = record {
    first = h.first;
    more = short.more;
    entries = h.entries;
    split = short.split;
    holds = h.holds;
    count_is = h.count_is;
    digest_is = h.digest_is;
  }

  -- the front is all of them
  whole_count : (digest : List ℕ) (h : Here digest) → h.first ≡ frames ++ f ∷ [] → now ≡ wanted
  whole_count digest h whole =
      let same : h.entries ≡ all = history_once version [] h.entries all (payloads_of (frames ++ f ∷ [])) (subst (λ l. IsHistory version [] (payloads_of l) h.entries) whole h.holds) holds in
      sym count_is ∙ ap length (sym same) ∙ h.count_is

  whole_digest : (digest : List ℕ) (h : Here digest) → h.first ≡ frames ++ f ∷ [] → digest ≡ sha256 (header ++ take (frames_length (frames ++ f ∷ [])) bytes)
  whole_digest digest h whole = h.digest_is ∙ ap (λ l. sha256 (header ++ take (frames_length l) bytes)) whole

  earlier : IsSome front → now ≡ wanted → ⊥
  earlier some is = let reached = d.reached some in omega (arith, reached, is, grew)

  pub digested_more : AreDigested version (record { started = started; wanted = wanted; hasher = new; front = front_now }) header bytes (frames ++ f ∷ []) now
  digested_more = record { hashed = hashed; front = by (same_or_other now wanted); reached = few (same_or_other now wanted) }
    where
      at_wanted : now ≡ wanted → IsDigestAt version wanted header bytes (frames ++ f ∷ []) front_now
      at_wanted is = record {
        there = subst (λ o. IfSome o Here) (sym (found is)) (record {
          first = frames ++ f ∷ [];
          more = [];
          entries = all;
          split = sym (append-nil (frames ++ f ∷ []));
          holds = holds;
          count_is = count_is ∙ is;
          digest_is = refl;
        });
        only = λ digest h. one digest h (prefix frames f h.first h.more h.split);
      }
        where
          one : (digest : List ℕ) (h : Here digest) → (h.first ≡ frames ++ f ∷ []) ⊎ IsShort frames h.first → front_now ≡ Some digest
          one digest h (inl whole) = found is ∙ ap Some (sym (whole_digest digest h whole))
          one digest h (inr short) = absurd (earlier (some_is_some front digest (d.front.only digest (nearer digest h short))) is)

      behind_wanted : now ≢ wanted → IsDigestAt version wanted header bytes (frames ++ f ∷ []) front_now
      behind_wanted differs = record {
        there = subst (λ o. IfSome o Here) (sym (kept differs)) (if_some_more front further d.front.there);
        only = λ digest h. one digest h (prefix frames f h.first h.more h.split);
      }
        where
          one : (digest : List ℕ) (h : Here digest) → (h.first ≡ frames ++ f ∷ []) ⊎ IsShort frames h.first → front_now ≡ Some digest
          one digest h (inl whole) = absurd (differs (whole_count digest h whole))
          one digest h (inr short) = kept differs ∙ d.front.only digest (nearer digest h short)

      by : (now ≡ wanted) ⊎ (now ≢ wanted) → IsDigestAt version wanted header bytes (frames ++ f ∷ []) front_now
      by (inl is) = at_wanted is
      by (inr differs) = behind_wanted differs

      few : (now ≡ wanted) ⊎ (now ≢ wanted) → IsSome front_now → wanted ≤ now
      few (inl is) some = omega (arith, is)
      few (inr differs) some = let reached = d.reached (subst IsSome (kept differs) some) in omega (arith, reached, grew)

-- a test on numbers that are the same, and that differ
pub tests_same : (a b : ℕ) → a ≡ b → (a == b) ≡ true
tests_same a b is = grind (arith, nat_tests)

pub tests_other : (a b : ℕ) → a ≢ b → (a == b) ≡ false
tests_other a b differs = grind (arith, nat_tests)
