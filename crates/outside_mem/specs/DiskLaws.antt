-- Why a disk in memory is a disk.
use Rattle.std.specs.Prelude.{◌≡◌, ◌⊎◌, ℕ, ◌+◌, ◌<◌, ◌≤◌, Bool, true, false, List, [], ◌∷◌, length, take, Option, Some, None, Result, Ok, Err, OnOk, OnErr, if◌then◌else◌, nat_lt, nat_le, ◌&&◌, refl}
use Rattle.std.proofs.Common.{inl, inr, sym, ap, subst, true≢false, arith}
use Rattle.std.proofs.lemmas.List.{length-take-le}
use Rattle.std.proofs.lemmas.Bool.Decides.{nat_tests}
use Rattle.std.specs.Option.{option_or}
use Rattle.outside.specs.Disk.{patch, longest_disk}
use Rattle.outside.proofs.Disks.{torn_self, cut_self, length-patch, torn_patch, torn_cut}
use Rattle.outside_mem.specs.declared.change.Change.{Change}
use Rattle.outside_mem.specs.declared.change.Change.TheVariants.{Write, Cut, Sync}
use Rattle.outside_mem.specs.Disk.{content_after, IsImageAfter, LeavesSince, synced_since, are_within, IsRun, TapeState}

pub both : (a b : Bool) → (a && b) ≡ true → (a ≡ true) × (b ≡ true)
both true true is = (refl, refl)
both true false is = absurd (true≢false (sym is))
both false b is = absurd (true≢false (sym is))

pub at_most : (a b : ℕ) → nat_le a b ≡ true → a ≤ b
at_most a b is = grind (arith, nat_tests)

is_at_most : (a b : ℕ) → a ≤ b → nat_le a b ≡ true
is_at_most a b le = grind (arith, nat_tests)

-- the content is an image
pub image_content : (first : List ℕ) (changes : List Change) → are_within first changes ≡ true → IsImageAfter first changes (content_after first changes)
image_content first [] within = refl
image_content first (Write at bytes true ∷ earlier) within =
    let tests = both (nat_le at (length (content_after first earlier))) (are_within first earlier) within in
    (content_after first earlier, image_content first earlier tests.1, torn_patch at bytes (content_after first earlier) (at_most at (length (content_after first earlier)) tests.0))
image_content first (Write at bytes false ∷ earlier) within =
    let tests = both (nat_le at (length (content_after first earlier))) (are_within first earlier) within in
    (content_after first earlier, image_content first earlier tests.1, torn_self at (length bytes) (content_after first earlier))
image_content first (Cut len true ∷ earlier) within =
    let tests = both (nat_le len (length (content_after first earlier))) (are_within first earlier) within in
    (content_after first earlier, image_content first earlier tests.1, torn_cut len (content_after first earlier) (at_most len (length (content_after first earlier)) tests.0))
image_content first (Cut len false ∷ earlier) within =
    let tests = both (nat_le len (length (content_after first earlier))) (are_within first earlier) within in
    (content_after first earlier, image_content first earlier tests.1, cut_self len (content_after first earlier))
image_content first (Sync true ∷ earlier) within = refl
image_content first (Sync false ∷ earlier) within = image_content first earlier within

-- this moment counts, and is the last
pub counts_now : (first : List ℕ) (changes : List Change) (t : ℕ) (c : List ℕ) → t ≤ length changes → IsImageAfter first changes c → LeavesSince first changes t c
counts_now first [] t c le image = (le, image)
counts_now first (change ∷ earlier) t c le image = inl (omega (arith, le), image)

-- what a crash since a later moment may leave, one since an earlier moment may leave
pub left_since_earlier : (first : List ℕ) (changes : List Change) (t u : ℕ) (c : List ℕ) → t ≤ u → LeavesSince first changes u c → LeavesSince first changes t c
left_since_earlier first [] t u c le left = (let l = left.0 in omega (arith, l, le), left.1)
left_since_earlier first (change ∷ earlier) t u c le (inl now) = inl (let l = now.0 in omega (arith, l, le), now.1)
left_since_earlier first (change ∷ earlier) t u c le (inr before) = inr (left_since_earlier first earlier t u c le before)

left_until : (first : List ℕ) (changes : List Change) (t : ℕ) (c : List ℕ) → LeavesSince first changes t c → t ≤ length changes
left_until first [] t c left = left.0
left_until first (change ∷ earlier) t c (inl now) = (let l = now.0 in omega (arith, l))
left_until first (change ∷ earlier) t c (inr before) = (let l = left_until first earlier t c before in omega (arith, l))

pub only_now : (first : List ℕ) (changes : List Change) (c : List ℕ) → LeavesSince first changes (length changes) c → IsImageAfter first changes c
only_now first [] c left = left.1
only_now first (change ∷ earlier) c (inl now) = now.1
only_now first (change ∷ earlier) c (inr before) = absurd (let l = left_until first earlier (length (change ∷ earlier)) c before in omega (arith, l))

-- the first sync since a moment
first_sync : (o : Option ℕ) (t n s : ℕ) (b : Bool) → nat_lt t n ≡ b → option_or o (if b then Some n else None) ≡ Some s → (o ≡ Some s) ⊎ ((t < n) × (s ≡ n))
first_sync (Some r) t n s b test is = inl is
first_sync None t n s true test is = inr (grind (arith, nat_tests), (let e : Some n ≡ Some s = is in cc))
first_sync None t n s false test is = absurd (let e : None ≡ Some s = is in cc)

pub synced_after : (changes : List Change) (t s : ℕ) → synced_since changes t ≡ Some s → t < s
synced_after [] t s is = absurd (let e : None ≡ Some s = is in cc)
synced_after (Write at bytes done ∷ earlier) t s is = synced_after earlier t s is
synced_after (Cut len done ∷ earlier) t s is = synced_after earlier t s is
synced_after (Sync false ∷ earlier) t s is = synced_after earlier t s is
synced_after (Sync true ∷ earlier) t s is =
    elim (first_sync (synced_since earlier t) t (length earlier + 1) s (nat_lt t (length earlier + 1)) refl is) [
      | inl before ↦ synced_after earlier t s before
      | inr now ↦ (let l = now.0 in let e = now.1 in omega (arith, l, e))
    ]

pub synced_by_now : (changes : List Change) (t s : ℕ) → synced_since changes t ≡ Some s → s ≤ length changes
synced_by_now [] t s is = absurd (let e : None ≡ Some s = is in cc)
synced_by_now (Write at bytes done ∷ earlier) t s is = (let l = synced_by_now earlier t s is in omega (arith, l))
synced_by_now (Cut len done ∷ earlier) t s is = (let l = synced_by_now earlier t s is in omega (arith, l))
synced_by_now (Sync false ∷ earlier) t s is = (let l = synced_by_now earlier t s is in omega (arith, l))
synced_by_now (Sync true ∷ earlier) t s is =
    elim (first_sync (synced_since earlier t) t (length earlier + 1) s (nat_lt t (length earlier + 1)) refl is) [
      | inl before ↦ (let l = synced_by_now earlier t s before in omega (arith, l))
      | inr now ↦ (let e = now.1 in omega (arith, e))
    ]

-- the first since an earlier moment
abbrev FirstBefore : List Change → ℕ → ℕ → Type 0
FirstBefore changes t r = (s : ℕ) × (synced_since changes t ≡ Some s) × (s ≤ r)

first_or_now : (o : Option ℕ) (t n : ℕ) (b : Bool) → nat_lt t n ≡ b → t < n → ((s : ℕ) → o ≡ Some s → s ≤ n) → (s : ℕ) × (option_or o (if b then Some n else None) ≡ Some s) × (s ≤ n)
first_or_now (Some s) t n b test within by_now = (s, refl, by_now s refl)
first_or_now None t n true test within by_now = (n, refl, omega arith)
first_or_now None t n false test within by_now = absurd (let n_is = test in grind (arith, nat_tests))

kept_first : (o : Option ℕ) (other : Option ℕ) (s r : ℕ) → o ≡ Some s → s ≤ r → (q : ℕ) × (option_or o other ≡ Some q) × (q ≤ r)
kept_first o other s r is le = (s, ap (λ p. option_or p other) is, le)

pub synced_first : (changes : List Change) (t u r : ℕ) → t ≤ u → synced_since changes u ≡ Some r → FirstBefore changes t r
synced_first [] t u r le is = absurd (let e : None ≡ Some r = is in cc)
synced_first (Write at bytes done ∷ earlier) t u r le is = synced_first earlier t u r le is
synced_first (Cut len done ∷ earlier) t u r le is = synced_first earlier t u r le is
synced_first (Sync false ∷ earlier) t u r le is = synced_first earlier t u r le is
synced_first (Sync true ∷ earlier) t u r le is =
    elim (first_sync (synced_since earlier u) u (length earlier + 1) r (nat_lt u (length earlier + 1)) refl is) [
      | inl before ↦
          let f = synced_first earlier t u r le before in
          kept_first (synced_since earlier t) (if nat_lt t (length earlier + 1) then Some (length earlier + 1) else None) f.0 r f.1 f.2
      | inr now ↦
          let within : t < length earlier + 1 = (let l = now.0 in omega (arith, l, le)) in
          let f = first_or_now (synced_since earlier t) t (length earlier + 1) (nat_lt t (length earlier + 1)) refl within (λ s was. (let l = synced_by_now earlier t s was in omega (arith, l))) in
          (f.0, f.1, (let l = f.2 in let e = now.1 in omega (arith, l, e)))
    ]

both_true : (a b : Bool) → a ≡ true → b ≡ true → (a && b) ≡ true
both_true a b first second = rw (first, second) refl

-- a run that goes on by one change
pub run_write : (first : List ℕ) (changes : List Change) (bytes : List ℕ) (at : ℕ) (data_bytes : List ℕ) (done : Bool) → IsRun first changes bytes → at ≤ length bytes → at + length data_bytes ≤ longest_disk
    → IsRun first (Write at data_bytes done ∷ changes) (if done then patch at data_bytes bytes else bytes)
run_write first changes bytes at data_bytes true run within short =
    let len = length-patch at data_bytes bytes within in
    let had = run.short in
    record {
      content = ap (patch at data_bytes) run.content;
      within = both_true (nat_le at (length (content_after first changes))) (are_within first changes) (is_at_most at (length (content_after first changes)) (rw (← run.content) within)) run.within;
      short = omega (arith, len, had, short);
    }
run_write first changes bytes at data_bytes false run within short = record {
  content = run.content;
  within = both_true (nat_le at (length (content_after first changes))) (are_within first changes) (is_at_most at (length (content_after first changes)) (rw (← run.content) within)) run.within;
  short = run.short;
}

pub run_cut : (first : List ℕ) (changes : List Change) (bytes : List ℕ) (len : ℕ) (done : Bool) → IsRun first changes bytes → len ≤ length bytes
    → IsRun first (Cut len done ∷ changes) (if done then take len bytes else bytes)
run_cut first changes bytes len true run within =
    let had = run.short in
    let now = length-take-le len bytes within in
    record {
      content = ap (take len) run.content;
      within = both_true (nat_le len (length (content_after first changes))) (are_within first changes) (is_at_most len (length (content_after first changes)) (rw (← run.content) within)) run.within;
      short = omega (arith, now, had, within);
    }
run_cut first changes bytes len false run within = record {
  content = run.content;
  within = both_true (nat_le len (length (content_after first changes))) (are_within first changes) (is_at_most len (length (content_after first changes)) (rw (← run.content) within)) run.within;
  short = run.short;
}

pub run_sync : (first : List ℕ) (changes : List Change) (bytes : List ℕ) (done : Bool) → IsRun first changes bytes → IsRun first (Sync done ∷ changes) bytes
run_sync first changes bytes done run = record { content = run.content; within = run.within; short = run.short }

-- what is told is the bytes
pub told_image : (first : List ℕ) (changes : List Change) (bytes b : List ℕ) → IsRun first changes bytes → Some bytes ≡ Some b → IsImageAfter first changes b
told_image first changes bytes b run told =
    let same : content_after first changes ≡ b = (let is = run.content in cc) in
    subst (IsImageAfter first changes) same (image_content first changes run.within)

-- it tells its moments
pub never_undated : {P : Type 0} → true ≡ false → P
never_undated undated = absurd (true≢false undated)

-- a sync adds no image, whether it succeeds or fails, or finds no memory
pub sync_keeps : {T E : Type 0} (r : Result T E) (old new : TapeState) (done : Bool) → IsRun old.first old.changes old.bytes
    → OnOk r (new ≡ record { first = old.first; changes = Sync done ∷ old.changes; bytes = old.bytes }) → OnErr r (new ≡ old)
    → (c : List ℕ) → IsImageAfter new.first new.changes c → IsImageAfter old.first old.changes c
sync_keeps (Err e) old new done run ok err c image = subst (λ (t : TapeState). IsImageAfter t.first t.changes c) err image
sync_keeps (Ok x) old new true run ok err c image =
    let is : c ≡ content_after old.first old.changes = subst (λ (t : TapeState). IsImageAfter t.first t.changes c) ok image in
    subst (IsImageAfter old.first old.changes) (sym is) (image_content old.first old.changes run.within)
sync_keeps (Ok x) old new false run ok err c image = subst (λ (t : TapeState). IsImageAfter t.first t.changes c) ok image
