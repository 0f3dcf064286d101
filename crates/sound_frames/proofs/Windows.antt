-- What stands in a window of a log is what stands there in the log, where the window reaches far enough or to the log's end.
use Rattle.std.proofs.Common.{◌≡◌, ◌∙◌, ◌⊎◌, inl, inr, ℕ, ◌+◌, ◌<◌, ◌≤◌, Bool, true, false, List, [], ◌∷◌, ◌++◌, length, take, drop, slice_index, Option, if◌then◌else◌, ◌==◌, refl, sym, ap, subst, arith, length-append, length-drop}
use Rattle.std.specs.Int.{w32, from_be_bytes}
use Rattle.std.proofs.lemmas.Grind.{common_steps}
use Rattle.marc_types.specs.declared.entry.Entry.{Entry}
use Rattle.commit_journal.specs.declared.format.TheConstants.{BLANK_LENGTH, CLOSED_GATE, DIGIT_1, FIRST_GATE, HEADER_1, HEADER_2, LARGEST_PAYLOAD, LENGTH_BYTES, VERSION_PLACE}
use Rattle.commit_journal.specs.Log.{first_differing, header_fault, version_of_header, payload_length, has_frame, payload_of}
use Rattle.commit_journal.proofs.Walks.{frame_sizes, frame_whole}
use Rattle.entry_history.specs.Payloads.{Holds}
use Rattle.entry_history.specs.declared.extent.Extent.{Extent}
use Rattle.journal_verification.specs.Coming.{Comes}
use Rattle.sound_frames.specs.declared.damage.Damage.{Damage}
use Rattle.sound_frames.specs.declared.looking.Ahead.{Ahead}
use Rattle.sound_frames.specs.declared.looking.Ahead.TheVariants.{NoFrame, NotValid, Sound}
use Rattle.sound_frames.specs.declared.stepping.Ending.{Ending}
use Rattle.sound_frames.specs.declared.stepping.Ending.TheVariants as ending
use Rattle.sound_frames.specs.Sound.{is_closed_gate, behind_gate, next_gate, closed_damage, IsSound, HasNone, HasNoTwo, MayPass, IsReadAs, Newer, Older, Neither}
use Rattle.sound_frames.specs.Looking.{Sees, EndsBy, HasPassed, IsWindowOf, ComesBehind}
use Rattle.sound_frames.specs.declared.window.TheConstants.{TWO_FRAMES}

drop_twice : (i j : ℕ) (l : List ℕ) → drop j (drop i l) ≡ drop (i + j) l
drop_twice i j l = grind (arith, common_steps)

drop_front : (n : ℕ) (a b : List ℕ) → n ≤ length a → drop n (a ++ b) ≡ drop n a ++ b
drop_front n a b within = grind (arith, common_steps)

take_front : (n : ℕ) (a b : List ℕ) → n ≤ length a → take n (a ++ b) ≡ take n a
take_front n a b within = grind (arith, common_steps)

index_front : (n : ℕ) (a b : List ℕ) → n < length a → slice_index (a ++ b) n ≡ slice_index a n
index_front n a b within = grind (arith, common_steps)

index_drop : (i n : ℕ) (l : List ℕ) → slice_index (drop i l) n ≡ slice_index l (i + n)
index_drop i n l = grind (arith, common_steps)

same_bool : (a b : Bool) → (a ≡ true → b ≡ true) → (b ≡ true → a ≡ true) → a ≡ b
same_bool true true on back = refl
same_bool true false on back = sym (on refl)
same_bool false true on back = back refl
same_bool false false on back = refl

-- a window of a log, which stands there from that place on
module _ (window rest log : List ℕ) (base : ℕ) (is : drop base log ≡ window ++ rest) (at : ℕ) (within : at < length window) where
  behind_same : behind_gate log (base + at) ≡ behind_gate window at ++ rest
  behind_same =
      let place : base + at + 1 ≡ base + (at + 1) = omega arith in
      ap (λ n. drop n log) place ∙ sym (drop_twice base (at + 1) log) ∙ ap (drop (at + 1)) is ∙ drop_front (at + 1) window rest (omega (arith, within))

  pub closed_same : is_closed_gate log (base + at) ≡ is_closed_gate window at
  closed_same =
      let byte : slice_index log (base + at) ≡ slice_index window at =
      sym (index_drop base at log) ∙ ap (λ l. slice_index l at) is ∙ index_front at window rest within in
      ap (λ (b : ℕ). b == CLOSED_GATE) byte

  length_same : 4 ≤ length (behind_gate window at) → payload_length (behind_gate log (base + at)) ≡ payload_length (behind_gate window at)
  unfolding payload_length
  length_same long = ap (λ l. from_be_bytes w32 (take LENGTH_BYTES l)) behind_same ∙ ap (from_be_bytes w32) (take_front LENGTH_BYTES (behind_gate window at) rest long)

  -- the window ends with the log, or a frame of the largest payload and a gate stand in it
  abbrev pub IsNear : Type 0
  IsNear = (rest ≡ []) ⊎ (at + 6 + LARGEST_PAYLOAD ≤ length window)

  frame_up : has_frame (behind_gate window at) ≡ true → has_frame (behind_gate log (base + at)) ≡ true
  frame_up has =
      let sizes = frame_sizes (behind_gate window at) has in
      let whole = sizes.whole in
      let least = sizes.least in
      let most = sizes.most in
      let same = length_same (omega (arith, whole)) in
      let long = ap (length {A = ℕ}) behind_same ∙ length-append (behind_gate window at) rest in
      frame_whole (behind_gate log (base + at)) (record {
        least = omega (arith, same, least);
        most = omega (arith, same, most);
        whole = omega (arith, same, whole, long);
      })

  frame_down : IsNear → has_frame (behind_gate log (base + at)) ≡ true → has_frame (behind_gate window at) ≡ true
  frame_down (inl none) has = subst (λ l. has_frame l ≡ true) (behind_same ∙ ap (λ r. behind_gate window at ++ r) none ∙ ends (behind_gate window at)) has
    where
      ends : (l : List ℕ) → l ++ [] ≡ l
      ends l = grind (arith, common_steps)
  frame_down (inr near) has =
      let sizes = frame_sizes (behind_gate log (base + at)) has in
      let least = sizes.least in
      let most = sizes.most in
      let left = length-drop (at + 1) window in
      let same = length_same (omega (arith, left, near)) in
      frame_whole (behind_gate window at) (record {
        least = omega (arith, same, least);
        most = omega (arith, same, most);
        whole = omega (arith, same, most, left, near);
      })

  pub frame_same : IsNear → has_frame (behind_gate log (base + at)) ≡ has_frame (behind_gate window at)
  frame_same near = same_bool (has_frame (behind_gate log (base + at))) (has_frame (behind_gate window at)) (frame_down near) frame_up

  payload_same : has_frame (behind_gate window at) ≡ true → payload_of (behind_gate log (base + at)) ≡ payload_of (behind_gate window at)
  payload_same has =
      let bytes = behind_gate window at in
      let whole = (frame_sizes bytes has).whole in
      let same = length_same (omega (arith, whole)) in
      let left = length-drop LENGTH_BYTES bytes in
      ap (λ n. take n (drop LENGTH_BYTES (behind_gate log (base + at)))) same
      ∙ ap (λ l. take (payload_length bytes) (drop LENGTH_BYTES l)) behind_same
      ∙ ap (take (payload_length bytes)) (drop_front LENGTH_BYTES bytes rest (omega (arith, whole)))
      ∙ take_front (payload_length bytes) (drop LENGTH_BYTES bytes) rest (omega (arith, left, whole))

  pub next_same : has_frame (behind_gate window at) ≡ true → next_gate log (base + at) ≡ base + next_gate window at
  next_same has = let whole = (frame_sizes (behind_gate window at) has).whole in let same = length_same (omega (arith, whole)) in omega (arith, same)

  pub sound_up : (version : ℕ) (before entries : List Entry) → IsSound version window at before entries → IsSound version log (base + at) before entries
  sound_up version before entries s = record {
    whole = frame_up s.whole;
    valid = subst (Holds version before entries) (sym (payload_same s.whole)) s.valid;
  }

  pub sound_down : (version : ℕ) (before entries : List Entry) → IsNear → IsSound version log (base + at) before entries → IsSound version window at before entries
  sound_down version before entries near s =
      let whole = frame_down near s.whole in record { whole = whole; valid = subst (Holds version before entries) (payload_same whole) s.valid }

  pub none_up : (version : ℕ) (before : List Entry) → IsNear → HasNone version window at before → HasNone version log (base + at) before
  none_up version before near none entries s = none entries (sound_down version before entries near s)

  none_down : (version : ℕ) (before : List Entry) → HasNone version log (base + at) before → HasNone version window at before
  none_down version before none entries s = none entries (sound_up version before entries s)

  pub seen_up : (version : ℕ) (before : List Entry) (ahead : Ahead) (extent : Extent) → IsNear → Sees version window at before ahead extent
      → Sees version log (base + at) before ahead extent
  seen_up version before NoFrame extent near seen = (frame_same near ∙ seen.0, seen.1)
  seen_up version before NotValid extent near seen = (frame_same near ∙ seen.0, none_up version before near seen.1, seen.2)
  seen_up version before (Sound items) extent near seen = (sound_up version before items.items seen.0, seen.1)

  pub seen_down : (version : ℕ) (before : List Entry) (ahead : Ahead) (extent : Extent) → IsNear → Sees version log (base + at) before ahead extent
      → Sees version window at before ahead extent
  seen_down version before NoFrame extent near seen = (sym (frame_same near) ∙ seen.0, seen.1)
  seen_down version before NotValid extent near seen = (sym (frame_same near) ∙ seen.0, none_down version before seen.1, seen.2)
  seen_down version before (Sound items) extent near seen = (sound_down version before items.items near seen.0, seen.1)

-- A window reaches far enough from a place in it: nothing comes behind it, or two frames of the largest payload and the gate behind them stand in
-- it.
pub data Reaches (at : ℕ) (window rest : List ℕ) : Type 0 where
  All : rest ≡ [] → Reaches at window rest
  Far : at + TWO_FRAMES ≤ length window → Reaches at window rest

-- the window ends with the log, or one such frame and a gate stand in it
reaches_near : (window rest : List ℕ) (at : ℕ) → Reaches at window rest → (rest ≡ []) ⊎ (at + 6 + LARGEST_PAYLOAD ≤ length window)
reaches_near window rest at (All none) = inl none
reaches_near window rest at (Far far) = inr (omega (arith, far))

reaches_next : (window rest : List ℕ) (at next : ℕ) → Reaches at window rest → next ≤ at + 5 + LARGEST_PAYLOAD → (rest ≡ []) ⊎ (next + 6 + LARGEST_PAYLOAD ≤ length window)
reaches_next window rest at next (All none) few = inl none
reaches_next window rest at next (Far far) few = inr (omega (arith, far, few))

module _ (window rest log : List ℕ) (base : ℕ) (is : drop base log ≡ window ++ rest) (at : ℕ) (within : at < length window) (reach : Reaches at window rest)
    (version : ℕ) (before : List Entry) where
  near : (rest ≡ []) ⊎ (at + 6 + LARGEST_PAYLOAD ≤ length window)
  near = reaches_near window rest at reach

  module _ (has : has_frame (behind_gate window at) ≡ true) where
    next_within : next_gate window at < length window
    next_within =
        let whole = (frame_sizes (behind_gate window at) has).whole in let left = length-drop (at + 1) window in omega (arith, whole, left)

    next_near : (rest ≡ []) ⊎ (next_gate window at + 6 + LARGEST_PAYLOAD ≤ length window)
    next_near = reaches_next window rest at (next_gate window at) reach (let most = (frame_sizes (behind_gate window at) has).most in omega (arith, most))

    next_is : next_gate log (base + at) ≡ base + next_gate window at
    next_is = next_same window rest log base is at within has

  pub two_up : HasNoTwo version window at before → HasNoTwo version log (base + at) before
  two_up none entries s =
      let here = sound_down window rest log base is at within version before entries near s in
      subst (λ p. HasNone version log p (before ++ entries)) (sym (next_is here.whole))
      (none_up window rest log base is (next_gate window at) (next_within here.whole) version (before ++ entries) (next_near here.whole) (none entries here))

  pub ends_up : (why : Ending) → EndsBy version window at before why → EndsBy version log (base + at) before why
  ends_up ending.Closed e = (closed_same window rest log base is at within ∙ e.0, two_up e.1)
  ends_up ending.NoFrame e = (closed_same window rest log base is at within ∙ e.0, frame_same window rest log base is at within near ∙ e.1)
  ends_up ending.NotValid e =
      (closed_same window rest log base is at within ∙ e.0, frame_same window rest log base is at within near ∙ e.1, none_up window rest log base is at within version before near e.2)

  pub passed_up : (told : ℕ) (damages : List Damage) (now : List Entry) (damages_now : List Damage) (extent : Extent) (next : ℕ) (ahead : Ahead)
      → HasPassed version window at told before damages now damages_now extent next ahead
      → HasPassed version log (base + at) told before damages now damages_now extent (base + next) ahead
  passed_up told damages now damages_now extent next ahead p =
      let has = p.sound.whole in
      let next_in : next < length window = omega (arith, p.within) in
      let left = length-drop base log in
      let parts = ap (length {A = ℕ}) is ∙ length-append window rest in
      record {
        entries = p.entries;
        sound = sound_up window rest log base is at within version before p.entries p.sound;
        may = may has;
        now_is = p.now_is;
        gate = p.gate ∙ ap (λ b. damages ++ closed_damage b told) (sym (closed_same window rest log base is at within));
        next_is = ap (λ n. base + n) p.next_is ∙ sym (next_is has);
        within = omega (arith, next_in, left, parts);
        further = omega (arith, p.further);
        seen = seen_up window rest log base is next next_in version now ahead extent
            (subst (λ n. (rest ≡ []) ⊎ (n + 6 + LARGEST_PAYLOAD ≤ length window)) (sym p.next_is) (next_near has)) p.seen;
      }
    where
      may : has_frame (behind_gate window at) ≡ true → MayPass version log (base + at) (before ++ p.entries)
      may has shut =
          let others = p.may (sym (closed_same window rest log base is at within) ∙ shut) in (
            others.0,
            subst (λ n. IsSound version log n (before ++ p.entries) others.0) (sym (next_is has))
                (sound_up window rest log base is (next_gate window at) (next_within has) version (before ++ p.entries) others.0 others.1),
          )

-- the window of a log
module _ (window log : List ℕ) (base : ℕ) (left : Option (List ℕ)) (more : Bool) (w : IsWindowOf log base window left more) (at : ℕ) (within : at < length window)
    (far : more ≡ true → at + TWO_FRAMES ≤ length window) where
  abbrev behind_it : List ℕ
  behind_it = w.comes.rest

  no_more : more ≡ false → behind_it ≡ []
  no_more ends =
      let parts = ap (length {A = ℕ}) (sym (w.all ends) ∙ w.comes.is) ∙ length-append window behind_it in
      nothing behind_it (omega (arith, parts))
    where
      nothing : (l : List ℕ) → length l ≡ 0 → l ≡ []
      nothing [] is = refl
      nothing (x ∷ l) is = absurd (omega (arith, is))

  reaches : Reaches at window behind_it
  reaches = either more refl
    where
      either : (b : Bool) → b ≡ more → Reaches at window behind_it
      either true is = Far (far (sym is))
      either false is = All (no_more (sym is))

  module _ (version : ℕ) (before : List Entry) where
    pub seen_here : (ahead : Ahead) (extent : Extent) → Sees version log (base + at) before ahead extent → Sees version window at before ahead extent
    seen_here ahead extent = seen_down window behind_it log base w.comes.is at within version before ahead extent (reaches_near window behind_it at reaches)

    pub seen_there : (ahead : Ahead) (extent : Extent) → Sees version window at before ahead extent → Sees version log (base + at) before ahead extent
    seen_there ahead extent = seen_up window behind_it log base w.comes.is at within version before ahead extent (reaches_near window behind_it at reaches)

    pub sound_there : (entries : List Entry) → IsSound version window at before entries → IsSound version log (base + at) before entries
    sound_there = sound_up window behind_it log base w.comes.is at within version before

    pub none_there : HasNone version window at before → HasNone version log (base + at) before
    none_there = none_up window behind_it log base w.comes.is at within version before (reaches_near window behind_it at reaches)

    pub ends_there : (why : Ending) → EndsBy version window at before why → EndsBy version log (base + at) before why
    ends_there = ends_up window behind_it log base w.comes.is at within reaches version before

    pub passed_there : (told : ℕ) (damages : List Damage) (now : List Entry) (damages_now : List Damage) (extent : Extent) (next : ℕ) (ahead : Ahead)
        → HasPassed version window at told before damages now damages_now extent next ahead
        → HasPassed version log (base + at) told before damages now damages_now extent (base + next) ahead
    passed_there = passed_up window behind_it log base w.comes.is at within reaches version before

-- the window goes on
pub window_on : (window skipped filled log : List ℕ) (base at now count : ℕ) (left middle left_now : Option (List ℕ)) (more more_now : Bool) → IsWindowOf log base window left more
    → ((b : List ℕ) → Comes window left b → Comes skipped middle (drop at b)) → ((b : List ℕ) → Comes skipped middle b → Comes filled left_now b)
    → (more_now ≡ false → (b : List ℕ) → Comes skipped middle b → (b ≡ filled) × (length b < count)) → now ≡ base + at
    → IsWindowOf log now filled left_now more_now
window_on window skipped filled log base at now count left middle left_now more more_now w skips fills ends now_is =
    let same : drop at (drop base log) ≡ drop now log = drop_twice base at log ∙ ap (λ n. drop n log) (sym now_is) in
    let behind = skips (drop base log) w.comes in
    record { comes = subst (Comes filled left_now) same (fills _ behind); all = λ none. sym same ∙ (ends none _ behind).0 }

-- all bytes of a log: those up to a place, and those that are still to come
pub total_is : (log window : List ℕ) (place total : ℕ) (left : Option (List ℕ)) → ComesBehind log place window left
    → ((b : List ℕ) → Comes window left b → total ≡ place + length b) → total ≡ length log
total_is log window place total left c counts =
    let within = c.within in
    let sum = counts (drop place log) c.comes in
    let rest = length-drop place log in
    omega (arith, within, sum, rest)

-- ---- the header, in the window of a log from its first byte on

module _ (window log : List ℕ) (left : Option (List ℕ)) (more : Bool) (w : IsWindowOf log 0 window left more) (long : BLANK_LENGTH < length window)
    (far : more ≡ true → FIRST_GATE + TWO_FRAMES ≤ length window) where
  abbrev rest : List ℕ
  rest = w.comes.rest

  first_inside : FIRST_GATE < length window
  first_inside = omega (arith, long)

  pub long_there : BLANK_LENGTH < length log
  long_there = let parts = ap (length {A = ℕ}) w.comes.is ∙ length-append window rest in omega (arith, long, parts)

  pub named_there : version_of_header log ≡ version_of_header window
  unfolding version_of_header
  named_there =
      let byte : slice_index log VERSION_PLACE ≡ slice_index window VERSION_PLACE =
      ap (λ l. slice_index l VERSION_PLACE) w.comes.is ∙ index_front VERSION_PLACE window rest (omega (arith, long)) in
      ap (λ b. if b == DIGIT_1 then 1 else 2) byte

  pub wrong_there : header_fault log ≡ header_fault window
  wrong_there =
      ap (first_differing 0 HEADER_1 HEADER_2) (ap (take FIRST_GATE) w.comes.is ∙ take_front FIRST_GATE window rest (omega (arith, long)))

  pub read_there : (version : ℕ) → IsReadAs window version → IsReadAs log version
  read_there version (Newer entries sound is) = Newer entries (sound_there window log 0 left more w FIRST_GATE first_inside far 2 [] entries sound) is
  read_there version (Older entries none sound is) =
      Older entries (none_there window log 0 left more w FIRST_GATE first_inside far 2 [] none)
      (sound_there window log 0 left more w FIRST_GATE first_inside far 1 [] entries sound) is
  read_there version (Neither none neither is) =
      Neither (none_there window log 0 left more w FIRST_GATE first_inside far 2 [] none)
      (none_there window log 0 left more w FIRST_GATE first_inside far 1 [] neither) (is ∙ sym named_there)
