-- The reading from gate to gate, in a window of a log.
use Rattle.std.proofs.Common.{◌≡◌, ◌∙◌, ℕ, ◌+◌, ◌<◌, ◌≤◌, Bool, true, false, List, [], ◌++◌, length, Option, ◌==◌, refl, sym, ap, subst, arith}
use Rattle.marc_types.specs.declared.entry.Entry.{Entry}
use Rattle.commit_journal.specs.declared.format.TheConstants.{BLANK_LENGTH, FIRST_GATE}
use Rattle.commit_journal.specs.Log.{header_fault, version_of_header}
use Rattle.entry_history.specs.declared.extent.Extent.{Extent}
use Rattle.journal_verification.specs.Coming.{Comes}
use Rattle.sound_frames.specs.declared.damage.Damage.{Damage}
use Rattle.sound_frames.specs.declared.looking.Ahead.{Ahead}
use Rattle.sound_frames.specs.declared.stepping.Ending.{Ending}
use Rattle.sound_frames.specs.declared.window.TheConstants.{TWO_FRAMES}
use Rattle.sound_frames.specs.Sound.{IsReadAs, wrong_header, IsSoundOf}
use Rattle.sound_frames.specs.Looking.{Sees, ending_damage, HasPassed, HasEnded, HasReadOn, IsWindowOf, ComesBehind}
use Rattle.sound_frames.proofs.Walks.{IsReading, read_begun, read_seen, read_passed, read_ended, sound_long}
use Rattle.sound_frames.proofs.Windows.{seen_here, seen_there, ends_there, passed_there, long_there, named_there, wrong_there, read_there}

-- reading has come to a gate in the window of a log
pub record IsReadingIn (version : ℕ) (log : List ℕ) (damages : List Damage) (base at : ℕ) (window : List ℕ) (left : Option (List ℕ)) (more : Bool) (entries : List Entry)
    (damages_now : List Damage) (counted : ℕ) (extent : Extent) (ahead : Ahead) : Type 0 where
  pub window_is : IsWindowOf log base window left more
  pub reading : IsReading version log damages (base + at) entries damages_now counted extent ahead

pub begun_in : (version : ℕ) (log : List ℕ) (damages : List Damage) (base : ℕ) (window : List ℕ) (left : Option (List ℕ)) (more : Bool) (entries : List Entry) (counted : ℕ)
    (extent : Extent) (ahead : Ahead) → IsWindowOf log 0 window left more → base ≡ 0 → BLANK_LENGTH < length window → (more ≡ true → FIRST_GATE + TWO_FRAMES ≤ length window)
    → entries ≡ [] → (bytes : List ℕ) → bytes ≡ window → Sees version bytes FIRST_GATE [] ahead extent → counted ≡ version
    → IsReadingIn version log damages base FIRST_GATE window left more entries damages counted extent ahead
begun_in version log damages base window left more entries counted extent ahead w first long far none bytes bytes_are seen same =
    let here = subst (λ b. Sees version b FIRST_GATE [] ahead extent) bytes_are seen in
    subst (λ b. IsReadingIn version log damages b FIRST_GATE window left more entries damages counted extent ahead) (sym first)
    (record {
      window_is = w;
      reading = read_begun version log damages entries counted extent ahead (long_there window log left more w long far) none
          (seen_there window log 0 left more w FIRST_GATE (omega (arith, long)) far version [] ahead extent here) same;
    })

module _ (version : ℕ) (log : List ℕ) (damages : List Damage) (base at : ℕ) (window : List ℕ) (left : Option (List ℕ)) (more : Bool) (entries : List Entry)
    (damages_now : List Damage) (counted : ℕ) (extent : Extent) (ahead : Ahead)
    (r : IsReadingIn version log damages base at window left more entries damages_now counted extent ahead) (inside : at < length window)
    (far : more ≡ true → at + TWO_FRAMES ≤ length window) where
  seen_in : Sees counted window at entries ahead extent
  seen_in =
      seen_here window log base left more r.window_is at inside far counted entries ahead extent
      (read_seen version log damages (base + at) entries damages_now counted extent ahead r.reading)

  -- a gate is passed, and the window goes on
  pub passed_in : (bytes : List ℕ) (told : ℕ) (now : List Entry) (after : List Damage) (further : Extent) (next : ℕ) (behind : Ahead) (counts base_now at_now : ℕ) (window_now : List ℕ)
      (left_now : Option (List ℕ)) (more_now : Bool) → bytes ≡ window
      → (Sees counted bytes at entries ahead extent → HasPassed counted bytes at told entries damages_now now after further next behind)
      → told ≡ base + at → counts ≡ counted → (IsWindowOf log base window left more → IsWindowOf log base_now window_now left_now more_now)
      → base_now + at_now ≡ base + next → IsReadingIn version log damages base_now at_now window_now left_now more_now now after counts further behind
  passed_in bytes told now after further next behind counts base_now at_now window_now left_now more_now bytes_are stepped here same on next_is = record {
    window_is = on r.window_is;
    reading = subst (λ p. IsReading version log damages p now after counts further behind) (sym next_is)
        (read_passed version log damages (base + at) entries damages_now counted extent ahead r.reading told now after further (base + next) behind counts
        (passed_there window log base left more r.window_is at inside far counted entries told damages_now now after further next behind
        (subst (λ b. HasPassed counted b at told entries damages_now now after further next behind) bytes_are
        (stepped (subst (λ b. Sees counted b at entries ahead extent) (sym bytes_are) seen_in)))) here same);
  }

  -- reading ends
  pub ended_in : (bytes : List ℕ) (told : ℕ) (now : List Entry) (after : List Damage) (why : Ending) → bytes ≡ window
      → (Sees counted bytes at entries ahead extent → HasEnded counted bytes at entries damages_now now after why) → told ≡ base + at
      → HasReadOn version log damages now after told why
  ended_in bytes told now after why bytes_are stepped here =
      let e : HasEnded counted window at entries damages_now now after why =
      subst (λ b. HasEnded counted b at entries damages_now now after why) bytes_are
      (stepped (subst (λ b. Sees counted b at entries ahead extent) (sym bytes_are) seen_in)) in
      subst (λ p. HasReadOn version log damages now after p why) (sym here)
      (read_ended version log damages (base + at) entries damages_now counted extent ahead r.reading now after why
      (ends_there window log base left more r.window_is at inside far counted entries why e.ends) e.now_is e.damages_are)

  pub comes_in : ComesBehind log base window left
  comes_in = let within = r.reading.within in record { within = omega (arith, within); comes = r.window_is.comes }

-- all of a log that isn't blank, of which the first bytes were in a window
pub sound_in : (log window : List ℕ) (left : Option (List ℕ)) (more : Bool) (version named : ℕ) (wrong : Option ℕ) (is_named : Bool) (first : List Damage) (entries : List Entry)
    (noted damages : List Damage) (end : ℕ) (why : Ending) (bytes : ℕ) → IsWindowOf log 0 window left more → BLANK_LENGTH < length window
    → (more ≡ true → FIRST_GATE + TWO_FRAMES ≤ length window) → IsReadAs window version → wrong ≡ header_fault window → named ≡ version_of_header window
    → is_named ≡ (named == version) → first ≡ wrong_header wrong is_named → HasReadOn version log first entries noted end why → bytes ≡ length log
    → damages ≡ noted ++ ending_damage end why bytes → IsSoundOf log (record { entries = entries; damages = damages; end = end })
sound_in log window left more version named wrong is_named first entries noted damages end why bytes w long far read wrong_is named_is is_named_is first_is on bytes_is all_are =
    sound_long log version named wrong is_named first entries noted damages end why (long_there window log left more w long far)
    (read_there window log left more w long far version read) (wrong_is ∙ sym (wrong_there window log left more w long far))
    (named_is ∙ sym (named_there window log left more w long far)) is_named_is first_is on (all_are ∙ ap (λ n. noted ++ ending_damage end why n) bytes_is)

-- the first window, as it was filled
pub window_begun : (window filled log : List ℕ) (left left_now : Option (List ℕ)) (more : Bool) (count : ℕ) → Comes window left log
    → ((b : List ℕ) → Comes window left b → Comes filled left_now b) → (more ≡ false → (b : List ℕ) → Comes window left b → (b ≡ filled) × (length b < count))
    → IsWindowOf log 0 filled left_now more
window_begun window filled log left left_now more count comes fills ends = record { comes = fills log comes; all = λ none. (ends none log comes).0 }

-- one that is short is all of the log
pub window_short : (window filled log : List ℕ) (left : Option (List ℕ)) (more : Bool) (count : ℕ) → Comes window left log
    → (more ≡ false → (b : List ℕ) → Comes window left b → (b ≡ filled) × (length b < count)) → (more ≡ true → count ≤ length filled) → length filled < count → log ≡ filled
window_short window filled log left true count comes ends far short = let enough = far refl in absurd (omega (arith, enough, short))
window_short window filled log left false count comes ends far short = (ends refl log comes).0
