-- How a step ends.
use Rattle.std.proofs.Common.{◌≡◌, ◌∙◌, if◌then◌else◌, ℕ, ◌<◌, Bool, true, false, true≢false, List, ◌++◌, length, Option, refl, sym, ap, subst}
use Rattle.std.specs.Prelude.{Vec}
use Rattle.std.specs.declared.alloc.Global.{Global}
use Rattle.marc_types.specs.declared.entry.Entry.{Entry}
use Rattle.entry_history.specs.declared.extent.Extent.{Extent}
use Rattle.sound_frames.specs.declared.damage.Damage.{Damage}
use Rattle.sound_frames.specs.declared.looking.Ahead.{Ahead}
use Rattle.sound_frames.specs.declared.looking.Ahead.TheVariants.{NoFrame, NotValid, Sound}
use Rattle.sound_frames.specs.declared.stepping.Ending.{Ending}
use Rattle.sound_frames.specs.declared.stepping.Ending.TheVariants as ending
use Rattle.commit_journal.specs.Log.{has_frame, payload_of}
use Rattle.entry_history.proofs.Histories.{holds_once}
use Rattle.sound_frames.specs.Sound.{is_closed_gate, behind_gate, next_gate, closed_damage, IsSound, HasNone, HasNoTwo, MayPass}
use Rattle.sound_frames.specs.Looking.{Sees, IsSoundAhead, EndsBy, as_list, HasEnded, HasPassed}

-- why reading ends, at a gate behind which nothing sound was seen
ends_either : (version : ℕ) (log : List ℕ) (place : ℕ) (before : List Entry) (b : Bool) (why other : Ending) → b ≡ is_closed_gate log place → why ≡ (if b then ending.Closed else other)
    → (is_closed_gate log place ≡ true → HasNoTwo version log place before) → (is_closed_gate log place ≡ false → EndsBy version log place before other)
    → EndsBy version log place before why
ends_either version log place before true why other is why_is shut unshut = subst (EndsBy version log place before) (sym why_is) (sym is, shut (sym is))
ends_either version log place before false why other is why_is shut unshut = subst (EndsBy version log place before) (sym why_is) (unshut (sym is))

module _ (version : ℕ) (log : List ℕ) (place : ℕ) (before : List Entry) (damages : List Damage) (b : Bool) (why : Ending) (is : b ≡ is_closed_gate log place)
    (extent : Extent) where
  pub ended_unframed : Sees version log place before NoFrame extent → why ≡ (if b then ending.Closed else ending.NoFrame)
      → HasEnded version log place before damages before damages why
  ended_unframed seen why_is = record {
    ends = ends_either version log place before b why ending.NoFrame is why_is
        (λ shut entries sound. absurd (true≢false (sym sound.whole ∙ seen.0))) (λ unshut. (unshut, seen.0));
    now_is = refl;
    damages_are = refl;
  }

  pub ended_invalid : Sees version log place before NotValid extent → why ≡ (if b then ending.Closed else ending.NotValid)
      → HasEnded version log place before damages before damages why
  ended_invalid seen why_is = record {
    ends = ends_either version log place before b why ending.NotValid is why_is
        (λ shut entries sound. absurd (seen.1 entries sound)) (λ unshut. (unshut, seen.0, seen.1));
    now_is = refl;
    damages_are = refl;
  }

-- behind a closed gate's frame nothing sound was seen
module _ (version : ℕ) (log : List ℕ) (place : ℕ) (before items : List Entry) (sound : IsSound version log place before items) where
  none_behind : (behind : Ahead) (extent : Extent) → Sees version log (next_gate log place) (before ++ items) behind extent → (IsSoundAhead behind → ⊥)
      → HasNone version log (next_gate log place) (before ++ items)
  none_behind NoFrame extent seen none others other = true≢false (sym other.whole ∙ seen.0)
  none_behind NotValid extent seen none others other = seen.1 others other
  none_behind (Sound more) extent seen none others other = none tt

  pub no_second : (behind : Ahead) (extent : Extent) → Sees version log (next_gate log place) (before ++ items) behind extent → (IsSoundAhead behind → ⊥)
      → HasNoTwo version log place before
  no_second behind extent seen none entries also =
      let same : entries ≡ items = holds_once version before entries items (payload_of (behind_gate log place)) also.valid sound.valid in
      subst (λ es. HasNone version log (next_gate log place) (before ++ es)) (sym same) (none_behind behind extent seen none)

  -- one behind whose frame something sound was seen may be passed
  pub may_pass : (behind : Ahead) (extent : Extent) → Sees version log (next_gate log place) (before ++ items) behind extent → (is_closed_gate log place ≡ true → IsSoundAhead behind)
      → MayPass version log place (before ++ items)
  may_pass NoFrame extent seen is shut = absurd (is shut)
  may_pass NotValid extent seen is shut = absurd (is shut)
  may_pass (Sound more) extent seen is shut = (more.items, seen.0)

-- what a step comes to
pub ended_second : (version : ℕ) (log : List ℕ) (place : ℕ) (before : List Entry) (damages : List Damage) (items : Vec Entry Global) (extent : Extent)
    → Sees version log place before (Sound items) extent → (next : ℕ) (behind : Ahead) (further : Extent) → next ≡ next_gate log place
    → Sees version log next (before ++ items.items) behind further → is_closed_gate log place ≡ true → (IsSoundAhead behind → ⊥)
    → HasEnded version log place before damages before damages ending.Closed
ended_second version log place before damages items extent seen next behind further next_is behind_seen shut none =
    let there : Sees version log (next_gate log place) (before ++ items.items) behind further = subst (λ p. Sees version log p (before ++ items.items) behind further) next_is behind_seen in
    record { ends = (shut, no_second version log place before items.items seen.0 behind further there none); now_is = refl; damages_are = refl }

-- a sound frame was seen, so one stands there
pub framed_after : (version : ℕ) (log : List ℕ) (place : ℕ) (before : List Entry) (items : Vec Entry Global) (extent : Extent) → Sees version log place before (Sound items) extent
    → has_frame (behind_gate log place) ≡ false → ⊥
framed_after version log place before items extent seen none = true≢false (sym seen.0.whole ∙ none)

pub passed_on : (version : ℕ) (log : List ℕ) (place told : ℕ) (before : List Entry) (damages : List Damage) (items : Vec Entry Global) (extent : Extent)
    → Sees version log place before (Sound items) extent → (now : List Entry) (damages_now : List Damage) (gate : Option Damage) (b : Bool) (next : ℕ) (behind : Ahead) (further : Extent)
    → Sees version log next (before ++ items.items) behind further → b ≡ is_closed_gate log place → (b ≡ true → IsSoundAhead behind)
    → now ≡ before ++ items.items → damages_now ≡ damages ++ as_list gate → as_list gate ≡ closed_damage b told → next ≡ next_gate log place → next < length log → place < next
    → HasPassed version log place told before damages now damages_now further next behind
passed_on version log place told before damages items extent seen now damages_now gate b next behind further behind_seen is sound now_is damages_are gate_is next_is within beyond =
    let there : Sees version log (next_gate log place) (before ++ items.items) behind further = subst (λ p. Sees version log p (before ++ items.items) behind further) next_is behind_seen in
    record {
      entries = items.items;
      sound = seen.0;
      may = may_pass version log place before items.items seen.0 behind further there (λ shut. sound (is ∙ shut));
      now_is = now_is;
      gate = damages_are ∙ ap (λ d. damages ++ d) (gate_is ∙ ap (λ c. closed_damage c told) is);
      next_is = next_is;
      within = within;
      further = beyond;
      seen = subst (λ es. Sees version log next es behind further) (sym now_is) behind_seen;
    }
