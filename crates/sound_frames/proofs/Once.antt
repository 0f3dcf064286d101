-- What is sound of a log is one thing.
use Rattle.std.proofs.Common.{◌≡◌, ◌∙◌, ℕ, true, false, true≢false, List, [], ◌++◌, sym, subst, arith}
use Rattle.marc_types.specs.declared.entry.Entry.{Entry}
use Rattle.commit_journal.specs.declared.format.TheConstants.{FIRST_GATE}
use Rattle.commit_journal.specs.Log.{payload_of}
use Rattle.entry_history.proofs.Histories.{holds_once}
use Rattle.sound_frames.specs.declared.damage.Damage.{Damage}
use Rattle.sound_frames.specs.Sound.{behind_gate, next_gate, gate_damage, header_damage, IsSound, MayPass, Ends, Closed, Unframed, Invalid, SoundPart, behind, IsSoundFrom, End, Pass, IsReadAs, Newer, Older, Neither, IsSoundOf, Blank, Long}

module _ (version : ℕ) (log : List ℕ) where
  frame_once : (place : ℕ) (before es fs : List Entry) → IsSound version log place before es → IsSound version log place before fs → es ≡ fs
  frame_once place before es fs p q = holds_once version before es fs (payload_of (behind_gate log place)) p.valid q.valid

  -- a gate at which reading ends isn't passed
  not_both : (place : ℕ) (before : List Entry) (damages : List Damage) (entries : List Entry) → Ends version log place before damages
      → IsSound version log place before entries → MayPass version log place (before ++ entries) → ⊥
  not_both place before damages entries (Closed shut none is) sound may = let m = may shut in none entries sound m.0 m.1
  not_both place before damages entries (Unframed unshut lacks is) sound may = true≢false (sym sound.whole ∙ lacks)
  not_both place before damages entries (Invalid unshut has none is) sound may = none entries sound

  ends_once : (place : ℕ) (before : List Entry) (one other : List Damage) → Ends version log place before one → Ends version log place before other → one ≡ other
  ends_once place before one other (Closed shut none is) (Closed also too js) = is ∙ sym js
  ends_once place before one other (Closed shut none is) (Unframed unshut lacks js) = absurd (true≢false (sym shut ∙ unshut))
  ends_once place before one other (Closed shut none is) (Invalid unshut has lacks js) = absurd (true≢false (sym shut ∙ unshut))
  ends_once place before one other (Unframed unshut lacks is) (Closed shut none js) = absurd (true≢false (sym shut ∙ unshut))
  ends_once place before one other (Unframed unshut lacks is) (Unframed also too js) = is ∙ sym js
  ends_once place before one other (Unframed unshut lacks is) (Invalid also has none js) = absurd (true≢false (sym has ∙ lacks))
  ends_once place before one other (Invalid unshut has none is) (Closed shut lacks js) = absurd (true≢false (sym shut ∙ unshut))
  ends_once place before one other (Invalid unshut has none is) (Unframed also lacks js) = absurd (true≢false (sym has ∙ lacks))
  ends_once place before one other (Invalid unshut has none is) (Invalid also too lacks js) = is ∙ sym js

from_once : (version : ℕ) (log : List ℕ) {place : ℕ} {before : List Entry} {s t : SoundPart} → IsSoundFrom version log place before s → IsSoundFrom version log place before t → s ≡ t
from_once version log (End place before s one ends is) (End _ _ t other also js) =
    let same : one ≡ other = ends_once version log place before one other ends also in
    is ∙ (λ i. record { entries = []; damages = same i; end = place }) ∙ sym js
from_once version log (End place before s one ends is) (Pass _ _ t entries more sound may from js) = absurd (not_both version log place before one entries ends sound may)
from_once version log (Pass place before s entries more sound may from is) (End _ _ t one ends js) = absurd (not_both version log place before one entries ends sound may)
from_once version log (Pass place before s es more sound may from is) (Pass _ _ t fs others also too on js) =
    let same : es ≡ fs = frame_once version log place before es fs sound also in
    let moved : IsSoundFrom version log (next_gate log place) (before ++ es) others =
    subst (λ xs. IsSoundFrom version log (next_gate log place) (before ++ xs) others) (sym same) on in
    let rest : more ≡ others = from_once version log from moved in
    is ∙ (λ i. behind (same i) (gate_damage log place) (rest i)) ∙ sym js

reads_once : (log : List ℕ) (v w : ℕ) → IsReadAs log v → IsReadAs log w → v ≡ w
reads_once log v w (Newer es s is) (Newer fs t js) = is ∙ sym js
reads_once log v w (Newer es s is) (Older fs none t js) = absurd (none es s)
reads_once log v w (Newer es s is) (Neither none lacks js) = absurd (none es s)
reads_once log v w (Older es none s is) (Newer fs t js) = absurd (none fs t)
reads_once log v w (Older es none s is) (Older fs lacks t js) = is ∙ sym js
reads_once log v w (Older es none s is) (Neither lacks nor js) = absurd (nor es s)
reads_once log v w (Neither none lacks is) (Newer fs t js) = absurd (none fs t)
reads_once log v w (Neither none lacks is) (Older fs nor t js) = absurd (lacks fs t)
reads_once log v w (Neither none lacks is) (Neither nor neither js) = is ∙ sym js

pub sound_once : (log : List ℕ) (s t : SoundPart) → IsSoundOf log s → IsSoundOf log t → s ≡ t
sound_once log s t (Blank short is) (Blank also js) = is ∙ sym js
sound_once log s t (Blank short is) (Long v more long read from js) = absurd (omega (arith, short, long))
sound_once log s t (Long v more long read from is) (Blank short js) = absurd (omega (arith, short, long))
sound_once log s t (Long v more long read from is) (Long w others also too on js) =
    let same : v ≡ w = reads_once log v w read too in
    let moved : IsSoundFrom v log FIRST_GATE [] others = subst (λ x. IsSoundFrom x log FIRST_GATE [] others) (sym same) on in
    let rest : more ≡ others = from_once v log from moved in
    is ∙ (λ i. behind [] (header_damage (same i) log) (rest i)) ∙ sym js
