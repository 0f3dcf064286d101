-- The version as which a log is read.
use Rattle.std.proofs.Common.{◌≡◌, ◌∙◌, ℕ, Bool, true, false, true≢false, List, [], refl, sym, subst}
use Rattle.std.specs.Prelude.{IsTrue, ◌↔◌}
use Rattle.commit_journal.specs.declared.format.TheConstants.{FIRST_GATE}
use Rattle.entry_history.specs.declared.extent.Extent.{Extent}
use Rattle.sound_frames.specs.declared.looking.Ahead.{Ahead}
use Rattle.sound_frames.specs.declared.looking.Ahead.TheVariants.{NoFrame, NotValid, Sound}
use Rattle.sound_frames.specs.Looking.{Sees, IsSoundAhead, BeginsAs}

begins_so : (version : ℕ) (log : List ℕ) (ahead : Ahead) (extent : Extent) (b : Bool) → Sees version log FIRST_GATE [] ahead extent → (IsTrue b ↔ IsSoundAhead ahead) → BeginsAs version log b
begins_so version log NoFrame extent true seen told = absurd (told.0 refl)
begins_so version log NoFrame extent false seen told = λ entries sound. true≢false (sym sound.whole ∙ seen.0)
begins_so version log NotValid extent true seen told = absurd (told.0 refl)
begins_so version log NotValid extent false seen told = seen.1
begins_so version log (Sound items) extent true seen told = (items.items, seen.0)
begins_so version log (Sound items) extent false seen told = absurd (true≢false (sym (told.1 tt)))

pub begins : (version counted : ℕ) (log : List ℕ) (ahead : Ahead) (extent : Extent) (b : Bool) → counted ≡ version → Sees counted log FIRST_GATE [] ahead extent
    → (IsTrue b ↔ IsSoundAhead ahead) → BeginsAs version log b
begins version counted log ahead extent b same seen told =
    begins_so version log ahead extent b (subst (λ v. Sees v log FIRST_GATE [] ahead extent) same seen) told
