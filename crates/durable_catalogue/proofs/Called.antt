-- Calls of a catalogue over a journal, one after another.
use Rattle.std.proofs.Common.{◌≡◌, ◌⊎◌, inl, inr, ℕ, ◌≤◌, true, List, [], ◌++◌, is_some, refl, sym, ap, ◌∙◌, arith, append_assoc}
use Rattle.std.proofs.Math.Logic.{∥∥₁_map}
use Rattle.std.proofs.lemmas.List.{append-nil}
use Rattle.outside.specs.declared.disk.Disk.{Ghosts}
use Rattle.marc_types.specs.declared.entry.Entry.{Entry}
use Rattle.durable_catalogue.specs.declared.durable.Durable.{Durable}
use Rattle.durable_catalogue.specs.Durables.{mark_of, marked}
use Rattle.durable_catalogue.specs.Lasting.{StartsWith}
use Rattle.durable_catalogue.specs.Calls.{has_told, AreCalls, NoCall, OneCall}
use Rattle.durable_catalogue.proofs.Lastings.{reaches_starts, starts_before}

module _ {D : Type 0} {disk : Ghosts D} where
  -- what any number of calls leave
  pub record GoesFar (first now : Durable D disk) : Type 0 where
    pub added : List Entry
    pub now_is : now.core.history ≡ first.core.history ++ added
    pub told : has_told now ≡ has_told first
    pub later : (disk.seen first.journal.disk).moment ≤ (disk.seen now.journal.disk).moment

  pub far : (first now : Durable D disk) → AreCalls first now → GoesFar first now
  far first _ NoCall = record { added = []; now_is = sym (append-nil first.core.history); told = refl; later = omega arith }
  far first _ (OneCall old new calls call) =
      let before = far first old calls in
      let goes = call.goes_on in
      record {
        added = before.added ++ goes.added;
        now_is = goes.now_is ∙ ap (λ es. es ++ goes.added) before.now_is ∙ append_assoc first.core.history before.added goes.added;
        told = ap (λ d. is_some (disk.seen d.value).content) call.before ∙ before.told;
        later = omega (arith, before.later, goes.later);
      }

  -- an image now has all entries
  pub starts_now : (d : Durable D disk) (c : List ℕ) → has_told d ≡ true → (disk.seen d.journal.disk).image c → StartsWith d.core.history c
  starts_now d c told image = ∥∥₁_map (d.kept.images c told image) (reaches_starts d.core.history (marked (mark_of d.mark)) c)

  pub committed_now : (first now : Durable D disk) (c : List ℕ) → AreCalls first now → has_told first ≡ true → (disk.seen now.journal.disk).image c
      → StartsWith first.core.history c
  committed_now first now c calls told image =
      let goes = far first now calls in
      starts_before first.core.history goes.added now.core.history c goes.now_is (starts_now now c (goes.told ∙ told) image)

  -- and so has each that a crash may have left since
  pub committed_since : ((d : Durable D disk) (c : List ℕ) → (disk.seen d.journal.disk).left (disk.seen d.journal.disk).moment c → (disk.seen d.journal.disk).image c)
      → (first now : Durable D disk) (c : List ℕ) → AreCalls first now → has_told first ≡ true → (disk.seen now.journal.disk).left (disk.seen first.journal.disk).moment c
      → StartsWith first.core.history c
  committed_since only_now first _ c NoCall told left = starts_now first c told (only_now first c left)
  committed_since only_now first _ c (OneCall old new calls call) told left =
      let goes = far first old calls in
      either goes (committed_since only_now first old c calls told) (call.goes_on.since (disk.seen first.journal.disk).moment c (goes.told ∙ told) goes.later left)
    where
      either : GoesFar first old → ((disk.seen old.journal.disk).left (disk.seen first.journal.disk).moment c → StartsWith first.core.history c)
          → (disk.seen old.journal.disk).left (disk.seen first.journal.disk).moment c ⊎ StartsWith old.core.history c → StartsWith first.core.history c
      either goes before (inl was) = before was
      either goes before (inr is) = starts_before first.core.history goes.added old.core.history c goes.now_is is
