-- A frame as it is committed: its payload, and the catalogue behind it.
use Rattle.std.proofs.Common.{◌≡◌, ◌≢◌, ℕ, ◌≤◌, false, List, [], ◌∷◌, ◌++◌, length, Option, Some, None, is_some, refl, sym, ap, subst, ◌∙◌, arith}
use Rattle.std.specs.List.{All}
use Rattle.std.specs.declared.snapshot.Snapshot.{Snapshot}
use Rattle.marc_types.specs.declared.entry.Entry.{Entry}
use Rattle.outside.specs.Disk.{DiskView, LeavesOnly}
use Rattle.commit_journal.specs.declared.version.Version.{Version}
use Rattle.commit_journal.specs.declared.version.Version.TheVariants.{Two}
use Rattle.commit_journal.specs.Versions.{number_of}
use Rattle.commit_journal.specs.declared.frame.Frame.{Frame}
use Rattle.commit_journal.specs.Journal as journal
use Rattle.commit_journal.specs.Journal.{IsDurableLog}
use Rattle.catalogue_core.specs.Catalogues.{Catalogued, with_kept, without_staged}
use Rattle.entry_history.specs.Batches.{IsBatch, batch_payload}
use Rattle.entry_history.specs.Payloads.{IsEntry, CanFollow, Holds, Newer}
use Rattle.durable_catalogue.specs.Durables.{mark_of, marked, IsKept}
use Rattle.durable_catalogue.specs.Images.{HasCommitOrNot}
use Rattle.durable_catalogue.specs.Staged.{with_all_staged}
use Rattle.durable_catalogue.proofs.Histories.{batch_held}
use Rattle.durable_catalogue.proofs.Keeping.{IsDisk, frame_or_not}

pub no_mark : (mark : Option (Snapshot (List Entry))) → is_some mark ≡ false → mark_of mark ≡ None
no_mark None whole = refl
no_mark (Some frame) whole = cc

pub no_mark_was : (mark : Option (Snapshot (List Entry))) → mark_of mark ≡ None → mark ≡ None
no_mark_was None none = refl
no_mark_was (Some frame) none = cc

pub none_marked : (mark : Option (Snapshot (List Entry))) → is_some mark ≡ false → marked (mark_of mark) ≡ []
none_marked mark whole = ap marked (no_mark mark whole)

some_entries : (frame : List Entry) → frame ≢ [] → 1 ≤ length frame
some_entries [] some = absurd (some refl)
some_entries (e ∷ es) some = omega arith

-- the payload holds the frame's entries
pub frame_held : (entries frame : List Entry) (payload : List ℕ) (run : ℕ) → CanFollow entries run → frame ≢ [] → IsBatch frame → All IsEntry frame
    → All (λ e. e.run ≡ run) frame → payload ≡ batch_payload frame → Holds 2 entries frame payload
frame_held entries frame payload run follows some batch each runs is =
    subst (λ p. Holds 2 entries frame p) (sym is) (Newer refl (batch_held entries frame run follows (some_entries frame some) batch each runs))

-- staged entries that are kept, and those that are dropped
pub kept_now : (core staged now : Catalogued) (items frame : List Entry) → core.staged ≡ [] → items ≡ frame → staged ≡ with_all_staged core items → now ≡ with_kept staged
    → now ≡ record { history = core.history ++ frame; staged = []; limits = core.limits }
kept_now core staged now items frame unstaged is stages keeps =
    keeps ∙ ap with_kept stages ∙ ap (λ es. record { history = core.history ++ (es ++ items); staged = []; limits = core.limits }) unstaged
    ∙ ap (λ es. record { history = core.history ++ es; staged = []; limits = core.limits }) is

pub undone_now : (core staged now : Catalogued) (items : List Entry) → core.staged ≡ [] → staged ≡ with_all_staged core items → now ≡ without_staged staged → now ≡ core
undone_now core staged now items unstaged stages undoes = undoes ∙ ap without_staged stages ∙ ap (λ es. record core { staged = es }) (sym unstaged)

-- what the append of a frame finds: a catalogue without a mark over a settled disk, and a payload that holds the frame's entries
pub record FindsFrame (opened : ℕ) (entries more : List Entry) (before first old : DiskView) (frame : Frame) : Type 0 where
  pub kept : IsKept opened entries [] before first old
  pub disk : IsDisk old
  pub settled : IsDurableLog frame.gate 2 old
  pub payload_is : frame.payload ≡ batch_payload more
  pub held : Holds 2 entries more frame.payload

pub finds_frame : (opened : ℕ) (entries more given : List Entry) (mark : Option (Snapshot (List Entry))) (run place : ℕ) (version : Version) (payload : List ℕ)
    (before first old : DiskView) → is_some mark ≡ false → IsKept opened entries (marked (mark_of mark)) before first old
    → ((b : List ℕ) → old.content ≡ Some b → old.image b) → ((c : List ℕ) → old.left old.moment c → old.image c)
    → IsDurableLog place (number_of version) old → version ≡ Two → CanFollow entries run → more ≢ [] → IsBatch more → given ≡ more → All IsEntry given
    → All (λ e. e.run ≡ run) more → payload ≡ batch_payload more
    → FindsFrame opened entries more before first old (record { gate = place; payload = payload })
finds_frame opened entries more given mark run place version payload before first old whole kept image only settled newest follows some batch same each runs is = record {
  kept = subst (λ es. IsKept opened entries es before first old) (none_marked mark whole) kept;
  disk = record { content_is_image = image; only_now = only };
  settled = subst (λ v. IsDurableLog place (number_of v) old) newest settled;
  payload_is = is;
  held = frame_held entries more payload run follows some batch (subst (All IsEntry) same each) runs is;
}

-- what the append leaves, in the words of entries
pub frame_left : (opened : ℕ) (entries more : List Entry) (before first old new : DiskView) (frame : Frame) → FindsFrame opened entries more before first old frame
    → (log : List ℕ) → old.content ≡ Some log → LeavesOnly old new (journal.HasFrameOrNot log frame) → LeavesOnly old new (HasCommitOrNot entries more log)
frame_left opened entries more before first old new frame finds log told leaves =
    frame_or_not opened entries before first old finds.kept finds.disk frame.gate finds.settled frame more finds.held new log told finds.payload_is leaves
