-- What a catalogue over a disk keeps as its disk changes.
use Rattle.std.proofs.Common.{◌≡◌, ◌⊎◌, inl, inr, ℕ, ◌+◌, ◌≤◌, true, List, [], ◌++◌, length, take, Option, Some, None, is_some, refl, sym, ap, subst, ◌∙◌, arith, length-append}
use Rattle.std.proofs.Math.Logic.{∥∥₁_map}
use Rattle.std.proofs.lemmas.List.{take-append-le}
use Rattle.marc_types.specs.declared.entry.Entry.{Entry}
use Rattle.marc_types.specs.declared.entry.Limits.{Limits}
use Rattle.outside.specs.Disk.{DiskView, OnlyContent, LeavesOnly}
use Rattle.commit_journal.specs.declared.frame.Frame.{Frame}
use Rattle.commit_journal.specs.declared.format.TheConstants.{LENGTH_BYTES}
use Rattle.commit_journal.specs.Log.{frames_of, version_of}
use Rattle.commit_journal.specs.Journal as journal
use Rattle.commit_journal.specs.Journal.{and_frame, Continues, IsDurableLog}
use Rattle.commit_journal.proofs.Logs.{version_two}
use Rattle.entry_record.specs.History.{IsWithin}
use Rattle.entry_history.specs.Batches.{batch_payload}
use Rattle.entry_history.specs.Payloads.{Holds}
use Rattle.durable_catalogue.specs.Logs.{IsLogOf, HasHistory}
use Rattle.durable_catalogue.specs.Images.{Reaches, HasCommitOrNot, framed_lengths}
use Rattle.durable_catalogue.specs.Durables.{IsKept, IsLeft, opening}
use Rattle.durable_catalogue.proofs.Framed.{framed_append, held_together}
use Rattle.durable_catalogue.proofs.Readings.{either_reading, longer_reading}
use Rattle.durable_catalogue.proofs.Images.{holds_newest, front_of, front_reaches, front_longer, whole_front, whole_is, either_reaches, either_front}

pub some_of : {A : Type 0} (o : Option A) → is_some o ≡ true → (x : A) × (o ≡ Some x)
some_of None is = cc
some_of (Some x) is = (x, refl)

-- a disk's view, and what it keeps by being a disk
pub record IsDisk (disk : DiskView) : Type 0 where
  pub content_is_image : (b : List ℕ) → disk.content ≡ Some b → disk.image b
  pub only_now : (c : List ℕ) → disk.left disk.moment c → disk.image c

module _ (opened : ℕ) (entries : List Entry) (before first old : DiskView) (kept : IsKept opened entries [] before first old) (disk : IsDisk old) where
  told_before : (log : List ℕ) → old.content ≡ Some log → is_some before.content ≡ true
  told_before log told = sym kept.tells ∙ ap is_some told

  -- the content has the history
  pub told_history : (log : List ℕ) → old.content ≡ Some log → HasHistory entries log
  told_history log told =
      ∥∥₁_map (kept.images log (told_before log told) (disk.content_is_image log told)) (λ r. whole_is entries log (front_of (length entries) entries log r))

  -- and is of version 2
  told_newest : (log : List ℕ) → old.content ≡ Some log → version_of log ≡ 2
  told_newest log told = holds_newest (length entries) entries [] log (kept.images log (told_before log told) (disk.content_is_image log told))

  told_now : is_some before.content ≡ true → (log : List ℕ) × (old.content ≡ Some log)
  told_now told = some_of old.content (kept.tells ∙ told)

  module _ (place : ℕ) (settled : IsDurableLog place 2 old) (frame : Frame) (more : List Entry) (held : Holds 2 entries more frame.payload) where
    held_in : (log : List ℕ) → old.content ≡ Some log → Holds (version_of log) entries more frame.payload
    held_in log told = subst (λ v. Holds v entries more frame.payload) (sym (version_two log (settled.header log told))) held

    -- an image that an append leaves
    pub left_either : (log c : List ℕ) → old.content ≡ Some log → journal.HasFrameOrNot log frame c → ∥ IsLogOf entries c ⊎ IsLogOf (entries ++ more) c ∥₁
    left_either log c told left = ∥∥₁_map (told_history log told) (λ is. either_reading entries more log c frame (held_in log told) left is)

    left_newest : (log c : List ℕ) → old.content ≡ Some log → journal.HasFrameOrNot log frame c → version_of c ≡ 2
    left_newest log c told left = left.version ∙ version_two log (settled.header log told)

    -- it is no longer than what the opening left, with a frame for each entry since then
    no_longer : (log c : List ℕ) → old.content ≡ Some log → journal.HasFrameOrNot log frame c
        → length c + framed_lengths (take opened entries) ≤ first.len + framed_lengths (entries ++ more)
    no_longer log c told left =
        omega (
          arith,
          kept.longest log (told_before log told) (disk.content_is_image log told),
          left.no_longer,
          held_together entries more frame.payload held,
          framed_append entries [],
          framed_append entries more,
        )

    module _ (new : DiskView) (continues : Continues old new) (bounded : (s : ℕ) → first.synced before.moment ≡ Some s → s ≤ first.moment)
        (leaves : (log : List ℕ) → old.content ≡ Some log → LeavesOnly old new (journal.HasFrameOrNot log frame)) (later : old.faults ≤ new.faults) where
      tells_still : is_some new.content ≡ is_some before.content
      tells_still = continues.tells ∙ kept.tells

      syncs_still : (s : ℕ) → first.synced before.moment ≡ Some s → new.synced before.moment ≡ Some s
      syncs_still s synced = continues.syncs before.moment s (omega (arith, kept.began, kept.later)) (kept.syncs s synced)

      since_then : (s : ℕ) → first.synced before.moment ≡ Some s → s ≤ old.moment
      since_then s synced = omega (arith, bounded s synced, kept.later)

      -- a failed append marks the entries of its frame
      pub kept_marked : IsKept opened entries more before first new
      kept_marked = record {
        images = λ c told image. let now = told_now told in left_reaches now.0 c (length entries) (omega arith) now.1 ((leaves now.0 now.1).now c image);
        since = λ s c told synced left.
            let now = told_now told in
            since_left c (left_reaches now.0 c opened kept.opened_is now.1) (kept.since s c told synced) ((leaves now.0 now.1).since s c (since_then s synced) left);
        longest = λ c told image. let now = told_now told in no_longer now.0 c now.1 ((leaves now.0 now.1).now c image);
        syncs = syncs_still;
        tells = tells_still;
        dated = continues.dated ∙ kept.dated;
        faults = omega (arith, kept.faults, later);
        began = kept.began;
        later = omega (arith, kept.later, continues.later);
        opened_is = kept.opened_is;
      }
        where
          left_reaches : (log c : List ℕ) (least : ℕ) → least ≤ length entries → old.content ≡ Some log → journal.HasFrameOrNot log frame c → ∥ Reaches least entries more c ∥₁
          left_reaches log c least within told left = ∥∥₁_map (left_either log c told left) (either_reaches least entries more c within (left_newest log c told left))

          since_left : (c : List ℕ) {P Q : Type 0} → (Q → ∥ Reaches opened entries more c ∥₁) → (P → ∥ Reaches opened entries [] c ∥₁) → P ⊎ Q → ∥ Reaches opened entries more c ∥₁
          since_left c now earlier (inl was) = ∥∥₁_map (earlier was) (λ r. front_reaches opened entries more c (front_of opened entries c r))
          since_left c now earlier (inr is) = now is

      -- an append that succeeded commits them
      pub kept_committed : (next : ℕ) → IsDurableLog next 2 new
          → ((b c : List ℕ) → old.content ≡ Some b → new.content ≡ Some c → frames_of c ≡ and_frame (frames_of b) frame)
          → IsKept opened (entries ++ more) [] before first new
      kept_committed next now_settled appended = record {
        images = λ c told image.
            let was = told_now told in
            let now = some_of new.content (tells_still ∙ told) in
            let is : c ≡ now.0 = now_settled.only now.0 c now.1 image in
            let newest = version_two now.0 (now_settled.header now.0 now.1) in
            let version : version_of now.0 ≡ version_of was.0 = newest ∙ sym (version_two was.0 (settled.header was.0 was.1)) in
            ∥∥₁_map (told_history was.0 was.1) (λ reading.
            subst (λ image. Reaches (length (entries ++ more)) (entries ++ more) [] image) (sym is)
            (front_reaches (length (entries ++ more)) (entries ++ more) [] now.0
            (whole_front (length (entries ++ more)) (entries ++ more) now.0 (omega arith) newest
            (longer_reading entries more was.0 now.0 frame (appended was.0 now.0 was.1 now.1) version (held_in was.0 was.1) reading))));
        since = λ s c told synced left.
            let now = told_now told in
            since_left c (left_front now.0 c now.1) (kept.since s c told synced) ((leaves now.0 now.1).since s c (since_then s synced) left);
        longest = λ c told image.
            let now = told_now told in
            let bound = no_longer now.0 c now.1 ((leaves now.0 now.1).now c image) in
            omega (arith, bound, ap framed_lengths (take-append-le opened entries more kept.opened_is), framed_append (entries ++ more) []);
        syncs = syncs_still;
        tells = tells_still;
        dated = continues.dated ∙ kept.dated;
        faults = omega (arith, kept.faults, later);
        began = kept.began;
        later = omega (arith, kept.later, continues.later);
        opened_is = omega (arith, kept.opened_is, length-append entries more);
      }
        where
          left_front : (log c : List ℕ) → old.content ≡ Some log → journal.HasFrameOrNot log frame c → ∥ Reaches opened (entries ++ more) [] c ∥₁
          left_front log c told left =
              ∥∥₁_map (left_either log c told left) (λ either.
              front_reaches opened (entries ++ more) [] c (either_front opened entries more c kept.opened_is (left_newest log c told left) either))

          since_left : (c : List ℕ) {P Q : Type 0} → (Q → ∥ Reaches opened (entries ++ more) [] c ∥₁) → (P → ∥ Reaches opened entries [] c ∥₁)
              → P ⊎ Q → ∥ Reaches opened (entries ++ more) [] c ∥₁
          since_left c now earlier (inl was) = ∥∥₁_map (earlier was) (λ r. front_reaches opened (entries ++ more) [] c (front_longer opened entries more c (front_of opened entries c r)))
          since_left c now earlier (inr is) = now is

    -- what an append leaves, in the words of entries
    pub frame_or_not : (new : DiskView) (log : List ℕ) → old.content ≡ Some log → frame.payload ≡ batch_payload more
        → LeavesOnly old new (journal.HasFrameOrNot log frame) → LeavesOnly old new (HasCommitOrNot entries more log)
    frame_or_not new log told payload leaves = record {
      now = λ c image. told_left c (leaves.now c image);
      each = λ c left. told_left c (leaves.each c left);
      since = λ t c before_now left. or_left c (leaves.since t c before_now left);
    }
      where
        told_left : (c : List ℕ) → journal.HasFrameOrNot log frame c → HasCommitOrNot entries more log c
        told_left c left = record {
          history = left_either log c told left;
          newest = left_newest log c told left;
          no_longer = subst (λ p. length c ≤ length log + LENGTH_BYTES + length p + 1) payload left.no_longer;
        }

        or_left : (c : List ℕ) {P : Type 0} → P ⊎ journal.HasFrameOrNot log frame c → P ⊎ HasCommitOrNot entries more log c
        or_left c (inl was) = inl was
        or_left c (inr is) = inr (told_left c is)

  -- a disk that nobody called
  pub still_only : (log : List ℕ) (more : List Entry) → OnlyContent old → old.content ≡ Some log → LeavesOnly old old (HasCommitOrNot entries more log)
  still_only log more only told = record {
    now = λ c image. still c (only log c told image);
    each = λ c left. still c (only log c told (disk.only_now c left));
    since = λ t c before_now left. inl left;
  }
    where
      still : (c : List ℕ) → c ≡ log → HasCommitOrNot entries more log c
      still c is = record {
        history = ∥∥₁_map (subst (HasHistory entries) (sym is) (told_history log told)) (λ reading. inl reading);
        newest = ap version_of is ∙ told_newest log told;
        no_longer = omega (arith, ap length is);
      }

-- with no mark, each image has the history
pub each_image : (opened : ℕ) (entries more : List Entry) (before first now : DiskView) → more ≡ [] → IsKept opened entries more before first now
    → (log c : List ℕ) → now.content ≡ Some log → now.image c → HasHistory entries c
each_image opened entries more before first now none kept log c told image =
    let unmarked : IsKept opened entries [] before first now = subst (λ es. IsKept opened entries es before first now) none kept in
    ∥∥₁_map (unmarked.images c (sym unmarked.tells ∙ ap is_some told) image) (λ r. whole_is entries c (front_of (length entries) entries c r))

-- what is kept of a disk, in the words of its opening
pub left_of : (limits : Limits) (run opened : ℕ) (entries more : List Entry) (before first now : DiskView) → IsKept opened entries more before first now
    → IsWithin limits (entries ++ more) → IsLeft (opening limits run opened before first) entries more now
left_of limits run opened entries more before first now kept within = record {
  images = λ c told image. kept.images c told image;
  since = λ s c told synced left. kept.since s c told synced left;
  longest = λ c told image. kept.longest c told image;
  syncs = kept.syncs;
  tells = kept.tells;
  dated = kept.dated;
  faults = kept.faults;
  opened_is = kept.opened_is;
  within = within;
}
