-- What keeps a loader's counts within 64 bits.
use Rattle.std.proofs.Common.{◌≡◌, ◌∙◌, ℕ, ◌+◌, ◌*◌, ◌≤◌, List, [], ◌∷◌, ◌++◌, length, Option, Some, None, ◌⊎◌, inl, inr, refl, sym, ap, subst, arith, length-append}
use Rattle.std.specs.List.{sum_by}
use Rattle.std.proofs.lemmas.List.Sums.{sum_by-cons}
use Rattle.marc_types.specs.declared.entry.Entry.{Entry}
use Rattle.marc_types.specs.declared.entry.Receipt.{Receipt}
use Rattle.marc_types.specs.declared.entry.CommitFault.{CommitFault}
use Rattle.marc_types.specs.declared.entry.CommitFault.TheVariants.{Full, NoMemory, DeviceFault, Broken}
use Rattle.entry_record.specs.History.{with_run}
use Rattle.catalogue_rules.specs.Receipts.{receipt_behind, receipts_behind}
use Rattle.entry_history.specs.Commits.{Origin, frame_of, CommitsFrame, IsEnd}
use Rattle.entry_history.specs.Events.{entries_of}
use Rattle.entry_history.specs.declared.event.Event.{Event}
use Rattle.entry_history.specs.declared.reply.BatchReply.{BatchReply}
use Rattle.catalogue_lock.specs.History.{items, numbered}
use Rattle.catalogue_lock.specs.Passes.{Pass, Turned}
use Rattle.catalogue_lock.proofs.Numbers.{items-append, items-numbered}
use Rattle.loader_workers.specs.Counts.{CanCount, HasCounted}
use Rattle.marc_types.specs.Limits.{most_entries}
use Rattle.loader_workers.specs.Turns.{Replies, AnswersAsCatalogue, IsCounted}
use Rattle.loader_workers.specs.declared.counts.Counts.{Counts}
use Rattle.marc_types.specs.Sums.{AreFew}
use Rattle.marc_types.proofs.Adding.{still_few}
use Rattle.catalogue_rules.proofs.FewRows.{few_changed}
use Rattle.loader_workers.proofs.Frames.{IsWithin, NoEntry, Within, frame_within}
use Rattle.loader_workers.proofs.Receipts.{receipts_length, entries_append, entries_committed}

behind_more : (before : List Entry) (e : Entry) (es : List Entry) → receipts_behind before (e ∷ es) ≡ receipt_behind before e ∷ receipts_behind (before ++ e ∷ []) es
unfolding receipts_behind
behind_more before e es = refl

changed_none : (before : List Entry) → sum_by (λ (r : Receipt). r.changed_records) (receipts_behind before []) ≡ 0
unfolding receipts_behind
changed_none before = refl

changed_few : (before es : List Entry) → length before + length es ≤ most_entries
    → sum_by (λ (r : Receipt). r.changed_records) (receipts_behind before es) ≤ length es * most_entries
changed_few before [] few = omega (arith, changed_none before)
changed_few before (e ∷ es) few =
    let longer = length-append before (e ∷ []) in
    let rest = changed_few (before ++ e ∷ []) es (omega arith) in
    let one = few_changed before e in
    let sum = ap (sum_by (λ (r : Receipt). r.changed_records)) (behind_more before e es)
    ∙ sum_by-cons (λ (r : Receipt). r.changed_records) (receipt_behind before e) (receipts_behind (before ++ e ∷ []) es) in
    omega arith

-- few receipts of a commit behind these entries, and few records changed
record IsFew (before : List Entry) (receipts : List Receipt) : Type 0 where
  within : (length receipts ≡ 0) ⊎ (length before + length receipts ≤ most_entries)
  changed : sum_by (λ (r : Receipt). r.changed_records) receipts ≤ length receipts * most_entries

few_none : (before : List Entry) → IsFew before []
few_none before = record { within = inl refl; changed = omega arith }

few_frame : (limit : ℕ) (before frame : List Entry) → limit ≤ most_entries → IsWithin limit before frame → IsFew before (receipts_behind before frame)
few_frame limit before frame le (NoEntry none) = subst (λ f. IsFew before (receipts_behind before f)) (sym none) (no_receipt before)
  where
    no_receipt : (before : List Entry) → IsFew before (receipts_behind before [])
    no_receipt before = record { within = inl (receipts_length before []); changed = omega (arith, changed_none before) }
few_frame limit before frame le (Within within) =
    let same = receipts_length before frame in
    let changed = changed_few before frame (omega arith) in
    record { within = inr (omega arith); changed = omega arith }

-- a commit answers few receipts, and adds an entry for each
record Grows (before added : List Event) (receipts : List Receipt) : Type 0 where
  few : IsFew (entries_of before) receipts
  grown : length (entries_of before) + length receipts ≤ length (entries_of (before ++ added))

grows_by_frame : (limit : ℕ) (before added : List Event) (frame : List Entry) (receipts : List Receipt) → limit ≤ most_entries
    → IsWithin limit (entries_of before) frame → CommitsFrame before frame receipts added → Grows before added receipts
grows_by_frame limit before added frame receipts le within commits =
    let same = ap (length {A = Receipt}) commits.receipts_are ∙ receipts_length (entries_of before) frame in
    let all : entries_of (before ++ added) ≡ entries_of before ++ frame =
    entries_append before added ∙ ap (λ es. entries_of before ++ es) (ap entries_of commits.added_are ∙ entries_committed frame) in
    let longer = ap (length {A = Entry}) all ∙ length-append (entries_of before) frame in
    record {
      few = subst (IsFew (entries_of before)) (sym commits.receipts_are) (few_frame limit (entries_of before) frame le within);
      grown = omega arith;
    }

grows_by_none : (before added : List Event) (receipts : List Receipt) → receipts ≡ [] → Grows before added receipts
grows_by_none before added receipts none =
    let longer = ap (length {A = Entry}) (entries_append before added) ∙ length-append (entries_of before) (entries_of added) in
    let same = ap (length {A = Receipt}) none in
    record { few = subst (IsFew (entries_of before)) (sym none) (few_none (entries_of before)); grown = omega arith }

grows : (origin : Origin) (before : List Event) (batch : List Entry) (receipts : List Receipt) (added : List Event) (fault : Option CommitFault)
    → origin.limits.entries ≤ most_entries → IsEnd origin before batch receipts added fault → Grows before added receipts
grows origin before batch receipts added None le ended =
    grows_by_frame origin.limits.entries before added (frame_of origin before batch) receipts le
    (frame_within origin.limits (entries_of before) (with_run origin.run batch)) ended.1
grows origin before batch receipts added (Some Full) le ended =
    grows_by_frame origin.limits.entries before added (frame_of origin before batch) receipts le
    (frame_within origin.limits (entries_of before) (with_run origin.run batch)) ended.1
grows origin before batch receipts added (Some NoMemory) le ended = grows_by_none before added receipts ended.1.receipts_are
grows origin before batch receipts added (Some DeviceFault) le ended = grows_by_none before added receipts ended.2.receipts_are
grows origin before batch receipts added (Some Broken) le ended = grows_by_none before added receipts ended.1.receipts_are

few_more : (before accepted n : ℕ) → (n ≡ 0) ⊎ (before + n ≤ most_entries) → accepted ≤ before → accepted ≤ most_entries → accepted + n ≤ most_entries
few_more before accepted n (inl none) le few = omega arith
few_more before accepted n (inr within) le few = omega arith

module _ {O : Type 0} where
  -- what a turn adds to the entries that the pass has seen
  record Sees (receipts : List Receipt) (old new : Pass O Event) : Type 0 where
    before : List Entry
    few : IsFew before receipts
    earlier : length (entries_of (items old.seen)) ≤ length before
    later : length before + length receipts ≤ length (entries_of (items new.seen))

  sees : (replies : Replies) (batch : List Entry) (reply : BatchReply) (old new : Pass O Event) → AnswersAsCatalogue replies
      → Turned replies batch reply old new → Sees reply.receipts old new
  sees replies batch reply old new catalogue turned =
      let ended = catalogue.commits (items turned.before) batch reply turned.added turned.replied in
      let g = grows catalogue.origin (items turned.before) batch reply.receipts turned.added reply.end catalogue.few ended in
      let begins : items turned.before ≡ items old.seen ++ items turned.begins.0 =
      ap (items {I = Event}) (sym turned.begins.1) ∙ items-append old.seen turned.begins.0 in
      let now : items new.seen ≡ items turned.before ++ turned.added =
      ap (λ (p : Pass O Event). items p.seen) turned.pass
      ∙ (items-append turned.before (numbered (Some old.number) turned.added) ∙ ap (λ es. items turned.before ++ es) (items-numbered (Some old.number) turned.added)) in
      let before_now = ap (λ es. length (entries_of es)) begins
      ∙ (ap (length {A = Entry}) (entries_append (items old.seen) (items turned.begins.0)) ∙ length-append (entries_of (items old.seen)) (entries_of (items turned.begins.0))) in
      let all = ap (λ es. length (entries_of es)) now in
      let grown = g.grown in
      record {
        before = entries_of (items turned.before);
        few = g.few;
        earlier = omega (arith, before_now);
        later = omega (arith, grown, all);
      }

  pub room_for : (replies : Replies) (batch : List Entry) (reply : BatchReply) (counted : Counts) (old new : Pass O Event) → AnswersAsCatalogue replies
      → Turned replies batch reply old new → IsCounted counted old.seen → CanCount counted reply.receipts
  room_for replies batch reply counted old new catalogue turned is = room (sees replies batch reply old new catalogue turned)
    where
      room : Sees reply.receipts old new → CanCount counted reply.receipts
      room s = record {
        few = is.sums;
        within = few_more (length s.before) counted.accepted (length reply.receipts) s.few.within (omega (arith, is.entries, s.earlier)) is.few;
        changed = s.few.changed;
      }

  pub counted_more : (replies : Replies) (batch : List Entry) (reply : BatchReply) (counted now : Counts) (old new : Pass O Event) → AnswersAsCatalogue replies
      → Turned replies batch reply old new → IsCounted counted old.seen → HasCounted counted now reply.receipts → IsCounted now new.seen
  counted_more replies batch reply counted now old new catalogue turned is counts =
      more (sees replies batch reply old new catalogue turned)
    where
      more : Sees reply.receipts old new → IsCounted now new.seen
      more s = record {
        entries = omega (arith, counts.accepted, is.entries, s.earlier, s.later);
        few = omega (arith, counts.accepted, few_more (length s.before) counted.accepted (length reply.receipts) s.few.within (omega (arith, is.entries, s.earlier)) is.few);
        sums = subst (AreFew now.sums) (sym counts.accepted)
            (still_few counted.sums now.sums reply.receipts counted.accepted is.sums counts.sums counts.few s.few.changed);
      }
