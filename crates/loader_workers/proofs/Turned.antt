-- What one turn of a loader commits.
use Rattle.std.proofs.Common.{◌≡◌, ◌∙◌, ◌+◌, true, List, [], ◌∷◌, ◌++◌, length, Option, Some, None, ◌⊎◌, inl, inr, append_assoc, append-nil, refl, sym, ap, subst, arith, length-append}
use Rattle.std.proofs.lemmas.List.{length-map}
use mathlib.Core.List.{IsPrefix}
use Rattle.marc_types.specs.declared.entry.Entry.{Entry}
use Rattle.marc_types.specs.declared.entry.Receipt.{Receipt}
use Rattle.marc_types.specs.declared.entry.CommitFault.{CommitFault}
use Rattle.marc_types.specs.declared.entry.CommitFault.TheVariants.{Full, NoMemory, DeviceFault, Broken}
use Rattle.entry_record.specs.History.{in_run, with_run, passes_limits}
use Rattle.catalogue_rules.specs.Receipts.{receipts_behind}
use Rattle.entry_history.specs.Commits.{Origin, frame_of, CommitsNothing, IsEnd}
use Rattle.entry_history.specs.Events.{entries_of, committed, is_broken}
use Rattle.entry_history.specs.declared.event.Event.{Event}
use Rattle.entry_history.specs.declared.event.Event.TheVariants.{Committed, Broke}
use Rattle.entry_history.specs.declared.reply.BatchReply.{BatchReply}
use Rattle.catalogue_lock.specs.declared.view.Numbered.{Numbered}
use Rattle.catalogue_lock.specs.History.{items, numbered, items_by}
use Rattle.catalogue_lock.specs.Passes.{Pass, HasSeenItsOwn, Turned, having_turned}
use Rattle.catalogue_lock.proofs.Numbers.{items_by-append, items_by-own, items-append, items-numbered}
use Rattle.marc_types.specs.Sums.{with_receipts}
use Rattle.marc_types.proofs.Adding.{with_none}
use Rattle.loader_workers.specs.Counts.{HasCounted}
use Rattle.loader_workers.specs.Ends.{end_of_commit}
use Rattle.loader_workers.specs.Turns.{Replies, CommitsAs, receipts_by, HasCommitted, NoMark, OneMark, IsFullBehind, CommitsFront}
use Rattle.loader_workers.specs.declared.counts.Counts.{Counts}
use Rattle.loader_workers.specs.declared.file_end.FileEnd.{FileEnd}
use Rattle.loader_workers.proofs.Frames.{fits, Stops}
use Rattle.loader_workers.proofs.Receipts.{behind_none, receipts_by_none, receipts_by_append, receipts_by_others, receipts_by_own, entries_append, entries_committed, receipts_length}

broken_front : (xs ys : List Event) → is_broken xs ≡ true → is_broken (xs ++ ys) ≡ true
broken_front [] ys broken = absurd (cc broken)
broken_front (Committed e ∷ xs) ys broken = broken_front xs ys broken
broken_front (Broke es ∷ xs) ys broken = refl

broken_behind : (xs ys : List Event) → is_broken ys ≡ true → is_broken (xs ++ ys) ≡ true
broken_behind [] ys broken = broken
broken_behind (Committed e ∷ xs) ys broken = broken_behind xs ys broken
broken_behind (Broke es ∷ xs) ys broken = refl

none_of_none : {X : Type 0} (xs : List X) → length xs ≡ 0 → xs ≡ []
none_of_none [] none = refl
none_of_none (x ∷ xs) none = absurd (omega arith)

-- a frame that isn't the whole batch stops before an entry that passes a limit
full_at : (origin : Origin) (history : List Event) (before : List Event) (front rest : List Entry)
    → (rest ≡ [] → ⊥) → (rest ≡ []) ⊎ Stops origin.limits origin.run (entries_of before ++ with_run origin.run front) rest
    → entries_of history ≡ entries_of before ++ with_run origin.run front → IsFullBehind origin.limits (entries_of history) origin.run rest
full_at origin history before front rest some (inl none) same = absurd (some none)
full_at origin history before front rest some (inr stops) same = record {
  next = stops.next;
  more = stops.more;
  rest_is = stops.rest_is;
  passes = subst (λ es. passes_limits origin.limits es (in_run origin.run stops.next) ≡ true) (sym same) stops.passes;
}

module _ {O : Type 0} where
  -- nothing between two turns of a pass has its number
  none_between : (old new : Pass O Event) (before others : List (Numbered Event)) (added : List Event) → old.seen ++ others ≡ before → HasSeenItsOwn old
      → new ≡ having_turned old added (before ++ numbered (Some old.number) added) → HasSeenItsOwn new → items_by (Some old.number) others ≡ []
  none_between old new before others added split own is own_now =
      let by : List (Numbered Event) → List Event = items_by (Some old.number) in
      let mine = numbered (Some old.number) added in
      let first : by before ≡ old.added ++ by others =
      ap by (sym split) ∙ (items_by-append (Some old.number) old.seen others ∙ ap (λ z. z ++ by others) own) in
      let now : by (before ++ mine) ≡ old.added ++ added = subst HasSeenItsOwn is own_now in
      let all : by (before ++ mine) ≡ (old.added ++ by others) ++ added =
      items_by-append (Some old.number) before mine ∙ (ap (λ z. z ++ by mine) first ∙ ap (λ z. (old.added ++ by others) ++ z) (items_by-own (Some old.number) added)) in
      let lengths = ap (length {A = Event}) (sym now ∙ all) in
      let left = length-append old.added added in
      let right = length-append (old.added ++ by others) added in
      let inner = length-append old.added (by others) in
      none_of_none (by others) (omega (arith, lengths, left, right, inner))

  -- a turn at this point of the history added these items, and its receipts were counted
  record IsTurn (receipts : List Receipt) (counted now : Counts) (old new : Pass O Event) (before : List (Numbered Event)) (added : List Event) : Type 0 where
    begins : IsPrefix old.seen before
    pass : new ≡ having_turned old added (before ++ numbered (Some old.number) added)
    own_before : HasSeenItsOwn old
    own_now : HasSeenItsOwn new
    counts : HasCounted counted now receipts

  seen_items : (receipts : List Receipt) (counted now : Counts) (old new : Pass O Event) (before : List (Numbered Event)) (added : List Event)
      → IsTurn receipts counted now old new before added → items new.seen ≡ items before ++ added
  seen_items receipts counted now old new before added turn =
      ap (λ (p : Pass O Event). items p.seen) turn.pass
      ∙ (items-append before (numbered (Some old.number) added) ∙ ap (λ es. items before ++ es) (items-numbered (Some old.number) added))

  has_committed : (origin : Origin) (entries : List Entry) (marks : List Event) (receipts : List Receipt) (counted now : Counts) (old new : Pass O Event)
      (before : List (Numbered Event)) (added : List Event) → IsTurn receipts counted now old new before added
      → added ≡ committed (with_run origin.run entries) ++ marks → entries_of added ≡ with_run origin.run entries
      → receipts ≡ receipts_behind (entries_of (items before)) (with_run origin.run entries)
      → HasCommitted origin entries marks counted now old new
  has_committed origin entries marks receipts counted now old new before added turn added_is entries_are receipts_are =
      let number = Some old.number in
      let others = turn.begins.0 in
      let mine = numbered number added in
      let none = none_between old new before others added turn.begins.1 turn.own_before turn.pass turn.own_now in
      let first = entries_of (items old.seen) in
      let joined : first ++ entries_of (items others) ≡ entries_of (items before) =
      sym (entries_append (items old.seen) (items others))
      ∙ (ap entries_of (sym (items-append old.seen others)) ∙ ap (λ h. entries_of (items h)) turn.begins.1) in
      let all : receipts_by old.number first (others ++ mine) ≡ receipts_behind (entries_of (items before)) (with_run origin.run entries) =
      receipts_by_append old.number first others mine
      ∙ (ap (λ rs. rs ++ receipts_by old.number (first ++ entries_of (items others)) mine) (receipts_by_others old.number first others none)
      ∙ (ap (λ b. receipts_by old.number b mine) joined
      ∙ (receipts_by_own old.number (entries_of (items before)) added ∙ ap (receipts_behind (entries_of (items before))) entries_are))) in
      record {
        added = ap (λ (p : Pass O Event). p.added) turn.pass ∙ ap (λ es. old.added ++ es) added_is;
        later = others ++ mine;
        seen = ap (λ (p : Pass O Event). p.seen) turn.pass ∙ (ap (λ h. h ++ mine) (sym turn.begins.1) ∙ append_assoc old.seen others mine);
        own = items_by-append number others mine ∙ (ap (λ es. es ++ items_by number mine) none ∙ (items_by-own number added ∙ added_is));
        sums = turn.counts.sums ∙ ap (with_receipts counted.sums) (receipts_are ∙ sym all);
        accepted = turn.counts.accepted
            ∙ ap (λ n. counted.accepted + n) (ap (length {A = Receipt}) receipts_are ∙ (receipts_length (entries_of (items before)) (with_run origin.run entries) ∙ length-map entries (in_run origin.run)));
      }

  -- a turn that committed nothing and added these marks
  nothing_committed : (origin : Origin) (marks : List Event) (receipts : List Receipt) (counted now : Counts) (old new : Pass O Event)
      (before : List (Numbered Event)) (added : List Event) → IsTurn receipts counted now old new before added
      → entries_of marks ≡ [] → CommitsNothing receipts added marks → HasCommitted origin [] marks counted now old new
  nothing_committed origin marks receipts counted now old new before added turn none nothing =
      has_committed origin [] marks receipts counted now old new before added turn nothing.added_are (ap entries_of nothing.added_are ∙ none)
      (nothing.receipts_are ∙ sym (behind_none (entries_of (items before))))

  front_by : (origin : Origin) (batch : List Entry) (fault : Option CommitFault) (receipts : List Receipt) (counted now : Counts) (old new : Pass O Event)
      (before : List (Numbered Event)) (added : List Event) → IsTurn receipts counted now old new before added
      → IsEnd origin (items before) batch receipts added fault → CommitsFront origin batch (end_of_commit fault) counted now old new
  front_by origin batch None receipts counted now old new before added turn ended =
      let added_is = ended.1.added_are ∙ ap committed ended.0 in
      record {
        front = batch;
        rest = [];
        marks = [];
        split = sym (append-nil batch);
        committed_is = has_committed origin batch [] receipts counted now old new before added turn
            (added_is ∙ sym (append-nil (committed (with_run origin.run batch))))
            (ap entries_of added_is ∙ entries_committed (with_run origin.run batch))
            (ended.1.receipts_are ∙ ap (receipts_behind (entries_of (items before))) ended.0);
        ends = (refl, refl);
      }
  front_by origin batch (Some Full) receipts counted now old new before added turn ended =
      let f = fits origin.limits origin.run (entries_of (items before)) batch in
      let added_is = ended.1.added_are ∙ ap committed f.frame in
      let entries_are = ap entries_of added_is ∙ entries_committed (with_run origin.run f.front) in
      let all : entries_of (items new.seen) ≡ entries_of (items before) ++ with_run origin.run f.front =
      ap entries_of (seen_items receipts counted now old new before added turn)
      ∙ (entries_append (items before) added ∙ ap (λ es. entries_of (items before) ++ es) entries_are) in
      let whole : f.rest ≡ [] → f.front ≡ batch = λ none. sym (f.split ∙ (ap (λ es. f.front ++ es) none ∙ append-nil f.front)) in
      record {
        front = f.front;
        rest = f.rest;
        marks = [];
        split = f.split;
        committed_is = has_committed origin f.front [] receipts counted now old new before added turn
            (added_is ∙ sym (append-nil (committed (with_run origin.run f.front)))) entries_are
            (ended.1.receipts_are ∙ ap (receipts_behind (entries_of (items before))) f.frame);
        ends = (
          full_at origin (items new.seen) (items before) f.front f.rest
              (λ none. ended.0 (f.frame ∙ ap (with_run origin.run) (whole none))) f.stops all,
          refl,
        );
      }
  front_by origin batch (Some NoMemory) receipts counted now old new before added turn ended = record {
    front = [];
    rest = batch;
    marks = [];
    split = refl;
    committed_is = nothing_committed origin [] receipts counted now old new before added turn refl ended.1;
    ends = refl;
  }
  front_by origin batch (Some DeviceFault) receipts counted now old new before added turn ended =
      let f = fits origin.limits origin.run (entries_of (items before)) batch in
      let frame = frame_of origin (items before) batch in
      let broken : is_broken (items new.seen) ≡ true =
      ap is_broken (seen_items receipts counted now old new before added turn)
      ∙ (ap (λ es. is_broken (items before ++ es)) ended.2.added_are ∙ broken_behind (items before) (Broke frame ∷ []) refl) in
      record {
        front = [];
        rest = batch;
        marks = Broke frame ∷ [];
        split = refl;
        committed_is = nothing_committed origin (Broke frame ∷ []) receipts counted now old new before added turn refl ended.2;
        ends = (broken, OneMark f.front f.rest f.split (λ none. ended.1 (f.frame ∙ ap (with_run origin.run) none)) (ap (λ es. Broke es ∷ []) f.frame));
      }
  front_by origin batch (Some Broken) receipts counted now old new before added turn ended =
      let broken : is_broken (items new.seen) ≡ true =
      ap is_broken (seen_items receipts counted now old new before added turn) ∙ broken_front (items before) added ended.0 in
      record {
        front = [];
        rest = batch;
        marks = [];
        split = refl;
        committed_is = nothing_committed origin [] receipts counted now old new before added turn refl ended.1;
        ends = (broken, NoMark refl);
      }

  -- a turn commits a front of its batch
  pub front_committed : (replies : Replies) (origin : Origin) (batch : List Entry) (reply : BatchReply) (result : Option FileEnd) (counted now : Counts)
      (old new : Pass O Event) → CommitsAs replies origin → HasSeenItsOwn old → Turned replies batch reply old new → HasCounted counted now reply.receipts
      → result ≡ end_of_commit reply.end → CommitsFront origin batch result counted now old new
  front_committed replies origin batch reply result counted now old new commits own turned counts is =
      subst (λ (end : Option FileEnd). CommitsFront origin batch end counted now old new) (sym is)
      (front_by origin batch reply.end reply.receipts counted now old new turned.before turned.added
      (record { begins = turned.begins; pass = turned.pass; own_before = own; own_now = turned.own; counts = counts })
      (commits (items turned.before) batch reply turned.added turned.replied))

  -- before any turn nothing is committed
  pub nothing_yet : (origin : Origin) (counts : Counts) (pass : Pass O Event) → HasCommitted origin [] [] counts counts pass pass
  nothing_yet origin counts pass = record {
    added = sym (append-nil pass.added);
    later = [];
    seen = sym (append-nil pass.seen);
    own = refl;
    sums = sym (ap (with_receipts counts.sums) (receipts_by_none pass.number (entries_of (items pass.seen))) ∙ with_none counts.sums);
    accepted = omega arith;
  }

  -- without an entry there is no turn
  pub none_committed : (origin : Origin) (batch : List Entry) (counts : Counts) (pass : Pass O Event) → batch ≡ [] → CommitsFront origin batch None counts counts pass pass
  none_committed origin batch counts pass none = record {
    front = [];
    rest = [];
    marks = [];
    split = none;
    committed_is = nothing_yet origin counts pass;
    ends = (refl, refl);
  }
