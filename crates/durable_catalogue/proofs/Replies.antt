-- Histories of events, and what a commit answers and adds.
use Rattle.std.proofs.Common.{length-append, arith, length, ◌+◌, suc, ◌≡◌, ◌≢◌, true, false, List, [], ◌∷◌, ◌++◌, Option, Some, None, is_some, refl, sym, ap, subst, ◌∙◌}
use Rattle.std.proofs.lemmas.List.{append-nil, map-append}
use Rattle.std.specs.declared.snapshot.Snapshot.{Snapshot}
use Rattle.marc_types.specs.declared.entry.Entry.{Entry}
use Rattle.marc_types.specs.declared.entry.Receipt.{Receipt}
use Rattle.marc_types.specs.declared.entry.CommitFault.{CommitFault}
use Rattle.marc_types.specs.declared.entry.CommitFault.TheVariants.{Full, NoMemory, DeviceFault, Broken}
use Rattle.entry_record.specs.History.{with_run}
use Rattle.catalogue_rules.specs.Receipts.{receipts_behind}
use Rattle.entry_history.specs.Commits.{fitting, Origin, frame_of, CommitsFrame, IsEnd, IsCommit}
use Rattle.entry_history.specs.Events.{entries_of, is_broken, committed}
use Rattle.entry_history.specs.declared.event.Event.{Event}
use Rattle.entry_history.specs.declared.event.Event.TheVariants.{Broke, Committed}
use Rattle.entry_history.specs.declared.reply.BatchReply.{BatchReply}
use Rattle.catalogue_core.specs.Catalogues.{Catalogued, all_entries}
use Rattle.durable_catalogue.specs.Durables.{mark_of, events, IsLostBy}
use Rattle.durable_catalogue.proofs.Stages.{none_behind}

pub entries_back : (entries : List Entry) → entries_of (events entries None) ≡ entries
entries_back [] = refl
entries_back (e ∷ es) = ap (λ xs. e ∷ xs) (entries_back es)

pub unbroken : (entries : List Entry) → is_broken (events entries None) ≡ false
unbroken [] = refl
unbroken (e ∷ es) = unbroken es

pub broken : (entries frame : List Entry) → is_broken (events entries (Some frame)) ≡ true
broken [] frame = refl
broken (e ∷ es) frame = broken es frame

-- a reply, and what it adds to the history
pub record Answers (o : Origin) (before after : List Event) (batch : List Entry) (receipts : List Receipt) (end : Option CommitFault) : Type 0 where
  pub added : List Event
  pub after_is : after ≡ before ++ added
  pub is : IsEnd o before batch receipts added end

pub broken_answer : (o : Origin) (entries marked batch : List Entry) → Answers o (events entries (Some marked)) (events entries (Some marked)) batch [] (Some Broken)
broken_answer o entries marked batch = record {
  added = [];
  after_is = sym (append-nil (events entries (Some marked)));
  is = (broken entries marked, record { receipts_are = refl; added_are = refl });
}

pub lost_answer : (o : Origin) (entries batch frame : List Entry) (fault : CommitFault) (mark : Option (List Entry)) → frame_of o (events entries None) batch ≡ frame
    → frame ≢ [] → IsLostBy fault mark frame → Answers o (events entries None) (events entries mark) batch [] (Some fault)
lost_answer o entries batch frame NoMemory mark is some lost = record {
  added = [];
  after_is = ap (events entries) lost ∙ sym (append-nil (events entries None));
  is = (unbroken entries, record { receipts_are = refl; added_are = refl });
}
lost_answer o entries batch frame DeviceFault mark is some lost = record {
  added = Broke frame ∷ [];
  after_is = ap (events entries) lost ∙ ap (λ es. es ++ Broke frame ∷ []) (sym (append-nil (committed entries)));
  is = (unbroken entries, (λ none. some (sym is ∙ none)), record { receipts_are = refl; added_are = ap (λ f. Broke f ∷ []) (sym is) });
}
lost_answer o entries batch frame Full mark is some lost = absurd lost
lost_answer o entries batch frame Broken mark is some lost = absurd lost

-- the frame of a batch
pub frame_is : (o : Origin) (entries all batch part : List Entry) → all ≡ entries → part ≡ fitting o.limits all (with_run o.run batch) → frame_of o (events entries None) batch ≡ part
frame_is o entries all batch part same is = ap (λ es. fitting o.limits es (with_run o.run batch)) (entries_back entries ∙ sym same) ∙ sym is

module _ (o : Origin) (entries batch frame : List Entry) (is : frame_of o (events entries None) batch ≡ frame) (receipts : List Receipt) (answered : receipts ≡ receipts_behind entries frame) where
  commits : CommitsFrame (events entries None) (frame_of o (events entries None) batch) receipts (committed frame)
  commits = record {
    whole = unbroken entries;
    receipts_are = answered ∙ ap (λ f. receipts_behind entries f) (sym is) ∙ ap (λ es. receipts_behind es (frame_of o (events entries None) batch)) (sym (entries_back entries));
    added_are = ap committed (sym is);
  }

  added_behind : events (entries ++ frame) None ≡ events entries None ++ committed frame
  added_behind =
      append-nil (committed (entries ++ frame)) ∙ map-append (λ e. Committed e) entries frame
      ∙ ap (λ es. es ++ committed frame) (sym (append-nil (committed entries)))

  pub whole_answer : frame ≡ with_run o.run batch → Answers o (events entries None) (events (entries ++ frame) None) batch receipts None
  whole_answer whole = record { added = committed frame; after_is = added_behind; is = (is ∙ whole, commits) }

  pub full_answer : frame ≢ with_run o.run batch → Answers o (events entries None) (events (entries ++ frame) None) batch receipts (Some Full)
  full_answer part = record { added = committed frame; after_is = added_behind; is = (λ same. part (sym is ∙ same), commits) }

-- nothing fits
pub none_fits : (o : Origin) (entries batch : List Entry) → batch ≢ [] → frame_of o (events entries None) batch ≡ [] → Answers o (events entries None) (events entries None) batch [] (Some Full)
none_fits o entries [] some is = absurd (some refl)
none_fits o entries (e ∷ es) some is =
    let full = full_answer o entries (e ∷ es) [] is [] (sym (none_behind entries)) (λ none. cc) in
    record { added = full.added; after_is = ap (λ all. events all None) (sym (append-nil entries)) ∙ full.after_is; is = full.is }

-- the same over what the code has
abbrev pub ReplyAdds : Origin → List Event → List Event → List Entry → BatchReply → Type 0
ReplyAdds o before after batch reply = (added : List Event) × (after ≡ before ++ added) × IsCommit o before batch reply added

pub adds : (o : Origin) (entries : List Entry) (after : List Event) (mark : Option (List Entry)) (batch : List Entry) (reply : BatchReply) (receipts : List Receipt) (end : Option CommitFault)
    → mark ≡ None → reply.receipts ≡ receipts → reply.end ≡ end → Answers o (events entries None) after batch receipts end → ReplyAdds o (events entries mark) after batch reply
adds o entries after mark batch reply receipts end none receipts_are end_is a =
    subst (λ m. ReplyAdds o (events entries m) after batch reply) (sym none) (
      a.added,
      a.after_is,
      subst (λ (r : List Receipt). IsEnd o (events entries None) batch r a.added reply.end) (sym receipts_are)
          (subst (λ (e : Option CommitFault). IsEnd o (events entries None) batch receipts a.added e) (sym end_is) a.is),
    )

-- the part of a batch that fits, over a catalogue with nothing staged
pub part_fits : (o : Origin) (core : Catalogued) (batch ran part : List Entry) → core.staged ≡ [] → ran ≡ with_run o.run batch → part ≡ fitting o.limits (all_entries core) ran
    → part ≡ fitting o.limits core.history (with_run o.run batch)
part_fits o core batch ran part unstaged runs is =
    is ∙ ap (λ es. fitting o.limits (core.history ++ es) ran) unstaged ∙ ap (λ es. fitting o.limits es ran) (append-nil core.history) ∙ ap (λ es. fitting o.limits core.history es) runs

pub part_is : (o : Origin) (core : Catalogued) (batch ran part : List Entry) → core.staged ≡ [] → ran ≡ with_run o.run batch → part ≡ fitting o.limits (all_entries core) ran
    → frame_of o (events core.history None) batch ≡ part
part_is o core batch ran part unstaged runs is = frame_is o core.history core.history batch part refl (part_fits o core batch ran part unstaged runs is)

-- a frame was taken: it is all that fits of the batch, and stands behind the entries
pub record IsTaken (o : Origin) (entries after batch frame : List Entry) (mark mark_now : Option (List Entry)) (receipts : List Receipt) : Type 0 where
  pub unmarked : mark ≡ None
  pub still : mark_now ≡ None
  pub after_is : after ≡ entries ++ frame
  pub frame_is : frame_of o (events entries None) batch ≡ frame
  pub answered : receipts ≡ receipts_behind entries frame

module _ (o : Origin) (entries after batch frame : List Entry) (mark mark_now : Option (List Entry)) (receipts : List Receipt)
    (t : IsTaken o entries after batch frame mark mark_now receipts) (reply : BatchReply) (same : reply.receipts ≡ receipts) where
  then_is : events (entries ++ frame) None ≡ events after mark_now
  then_is = ap (λ m. events (entries ++ frame) m) (sym t.still) ∙ ap (λ es. events es mark_now) (sym t.after_is)

  pub whole_reply : frame ≡ with_run o.run batch → reply.end ≡ None → ReplyAdds o (events entries mark) (events after mark_now) batch reply
  whole_reply whole end =
      subst (λ all. ReplyAdds o (events entries mark) all batch reply) then_is
      (adds o entries (events (entries ++ frame) None) mark batch reply receipts None t.unmarked same end (whole_answer o entries batch frame t.frame_is receipts t.answered whole))

  pub part_reply : frame ≢ with_run o.run batch → reply.end ≡ Some Full → ReplyAdds o (events entries mark) (events after mark_now) batch reply
  part_reply part end =
      subst (λ all. ReplyAdds o (events entries mark) all batch reply) then_is
      (adds o entries (events (entries ++ frame) None) mark batch reply receipts (Some Full) t.unmarked same end (full_answer o entries batch frame t.frame_is receipts t.answered part))

-- a frame was lost
pub lost_reply : (o : Origin) (entries after batch frame : List Entry) (mark mark_now : Option (List Entry)) (fault : CommitFault) (reply : BatchReply) → mark ≡ None → after ≡ entries
    → frame_of o (events entries None) batch ≡ frame → frame ≢ [] → IsLostBy fault mark_now frame → reply.receipts ≡ [] → reply.end ≡ Some fault → ReplyAdds o (events entries mark) (events after mark_now) batch reply
lost_reply o entries after batch frame mark mark_now fault reply none same is some lost receipts end =
    subst (λ es. ReplyAdds o (events entries mark) (events es mark_now) batch reply) (sym same)
    (adds o entries (events entries mark_now) mark batch reply [] (Some fault) none receipts end (lost_answer o entries batch frame fault mark_now is some lost))

-- a device failed before
pub broken_reply : (o : Origin) (entries batch : List Entry) (mark : Option (Snapshot (List Entry))) (reply : BatchReply) → is_some mark ≡ true → reply.receipts ≡ [] → reply.end ≡ Some Broken
    → ReplyAdds o (events entries (mark_of mark)) (events entries (mark_of mark)) batch reply
broken_reply o entries batch None reply is receipts end = cc
broken_reply o entries batch (Some frame) reply is receipts end =
    let a = broken_answer o entries frame.value batch in (
      a.added,
      a.after_is,
      subst (λ (r : List Receipt). IsEnd o (events entries (Some frame.value)) batch r a.added reply.end) (sym receipts)
          (subst (λ (e : Option CommitFault). IsEnd o (events entries (Some frame.value)) batch [] a.added e) (sym end) a.is),
    )

-- the entries of a history with or without a mark, and how many items it has
pub entries_are : (entries : List Entry) (mark : Option (List Entry)) → entries_of (events entries mark) ≡ entries
entries_are entries None = entries_back entries
entries_are [] (Some frame) = refl
entries_are (e ∷ es) (Some frame) = ap (λ xs. e ∷ xs) (entries_are es (Some frame))

count_committed : (entries : List Entry) → length (committed entries) ≡ length entries
count_committed [] = refl
count_committed (e ∷ es) = ap suc (count_committed es)

pub count_whole : (entries : List Entry) (mark : Option (Snapshot (List Entry))) → is_some mark ≡ false → length (events entries (mark_of mark)) ≡ length entries
count_whole entries None whole = omega (arith, length-append (committed entries) [], count_committed entries)
count_whole entries (Some frame) whole = cc

pub count_marked : (entries : List Entry) (mark : Option (Snapshot (List Entry))) → is_some mark ≡ true → length (events entries (mark_of mark)) ≡ length entries + 1
count_marked entries None marked = cc
count_marked entries (Some frame) marked = omega (arith, length-append (committed entries) (Broke frame.value ∷ []), count_committed entries)
