use Rattle.std.proofs.Common.{◌≤◌, List, [], ◌++◌, length, sym, ap, subst, ◌∙◌, arith, append-nil}
use Rattle.std.specs.Prelude.{IfSome}
use Rattle.std.specs.Option.{option_map}
use Rattle.marc_types.specs.declared.entry.Entry.{Entry}
use Rattle.commit_journal.specs.declared.frame.Frame.{Frame}
use Rattle.entry_record.specs.History.{IsWithin}
use Rattle.catalogue_core.specs.Catalogues.{Catalogued}
use Rattle.entry_history.specs.Payloads.{CanFollow}
use Rattle.durable_catalogue.specs.Durables.{IsKept}
use Rattle.durable_catalogue.specs.News.{IsNewsOf, and_entries}
use Rattle.durable_catalogue.proofs.Frames.{none_marked, kept_now, undone_now, finds_frame, frame_left}
use Rattle.durable_catalogue.proofs.Histories.{follows_more}
use Rattle.durable_catalogue.proofs.Keeping.{IsDisk, still_only, kept_marked, kept_committed}
use Rattle.durable_catalogue.proofs.KeptNews.{still_news}
use Rattle.durable_catalogue.proofs.durable.Durable.commit_frame.Goals as goal

pub returns-in_default-clause-crash : goal.returns-in_default-clause-crash
returns-in_default-clause-crash g c log told =
    let self = c.args.self.now in
    let seen = g.D.Disk.seen in
    let kept = subst (λ es. IsKept self.opened self.core.history es (seen self.before.value) (seen self.first.value.disk) (seen self.journal.disk)) (none_marked self.mark c.requires.whole) self.kept in
    let disk : IsDisk (seen self.journal.disk) = record { content_is_image = g.met.D.Disk.content_is_image self.journal.disk; only_now = g.met.D.Disk.only_now self.journal.disk } in
    still_only self.opened self.core.history (seen self.before.value) (seen self.first.value.disk) (seen self.journal.disk) kept disk log c.args.frame (self.journal.settled (self.broken ∙ c.requires.whole)).only told

pub returns-in_default-stage_all-clause-crash : goal.returns-in_default-stage_all-clause-crash
returns-in_default-stage_all-clause-crash g c log told =
    let self = c.args.self.now in
    let seen = g.D.Disk.seen in
    let kept = subst (λ es. IsKept self.opened self.core.history es (seen self.before.value) (seen self.first.value.disk) (seen self.journal.disk)) (none_marked self.mark c.requires.whole) self.kept in
    let disk : IsDisk (seen self.journal.disk) = record { content_is_image = g.met.D.Disk.content_is_image self.journal.disk; only_now = g.met.D.Disk.only_now self.journal.disk } in
    still_only self.opened self.core.history (seen self.before.value) (seen self.first.value.disk) (seen self.journal.disk) kept disk log c.args.frame (self.journal.settled (self.broken ∙ c.requires.whole)).only told

pub invariant_of-self-in-Ok-appended : goal.invariant_of-self-in-Ok-appended
invariant_of-self-in-Ok-appended g c =
    let self = c.args.self.now in
    let seen = g.D.Disk.seen in
    let before = seen self.before.value in
    let first = seen self.first.value.disk in
    let frame : Frame = record { gate = self.journal.place; payload = c.as_slice.result.now } in
    let finds = finds_frame _ _ _ _ _ _ _ _ _ _ _ _ c.requires.whole self.kept (g.met.D.Disk.content_is_image self.journal.disk) (g.met.D.Disk.only_now self.journal.disk)
    (self.journal.settled (self.broken ∙ c.requires.whole)) self.newest self.follows c.requires.some c.into_parts-items.ensures.batch c.items-prepared.ensures.value
    c.each_can_stand_in_a_payload.ensures c.requires.run (c.as_slice.ensures ∙ c.into_parts-items.ensures.payload) in
    let appended = c.append-appended.ensures in
    let now = kept_now self.core c.stage_all.new.core c.keep.new.self c.into_parts-items.result.0.items c.args.frame self.unstaged c.into_parts-items.ensures.items c.in-Ok-stage_all.ensures.staged c.keep.ensures in
    let committed = kept_committed self.opened self.core.history before first (seen self.journal.disk) finds.kept finds.disk self.journal.place finds.settled frame c.args.frame finds.held
    (seen c.append-appended.new.self.disk) appended.continues (λ s synced. g.met.D.Disk.synced_by_now self.first.value.disk before.moment s synced) appended.crash appended.cause.later
    c.append-appended.new.self.place c.in-Ok-appended.ensures.settled c.in-Ok-appended.ensures.appended in
    let grown = c.in-Ok.ensures.ok ∙ ap (λ (es : List Entry). option_map (and_entries es) self.news) c.items-prepared.ensures.value in
    record {
      unstaged = ap (λ core. core.staged) now;
      newest = appended.version ∙ self.newest;
      broken = c.in-Ok-appended.ensures.whole ∙ sym c.requires.whole;
      follows = subst (λ es. CanFollow es self.run) (sym (ap (λ core. core.history) now)) (follows_more self.core.history c.args.frame self.run self.follows c.requires.run);
      is_news = subst (λ es. IfSome c.add_news.new.news (IsNewsOf es)) (sym (ap (λ core. core.history) now))
          (still_news self.core.history c.args.frame self.news c.add_news.new.news self.is_news grown);
      kept = subst (λ more. IsKept self.opened c.keep.new.self.history more before first (seen c.append-appended.new.self.disk)) (sym (none_marked self.mark c.requires.whole))
          (subst (λ es. IsKept self.opened es [] before first (seen c.append-appended.new.self.disk)) (sym (ap (λ core. core.history) now)) committed);
      rose = λ marked. let whole = c.requires.whole in cc;
      few = self.few;
      within = subst (λ more. IsWithin c.keep.new.self.limits (c.keep.new.self.history ++ more)) (sym (none_marked self.mark c.requires.whole))
          (subst (λ es. IsWithin c.keep.new.self.limits es) (sym (append-nil c.keep.new.self.history))
          (subst (λ (core : Catalogued). IsWithin core.limits core.history) (sym now) c.requires.within));
    }

pub invariant_of-self-in-Err : goal.invariant_of-self-in-Err
invariant_of-self-in-Err g c =
    let self = c.args.self.now in
    let seen = g.D.Disk.seen in
    let before = seen self.before.value in
    let first = seen self.first.value.disk in
    let frame : Frame = record { gate = self.journal.place; payload = c.as_slice.result.now } in
    let finds = finds_frame _ _ _ _ _ _ _ _ _ _ _ _ c.requires.whole self.kept (g.met.D.Disk.content_is_image self.journal.disk) (g.met.D.Disk.only_now self.journal.disk)
    (self.journal.settled (self.broken ∙ c.requires.whole)) self.newest self.follows c.requires.some c.into_parts-items.ensures.batch c.items-prepared.ensures.value
    c.each_can_stand_in_a_payload.ensures c.requires.run (c.as_slice.ensures ∙ c.into_parts-items.ensures.payload) in
    let appended = c.append-appended.ensures in
    let now = undone_now self.core c.stage_all.new.core c.undo.new.self c.into_parts-items.result.0.items self.unstaged c.in-Ok-stage_all.ensures.staged c.undo.ensures in
    let marked = kept_marked self.opened self.core.history before first (seen self.journal.disk) finds.kept finds.disk self.journal.place finds.settled frame c.args.frame finds.held
    (seen c.append-appended.new.self.disk) appended.continues (λ s synced. g.met.D.Disk.synced_by_now self.first.value.disk before.moment s synced) appended.crash appended.cause.later in
    let rose = c.in-Err.ensures.cause.failed in
    let earlier = finds.kept.faults in
    let grown = c.in-Ok.ensures.ok ∙ ap (λ (es : List Entry). option_map (and_entries es) self.news) c.items-prepared.ensures.value in
    let back = c.cut_news-in-Err.ensures self.news c.args.frame grown (sym c.len-count.ensures.value) in
    record {
      unstaged = ap (λ core. core.staged) now ∙ self.unstaged;
      newest = appended.version ∙ self.newest;
      broken = c.in-Err.ensures.broken;
      follows = subst (λ es. CanFollow es self.run) (sym (ap (λ core. core.history) now)) self.follows;
      is_news = subst (λ news. IfSome news (IsNewsOf c.undo.new.self.history)) (sym back)
          (subst (λ es. IfSome self.news (IsNewsOf es)) (sym (ap (λ core. core.history) now)) self.is_news);
      kept = subst (λ more. IsKept self.opened c.undo.new.self.history more before first (seen c.append-appended.new.self.disk)) (sym c.of-mark.ensures)
          (subst (λ es. IsKept self.opened es c.args.frame before first (seen c.append-appended.new.self.disk)) (sym (ap (λ core. core.history) now)) marked);
      rose = λ marked. omega (arith, rose, earlier);
      few = subst (λ es. length es ≤ 32) (sym c.of-mark.ensures) c.into_parts-items.ensures.batch.few;
      within = subst (λ more. IsWithin c.undo.new.self.limits (c.undo.new.self.history ++ more)) (sym c.of-mark.ensures)
          (subst (λ (core : Catalogued). IsWithin core.limits (core.history ++ c.args.frame)) (sym now) c.requires.within);
    }

pub returns-in-Ok-appended-clause-crash : goal.returns-in-Ok-appended-clause-crash
returns-in-Ok-appended-clause-crash g c log told =
    let self = c.args.self.now in
    let finds = finds_frame _ _ _ _ _ _ _ _ _ _ _ _ c.requires.whole self.kept (g.met.D.Disk.content_is_image self.journal.disk) (g.met.D.Disk.only_now self.journal.disk)
    (self.journal.settled (self.broken ∙ c.requires.whole)) self.newest self.follows c.requires.some c.into_parts-items.ensures.batch c.items-prepared.ensures.value
    c.each_can_stand_in_a_payload.ensures c.requires.run (c.as_slice.ensures ∙ c.into_parts-items.ensures.payload) in
    frame_left _ _ _ _ _ _ _ _ finds log told (c.append-appended.ensures.crash log told)

pub returns-in-Err-clause-crash : goal.returns-in-Err-clause-crash
returns-in-Err-clause-crash g c log told =
    let self = c.args.self.now in
    let finds = finds_frame _ _ _ _ _ _ _ _ _ _ _ _ c.requires.whole self.kept (g.met.D.Disk.content_is_image self.journal.disk) (g.met.D.Disk.only_now self.journal.disk)
    (self.journal.settled (self.broken ∙ c.requires.whole)) self.newest self.follows c.requires.some c.into_parts-items.ensures.batch c.items-prepared.ensures.value
    c.each_can_stand_in_a_payload.ensures c.requires.run (c.as_slice.ensures ∙ c.into_parts-items.ensures.payload) in
    frame_left _ _ _ _ _ _ _ _ finds log told (c.append-appended.ensures.crash log told)

pub returns-in-Ok-appended-clause-later : goal.returns-in-Ok-appended-clause-later
returns-in-Ok-appended-clause-later g c = c.append-appended.ensures.continues.later

pub returns-in-Err-clause-later : goal.returns-in-Err-clause-later
returns-in-Err-clause-later g c = c.append-appended.ensures.continues.later

pub stage_all-requires-clause-within : goal.stage_all-requires-clause-within
stage_all-requires-clause-within g c =
    let core = c.args.self.now.core in
    subst (λ es. IsWithin core.limits (core.history ++ es)) (sym c.into_parts-items.ensures.items) c.requires.within
