use Rattle.std.proofs.Common.{◌≡◌, ◌≤◌, true, is_some, max, length, sym, ap, subst, ◌∙◌}
use Rattle.commit_journal.specs.declared.format.TheConstants.{BLANK_LENGTH}
use Rattle.entry_record.specs.History.{IsWithin}
use Rattle.journal_files.specs.Journals.{log_bytes}
use Rattle.journal_files.proofs.Journals.{opened_length, refused_by_room}
use Rattle.journal_files.proofs.journal.open_journal.Goals as goal

pub returns-in-Ok-open-clause-catalogue : goal.returns-in-Ok-open-clause-catalogue
returns-in-Ok-open-clause-catalogue g c =
    let law = g.met.R.Log.Disk g.world.𝓛 g.world.𝓜 g.world.𝓡 ((λ s x. x), (λ x. x), (λ x. x), λ x. x) in
    let seen = g.R.Log.Disk.seen in
    let log = log_bytes (g.R.Room.seen c.args.room.now) c.args.name.now in
    let was = c.in-Ok.ensures in
    let d = c.in-Ok-open.durable in
    let is = c.in-Ok-open.ensures in
    record {
      history = λ told. is.history log (was.bytes told);
      version = λ told. is.version log (was.bytes told);
      within = subst (λ l. IsWithin l d.core.history) c.limits_of-limits.ensures is.within;
      unmarked = is.unmarked;
      limits = is.limits ∙ c.limits_of-limits.ensures;
      run = is.run;
      opened = is.opened;
      length = λ told.
          subst (λ j. (seen j.disk).len ≤ max BLANK_LENGTH (length log)) (sym is.first)
          (opened_length (seen c.in-Ok.log) (seen d.journal.disk) log (was.bytes told) is.disk (law.content_len d.journal.disk));
      tells = λ told. ap (λ disk. is_some (seen disk).content) is.before ∙ ap is_some (was.bytes told);
      moment = ap (λ disk. (seen disk).moment) is.before ∙ was.beginning;
      faults = ap (λ disk. (seen disk).faults) is.before ∙ was.fresh;
      synced = λ dated.
          subst (λ j. is_some ((seen j.disk).synced (seen d.before.value).moment) ≡ true) (sym is.first)
          (subst (λ disk. is_some ((seen d.journal.disk).synced (seen disk).moment) ≡ true) (sym is.before)
          (is.disk.synced (subst (λ disk. (seen disk).dated ≡ true) is.before dated)));
    }

pub returns-in-Err-clause-old_first : goal.returns-in-Err-clause-old_first
returns-in-Err-clause-old_first g c full told =
    c.in-Err.ensures.old_first (sym c.close_refused.ensures.fault ∙ full) (log_bytes (g.R.Room.seen c.args.room.now) c.args.name.now) (c.in-Ok.ensures.bytes told)

pub returns-in-Err-clause-refused : goal.returns-in-Err-clause-refused
returns-in-Err-clause-refused g c =
    let was = c.in-Ok.ensures in
    c.close_refused.ensures.keeps c.args.room.now c.in-Ok.log
    (record { apart = was.apart; bytes = was.bytes; beginning = was.beginning; fresh = was.fresh })
    (refused_by_room _ (g.R.Room.seen c.args.room.now) _ _ _ c.limits_of-limits.ensures c.in-Err.ensures.refused)
