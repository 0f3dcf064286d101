use Rattle.std.proofs.Common.{◌≡◌, true, false, [], ◌++◌, Some, is_some, length, refl, sym, ap, subst, ◌∙◌, arith}
use Rattle.std.proofs.lemmas.List.{append-nil}
use Rattle.std.specs.List.{All}
use Rattle.marc_types.specs.declared.entry.CommitFault.TheVariants.{Full}
use Rattle.entry_record.specs.History.{with_run}
use Rattle.catalogue_core.specs.Catalogues.{all_entries}
use Rattle.entry_history.specs.Commits.{Origin, fitting}
use Rattle.entry_history.specs.declared.reply.BatchReply.{BatchReply}
use Rattle.durable_catalogue.specs.Durables.{mark_of, marked, events, is_taken, IsKept}
use Rattle.durable_catalogue.proofs.Fits.{runs_fit, with_run_runs, frame_within}
use Rattle.durable_catalogue.proofs.Frames.{no_mark, none_marked}
use Rattle.durable_catalogue.proofs.Keeping.{IsDisk, still_only, each_image}
use Rattle.durable_catalogue.proofs.Lastings.{stays_on, goes_on, lost_untaken}
use Rattle.durable_catalogue.proofs.Stages.{some_receipt}
use Rattle.durable_catalogue.proofs.Replies.{IsTaken, adds, broken_reply, none_fits, part_fits, part_is, whole_reply, part_reply, lost_reply}
use Rattle.durable_catalogue.proofs.durable.Durable.commit.Goals.{then-len, else-len}
use Rattle.durable_catalogue.proofs.durable.Durable.commit.Goals as goal

pub returns-then-is_broken-clause-reply : goal.returns-then-is_broken-clause-reply
returns-then-is_broken-clause-reply g c =
    let self = c.args.self.now in
    let reply = c.nothing.ensures in
    let marked = sym self.broken ∙ sym c.is_broken.ensures ∙ c.if-is_broken.true in
    let o : Origin = record { limits = self.core.limits; run = self.run } in
    broken_reply o self.core.history c.args.batch self.mark c.nothing.result marked reply.receipts reply.end

pub returns-in_default-clause-reply : goal.returns-in_default-clause-reply
returns-in_default-clause-reply g c =
    let self = c.args.self.now in
    let whole = sym self.broken ∙ sym c.is_broken.ensures ∙ c.if-is_broken.false in
    let o : Origin = record { limits = self.core.limits; run = self.run } in
    let reply = c.nothing-in_default.ensures in
    let none = no_mark self.mark whole in
    let is = part_is o self.core c.args.batch c.set_run.new.self [] self.unstaged c.set_run.ensures (sym c.in_default.ensures.none) in
    adds o self.core.history (events self.core.history (mark_of self.mark)) (mark_of self.mark) c.args.batch c.nothing-in_default.result [] (Some Full) none reply.receipts reply.end
    (rw none (none_fits o self.core.history c.args.batch c.requires is))

pub returns-in_default-clause-crash : goal.returns-in_default-clause-crash
returns-in_default-clause-crash g c log whole told =
    let self = c.args.self.now in
    let seen = g.D.Disk.seen in
    let kept = subst (λ es. IsKept self.opened self.core.history es (seen self.before.value) (seen self.first.value.disk) (seen self.journal.disk)) (none_marked self.mark whole) self.kept in
    let disk : IsDisk (seen self.journal.disk) = record { content_is_image = g.met.D.Disk.content_is_image self.journal.disk; only_now = g.met.D.Disk.only_now self.journal.disk } in
    still_only self.opened self.core.history (seen self.before.value) (seen self.first.value.disk) (seen self.journal.disk) kept disk log (fitting self.core.limits self.core.history (with_run self.run c.args.batch))
    (self.journal.settled (self.broken ∙ whole)).only told

pub returns-in_default-clause-all : goal.returns-in_default-clause-all
returns-in_default-clause-all g c log image taken told is =
    let self = c.args.self.now in
    let seen = g.D.Disk.seen in
    let whole = sym self.broken ∙ sym c.is_broken.ensures ∙ c.if-is_broken.false in
    each_image self.opened self.core.history (marked (mark_of self.mark)) (seen self.before.value) (seen self.first.value.disk) (seen self.journal.disk) (none_marked self.mark whole) self.kept log image told is

pub commit_frame-requires-clause-run : goal.commit_frame-requires-clause-run
commit_frame-requires-clause-run g c =
    let self = c.args.self.now in
    let runs = subst (All (λ e. e.run ≡ self.run)) (sym c.set_run.ensures) (with_run_runs self.run c.args.batch) in
    subst (All (λ e. e.run ≡ self.run)) (sym c.in-Some.ensures.part) (runs_fit self.core.limits self.run (all_entries self.core) c.set_run.new.self runs)

pub commit_frame-requires-clause-within : goal.commit_frame-requires-clause-within
commit_frame-requires-clause-within g c =
    let self = c.args.self.now in
    let whole = sym self.broken ∙ sym c.is_broken.ensures ∙ c.if-is_broken.false in
    frame_within self.core.limits self.core (marked (mark_of self.mark)) c.set_run.new.self c.in-Some.frame self.unstaged (none_marked self.mark whole) self.within c.in-Some.ensures.part

pub returns-in-Ok-clause-reply : goal.returns-in-Ok-clause-reply
returns-in-Ok-clause-reply g c =
    let self = c.args.self.now in
    let now = c.commit_frame.new.self in
    let done = c.in-Ok.ensures in
    let whole = sym self.broken ∙ sym c.is_broken.ensures ∙ c.if-is_broken.false in
    let o : Origin = record { limits = self.core.limits; run = self.run } in
    let frame = c.in-Some.frame in
    let fits = c.in-Some.ensures in
    let reply : BatchReply = record { receipts = c.in-Ok.receipts; end = c.if-len.end } in
    let taken : IsTaken o self.core.history now.core.history c.args.batch frame (mark_of self.mark) (mark_of now.mark) c.in-Ok.receipts = record {
      unmarked = no_mark self.mark whole;
      still = ap mark_of done.unmarked ∙ no_mark self.mark whole;
      after_is = done.added;
      frame_is = part_is o self.core c.args.batch c.set_run.new.self frame self.unstaged c.set_run.ensures fits.part;
      answered = done.receipts;
    } in
    elim c.if-len.branch [
      | then-len w ↦ part_reply o self.core.history now.core.history c.args.batch frame (mark_of self.mark) (mark_of now.mark) c.in-Ok.receipts taken reply refl
          (λ same. absurd (omega (arith, w.if-len.true, c.len.ensures.value, c.len-len.ensures.value, ap length same, ap length c.set_run.ensures))) w.end-is
      | else-len w ↦ whole_reply o self.core.history now.core.history c.args.batch frame (mark_of self.mark) (mark_of now.mark) c.in-Ok.receipts taken reply refl
          (fits.whole (omega (arith, w.if-len.false, c.len.ensures.value, c.len-len.ensures.value)) ∙ c.set_run.ensures) w.end-is
    ]

pub returns-in-Ok-clause-all : goal.returns-in-Ok-clause-all
returns-in-Ok-clause-all g c log image taken told is =
    let self = c.args.self.now in
    let now = c.commit_frame.new.self in
    let seen = g.D.Disk.seen in
    let whole = sym self.broken ∙ sym c.is_broken.ensures ∙ c.if-is_broken.false in
    let none = none_marked now.mark (ap (λ mark. is_some mark) c.in-Ok.ensures.unmarked ∙ whole) in
    each_image now.opened now.core.history (marked (mark_of now.mark)) (seen now.before.value) (seen now.first.value.disk) (seen now.journal.disk) none now.kept log image told is

pub returns-in-Err-clause-reply : goal.returns-in-Err-clause-reply
returns-in-Err-clause-reply g c =
    let self = c.args.self.now in
    let now = c.commit_frame.new.self in
    let whole = sym self.broken ∙ sym c.is_broken.ensures ∙ c.if-is_broken.false in
    let o : Origin = record { limits = self.core.limits; run = self.run } in
    let frame = c.in-Some.frame in
    lost_reply o self.core.history now.core.history c.args.batch frame (mark_of self.mark) (mark_of now.mark) c.in-Err.fault c.nothing-in-Err.result (no_mark self.mark whole) c.in-Err.ensures.nothing
    (part_is o self.core c.args.batch c.set_run.new.self frame self.unstaged c.set_run.ensures c.in-Some.ensures.part) c.in-Some.ensures.some c.in-Err.ensures.fault c.nothing-in-Err.ensures.receipts c.nothing-in-Err.ensures.end

pub returns-in-Ok-clause-quiet : goal.returns-in-Ok-clause-quiet
returns-in-Ok-clause-quiet g c took = absurd (some_receipt c.args.self.now.core.history c.in-Some.frame c.in-Some.ensures.some (sym c.in-Ok.ensures.receipts ∙ took.0))

pub returns-in-Err-clause-quiet : goal.returns-in-Err-clause-quiet
returns-in-Err-clause-quiet g c took = c.in-Err.ensures.quiet (λ device. took.1 (c.nothing-in-Err.ensures.end ∙ ap Some device))

pub returns-then-is_broken-clause-held : goal.returns-then-is_broken-clause-held
returns-then-is_broken-clause-held g c image told is = c.args.self.now.kept.images image told is

pub returns-in_default-clause-held : goal.returns-in_default-clause-held
returns-in_default-clause-held g c image told is = c.args.self.now.kept.images image told is

pub returns-in-Ok-clause-held : goal.returns-in-Ok-clause-held
returns-in-Ok-clause-held g c image told is = c.commit_frame.new.self.kept.images image told is

pub returns-in-Err-clause-held : goal.returns-in-Err-clause-held
returns-in-Err-clause-held g c image told is = c.commit_frame.new.self.kept.images image told is

pub returns-then-is_broken-clause-goes_on : goal.returns-then-is_broken-clause-goes_on
returns-then-is_broken-clause-goes_on g c =
    let self = c.args.self.now in
    let seen = g.D.Disk.seen in
    stays_on (is_some (seen self.before.value).content) self.core.history (seen self.journal.disk)

pub returns-in_default-clause-goes_on : goal.returns-in_default-clause-goes_on
returns-in_default-clause-goes_on g c =
    let self = c.args.self.now in
    let seen = g.D.Disk.seen in
    stays_on (is_some (seen self.before.value).content) self.core.history (seen self.journal.disk)

pub returns-in-Ok-clause-goes_on : goal.returns-in-Ok-clause-goes_on
returns-in-Ok-clause-goes_on g c =
    let self = c.args.self.now in
    let now = c.commit_frame.new.self in
    let seen = g.D.Disk.seen in
    goes_on (is_some (seen self.before.value).content) self.core.history c.in-Some.frame c.in-Some.frame now.core.history (seen self.journal.disk) (seen now.journal.disk)
    self.kept.tells c.in-Ok.ensures.added c.commit_frame.ensures.later c.commit_frame.ensures.crash

pub returns-in-Err-clause-goes_on : goal.returns-in-Err-clause-goes_on
returns-in-Err-clause-goes_on g c =
    let self = c.args.self.now in
    let now = c.commit_frame.new.self in
    let seen = g.D.Disk.seen in
    goes_on (is_some (seen self.before.value).content) self.core.history [] c.in-Some.frame now.core.history (seen self.journal.disk) (seen now.journal.disk)
    self.kept.tells (c.in-Err.ensures.nothing ∙ sym (append-nil self.core.history)) c.commit_frame.ensures.later c.commit_frame.ensures.crash

pub returns-then-is_broken-clause-taken : goal.returns-then-is_broken-clause-taken
returns-then-is_broken-clause-taken g c taken = let no : false ≡ true = sym (ap is_taken c.nothing.ensures.end) ∙ taken in cc

pub returns-in_default-clause-taken : goal.returns-in_default-clause-taken
returns-in_default-clause-taken g c taken =
    let self = c.args.self.now in
    let o : Origin = record { limits = self.core.limits; run = self.run } in
    sym (append-nil self.core.history)
    ∙ ap (λ es. self.core.history ++ es) (part_fits o self.core c.args.batch c.set_run.new.self [] self.unstaged c.set_run.ensures (sym c.in_default.ensures.none))

pub returns-in-Ok-clause-taken : goal.returns-in-Ok-clause-taken
returns-in-Ok-clause-taken g c taken =
    let self = c.args.self.now in
    let o : Origin = record { limits = self.core.limits; run = self.run } in
    c.in-Ok.ensures.added
    ∙ ap (λ es. self.core.history ++ es) (part_fits o self.core c.args.batch c.set_run.new.self c.in-Some.frame self.unstaged c.set_run.ensures c.in-Some.ensures.part)

pub returns-in-Err-clause-taken : goal.returns-in-Err-clause-taken
returns-in-Err-clause-taken g c taken =
    let no : false ≡ true =
    sym (lost_untaken c.in-Err.fault c.nothing-in-Err.result.end (mark_of c.commit_frame.new.self.mark) c.in-Some.frame c.nothing-in-Err.ensures.end c.in-Err.ensures.fault) ∙ taken in
    cc

pub returns-then-is_broken-clause-few : goal.returns-then-is_broken-clause-few
returns-then-is_broken-clause-few g c = c.args.self.now.few

pub returns-in_default-clause-few : goal.returns-in_default-clause-few
returns-in_default-clause-few g c = c.args.self.now.few

pub returns-in-Ok-clause-few : goal.returns-in-Ok-clause-few
returns-in-Ok-clause-few g c = c.commit_frame.new.self.few

pub returns-in-Err-clause-few : goal.returns-in-Err-clause-few
returns-in-Err-clause-few g c = c.commit_frame.new.self.few
