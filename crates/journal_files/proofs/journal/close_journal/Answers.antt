use Rattle.durable_catalogue.specs.Durables.{mark_of, opening}
use Rattle.durable_catalogue.proofs.Frames.{no_mark_was}
use Rattle.journal_files.proofs.Journals.{closed_to}
use Rattle.journal_files.proofs.journal.close_journal.Goals as goal

pub returns-clause-log : goal.returns-clause-log
returns-clause-log g c told tells =
    let seen = g.R.Log.Disk.seen in
    let law = g.met.R.Log.Disk g.world.𝓛 g.world.𝓜 g.world.𝓡 ((λ s x. x), (λ x. x), (λ x. x), λ x. x) in
    let durable = c.args.durable in
    closed_to (g.R.Room.seen c.close_log.new.self) c.args.name.now durable.core.history (mark_of durable.mark)
    (opening durable.core.limits durable.run durable.opened (seen durable.before.value) (seen durable.first.value.disk)) (seen c.close.result) durable.journal.place
    c.close.ensures.left c.close.ensures.few (λ none. c.close.ensures.settled (no_mark_was durable.mark none)) tells (law.content_is_image c.close.result)
    (c.close_log.ensures.log told) (c.close_log.ensures.bytes told) (c.close_log.ensures.moments told)
