use Rattle.journal_files.proofs.Journals.{refused_log}
use Rattle.journal_files.proofs.refused.close_refused.Goals as goal

pub returns-clause-keeps : goal.returns-clause-keeps
returns-clause-keeps g c before log opened refused =
    let law = g.met.R.Log.Disk g.world.𝓛 g.world.𝓜 g.world.𝓡 ((λ s x. x), (λ x. x), (λ x. x), λ x. x) in
    let disk = c.args.refused.0 in
    let closed = c.close_log.ensures in
    refused_log _ _ _ _ _ _ _ opened refused (record { after = law.synced_after disk; by_now = law.synced_by_now disk; undated = law.undated_content disk })
    closed.closed (λ told. record { file = closed.bytes told; is_log = closed.log told; same = closed.moments told }) closed.counted
