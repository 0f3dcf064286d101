use Rattle.outside_sure.proofs.Kepts.{entered_list}
use Rattle.outside_sure.proofs.sure_files.add.Goals as goal

pub returns-clause-ok : goal.returns-clause-ok
returns-clause-ok g c =
    entered_list c.args.files.now.items c.push.new.self.items c.args.name.now (record { name = c.in_ok-own.own; kept = c.args.kept })
    c.requires c.in_ok-push.ensures.items c.in_ok-own.ensures.ok
