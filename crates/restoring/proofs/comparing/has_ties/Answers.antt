use Rattle.std.proofs.Common.{rules, ◌≡◌, sym}
use Rattle.numbered_store.specs.Kept.{kept_record}
use Rattle.restoring.proofs.Alike.{own_same, blank_same}
use Rattle.restoring.proofs.comparing.has_ties.Goals as goal

pub returns-in-Some : goal.returns-in-Some
returns-in-Some c = own_same (kept_record c.args.kept.now) c.in-Some.own.now c.args.ties.now c.same_ties.result (search rules) c.same_ties.ensures

pub returns-in-None : goal.returns-in-None
returns-in-None c = blank_same (kept_record c.args.kept.now) c.args.ties.now c.are_new.result (search rules) c.requires c.are_new.ensures
