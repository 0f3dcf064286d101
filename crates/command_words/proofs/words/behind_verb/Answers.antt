use Rattle.std.proofs.Common.{sym, subst}
use Rattle.command_words.specs.Asked.{IsAskedBy}
use Rattle.command_words.proofs.Commands.{only_over_journal}
use Rattle.command_words.proofs.words.behind_verb.Goals as goal

pub returns-in_default : goal.returns-in_default
returns-in_default c =
    let is = only_over_journal c.args.verb.now c.args.rest.now c.in_default.not-pass c.in_default.not-run c.in_default.not-load c.in_default.not-browse c.in_default.not-make in
    subst (IsAskedBy c.over_journal.result c.args.rest.now) (sym is) c.over_journal.ensures
