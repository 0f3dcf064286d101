use Rattle.std.proofs.Common.{length, refl}
use Rattle.worklist_page.proofs.Rows.{all_shown, none_left}
use Rattle.worklist_page.proofs.libraries.split.Goals as goal

pub returns-then-count-lt-SHOWN-clause-shown : goal.returns-then-count-lt-SHOWN-clause-shown
returns-then-count-lt-SHOWN-clause-shown c = all_shown c.args.ranks.now _ (length c.args.ranks.now) refl c.if-count-lt-SHOWN.true c.split_at.ensures.front

pub returns-then-count-lt-SHOWN-clause-rest : goal.returns-then-count-lt-SHOWN-clause-rest
returns-then-count-lt-SHOWN-clause-rest c = none_left c.args.ranks.now _ (length c.args.ranks.now) refl c.if-count-lt-SHOWN.true c.split_at.ensures.back
