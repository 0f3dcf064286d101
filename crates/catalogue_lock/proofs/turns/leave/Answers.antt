use Rattle.std.proofs.Common.{rules, None, Some, [], ◌∷◌, ap, ◌∙◌}
use Rattle.atomic_table.specs.Table.{rest}
use Rattle.catalogue_lock.specs.Views.{passed}
use Rattle.catalogue_lock.proofs.Turning.{has_put_back, holds_slot}
use Rattle.catalogue_lock.proofs.turns.leave.Goals as goal

pub exchange-empty-requires : goal.exchange-empty-requires
exchange-empty-requires g c = (search rules, (None, holds_slot _ _ (ap (λ m. m.1) c.raise.ensures.raised ∙ c.requires.turn.hands)))

pub pass_on-requires-clause-turn : goal.pass_on-requires-clause-turn
pass_on-requires-clause-turn g c =
    has_put_back _ _ _ _ c.args.object _ c.requires.turn
    (c.exchange-empty.ensures.3 ∙ ap (λ m. (m.0, (0, Some c.args.object) ∷ rest m.1)) c.raise.ensures.raised)

pub returns-clause-left : goal.returns-clause-left
returns-clause-left g c =
    c.pass_on.ensures.passed
    ∙ ap (λ v. (passed v, [])) (ap (λ m. m.0) c.exchange-empty.ensures.3 ∙ ap (λ m. m.0) c.raise.ensures.raised)
