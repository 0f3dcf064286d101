use Rattle.std.proofs.Common.{rules, None, ap, ◌∙◌}
use Rattle.catalogue_lock.proofs.Turning.{holds_slot}
use Rattle.catalogue_lock.proofs.Openings.{begins, ends, first_turn, is_first, is_brought, has_brought_in, opened_view}
use Rattle.catalogue_lock.proofs.opening.open.Goals as goal

pub load-requires : goal.load-requires
load-requires g c = (search rules, search rules, begins _ _ _ _ _ _ c.requires.opener)

pub bring_in-requires-clause-opening : goal.bring_in-requires-clause-opening
bring_in-requires-clause-opening g c =
    let told = c.load.ensures.2 in
    is_first g.O.Object.history c.args.steps.now.key _ (first_turn g.O.Object.history c.args.steps.now.key _ _ c.requires.opener told.0 told.1)

pub exchange-vacant-requires : goal.exchange-vacant-requires
exchange-vacant-requires g c = (search rules, (None, holds_slot _ _ (ap (λ m. m.1) c.bring_in.ensures.brought ∙ c.load.ensures.2.1)))

pub fetch_add-requires : goal.fetch_add-requires
fetch_add-requires g c =
    let told = c.load.ensures.2 in
    let first = first_turn g.O.Object.history c.args.steps.now.key _ _ c.requires.opener told.0 told.1 in (
      search rules,
      search rules,
      ends _ _ _ _ _ _
          (has_brought_in _ _ _ (is_brought g.O.Object.history c.args.steps.now.key _ _ _ c.args.object first c.bring_in.ensures.brought c.exchange-vacant.ensures.3 c.requires.object)),
    )

pub returns-clause-open : goal.returns-clause-open
returns-clause-open g c =
    let told = c.load.ensures.2 in
    let first = first_turn g.O.Object.history c.args.steps.now.key _ _ c.requires.opener told.0 told.1 in
    let end = c.fetch_add.ensures.2 in
    opened_view g.O.Object.history c.args.steps.now.key _ _ c.args.object
    (is_brought g.O.Object.history c.args.steps.now.key _ _ _ c.args.object first c.bring_in.ensures.brought c.exchange-vacant.ensures.3 c.requires.object) end.0 end.1 c.requires.object
