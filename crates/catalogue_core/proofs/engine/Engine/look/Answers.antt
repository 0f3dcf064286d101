use Rattle.std.proofs.Common.{◌∙◌, ap}
use Rattle.catalogue_rules.specs.Receipt.{kept_under}
use Rattle.catalogue_core.specs.Engines.{Engined}
use Rattle.catalogue_core.proofs.Engines.{found_under, number_low}
use Rattle.catalogue_core.proofs.engine.Engine.look.Goals as goal

pub look-requires : goal.look-requires
look-requires c = number_low c.args.class c.args.key.now c.self.inside.store.keys c.self.inside.store.state c.in-Some.number c.in-Some.ensures

pub returns-in-Some : goal.returns-in-Some
returns-in-Some c =
    c.look.ensures ∙ found_under c.args.class c.args.key.now c.self.inside.store.keys c.self.inside.store.state c.in-Some.number c.in-Some.ensures
    ∙ ap (λ (x : Engined). kept_under c.args.class c.args.key.now x.state) c.self.view_is
