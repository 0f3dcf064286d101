use Rattle.std.proofs.Common.{◌∙◌, ap, Some}
use Rattle.catalogue_rules.specs.State.{linkable_authorities}
use Rattle.linked_store.proofs.Stood.{found_stands, none_found_stands}
use Rattle.linked_store.proofs.store.LinkedStore.standing_found.Goals as goal

pub returns-in_ok-standing-in-Some : goal.returns-in_ok-standing-in-Some
returns-in_ok-standing-in-Some c =
    ap Some c.in_ok-standing-in-Some.ensures
    ∙ found_stands (linkable_authorities c.args.self.now.state) c.args.class _ _ c.in-Some.found _ _ c.in_ok-found.ensures c.in-Some.is c.parts.ensures

pub returns-in-None : goal.returns-in-None
returns-in-None c = none_found_stands (linkable_authorities c.args.self.now.state) c.args.class _ _ c.in_ok-found.ensures c.in-None.is
