use Rattle.catalogue_rules.specs.State.{linkable_authorities}
use Rattle.linked_store.proofs.Stood.{link_stands, nothing_stands}
use Rattle.linked_store.proofs.store.LinkedStore.standing_held.Goals as goal

pub returns-in-Link : goal.returns-in-Link
returns-in-Link c = link_stands (linkable_authorities c.args.self.now.state) c.args.class _ c.in-Link.ensures c.requires.stands

pub returns-in-Nothing : goal.returns-in-Nothing
returns-in-Nothing c = nothing_stands (linkable_authorities c.args.self.now.state) c.args.class _ c.in-Nothing.ensures c.requires.stands
