use Rattle.catalogue_rules.specs.State.{kept_field, linkable_authorities}
use Rattle.durable_catalogue.proofs.Standing.{linked_has_key}
use Rattle.durable_catalogue.proofs.seen.look_at_field.Goals as goal

pub unreachable-requires : goal.unreachable-requires
unreachable-requires c =
    linked_has_key (linkable_authorities c.args.engine.now.state) c.args.class (kept_field c.args.field.now c.args.tie.now)
    c.in_ok-standing.field-0 c.in_default.is c.in_ok-standing.ensures c.in-Linked.is
