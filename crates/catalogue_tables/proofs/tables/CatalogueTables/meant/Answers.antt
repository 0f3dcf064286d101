use Rattle.catalogue_rules.specs.Choice.{by_base_form, by_full_form}
use Rattle.catalogue_rules.specs.State.{kept_field, linkable_authorities}
use Rattle.catalogue_tables.proofs.Standings.{base_then, full_then, none_left, some_left}
use Rattle.catalogue_tables.proofs.tables.CatalogueTables.meant.Goals as goal

pub returns-then-is_empty : goal.returns-then-is_empty
returns-then-is_empty c = λ keys s tells is made.
    let all = linkable_authorities s in
    let h = kept_field c.args.field.now c.args.tie.now in
    let full = c.meant_in_full-full.result.now in
    base_then keys (by_full_form all c.args.class c.args.base.now.kind h) (by_base_form all c.args.class c.args.base.now.kind h) full c.meant_by_base.result.now
    (none_left full c.is_empty.result c.is_empty.ensures c.if-is_empty.true) (c.meant_in_full-full.ensures keys s tells c.args.tie.now is made)
    (c.meant_by_base.ensures keys s tells is)

pub returns-else-is_empty : goal.returns-else-is_empty
returns-else-is_empty c = λ keys s tells is made.
    let all = linkable_authorities s in
    let h = kept_field c.args.field.now c.args.tie.now in
    let full = c.meant_in_full-full.result.now in
    full_then keys (by_full_form all c.args.class c.args.base.now.kind h) (by_base_form all c.args.class c.args.base.now.kind h) full
    (some_left full c.is_empty.result c.is_empty.ensures c.if-is_empty.false) (c.meant_in_full-full.ensures keys s tells c.args.tie.now is made)
