use Rattle.std.proofs.Common.{◌∙◌, ap}
use Rattle.std.specs.Option.{option_or}
use Rattle.std.proofs.lemmas.Result.{IfOk-weaker}
use Rattle.catalogue_rules.specs.Choice.{by_base_form, by_full_form}
use Rattle.catalogue_rules.specs.State.{kept_field, linkable_authorities}
use Rattle.catalogue_tables.specs.Stands.{stands_as}
use Rattle.catalogue_tables.proofs.Standings.{all_given, meant_stands}
use Rattle.catalogue_tables.proofs.tables.CatalogueTables.standing_by_forms.Goals as goal

pub returns : goal.returns
returns c =
    IfOk-weaker c.standing_among.result _ _
    (λ standing told. λ s tells.
    let all = linkable_authorities s in
    let h = kept_field c.args.field.now c.args.tie.now in
    let choice = option_or (by_full_form all c.args.class c.args.base.now.kind h) (by_base_form all c.args.class c.args.base.now.kind h) in
    let meant = c.meant-meant.ensures c.args.keys.now s tells c.requires (c.as_ref.ensures.value ∙ c.in_ok-divided.ensures) in
    told (all_given c.args.keys.now choice c.meant-meant.result.now meant) ∙ ap stands_as (meant_stands c.args.keys.now choice c.meant-meant.result.now meant))
    c.standing_among.ensures
