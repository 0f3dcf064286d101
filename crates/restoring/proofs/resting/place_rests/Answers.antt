use Rattle.std.proofs.Common.{◌∙◌, ap, sym}
use Rattle.std.specs.Option.{option_map}
use Rattle.std.proofs.lemmas.Result.{IfOk-weaker}
use Rattle.catalogue_rules.specs.State.{linkable_authorities}
use Rattle.catalogue_rules.specs.Store.{field_at}
use Rattle.numbered_store.specs.Kept.{found_field, kept_record}
use Rattle.restoring.specs.Resting.{tie_lent}
use Rattle.restoring.proofs.Rests.{found_decides, plain_at}
use Rattle.restoring.proofs.resting.place_rests.Goals as goal

pub returns-then-is_plain : goal.returns-then-is_plain
returns-then-is_plain c =
    plain_at (linkable_authorities c.args.store.now.state) c.args.seat.class (field_at c.args.seat.field (kept_record c.args.kept.now)) c.in-Some.tag (tie_lent c.tie_at-tie.result)
    c.is_plain.result c.plain_rests.result c.in-Some.ensures c.tie_at-tie.ensures c.is_plain.ensures c.if-is_plain.true c.plain_rests.ensures

pub returns-in-Some-2 : goal.returns-in-Some-2
returns-in-Some-2 c =
    IfOk-weaker c.found_rests.result _ _
    (λ told so. found_decides (linkable_authorities c.args.store.now.state) c.args.seat.class (field_at c.args.seat.field (kept_record c.args.kept.now))
    (found_field c.in-Some-2.found) told (sym (ap (option_map found_field) c.in-Some-2.is) ∙ c.in_ok-found.ensures) so)
    c.found_rests.ensures
