use Rattle.std.proofs.Common.{◌∙◌, None, Some}
use Rattle.std.proofs.lemmas.Result.{IfOk-weaker}
use Rattle.numbered_store.specs.Kept.{kept_record}
use Rattle.catalogue_core.proofs.Engines.{field_read}
use Rattle.catalogue_core.proofs.engine.Engine.field_under.Goals as goal

pub returns-in-Some : goal.returns-in-Some
returns-in-Some c =
    IfOk-weaker c.found_at.result _ _
    (λ found is. is ∙ field_read c.args.place.now c.args.self.now.state (Some (kept_record c.in-Some.kept.now)) c.in-Some.ensures) c.found_at.ensures

pub returns-in-None : goal.returns-in-None
returns-in-None c = field_read c.args.place.now c.args.self.now.state None c.in-None.ensures
