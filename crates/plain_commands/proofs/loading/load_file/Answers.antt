use Rattle.std.proofs.Common.{◌∙◌, ap}
use Rattle.std.proofs.lemmas.Result.{IfOk-weaker, IfErr-weaker}
use Rattle.std.specs.Option.{option_map}
use Rattle.marc_stream.specs.Pieces.{items}
use Rattle.plain_commands.proofs.There.{there_and}
use Rattle.plain_commands.proofs.loading.load_file.Goals as goal

pub returns-clause-loaded : goal.returns-clause-loaded
returns-clause-loaded g c =
    IfOk-weaker c.load_source-loaded.result.0 _ _
    (λ loaded is tells. there_and _ (c.in-Ok.ensures.there tells)
    (λ bytes at. is (items bytes) (ap (option_map items) (c.in-Ok.ensures.bytes tells ∙ at)))) c.load_source-loaded.ensures.loaded

pub returns-clause-full : goal.returns-clause-full
returns-clause-full g c =
    IfErr-weaker c.load_source-loaded.result.0 _ _
    (λ why is full tells. there_and _ (c.in-Ok.ensures.there tells)
    (λ bytes at. is full (items bytes) (ap (option_map items) (c.in-Ok.ensures.bytes tells ∙ at)))) c.load_source-loaded.ensures.full
