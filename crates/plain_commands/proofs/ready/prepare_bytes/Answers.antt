use Rattle.std.proofs.Common.{◌≡◌, List, ℕ, Some, ap, subst}
use Rattle.std.proofs.lemmas.Result.{IfOk-at_ok}
use Rattle.marc_stream.specs.Pieces.{Item, items}
use Rattle.plain_commands.specs.Loading.{LoadedView, IsLoaded}
use Rattle.plain_commands.proofs.ready.prepare_bytes.Goals as goal

pub returns-in-Ok-ready_of-clause-ready : goal.returns-in-Ok-ready_of-clause-ready
returns-in-Ok-ready_of-clause-ready c =
    let limits = c.args.limits in
    let loaded = c.in-Ok-loaded.loaded in
    let whole = IfOk-at_ok (λ (loaded : LoadedView). (is : List Item) → Some (items c.new.result) ≡ Some is → IsLoaded limits c.in-Ok.code is loaded)
    c.in-Ok-loaded.is c.load_source-loaded.ensures.loaded in
    let told = whole (items c.args.bytes.now) (ap (λ (bytes : List ℕ). Some (items bytes)) c.new.ensures) in
    c.in-Ok-ready_of.ensures limits c.args.bytes.now
    (subst (λ (library : List ℕ). IsLoaded limits library (items c.args.bytes.now) loaded) c.in-Ok.ensures told)
