use Rattle.std.proofs.Common.{◌∙◌, sym}
use Rattle.numbered_store.proofs.Tied.{nothing_found}
use Rattle.numbered_store.proofs.kept.StoredRecord.found_at.Goals as goal

pub found-requires : goal.found-requires
found-requires c = sym c.in-Some.is ∙ c.in_ok-field.ensures

pub returns-in-None : goal.returns-in-None
returns-in-None c = nothing_found c.args.self.now c.args.place (sym c.in-None.is ∙ c.in_ok-field.ensures)
