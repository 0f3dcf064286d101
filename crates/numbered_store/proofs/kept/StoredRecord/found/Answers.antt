use Rattle.std.proofs.Common.{refl}
use Rattle.std.specs.Option.{option_copied}
use Rattle.numbered_store.proofs.Tied.{field_found}
use Rattle.numbered_store.proofs.kept.StoredRecord.found.Goals as goal

pub returns : goal.returns
returns c = field_found c.args.self.now c.args.place c.args.field (option_copied c.tie_at.result) _ c.requires c.tie_at.ensures refl
