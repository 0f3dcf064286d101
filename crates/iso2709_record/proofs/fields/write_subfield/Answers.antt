use Rattle.std.proofs.Common.{◌∷◌, []}
use Rattle.iso2709_record.specs.Written.{subfield_bytes, delimiter}
use Rattle.outside.proofs.Fronts.{front_more, front_then}
use Rattle.iso2709_record.proofs.fields.write_subfield.Goals as goal

pub returns-in_err-write_all-clause-front : goal.returns-in_err-write_all-clause-front
unfolding subfield_bytes
returns-in_err-write_all-clause-front g c =
    front_more _ _ (delimiter ∷ c.args.subfield.now.code ∷ []) c.args.subfield.now.text c.write_all.ensures.front

pub returns-clause-front : goal.returns-clause-front
unfolding subfield_bytes
returns-clause-front g c =
    front_then _ _ _ (delimiter ∷ c.args.subfield.now.code ∷ []) c.args.subfield.now.text c.in_ok-write_all.ensures.bytes (rw c.as_bytes.ensures at c.write_all-2.ensures.front)
