use Rattle.std.proofs.Common.{◌∷◌, []}
use Rattle.std.specs.List.{flat_map}
use Rattle.std.proofs.lemmas.Result.{on_ok_weaker}
use Rattle.iso2709_record.specs.Written.{field_data, subfield_bytes}
use Rattle.outside.proofs.Fronts.{front_more, front_then, appends_then}
use Rattle.iso2709_record.proofs.fields.write_field_data.Goals as goal

pub returns-in-Control-clause-bytes : goal.returns-in-Control-clause-bytes
unfolding field_data
returns-in-Control-clause-bytes g c = rw (c.in-Control.is) (rw c.as_bytes.ensures at c.write_all.ensures.bytes)

pub returns-in-Control-clause-front : goal.returns-in-Control-clause-front
unfolding field_data
returns-in-Control-clause-front g c = rw (c.in-Control.is) (rw c.as_bytes.ensures at c.write_all.ensures.front)

pub returns-in_err-write_all-in-Variable-clause-front : goal.returns-in_err-write_all-in-Variable-clause-front
unfolding field_data
returns-in_err-write_all-in-Variable-clause-front g c =
    rw (c.in-Variable.is)
    (front_more _ _ (c.in-Variable.ind1 ∷ c.in-Variable.ind2 ∷ []) (flat_map subfield_bytes c.in-Variable.subs) c.write_all-in-Variable.ensures.front)

pub returns-in_ok-write_all-in-Variable-clause-front : goal.returns-in_ok-write_all-in-Variable-clause-front
unfolding field_data
returns-in_ok-write_all-in-Variable-clause-front g c =
    rw (c.in-Variable.is)
    (front_then _ _ _ (c.in-Variable.ind1 ∷ c.in-Variable.ind2 ∷ []) (flat_map subfield_bytes c.in-Variable.subs)
    c.in_ok-write_all-in-Variable.ensures.bytes (rw c.as_slice.ensures at c.write_subfields.ensures.front))

pub returns-in_ok-write_all-in-Variable-clause-bytes : goal.returns-in_ok-write_all-in-Variable-clause-bytes
unfolding field_data
returns-in_ok-write_all-in-Variable-clause-bytes g c =
    rw (c.in-Variable.is)
    (on_ok_weaker _
    (appends_then _ _ _ (c.in-Variable.ind1 ∷ c.in-Variable.ind2 ∷ []) (flat_map subfield_bytes c.in-Variable.subs)
    c.in_ok-write_all-in-Variable.ensures.bytes)
    (rw c.as_slice.ensures at c.write_subfields.ensures.bytes))
