use Rattle.std.proofs.lemmas.Result.{on_ok_weaker}
use Rattle.iso2709_record.specs.Written.{record_bytes}
use Rattle.outside.proofs.Fronts.{front_more, front_then, appends_then}
use Rattle.iso2709_record.proofs.output.encode_of_len.Goals as goal

pub returns-in_err-write_leader-clause-front : goal.returns-in_err-write_leader-clause-front
unfolding record_bytes
returns-in_err-write_leader-clause-front g c =
    front_more _ _ _ _ (front_more _ _ _ _ (front_more _ _ _ _ (front_more _ _ _ _
    c.write_leader.ensures.front)))

pub returns-in_err-write_directory-clause-front : goal.returns-in_err-write_directory-clause-front
unfolding record_bytes
returns-in_err-write_directory-clause-front g c =
    front_more _ _ _ _ (front_more _ _ _ _ (front_more _ _ _ _
    (front_then _ _ _ _ _
    c.in_ok-write_leader.ensures.bytes
    (rw c.as_slice-fields.ensures at c.write_directory.ensures.front))))

pub returns-in_err-write_all-clause-front : goal.returns-in_err-write_all-clause-front
unfolding record_bytes
returns-in_err-write_all-clause-front g c =
    front_more _ _ _ _ (front_more _ _ _ _
    (front_then _ _ _ _ _
    (appends_then _ _ _ _ _
    c.in_ok-write_leader.ensures.bytes
    (rw c.as_slice-fields.ensures at c.in_ok-write_directory.ensures.bytes))
    c.write_all.ensures.front))

pub returns-in_err-write_fields-clause-front : goal.returns-in_err-write_fields-clause-front
unfolding record_bytes
returns-in_err-write_fields-clause-front g c =
    front_more _ _ _ _
    (front_then _ _ _ _ _
    (appends_then _ _ _ _ _
    (appends_then _ _ _ _ _
    c.in_ok-write_leader.ensures.bytes
    (rw c.as_slice-fields.ensures at c.in_ok-write_directory.ensures.bytes))
    c.in_ok-write_all.ensures.bytes)
    (rw c.as_slice-fields.ensures at c.write_fields.ensures.front))

pub returns-clause-bytes : goal.returns-clause-bytes
unfolding record_bytes
returns-clause-bytes g c =
    on_ok_weaker _
    (appends_then _ _ _ _ _
    (appends_then _ _ _ _ _
    (appends_then _ _ _ _ _
    (appends_then _ _ _ _ _
    c.in_ok-write_leader.ensures.bytes
    (rw c.as_slice-fields.ensures at c.in_ok-write_directory.ensures.bytes))
    c.in_ok-write_all.ensures.bytes)
    (rw c.as_slice-fields.ensures at c.in_ok-write_fields.ensures.bytes)))
    c.write_all-2.ensures.bytes

pub returns-clause-front : goal.returns-clause-front
unfolding record_bytes
returns-clause-front g c =
    front_then _ _ _ _ _
    (appends_then _ _ _ _ _
    (appends_then _ _ _ _ _
    (appends_then _ _ _ _ _
    c.in_ok-write_leader.ensures.bytes
    (rw c.as_slice-fields.ensures at c.in_ok-write_directory.ensures.bytes))
    c.in_ok-write_all.ensures.bytes)
    (rw c.as_slice-fields.ensures at c.in_ok-write_fields.ensures.bytes))
    c.write_all-2.ensures.front
