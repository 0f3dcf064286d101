use Rattle.std.proofs.lemmas.Result.{on_ok_weaker}
use Rattle.catalogue_rules.specs.Output.{export_of}
use Rattle.outside.proofs.Fronts.{front_more, front_then, appends_then}
use Rattle.iso_export.proofs.export.write_rows.Goals as goal

pub returns-in_err-write_class-clause-front : goal.returns-in_err-write_class-clause-front
unfolding export_of
returns-in_err-write_class-clause-front g c = λ kept selects.
    rw (← c.requires.rows.authorities) (front_more _ _ _ _ (c.write_class.ensures.front kept selects))

pub returns-clause-written : goal.returns-clause-written
unfolding export_of
returns-clause-written g c = λ kept selects.
    rw (← c.requires.rows.authorities) (rw (← c.requires.rows.bibliographic)
    (on_ok_weaker _ (appends_then _ _ _ _ _ (c.in_ok-write_class.ensures.written kept selects))
    (c.write_class-2.ensures.written kept selects)))

pub returns-clause-front : goal.returns-clause-front
unfolding export_of
returns-clause-front g c = λ kept selects.
    rw (← c.requires.rows.authorities) (rw (← c.requires.rows.bibliographic)
    (front_then _ _ _ _ _ (c.in_ok-write_class.ensures.written kept selects) (c.write_class-2.ensures.front kept selects)))
