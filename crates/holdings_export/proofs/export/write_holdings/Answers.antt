use Rattle.std.proofs.Common.{subst}
use Rattle.std.specs.Io.KnownBytes.{Appends}
use Rattle.std.proofs.lemmas.Result.{on_ok_weaker}
use Rattle.outside.specs.Sink.{WritesFront}
use Rattle.outside.proofs.Fronts.{front_more, front_then, appends_then}
use Rattle.holdings_export.specs.Output.{holdings_export}
use Rattle.holdings_export.proofs.Written.{without_holdings}
use Rattle.holdings_export.proofs.export.write_holdings.Goals as goal

pub returns-in_err-write_rows-clause-front : goal.returns-in_err-write_rows-clause-front
unfolding holdings_export
returns-in_err-write_rows-clause-front g c = λ kept selects.
    rw (← c.rows.view_is) (front_more _ _ _ _ (subst (WritesFront _ _) (without_holdings kept _) (c.write_rows.ensures.front kept selects)))

pub returns-clause-written : goal.returns-clause-written
unfolding holdings_export
returns-clause-written g c = λ kept selects.
    rw (← c.rows.view_is) (on_ok_weaker _ (appends_then _ _ _ _ _ (subst (Appends _ _) (without_holdings kept _) (c.in_ok-write_rows.ensures.written kept selects)))
    (c.write_rows-2.ensures.written kept selects))

pub returns-clause-front : goal.returns-clause-front
unfolding holdings_export
returns-clause-front g c = λ kept selects.
    rw (← c.rows.view_is) (front_then _ _ _ _ _ (subst (Appends _ _) (without_holdings kept _) (c.in_ok-write_rows.ensures.written kept selects))
    (c.write_rows-2.ensures.front kept selects))
