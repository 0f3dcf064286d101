use Rattle.std.proofs.Common.{sym, subst}
use Rattle.form_index.specs.Index.{ListingInOrder}
use Rattle.form_index.proofs.Indexing.{no_rows, none_ordered, none_stands}
use Rattle.form_index.proofs.index.FormIndex.new.Goals as goal

pub invariant_of-result : goal.invariant_of-result
invariant_of-result c = none_stands c.new.result c.new.ensures c.new-2.result c.new-2.ensures

pub returns-clause-value : goal.returns-clause-value
returns-clause-value c = λ i. record { rows = no_rows c.new.result c.new.ensures i; lists = c.new-2.ensures i }

pub returns-clause-ordered : goal.returns-clause-ordered
returns-clause-ordered c keys = subst (ListingInOrder keys) (sym c.new-2.ensures) (none_ordered keys)
