use Rattle.std.proofs.Common.{sym, subst}
use Rattle.form_index.specs.Index.{ListingInOrder, rows_in}
use Rattle.numbering.specs.Pages.{is_there}
use Rattle.form_index.proofs.Indexing.{release_ordered, release_stands}
use Rattle.form_index.proofs.index.FormIndex.let_go.Goals as goal

pub invariant_of-self : goal.invariant_of-self
invariant_of-self c =
    release_stands c.row.inside.number c.row.inside.forms (rows_in c.self.inside.rows) (is_there c.self.inside.rows) c.self.inside.lists c.release.new.self c.self.invariant c.release.ensures

pub returns-clause-ordered : goal.returns-clause-ordered
returns-clause-ordered c keys ordered =
    release_ordered c.row.inside.number c.row.inside.forms (rows_in c.self.inside.rows) (is_there c.self.inside.rows) c.self.inside.lists c.release.new.self c.self.invariant c.release.ensures keys
    (subst (λ x. ListingInOrder keys x.lists) (sym c.self.view_is) ordered)
