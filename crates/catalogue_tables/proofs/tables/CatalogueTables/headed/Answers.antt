use Rattle.std.proofs.Common.{ℕ, List, subst, sym}
use Rattle.catalogue_tables.specs.Sharing.{AreHeaded}
use Rattle.catalogue_tables.proofs.Shared.{headed_in}
use Rattle.catalogue_tables.proofs.tables.CatalogueTables.headed.Goals as goal

pub returns : goal.returns
returns c =
    subst (λ (l : List ℕ). AreHeaded c.args.form c.args.self.now.index l) (sym c.established_in.ensures)
    (headed_in c.args.form c.args.self.now.index c.candidates.result c.candidates.ensures)
