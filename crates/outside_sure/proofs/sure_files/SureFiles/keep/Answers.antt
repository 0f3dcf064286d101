use Rattle.std.proofs.Common.{Some, subst}
use Rattle.outside_sure.specs.SureFiles.{IsAt}
use Rattle.outside_sure.proofs.Kepts.{well_changed, well_added}
use Rattle.outside_sure.proofs.sure_files.SureFiles.keep.Goals as goal

pub invariant_of-self : goal.invariant_of-self
invariant_of-self g c =
    let name = c.args.name.now in
    let at = subst (λ files. IsAt files name c.in-Some.place) c.deref.ensures.value c.in-Some.ensures.found in
    record { well = well_changed _ _ name (Some c.args.kept) (c.replace.ensures name at) c.requires c.args.self.now.well }

pub invariant_of-self-in-None : goal.invariant_of-self-in-None
invariant_of-self-in-None g c = record {
  well = well_added c.add.result _ _ c.args.name.now (Some c.args.kept) c.add.ensures.ok c.add.ensures.err c.requires c.args.self.now.well;
}
