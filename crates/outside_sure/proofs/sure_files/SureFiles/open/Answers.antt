use Rattle.std.proofs.Common.{subst}
use Rattle.outside_sure.specs.SureFiles.{IsAt, kept_in}
use Rattle.outside_sure.proofs.Kepts.{well_changed, well_opened}
use Rattle.outside_sure.proofs.sure_files.SureFiles.open.Goals as goal

pub invariant_of-self : goal.invariant_of-self
invariant_of-self g c =
    let name = c.args.name.now in
    let at = subst (λ files. IsAt files name c.in_ok-place.place) c.deref.ensures.value c.in_ok-place.ensures.found in
    let kept = kept_in c.args.self.now.items.items name in
    record {
      well = well_changed _ _ name _ (c.open_at.ensures.now name at) (well_opened c.args.sort kept c.requires (c.args.self.now.well name)) c.args.self.now.well;
    }
