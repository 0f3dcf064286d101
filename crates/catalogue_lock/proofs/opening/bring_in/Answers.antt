use Rattle.std.proofs.Common.{rules, ap, sym, ◌∙◌, length}
use Rattle.catalogue_lock.proofs.Openings.{brings}
use Rattle.catalogue_lock.proofs.opening.bring_in.Goals as goal

pub fetch_add-requires : goal.fetch_add-requires
fetch_add-requires g c =
    (search rules, search rules, brings _ _ _ _ _ _ g.D.Adding.added _ c.requires.opening (c.count-added.ensures ∙ ap length (sym c.requires.added)) c.count-added.type_inv)
