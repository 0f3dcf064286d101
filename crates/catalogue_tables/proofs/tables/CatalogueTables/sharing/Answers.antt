use Rattle.std.proofs.Common.{◌∙◌, ℕ, ap, subst, sym}
use Rattle.std.specs.Option.{option_copied}
use Rattle.std.proofs.lemmas.Result.{IfOk-weaker}
use Rattle.catalogue_tables.specs.Sharing.{AreHeaded, shown_keys}
use Rattle.catalogue_tables.proofs.Shared.{none_sharing, sharing_is}
use Rattle.catalogue_tables.proofs.tables.CatalogueTables.sharing.Goals as goal

pub returns-in_default : goal.returns-in_default
returns-in_default c = λ s tells.
    ap shown_keys c.new.ensures.items
    ∙ none_sharing c.args.self.now.forms c.args.keys.now c.args.self.now.index s tells c.args.key.now (sym (ap option_copied c.in_default.is) ∙ c.row_of.ensures)

pub returns : goal.returns
returns c =
    IfOk-weaker c.lent_keys.result _ _
    (λ found are. λ s tells.
    are
    ∙ sharing_is c.args.self.now.forms c.args.keys.now c.args.self.now.index s tells c.args.key.now c.in-Some.row.now c.headed.result.now
    (sym (ap option_copied c.in-Some.is) ∙ c.row_of.ensures)
    (subst (λ (n : ℕ). AreHeaded n c.args.self.now.index c.headed.result.now) c.established.ensures c.headed.ensures))
    c.lent_keys.ensures
