use Rattle.std.proofs.Common.{◌∙◌, ap, sym}
use Rattle.std.specs.Option.{option_copied}
use Rattle.std.proofs.lemmas.Result.{IfOk-weaker}
use Rattle.catalogue_tables.specs.Sharing.{is_headed_by_any, shown_keys}
use Rattle.catalogue_tables.proofs.Shared.{crossing_is, none_crossing}
use Rattle.catalogue_tables.proofs.tables.CatalogueTables.crossing.Goals as goal

pub returns-in_default : goal.returns-in_default
returns-in_default c = λ s tells.
    ap shown_keys c.new.ensures.items
    ∙ none_crossing c.args.self.now.forms c.args.keys.now c.args.self.now.index s tells c.args.key.now (sym (ap option_copied c.in_default.is) ∙ c.row_of.ensures)

pub returns : goal.returns
returns c =
    IfOk-weaker c.others.result _ _
    (λ list are. λ s tells.
    are
    ∙ crossing_is c.args.self.now.forms c.args.keys.now c.args.self.now.index s tells c.args.key.now c.in-Some.row.now (shown_keys c.in_ok-found.found.keys)
    (sym (ap option_copied c.in-Some.is) ∙ c.row_of.ensures) c.others.ensures.ordered
    (λ k. c.in_ok-found.ensures tells.distinct tells.tells.ordered k ∙ ap (λ l. is_headed_by_any c.args.keys.now c.args.self.now.index l k) c.see_from.ensures.numbers))
    c.others.ensures.are
