use Rattle.std.proofs.Common.{◌∙◌, ap}
use Rattle.std.specs.Prelude.{◌||◌}
use Rattle.std.specs.List.{list_any}
use Rattle.std.specs.Option.{option_to_list}
use Rattle.marc_types.specs.Order.{same_key}
use Rattle.catalogue_tables.specs.Sharing.{shown_keys}
use Rattle.catalogue_tables.proofs.Shared.{inserted}
use Rattle.catalogue_tables.proofs.sharing.add_at.Goals as goal

pub returns : goal.returns
returns c = λ k.
    ap (λ l. list_any (same_key k) (shown_keys l)) c.in_ok-insert.ensures.keys
    ∙ inserted c.args.found.now.keys c.in-Some.key k
    ∙ ap (λ o. list_any (same_key k) (shown_keys c.args.found.now.keys) || list_any (same_key k) (option_to_list o)) c.in-Some.ensures
