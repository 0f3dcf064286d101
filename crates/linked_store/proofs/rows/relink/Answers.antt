use Rattle.std.proofs.Common.{◌∙◌, ap, None}
use Rattle.link_table.specs.Links.{Links}
use Rattle.linked_store.specs.Transactions.{links_in}
use Rattle.linked_store.proofs.Outside.{gone_at}
use Rattle.linked_store.proofs.rows.relink.Goals as goal

pub return_link-requires-clause-free : goal.return_link-requires-clause-free
return_link-requires-clause-free c = ap (λ (l : Links). l.key_of c.args.seat) c.drop_link.ensures.now ∙ gone_at c.args.seat None (links_in c.args.tables.now).key_of
