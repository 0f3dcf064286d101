use Rattle.std.proofs.Common.{◌≡◌, ◌++◌, take}
use Rattle.durable_catalogue.proofs.news.append_each.Given as goal

abbrev pub invariant-loop-item : goal.invariant-loop-item
invariant-loop-item l = l.headings.items ≡ l.fn.headings.items ++ take l.item-index l.items
