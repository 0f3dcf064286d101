use Rattle.std.proofs.Common.{◌≡◌, take}
use Rattle.durable_catalogue.proofs.news.again_each.Given as goal

abbrev pub invariant-loop-heading : goal.invariant-loop-heading
invariant-loop-heading l = l.twins.items ≡ take l.heading-index l.headings
