use Rattle.std.proofs.Common.{length}
use Rattle.match_report.proofs.isbn.+weighted.Given as goal

abbrev pub decreases-weighted : goal.decreases-weighted
decreases-weighted l = length l.weights.now
