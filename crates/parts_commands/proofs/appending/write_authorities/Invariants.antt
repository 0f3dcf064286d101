use Rattle.std.proofs.Common.{◌≡◌, ◌≤◌, true, false}
use Rattle.outside.proofs.Fronts.{IsWriting}
use Rattle.parts_commands.specs.Exports.{authorities_of, bytes_of}
use Rattle.parts_commands.proofs.appending.write_authorities.Given as goal

abbrev pub invariant-authorities : goal.invariant-authorities
invariant-authorities g l = record {
  going : l.first.over ≡ false;
  tells : l.first.tells ≡ l.fn.first.tells;
  later : l.fn.first.faults ≤ l.first.faults;
  out_later : g.K.Sink.faults l.fn.out ≤ g.K.Sink.faults l.out;
  writing : l.fn.first.tells ≡ true
      → IsWriting (g.K.Sink.written l.fn.out) (g.K.Sink.written l.out) (bytes_of (authorities_of l.fn.first.coming)) (bytes_of (authorities_of l.first.coming));
}

abbrev pub decreases-authorities : goal.decreases-authorities
decreases-authorities g l = l.first.most
