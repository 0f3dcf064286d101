use Rattle.std.proofs.Common.{◌≡◌, ◌≤◌, true, false}
use Rattle.parts_commands.specs.Exports.{IsPlaceIn}
use Rattle.parts_commands.proofs.Items.{AreBeside}
use Rattle.parts_commands.proofs.comparing.pass_authorities.Given as goal

abbrev pub invariant-authorities : goal.invariant-authorities
invariant-authorities g l = record {
  going : l.first.over ≡ false;
  export_going : l.export.over ≡ false;
  tells : l.first.tells ≡ l.fn.first.tells;
  export_tells : l.export.tells ≡ l.fn.export.tells;
  later : l.fn.first.faults ≤ l.first.faults;
  export_later : l.fn.export.faults ≤ l.export.faults;
  beside : l.fn.first.tells ≡ true → l.fn.export.tells ≡ true → AreBeside l.fn.first.coming l.fn.export.coming l.first.coming l.export.coming;
  place_is : l.fn.first.tells ≡ true → l.fn.export.tells ≡ true → IsPlaceIn l.fn.export.coming l.place;
}

abbrev pub decreases-authorities : goal.decreases-authorities
decreases-authorities g l = l.export.most
