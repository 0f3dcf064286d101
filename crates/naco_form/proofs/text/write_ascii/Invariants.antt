use Rattle.std.proofs.Common.{◌≡◌, flat_map, drop}
use Rattle.naco_form.specs.Ascii.{ascii_entry}
use Rattle.naco_form.specs.Pen.{whole}
use Rattle.naco_form.proofs.text.write_ascii.Given as goal

abbrev pub invariant-loop-byte : goal.invariant-loop-byte
invariant-loop-byte l =
    whole l.pen (flat_map ascii_entry (drop l.byte-index l.bytes)) ≡ whole l.fn.pen (flat_map ascii_entry l.bytes)
