use Rattle.std.proofs.Common.{◌≡◌, ◌≤◌, drop}
use Rattle.std.specs.Str.{bytes_eq}
use Rattle.heading_fields.specs.Numbers.{without_blanks, key_text}
use Rattle.heading_fields.proofs.numbers.is_key_text.Given as goal

abbrev pub invariant-loop-byte : goal.invariant-loop-byte
invariant-loop-byte l =
    (bytes_eq (without_blanks (drop l.byte-index l.text)) (drop l.place (key_text l.key)) ≡ bytes_eq (without_blanks l.text) (key_text l.key))
    × (l.place ≤ l.byte-index)
