use Rattle.std.proofs.Common.{◌≡◌, ℕ, List, chars, encode_utf8_all}
use Rattle.std.specs.Str.Iter.{chars_rest}
use Rattle.heading_list.specs.Typed.{typed_subfields}
use Rattle.heading_list.specs.Typing.{typed_with}
use Rattle.heading_list.proofs.typed.typed_subfields.Given as goal

-- with the characters that are still to come it will be the subfields of all
abbrev pub invariant-loop-c : goal.invariant-loop-c
invariant-loop-c l = (cs : List ℕ) → encode_utf8_all cs ≡ chars_rest l.c-iterator → typed_with l.typing cs ≡ typed_subfields (chars l.text)
