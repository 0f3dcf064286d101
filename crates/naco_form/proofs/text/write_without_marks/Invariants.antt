use Rattle.std.proofs.Common.{◌≡◌, ℕ, List, chars, encode_utf8_all}
use Rattle.std.specs.Str.Iter.{chars_rest}
use Rattle.naco_form.specs.Comparison.{by_table, without_marks}
use Rattle.naco_form.specs.Pen.{whole}
use Rattle.naco_form.proofs.text.write_without_marks.Given as goal

abbrev pub invariant-loop-c : goal.invariant-loop-c
invariant-loop-c l =
    (cs : List ℕ) → encode_utf8_all cs ≡ chars_rest l.c-iterator → whole l.pen (by_table (without_marks cs)) ≡ whole l.fn.pen (by_table (without_marks (chars l.text)))
