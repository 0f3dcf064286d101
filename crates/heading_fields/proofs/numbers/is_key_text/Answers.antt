use Rattle.std.proofs.Common.{◌≡◌, Some, is_some, slice_get, get_or, sym, ap, ◌∙◌, arith}
use Rattle.heading_fields.specs.Numbers.{key_text}
use Rattle.heading_fields.proofs.Texts.{rest_matches, rest_differs, rest_beyond, rest_ends}
use Rattle.heading_fields.proofs.numbers.is_key_text.Goals as goal

pub returns-in_default : goal.returns-in_default
returns-in_default c =
    sym (rest_differs c.args.text.now (key_text c.args.key.now) c.loop-byte.byte-index c.loop-byte.place c.in-Some.due
    c.loop-byte-test.true c.if-byte-eq-BLANK.false (sym c.in-Some.ensures) c.if-due-byte.false) ∙ c.loop-byte.invariant.0

pub returns-in_default-2 : goal.returns-in_default-2
returns-in_default-2 c =
    sym (rest_beyond c.args.text.now (key_text c.args.key.now) c.loop-byte.byte-index c.loop-byte.place
    c.loop-byte-test.true c.if-byte-eq-BLANK.false (sym c.in_default.ensures)) ∙ c.loop-byte.invariant.0

pub loop-byte-preserved : goal.loop-byte-preserved
loop-byte-preserved c =
    let read : slice_get (key_text c.args.key.now) c.loop-byte.place ≡ Some (get_or c.args.text.now c.loop-byte.byte-index 0) =
    sym c.in-Some.ensures ∙ ap (λ b. Some b) c.if-due-byte.true in (
      rest_matches c.args.text.now (key_text c.args.key.now) c.loop-byte.byte-index c.loop-byte.place
          c.loop-byte-test.true c.if-byte-eq-BLANK.false read ∙ c.loop-byte.invariant.0,
      omega arith,
    )

pub returns : goal.returns
returns c =
    rest_ends c.args.text.now (key_text c.args.key.now) c.loop-byte.byte-index c.loop-byte.place c.is_none.result
    c.loop-byte-test.false (ap is_some (sym c.key_byte-2.ensures) ∙ c.is_none.ensures) ∙ c.loop-byte.invariant.0
