use Rattle.std.proofs.Common.{rules, ◌≡◌, length, take, refl, sym, ap, subst, ◌∙◌, Some, slice_get, None, IsTrue, arith}
use Rattle.std.proofs.lemmas.List.Elements.{All-nil, All-push}
use Rattle.marc_types.specs.Valid.{is_code}
use Rattle.outside.proofs.Rooms.{same_but_itself, same_but_then}
use Rattle.command_words.specs.declared.library.Library.{Library}
use Rattle.loading_commands.specs.Inputs.{AreInputs, NoInput, IsFresh}
use Rattle.loading_commands.proofs.Opened.{got, got_is, fault_since, input_before, input_more, none_opened}
use Rattle.loading_commands.proofs.inputs.open_inputs.Goals as goal

pub returns-in_default-clause-opened : goal.returns-in_default-clause-opened
returns-in_default-clause-opened g c = none_opened g.R.In.Source.left g.R.In.Source.faults _ _ _ _ c.new.ensures.items

pub loop-index-init : goal.loop-index-init
loop-index-init g c = (same_but_itself _ _, ap length c.in-Ok.ensures.items, refl, rw c.in-Ok.ensures.items (All-nil (IsFresh g.R.In.Source.faults)), rw c.in-Ok.ensures.items NoInput, refl)

pub open_input-requires-clause-free : goal.open_input-requires-clause-free
open_input-requires-clause-free g c κs within =
    let library = c.index-libraries-index.result in
    c.loop-index.invariant.0.open_names library.file tt
    ∙ got_is (λ (l : Library). (g.R.Room.seen c.args.room.now).open_as l.file ≡ None) c.args.libraries.now c.loop-index.index library c.loop-index-test.true c.index-libraries-index.is c.requires.free

pub open_input-requires-clause-proper : goal.open_input-requires-clause-proper
open_input-requires-clause-proper g c κs within =
    got_is (λ (l : Library). IsTrue (is_code l.code)) c.args.libraries.now c.loop-index.index c.index-libraries-index.result c.loop-index-test.true c.index-libraries-index.is c.requires.proper

pub push_reserved-requires : goal.push_reserved-requires
push_reserved-requires g c = let (stays, len, room, fresh, are, lefts) = c.loop-index.invariant in let has = c.in-Ok.ensures.capacity in let more = c.loop-index-test.true in search rules

pub returns-in-Err-clause-stays : goal.returns-in-Err-clause-stays
returns-in-Err-clause-stays g c = same_but_then _ _ _ _ c.loop-index.invariant.0 c.in-Err.ensures.stays

pub returns-in-Err-clause-opened : goal.returns-in-Err-clause-opened
returns-in-Err-clause-opened g c =
    let (stays, len, room, fresh, inputs, lefts) = c.loop-index.invariant in
    let less = c.loop-index-test.true in record {
      inputs = inputs;
      fresh = fresh;
      few = omega (arith, len, less);
      whole = λ none. cc;
    }

pub returns-in-Err-clause-lefts : goal.returns-in-Err-clause-lefts
returns-in-Err-clause-lefts g c = c.in-Err.ensures.lefts ∙ c.loop-index.invariant.5

pub returns-in-Err-clause-cause : goal.returns-in-Err-clause-cause
returns-in-Err-clause-cause g c is =
    fault_since c.args.libraries.now _ (g.R.Room.seen c.loop-index.room) _ c.loop-index.invariant.0 (record {
      index = c.loop-index.index;
      library = c.index-libraries-index.result;
      named = got c.args.libraries.now c.loop-index.index c.index-libraries-index.result c.loop-index-test.true c.index-libraries-index.is;
      rose = c.in-Err.ensures.cause is;
    })

pub loop-index-preserved : goal.loop-index-preserved
loop-index-preserved g c =
    let (stays, len, room, fresh, inputs, lefts) = c.loop-index.invariant in
    let pushed = c.push_reserved.ensures.items in
    let libraries = c.args.libraries.now in
    let library = c.index-libraries-index.result in
    let left = g.R.In.Source.left in
    let old = g.R.Room.seen c.args.room.now in (
      same_but_then _ _ _ _ stays c.in-Ok-open_input.ensures.stays,
      search rules,
      search rules,
      rw pushed (All-push (IsFresh g.R.In.Source.faults) c.loop-index.inputs.items c.in-Ok-open_input.input fresh c.in-Ok-open_input.ensures.fresh),
      (
          let at = subst (λ n. slice_get libraries n ≡ Some library) (sym len)
          (got libraries c.loop-index.index library c.loop-index-test.true c.index-libraries-index.is) in
          let more = input_more left old libraries c.loop-index.inputs.items library c.in-Ok-open_input.input inputs at
          (input_before left old (g.R.Room.seen c.loop-index.room) library c.in-Ok-open_input.input stays c.in-Ok-open_input.ensures.input) in
          subst (λ items. AreInputs left old (take (length items) libraries) items) (sym pushed) more),
      c.in-Ok-open_input.ensures.lefts ∙ lefts,
    )

pub returns-clause-stays : goal.returns-clause-stays
returns-clause-stays g c = c.loop-index.invariant.0

pub returns-clause-lefts : goal.returns-clause-lefts
returns-clause-lefts g c = c.loop-index.invariant.5

pub returns-clause-opened : goal.returns-clause-opened
returns-clause-opened g c =
    let (stays, len, room, fresh, inputs, lefts) = c.loop-index.invariant in
    let all : length c.loop-index.inputs.items ≡ length c.args.libraries.now = search rules in record {
      inputs = inputs;
      fresh = fresh;
      few = omega (arith, all);
      whole = λ none. all;
    }
