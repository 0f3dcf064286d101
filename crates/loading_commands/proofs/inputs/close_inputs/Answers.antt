use Rattle.std.proofs.Common.{rules, ◌≡◌, ◌∷◌, [], ◌++◌, drop, ◌+◌, ◌<◌, get_or, length, Some, slice_get, refl, sym, ap, subst, ◌∙◌, arith, length-append}
use Rattle.outside.proofs.Rooms.{same_but_itself, same_but_then}
use Rattle.loading_commands.proofs.Opened.{at_end, at_before, closed_more, got, rises_none, lefts_more, lefts_none}
use Rattle.loading_commands.specs.Inputs.{lefts_of_inputs}
use Rattle.loading_commands.proofs.inputs.close_inputs.Goals as goal

pub loop-input-preserved : goal.loop-input-preserved
loop-input-preserved g c =
    let (stays, few, same, rises, lefts) = c.loop-input.invariant in
    let all = c.into_vec-inputs.result.items in
    let left = c.pop.new.self.items in
    let last = c.in-Some.input in
    let popped = c.in-Some.ensures.items in
    let len : length c.loop-input.inputs.items ≡ length left + 1 = ap length popped ∙ length-append left (last ∷ []) in
    let still = c.close_input.ensures.stays in
    let at : slice_get all (length left) ≡ Some last = sym (same (length left) (omega (arith, len))) ∙ ap (λ items. slice_get items (length left)) popped ∙ at_end left last in
    let counted : c.len.result ≡ length left = search rules in
    let libraries = c.args.libraries.now in
    let library = c.index-libraries-len.result in
    let many = c.requires in
    let within : length left < length libraries = omega (arith, len, few, many, ap length c.into_vec-inputs.ensures) in
    let of : slice_get libraries (length left) ≡ Some library = got libraries (length left) library within (subst (λ n. library ≡ get_or libraries n library) counted c.index-libraries-len.is) in (
      same_but_then _ _ _ _ stays still,
      omega (arith, len, few),
      λ index less. sym (at_before left last index less) ∙ ap (λ items. slice_get items index) (sym popped) ∙ same index (omega (arith, len, less)),
      closed_more g.R.In.Source.faults libraries all left library last (g.R.Room.seen c.args.room.now) (g.R.Room.seen c.loop-input.room) (g.R.Room.seen c.close_input.new.room)
          (λ index library input from named is had. rises index library input (omega (arith, len, from)) named is had) stays still of c.close_input.ensures.rose at,
      lefts_more g.R.In.Source.left all (length left) last (g.R.Room.seen c.args.room.now).lefts (g.R.Room.seen c.loop-input.room).lefts (g.R.Room.seen c.close_input.new.room).lefts
          at (subst (λ n. (g.R.Room.seen c.loop-input.room).lefts ≡ lefts_of_inputs g.R.In.Source.left (drop n all) ++ (g.R.Room.seen c.args.room.now).lefts) len lefts) c.close_input.ensures.left,
    )

pub returns-clause-rose : goal.returns-clause-rose
returns-clause-rose g c index library input from named is had =
    let (stays, few, same, rises, lefts) = c.loop-input.invariant in
    let none = c.in_default.ensures.items in
    let empty : length c.loop-input.inputs.items ≡ 0 = search rules in
    rises index library input (omega (arith, empty)) named (ap (λ items. slice_get items index) c.into_vec-inputs.ensures ∙ is) had

pub returns-clause-lefts : goal.returns-clause-lefts
returns-clause-lefts g c =
    let (stays, few, same, rises, lefts) = c.loop-input.invariant in
    let none = c.in_default.ensures.items in
    let empty : length c.loop-input.inputs.items ≡ 0 = search rules in
    let all = subst (λ n. (g.R.Room.seen c.loop-input.room).lefts ≡ lefts_of_inputs g.R.In.Source.left (drop n c.into_vec-inputs.result.items) ++ (g.R.Room.seen c.args.room.now).lefts) empty lefts in
    subst (λ inputs. (g.R.Room.seen c.loop-input.room).lefts ≡ lefts_of_inputs g.R.In.Source.left inputs ++ (g.R.Room.seen c.args.room.now).lefts) (c.into_vec-inputs.ensures) all

pub loop-input-init : goal.loop-input-init
loop-input-init g c = (
  same_but_itself _ _,
  omega arith,
  λ index less. refl,
  rises_none g.R.In.Source.faults c.args.libraries.now c.into_vec-inputs.result.items (g.R.Room.seen c.args.room.now) (g.R.Room.seen c.args.room.now),
  lefts_none g.R.In.Source.left c.into_vec-inputs.result.items (g.R.Room.seen c.args.room.now).lefts,
)
