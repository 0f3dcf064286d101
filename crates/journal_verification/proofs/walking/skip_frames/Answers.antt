use Rattle.std.proofs.Common.{◌++◌, ◌∷◌, [], take, drop, ◌∙◌, ap, sym, subst, refl, arith}
use Rattle.journal_verification.specs.Gates.{GateSays, GateIn}
use Rattle.journal_verification.specs.Walking.{IsLostAt}
use Rattle.commit_journal.specs.Log.{walk}
use Rattle.journal_verification.proofs.Walks.{is_shut, ends_lost, walks_frame, same_place}
use Rattle.journal_verification.proofs.walking.skip_frames.Goals as goal

pub returns-in-Closed-clause-closed : goal.returns-in-Closed-clause-closed
returns-in-Closed-clause-closed g c b comes =
    let on = c.gates.invariant.on b comes in
    is_shut _ _ b _ _ _ on.1 (λ x come. subst (GateSays x) c.in-Closed.is (c.in_ok-next_gate.ensures.says x come))

pub returns-in-Lost-clause-lost : goal.returns-in-Lost-clause-lost
returns-in-Lost-clause-lost g c wrong is b comes =
    let on = c.gates.invariant.on b comes in
    let lost = ends_lost _ _ b _ _ _ on.1 (λ x come. subst (GateSays x) c.in-Lost.is (c.in_ok-next_gate.ensures.says x come)) in
    subst (λ p. IsLostAt p (walk c.args.coming.now.place 0 b)) (sym c.place-place.ensures.value ∙ same_place _ wrong is) lost

pub gates-preserved : goal.gates-preserved
gates-preserved g c =
    let before = c.gates.invariant.faults in
    let later = c.next_gate.ensures.cause.later in
    let source = ap g.S.Source.faults c.pass.ensures.source in
    let place = c.pass.ensures.place in
    let same = c.next_gate.ensures.place in
    let within = subst (GateIn c.next_gate.new.coming.window.items) c.in-Frame.is c.in_ok-next_gate.ensures.within in
    record {
      on = λ b comes.
          let on = c.gates.invariant.on b comes in (
            on.0 ++ record { gate = c.gates.coming.place; payload = take c.in-Frame.count (drop 5 c.next_gate.new.coming.window.items) } ∷ [],
            walks_frame _ c.gates.coming.place c.in-Frame.count c.pass.new.self.place b _ c.next_gate.new.coming.window.items c.pass.new.self.window.items
                (take c.in-Frame.count (drop 5 c.next_gate.new.coming.window.items)) on.0 _ _ _ on.1
                (λ x come. subst (GateSays x) c.in-Frame.is (c.in_ok-next_gate.ensures.says x come)) c.in_ok-next_gate.ensures.comes c.pass.ensures.comes within
                (omega (arith, place, same)) refl,
          );
      faults = omega (arith, before, later, source);
    }
