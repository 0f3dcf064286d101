use Rattle.std.proofs.Common.{take, drop, length, ◌∙◌, ap, sym, subst, arith}
use Rattle.std.specs.Prelude.{Err}
use Rattle.commit_journal.specs.Log.{walk}
use Rattle.entry_history.specs.Readers.{HoldsNone}
use Rattle.commit_journal.specs.Versions.{number_of}
use Rattle.sha2.specs.Hashers.{Holds256}
use Rattle.journal_verification.proofs.Digests.{tests_same, tests_other}
use Rattle.journal_verification.specs.Gates.{GateSays, GateIn}
use Rattle.journal_verification.specs.Walking.{IsRead, IsLostAt, IsUnread, NoGate}
use Rattle.journal_verification.proofs.Walks.{taken_none, taken_more, read_all, ends_lost, walks_frame, unread_bad, unread_behind, same_place, same_fault, most_taken}
use Rattle.journal_verification.proofs.walking.take_frames.Goals as goal

pub gates-init : goal.gates-init
gates-init g c = record {
  taken = λ b comes.
      taken_none (number_of c.args.version) c.args.coming.now.place c.args.wanted c.args.coming.now.hasher c.in_ok-front.front b
      c.args.coming.now.window.items (g.S.Source.left c.args.coming.now.source) c.new-counter.result.extent c.new-counter.ensures.none
      c.new-counter.ensures.count comes (λ is. c.in_ok-front.ensures.new (tests_same c.args.wanted 0 is))
      (λ differs. c.in_ok-front.ensures.kept (tests_other c.args.wanted 0 differs));
  version = c.new-counter.ensures.version ∙ c.number.ensures.number;
  few = omega arith;
  counted = omega (arith, c.new-counter.ensures.count);
  faults = omega arith;
}

pub returns-in-Closed-clause-read : goal.returns-in-Closed-clause-read
returns-in-Closed-clause-read g c b comes =
    let version = number_of c.args.version in
    let from = c.args.coming.now.place in
    let started = c.args.coming.now.hasher in
    let digest = c.in_ok-digest-in-Closed.field-0 in
    let taken = c.gates.invariant.taken b comes in
    let all = read_all version from c.gates.coming.place c.gates.frames c.args.wanted started c.gates.coming.hasher c.gates.front digest b
    c.gates.coming.window.items _ c.gates.counter.extent taken
    (λ passed held. c.in_ok-digest-in-Closed.ensures passed (subst (λ h. Holds256 h passed) (sym c.next_gate.ensures.hasher) held))
    (λ x come. subst (GateSays x) c.in-Closed.is (c.in_ok-next_gate.ensures.says x come)) in
    subst (λ p. IsRead version from c.args.wanted started b (record { entries = c.count.result; frames = c.gates.frames; digest = digest; front = c.gates.front }) p)
    (sym c.next_gate.ensures.place)
    (subst (λ n. IsRead version from c.args.wanted started b (record { entries = n; frames = c.gates.frames; digest = digest; front = c.gates.front }) c.gates.coming.place)
    (sym c.count.ensures) all)

pub returns-in-Closed-clause-on : goal.returns-in-Closed-clause-on
returns-in-Closed-clause-on g c b comes =
    let taken = c.gates.invariant.taken b comes in
    let same = c.next_gate.ensures.place in
    let size = taken.on.size in
    record {
      now = taken.on.now;
      comes = c.in_ok-next_gate.ensures.comes taken.on.now taken.on.comes;
      size = omega (arith, size, same);
    }

pub returns-in-Lost-clause-unread : goal.returns-in-Lost-clause-unread
returns-in-Lost-clause-unread g c wrong is b comes =
    let taken = c.gates.invariant.taken b comes in
    let lost = ends_lost _ _ b _ taken.frames _ taken.on (λ x come. subst (GateSays x) c.in-Lost.is (c.in_ok-next_gate.ensures.says x come)) in
    NoGate (subst (λ p. IsLostAt p (walk c.args.coming.now.place 0 b)) (sym c.place-place.ensures.value ∙ same_place _ wrong is) lost)

pub gates-preserved : goal.gates-preserved
gates-preserved g c =
    let before = c.gates.invariant.faults in
    let later = c.next_gate.ensures.cause.later in
    let source = ap g.S.Source.faults c.pass-in-Frame.ensures.source in
    let place = c.pass-in-Frame.ensures.place in
    let same = c.next_gate.ensures.place in
    let few = c.gates.invariant.few in
    let filled = c.next_gate.new.coming.window.items in
    let within = subst (GateIn filled) c.in-Frame.is c.in_ok-next_gate.ensures.within in
    let payload = c.payload_in.ensures ∙ ap (λ l. take c.in-Frame.count (drop 5 l)) c.window.ensures in
    let counts = c.in-Ok.ensures.read in
    let counted = c.gates.invariant.counted in
    let more = c.in-Ok.ensures.few in
    let taken_len = ap length payload in
    record {
      taken = λ b comes.
          let taken = c.gates.invariant.taken b comes in
          let count_is = c.count-in-Frame.ensures in
          taken_more (number_of c.args.version) c.args.coming.now.place c.gates.coming.place c.pass-in-Frame.new.self.place c.gates.frames c.args.wanted
          c.args.coming.now.hasher c.gates.coming.hasher c.pass-in-Frame.new.self.hasher c.gates.front c.in_ok-front-in-Frame.front b c.gates.coming.window.items
          filled c.pass-in-Frame.new.self.window.items c.in-Frame.count c.payload_in.result.now _ _ _ c.gates.counter c.read.new.self taken c.in-Ok.field-0.items
          c.gates.invariant.version (counts taken.entries taken.extent_is)
          (walks_frame _ c.gates.coming.place c.in-Frame.count c.pass-in-Frame.new.self.place b _ filled c.pass-in-Frame.new.self.window.items c.payload_in.result.now taken.frames _ _ _ taken.on
          (λ x come. subst (GateSays x) c.in-Frame.is (c.in_ok-next_gate.ensures.says x come)) c.in_ok-next_gate.ensures.comes c.pass-in-Frame.ensures.comes within
          (omega (arith, place, same)) payload)
          c.in_ok-next_gate.ensures.comes within payload
          (record {
            hashed = λ passed held. c.pass-in-Frame.ensures.hashed passed (subst (λ h. Holds256 h passed) (sym c.next_gate.ensures.hasher) held);
            kept = λ differs. c.in_ok-front-in-Frame.ensures.kept (tests_other c.count-in-Frame.result c.args.wanted (λ is. differs (sym count_is ∙ is)));
            found = λ is. c.in_ok-front-in-Frame.ensures.new (tests_same c.count-in-Frame.result c.args.wanted (count_is ∙ is));
          });
      version = c.read.ensures.version ∙ c.gates.invariant.version;
      counted = omega (arith, counted, more, place, same, taken_len, most_taken c.in-Frame.count (drop 5 filled));
      few = omega (arith, few, place, same);
      faults = omega (arith, before, later, source);
    }

pub returns-in-Ok-skip_frames-clause-unread : goal.returns-in-Ok-skip_frames-clause-unread
returns-in-Ok-skip_frames-clause-unread g c wrong is b comes =
    let place = c.pass.ensures.place in
    let same = c.next_gate.ensures.place in
    let filled = c.next_gate.new.coming.window.items in
    let within = subst (GateIn filled) c.in-Frame.is c.in_ok-next_gate.ensures.within in
    let payload = c.payload_in.ensures ∙ ap (λ l. take c.in-Frame.count (drop 5 l)) c.window.ensures in
    let taken = c.gates.invariant.taken b comes in
    let none = subst (HoldsNone c.gates.counter.version taken.entries c.payload_in.result.now) c.in-Err-BadEntry.field-0-is (c.in-Err-BadEntry.ensures.bad taken.entries taken.extent_is) in
    let on = walks_frame _ c.gates.coming.place c.in-Frame.count c.pass.new.self.place b _ filled c.pass.new.self.window.items c.payload_in.result.now taken.frames _ _ _ taken.on
    (λ x come. subst (GateSays x) c.in-Frame.is (c.in_ok-next_gate.ensures.says x come)) c.in_ok-next_gate.ensures.comes c.pass.ensures.comes within
    (omega (arith, place, same)) payload in
    subst (IsUnread (number_of c.args.version) (walk c.args.coming.now.place 0 b)) (sym c.place-place.ensures.value ∙ same_place _ wrong is)
    (unread_bad (number_of c.args.version) c.args.coming.now.place c.gates.coming.place c.pass.new.self.place c.gates.frames _ b c.gates.coming.window.items c.pass.new.self.window.items
    c.payload_in.result.now _ _ c.gates.counter taken c.gates.invariant.version none on c.in-Ok-skip_frames.ensures.closed)

pub returns-in-Err-clause-unread : goal.returns-in-Err-clause-unread
returns-in-Err-clause-unread g c wrong is b comes =
    let place = c.pass.ensures.place in
    let same = c.next_gate.ensures.place in
    let filled = c.next_gate.new.coming.window.items in
    let within = subst (GateIn filled) c.in-Frame.is c.in_ok-next_gate.ensures.within in
    let payload = c.payload_in.ensures ∙ ap (λ l. take c.in-Frame.count (drop 5 l)) c.window.ensures in
    let taken = c.gates.invariant.taken b comes in
    let on = walks_frame _ c.gates.coming.place c.in-Frame.count c.pass.new.self.place b _ filled c.pass.new.self.window.items c.payload_in.result.now taken.frames _ _ _ taken.on
    (λ x come. subst (GateSays x) c.in-Frame.is (c.in_ok-next_gate.ensures.says x come)) c.in_ok-next_gate.ensures.comes c.pass.ensures.comes within
    (omega (arith, place, same)) payload in
    unread_behind (number_of c.args.version) c.args.coming.now.place c.pass.new.self.place wrong b c.pass.new.self.window.items _ _ on
    (c.skip_frames.ensures.lost wrong (c.in-Err.is ∙ ap Err (same_fault _ _ is)))

pub read-requires : goal.read-requires
read-requires g c =
    let counted = c.gates.invariant.counted in
    let same = c.next_gate.ensures.place in
    let filled = c.next_gate.new.coming.window.items in
    let within = subst (GateIn filled) c.in-Frame.is c.in_ok-next_gate.ensures.within in
    let payload = ap length (c.payload_in.ensures ∙ ap (λ l. take c.in-Frame.count (drop 5 l)) c.window.ensures) in
    omega (arith, counted, same, within, payload, most_taken c.in-Frame.count (drop 5 filled), c.next_gate.new.coming.room)
