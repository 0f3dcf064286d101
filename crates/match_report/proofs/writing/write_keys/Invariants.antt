use Rattle.std.proofs.Common.{◌≡◌, ◌≤◌, drop, map}
use Rattle.std.specs.Prelude.{is_some}
use Rattle.outside.proofs.Fronts.{IsWriting}
use Rattle.heading_fields.specs.Numbers.{key_text}
use Rattle.catalogue_rules.specs.Lines.{then_words}
use Rattle.match_report.proofs.writing.write_keys.Given as goal

abbrev pub invariant-loop-key : goal.invariant-loop-key
invariant-loop-key g l = record {
  writing : IsWriting (g.K.Sink.written l.initial.out) (g.K.Sink.written l.out) (then_words (map key_text (map (λ key. key.now) l.fn.keys)))
      (then_words (map key_text (map (λ key. key.now) (drop l.key-index l.keys))));
  tells : is_some (g.K.Sink.written l.out) ≡ is_some (g.K.Sink.written l.initial.out);
  later : g.K.Sink.faults l.initial.out ≤ g.K.Sink.faults l.out;
}
