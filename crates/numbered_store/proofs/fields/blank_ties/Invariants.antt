use Rattle.numbered_store.proofs.Tied.{AreMade}
use Rattle.numbered_store.proofs.fields.blank_ties.Given as goal

abbrev pub invariant-loop-done : goal.invariant-loop-done
invariant-loop-done l = AreMade l.count l.done l.ties.items
