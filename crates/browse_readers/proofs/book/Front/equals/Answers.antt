use Rattle.std.proofs.Common.{subst, ap, List}
use mathlib.Core.List.{IsPrefix}
use Rattle.marc_types.specs.declared.entry.Entry.{Entry}
use Rattle.browse_readers.proofs.Fronts.{fronts_same}
use Rattle.browse_readers.proofs.book.Front.equals.Goals as goal

pub returns : goal.returns
returns g c =
    let both = c.learn.new.self.log in
    let this : IsPrefix c.self.inside.seen.log both = subst (λ (l : List Entry). IsPrefix l both) (ap (λ s. s.log) c.again-both.ensures) c.learn.ensures.2 in
    rw (← c.self.view_is, ← c.other.view_is)
    (fronts_same _ c.self.inside.seen.log c.other.inside.seen.log both c.self.inside.added c.other.inside.added c.self.invariant.0 c.other.invariant.0 this c.learn.ensures.3)
