use Rattle.std.proofs.Common.{◌≡◌, filter, map, take}
use Rattle.heading_worklist.specs.Texts.{texts_of}
use Rattle.heading_worklist.specs.Wanted.{is_wanted}
use Rattle.heading_worklist.proofs.texts.wanted_texts.Given as goal

abbrev pub invariant-loop-subfield : goal.invariant-loop-subfield
invariant-loop-subfield l = map (λ text. text.now) l.texts.items ≡ texts_of (filter (is_wanted l.wanted) (take l.subfield-index l.subfields))
