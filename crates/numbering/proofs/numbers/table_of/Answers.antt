use Rattle.std.proofs.Common.{◌≡◌, ◌∙◌, ap, sym, Some, rules}
use Rattle.std.proofs.lemmas.Option.{slice_get-get_or}
use Rattle.numbering.proofs.Tablelaws.{moved_next}
use Rattle.numbering.proofs.numbers.table_of.Goals as goal

pub loop-i-preserved : goal.loop-i-preserved
loop-i-preserved g c =
    (search rules)
    ∙ moved_next _ g.met.T.Eq.laws c.args.things.now c.loop-i.table.keys c.loop-i.i c.in_ok-copy.field-0 c.requires
      (slice_get-get_or c.args.things.now c.loop-i.i c.index-things-i.result (search rules) ∙ ap Some (sym c.index-things-i.is ∙ sym c.in_ok-copy.ensures))
      c.loop-i.invariant
