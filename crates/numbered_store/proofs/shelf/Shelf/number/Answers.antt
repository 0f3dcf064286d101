use Rattle.std.proofs.Common.{◌∙◌, ap, sym, length, rules}
use Rattle.numbered_store.proofs.Shelving.{more_have, more_rows, more_present}
use Rattle.numbered_store.proofs.shelf.Shelf.number.Goals as goal

pub invariant_of-self-then-len : goal.invariant_of-self-then-len
invariant_of-self-then-len c = (
  more_have c.self.inside.keys c.add.new.self c.args.key.now c.self.inside.slots.items c.push_reserved.new.self.items c.self.invariant.0 (search rules) (search rules) (search rules) (search rules),
  c.self.invariant.1
      ∙ ap length (sym (more_present c.self.inside.keys c.add.new.self c.args.key.now c.self.inside.slots.items c.push_reserved.new.self.items c.self.invariant.0 (search rules) (search rules) (search rules))),
)

pub returns-then-len-clause-rows : goal.returns-then-len-clause-rows
returns-then-len-clause-rows c =
    more_rows c.self.inside.keys c.add.new.self c.args.key.now c.self.inside.slots.items c.push_reserved.new.self.items c.self.invariant.0 (search rules) (search rules) (search rules)
    ∙ ap (λ s. s.rows) c.self.view_is
