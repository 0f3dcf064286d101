use Rattle.std.proofs.Common.{◌∙◌, sym}
use Rattle.linked_store.proofs.Wanting.{no_key_noted, none_left, noted_key}
use Rattle.linked_store.proofs.wanted.note_named.Goals as goal

pub returns-in_default : goal.returns-in_default
returns-in_default c = λ key valid.
    no_key_noted key c.args.keys.now.items c.args.subfield.now (none_left c.in_ok-key.field-0 c.in_default.not-Some ∙ c.in_ok-key.ensures) valid

pub returns : goal.returns
returns c = λ key valid.
    noted_key key c.in-Some.key c.args.keys.now.items c.push.new.self.items c.args.subfield.now c.in_ok-push.ensures.items (sym c.in-Some.is ∙ c.in_ok-key.ensures) valid
