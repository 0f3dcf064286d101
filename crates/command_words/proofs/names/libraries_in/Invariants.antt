use Rattle.std.proofs.Common.{◌≡◌, take}
use Rattle.std.specs.Prelude.{map}
use Rattle.command_words.specs.Command.{split_at_equals}
use Rattle.command_words.proofs.names.libraries_in.Given as goal

abbrev pub invariant-loop-word : goal.invariant-loop-word
invariant-loop-word l = l.libraries.items ≡ map split_at_equals (take l.word-index l.fn.words)
