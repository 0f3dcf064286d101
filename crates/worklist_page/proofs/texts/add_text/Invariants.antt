use Rattle.std.proofs.Common.{◌≡◌, ◌++◌, take}
use Rattle.worklist_page.specs.Texts.{html_text}
use Rattle.worklist_page.proofs.texts.add_text.Given as goal

abbrev pub invariant-loop-byte : goal.invariant-loop-byte
invariant-loop-byte l = l.page.items ≡ l.initial.page.items ++ html_text (take l.byte-index l.text)
