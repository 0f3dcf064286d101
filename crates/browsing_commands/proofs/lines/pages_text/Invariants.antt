use Rattle.std.proofs.Common.{◌≡◌, take}
use Rattle.browsing_commands.specs.Pages.{pages_text}
use Rattle.browsing_commands.proofs.lines.pages_text.Given as goal

abbrev pub invariant-loop-page : goal.invariant-loop-page
invariant-loop-page l = l.text.items ≡ pages_text (take l.page-index l.pages)
