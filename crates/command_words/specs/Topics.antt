-- What help can be asked for. The rules are this project's own.
use Rattle.std.specs.Prelude.{ℕ, List, Option, Some, None, codes, if◌then◌else◌}
use Rattle.std.specs.Str.{bytes_eq}
use Rattle.command_words.specs.declared.topic.Topic.{Topic}
use Rattle.command_words.specs.declared.topic.Topic.TheVariants.{Pass, Run, Load, Browse, Export, Report, Make, Verify, Migrate, Salvage, Matches, Holdings, Headings, Worklist, Checkpoint, Quick, Reading, Refused, Split, Join, Totals, Large, Help, Version, Statuses}

-- the command that a word names, or another topic
unfoldable pub topic_of : List ℕ → Option Topic
topic_of word =
    if bytes_eq word (codes "pass") then Some Pass
    else if bytes_eq word (codes "run") then Some Run
    else if bytes_eq word (codes "load") then Some Load
    else if bytes_eq word (codes "browse") then Some Browse
    else if bytes_eq word (codes "export") then Some Export
    else if bytes_eq word (codes "report") then Some Report
    else if bytes_eq word (codes "make") then Some Make
    else if bytes_eq word (codes "verify") then Some Verify
    else if bytes_eq word (codes "migrate") then Some Migrate
    else if bytes_eq word (codes "salvage") then Some Salvage
    else if bytes_eq word (codes "matches") then Some Matches
    else if bytes_eq word (codes "holdings") then Some Holdings
    else if bytes_eq word (codes "headings") then Some Headings
    else if bytes_eq word (codes "worklist") then Some Worklist
    else if bytes_eq word (codes "checkpoint") then Some Checkpoint
    else if bytes_eq word (codes "quick") then Some Quick
    else if bytes_eq word (codes "reading") then Some Reading
    else if bytes_eq word (codes "refused") then Some Refused
    else if bytes_eq word (codes "split") then Some Split
    else if bytes_eq word (codes "join") then Some Join
    else if bytes_eq word (codes "totals") then Some Totals
    else if bytes_eq word (codes "large") then Some Large
    else if bytes_eq word (codes "help") then Some Help
    else if bytes_eq word (codes "version") then Some Version
    else if bytes_eq word (codes "statuses") then Some Statuses
    else None
