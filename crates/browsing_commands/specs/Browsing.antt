-- What a loading with a reader beside it comes to.
use Rattle.std.specs.Prelude.{◌≡◌, ℕ, List, Some, Ok, Result, IfOk}
use Rattle.marc_types.specs.declared.copying.NoMemory.{NoMemory}
use Rattle.command_words.specs.declared.asked.BrowseRequest.{BrowseRequest}
use Rattle.command_words.specs.declared.asked.LoadRequest.{LoadRequest}
use Rattle.durable_catalogue.specs.Views.{DurableView}
use Rattle.heading_rows.specs.declared.row.BrowsePage.{BrowsePage}
use Rattle.browsing_commands.specs.Pages.{ArePagesOf, pages_text}

-- the loading that a request to browse asks for: that of `run`
abbrev pub run_of : BrowseRequest → LoadRequest
run_of r = record { journal = r.journal; libraries = r.libraries; outputs = Some r.outputs }

-- the pages, where there was memory for them, are of all that the catalogue has, and none of fewer entries than it was opened with
abbrev pub HasPaged : DurableView → Result (List BrowsePage) NoMemory → Type 0
HasPaged d pages = IfOk pages (ArePagesOf d.opened.opened d.entries)

-- the lines are those of the pages, for which there was memory
abbrev pub IsTextOf : Result (List BrowsePage) NoMemory → List ℕ → Type 0
IsTextOf got lines = (pages : List BrowsePage) × (got ≡ Ok pages) × (lines ≡ pages_text pages)
