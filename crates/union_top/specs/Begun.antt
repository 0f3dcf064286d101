-- What the beginning of a command comes to.
use Rattle.std.specs.Prelude.{◌≡◌, ℕ, List}
use Rattle.std.specs.Borrow.{Bor}
use Rattle.command_words.specs.Asked.{AsksFor}
use Rattle.command_words.specs.declared.asked.BrowseRequest.{BrowseRequest}
use Rattle.command_words.specs.declared.asked.LoadRequest.{LoadRequest}
use Rattle.command_words.specs.declared.asked.Outputs.{Outputs}
use Rattle.command_words.specs.declared.asked.Request.TheVariants.{Browse}
use Rattle.browsing_commands.specs.Browsing.{run_of}
use Rattle.outside.specs.declared.disk.Disk.{Ghosts}
use Rattle.loading_commands.specs.declared.journal.Loading.{Loading as Open}
use Rattle.browsing_commands.specs.declared.browsing.Browsing.{Browsing as OpenToBrowse}
use Rattle.union_top.specs.declared.command.Begun.{Begun}
use Rattle.union_top.specs.declared.command.Begun.TheVariants.{Ended, Loading, Browsing}

-- where it has ended, its status is so
abbrev pub IfEnded : {R In Out Log : Type 0} {disk : Ghosts Log} → Begun R In Out Log disk → (ℕ → Type 0) → Type 0
IfEnded (Ended status) P = P status
IfEnded (Loading loading) P = Unit {0}
IfEnded (Browsing browsing) P = Unit {0}

-- where it loads files, what is open is so
abbrev pub IfLoading : {R In Out Log : Type 0} {disk : Ghosts Log} → Begun R In Out Log disk → (Open R In Out Log disk → Type 0) → Type 0
IfLoading (Ended status) P = Unit {0}
IfLoading (Loading loading) P = P loading
IfLoading (Browsing browsing) P = Unit {0}

-- where it loads files beside a reader, what is open is so
abbrev pub IfBrowsing : {R In Out Log : Type 0} {disk : Ghosts Log} → Begun R In Out Log disk → (OpenToBrowse R In Out Log disk → Type 0) → Type 0
IfBrowsing (Ended status) P = Unit {0}
IfBrowsing (Loading loading) P = Unit {0}
IfBrowsing (Browsing browsing) P = P browsing

-- some words ask to browse, with this loading, these outputs and these pages
pub record IsAskedToBrowse (words : List (List ℕ)) (loading : LoadRequest) (outputs : Outputs) (pages : Bor (List ℕ)) : Type 0 where
  pub asked : BrowseRequest
  pub asks : AsksFor words (Browse asked)
  pub loading_is : loading ≡ run_of asked
  pub outputs_are : outputs ≡ asked.outputs
  pub pages_are : pages ≡ asked.pages
