-- What is begun is one thing: it has ended, or it loads files, or it loads them beside a reader.
use Rattle.outside.specs.declared.disk.Disk.{Ghosts}
use Rattle.loading_commands.specs.declared.journal.Loading.{Loading as Open}
use Rattle.browsing_commands.specs.declared.browsing.Browsing.{Browsing as OpenToBrowse}
use Rattle.union_top.specs.declared.command.Begun.{Begun}
use Rattle.union_top.specs.declared.command.Begun.TheVariants.{Ended, Loading, Browsing}
use Rattle.union_top.specs.Begun.{IfLoading, IfBrowsing}

module _ {R In Out Log : Type 0} {disk : Ghosts Log} where
  pub no_loading : (b : Begun R In Out Log disk) (P : Open R In Out Log disk → Type 0) → IfLoading b (λ l. ⊥) → IfLoading b P
  no_loading (Ended status) P none = tt
  no_loading (Loading loading) P none = absurd none
  no_loading (Browsing browsing) P none = tt

  pub no_browsing : (b : Begun R In Out Log disk) (P : OpenToBrowse R In Out Log disk → Type 0) → IfBrowsing b (λ l. ⊥) → IfBrowsing b P
  no_browsing (Ended status) P none = tt
  no_browsing (Loading loading) P none = tt
  no_browsing (Browsing browsing) P none = absurd none
