-- What of a catalogue's entries outlasts its further calls. The rules are this project's own.
use Rattle.std.specs.Prelude.{◌≡◌, ◌⊎◌, ℕ, ◌≤◌, true, Bool, List, ◌++◌}
use Rattle.marc_types.specs.declared.entry.Entry.{Entry}
use Rattle.outside.specs.Disk.{DiskView}
use Rattle.durable_catalogue.specs.Logs.{IsLogOf}

-- an image with these entries, and maybe others behind them
pub record BeginsWithEntries (entries : List Entry) (image : List ℕ) : Type 0 where
  pub more : List Entry
  pub has : IsLogOf (entries ++ more) image

-- an image's history begins with these entries
abbrev pub StartsWith : List Entry → List ℕ → Type 0
StartsWith entries image = ∥ BeginsWithEntries entries image ∥₁

-- A call adds to the entries and takes none away, whatever it answers. A crash at any moment of it leaves what it might have left
-- before, or an image that starts with the entries that were committed before the call.
pub record GoesOn (tells : Bool) (entries now : List Entry) (old new : DiskView) : Type 0 where
  pub added : List Entry
  pub now_is : now ≡ entries ++ added
  pub later : old.moment ≤ new.moment
  pub since : (t : ℕ) (c : List ℕ) → tells ≡ true → t ≤ old.moment → new.left t c → old.left t c ⊎ StartsWith entries c
