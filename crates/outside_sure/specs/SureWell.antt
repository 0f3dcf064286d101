-- That what is kept is kept well is one fact.
use denote.Struct.Props.{props}
use Rattle.std.specs.Prelude.{ℕ, List, Option, Some, None}
use Rattle.std.specs.Coded.{Unit-prop}
use Rattle.outside_sure.specs.SureFiles.{kept_in}
use Rattle.outside_sure.specs.SureKept.{IsDrawerWell, IsKeptWell}
use Rattle.outside_sure.specs.declared.drawer.Drawer.{Drawer}
use Rattle.outside_sure.specs.declared.kept.Kept.{Kept}
use Rattle.outside_sure.specs.declared.kept.Kept.TheVariants.{Input, InDrawer}
use Rattle.outside_sure.specs.declared.sure_files.SureFile.{SureFile}

module _ {room : ℕ} where
  drawer_well_prop : (drawer : Drawer room) → IsProp (IsDrawerWell drawer)
  drawer_well_prop drawer = hlevel props

  kept_well_prop : (kept : Option (Kept room)) → IsProp (IsKeptWell kept)
  kept_well_prop None = Unit-prop
  kept_well_prop (Some (Input source)) = Unit-prop
  kept_well_prop (Some (InDrawer drawer)) = drawer_well_prop drawer

  pub are_kept_well_prop : (files : List (SureFile room)) → IsProp ((n : List ℕ) → IsKeptWell (kept_in files n))
  are_kept_well_prop files one other i n = kept_well_prop (kept_in files n) (one n) (other n) i
