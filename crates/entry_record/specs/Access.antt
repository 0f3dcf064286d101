-- The forms under which an authority is found.
use Rattle.std.specs.Prelude.{◌≡◌, Option}
use Rattle.entry_record.specs.Authority.{Linkable}
use Rattle.entry_record.specs.Prepared.{established_in, see_from_in}
use Rattle.entry_record.specs.declared.access.Access.{Access}

-- the forms of an authority, if there is one that fields can be linked to
pub record IsAccessTo (authority : Option Linkable) (a : Access) : Type 0 where
  pub established_is : a.established ≡ established_in authority
  pub see_from_is : a.see_from ≡ see_from_in authority
