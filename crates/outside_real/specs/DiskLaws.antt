-- Why a disk that tells nothing but its length is a disk.
use Rattle.std.specs.Prelude.{◌≡◌, ℕ, List, Some, None}

-- it tells no content
pub tells_none : {P : Type 0} (b : List ℕ) → None ≡ Some b → P
tells_none b told = absurd (let e : None ≡ Some b = told in cc)

-- and has no syncs
pub syncs_none : {P : Type 0} (s : ℕ) → None ≡ Some s → P
syncs_none s is = absurd (let e : None ≡ Some s = is in cc)
