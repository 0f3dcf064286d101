-- The line of the bytes that are left out.
use Rattle.std.proofs.Common.{◌≡◌, ◌≢◌, ℕ, zero, suc, List, [], ◌++◌, codes, refl, ap}
use Rattle.std.specs.Fmt.{decimal}
use Rattle.salvage_command.specs.Told.{left_line}

pub left_none : (left end : ℕ) → left ≡ 0 → left_line left end ≡ []
left_none left end none = ap (λ n. left_line n end) none

pub left_some : (left end : ℕ) (text : List ℕ) → left ≢ 0 → text ≡ codes "left out " ++ decimal left ++ codes " bytes behind byte " ++ decimal end ++ codes "\n"
    → text ≡ left_line left end
left_some zero end text some is = absurd (some refl)
left_some (suc n) end text some is = is
