-- What the laws of the index say.
use Rattle.std.specs.Prelude.{◌≡◌, ◌<◌, List, length}
use Rattle.std.specs.List.{IsDistinct}
use Rattle.std.specs.Ordering.{eq_by_cmp}
use Rattle.marc_types.specs.Order.{key_cmp}
use Rattle.marc_types.specs.declared.key.Key.{Key}
use Rattle.numbering.specs.Numbers.{Keeps}
use Rattle.form_index.specs.Index.{Indexed, IsInOrder, Taken, put_back}

-- a row that was taken by these keys comes back to the same places by all keys that were numbered since
abbrev pub ComesBack : (before now : List Key) → Taken → Indexed → Type 0
ComesBack before now row x =
    Keeps (eq_by_cmp key_cmp) before now → IsDistinct (eq_by_cmp key_cmp) before → row.number < length before → IsInOrder before x
    → put_back now row x ≡ put_back before row x
