-- Two outputs, of which the second is written once the first is whole.
use Rattle.std.proofs.Common.{ℕ, List, [], ◌∷◌}
use Rattle.outside.specs.Room.{RoomView, SameBut}
use Rattle.outside.proofs.Rooms.{same_but_first, same_but_more, same_but_then}

pub first_apart : (old new : RoomView) (out side : List ℕ) → SameBut old new (out ∷ []) → SameBut old new (out ∷ side ∷ [])
first_apart old new out side first = same_but_first old new out (side ∷ []) first

pub both_apart : (old mid new : RoomView) (out side : List ℕ) → SameBut old mid (out ∷ []) → SameBut mid new (side ∷ []) → SameBut old new (out ∷ side ∷ [])
both_apart old mid new out side first second =
    let names : List (List ℕ) = out ∷ side ∷ [] in
    same_but_then old mid new names (first_apart old mid out side first) (same_but_more mid new (side ∷ []) names (λ n other. other.1) second)
