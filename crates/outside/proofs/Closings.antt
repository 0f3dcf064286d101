-- What a command on a few names leaves of the room.
use Rattle.std.proofs.Common.{◌≡◌, ◌≢◌, ◌∙◌, ◌⊎◌, inl, inr, ℕ, Bool, true, false, true≢false, List, ◌∷◌, [], refl, sym, subst, None}
use Rattle.std.specs.Str.{bytes_eq}
use Rattle.std.specs.Cmp.{unsigned_Decides}
use Rattle.std.specs.Cmp.Lexicographic.{pointwise_decides}
use Rattle.outside.specs.Room.{RoomView, IsNoneOf, SameBut}
use Rattle.outside.proofs.Rooms.{same_but_first, same_but_more, same_but_then}

same_or_not : (a b : List ℕ) → (a ≡ b) ⊎ (a ≢ b)
same_or_not a b = let same = pointwise_decides unsigned_Decides a b in decided (bytes_eq a b) same.0 same.1
  where
    decided : (is_same : Bool) → (is_same ≡ true → a ≡ b) → (a ≡ b → is_same ≡ true) → (a ≡ b) ⊎ (a ≢ b)
    decided true is back = inl (is refl)
    decided false is back = inr (λ e. absurd (true≢false (sym (back e))))

-- these names are closed
abbrev pub AreClosed : RoomView → List (List ℕ) → Type 0
AreClosed room [] = Unit {0}
AreClosed room (n ∷ names) = (room.open_as n ≡ None) × AreClosed room names

-- a name is none of some closed ones, or it is closed
pub none_or_closed : (room : RoomView) (name : List ℕ) (names : List (List ℕ)) → AreClosed room names → IsNoneOf name names ⊎ (room.open_as name ≡ None)
none_or_closed room name [] closed = inl tt
none_or_closed room name (n ∷ names) closed = decided (same_or_not name n) (none_or_closed room name names closed.1)
  where
    decided : (name ≡ n) ⊎ (name ≢ n) → IsNoneOf name names ⊎ (room.open_as name ≡ None) → IsNoneOf name (n ∷ names) ⊎ (room.open_as name ≡ None)
    decided (inl is) others = inr (subst (λ m. room.open_as m ≡ None) (sym is) closed.0)
    decided (inr other) (inl none) = inl (other, none)
    decided (inr other) (inr is) = inr is

-- where these names alone were used and closed again, what was closed is closed
pub closed_still : (old new : RoomView) (names : List (List ℕ)) → SameBut old new names → AreClosed new names → (name : List ℕ)
    → old.open_as name ≡ None → new.open_as name ≡ None
closed_still old new names apart closed name free = decided (none_or_closed new name names closed)
  where
    decided : IsNoneOf name names ⊎ (new.open_as name ≡ None) → new.open_as name ≡ None
    decided (inl none) = apart.open_names name none ∙ free
    decided (inr is) = is

-- where no name was open, no name is open then
pub closed_but : (old new : RoomView) (names : List (List ℕ)) → SameBut old new names → AreClosed new names
    → ((name : List ℕ) → old.open_as name ≡ None) → (name : List ℕ) → new.open_as name ≡ None
closed_but old new names apart closed free name = closed_still old new names apart closed name (free name)

-- the same of one name
pub closed_one : (old new : RoomView) (out : List ℕ) → SameBut old new (out ∷ []) → new.open_as out ≡ None
    → ((name : List ℕ) → old.open_as name ≡ None) → (name : List ℕ) → new.open_as name ≡ None
closed_one old new out apart closed = closed_but old new (out ∷ []) apart (closed, tt)

-- one name opened, and then both used
pub apart_opened : (old opened new : RoomView) (journal out : List ℕ) → SameBut old opened (journal ∷ []) → SameBut opened new (journal ∷ out ∷ [])
    → SameBut old new (journal ∷ out ∷ [])
apart_opened old opened new journal out first second =
    same_but_then old opened new (journal ∷ out ∷ []) (same_but_first old opened journal (out ∷ []) first) second

-- the output written, and then the log closed
pub apart_closed : (old written new : RoomView) (journal out : List ℕ) → SameBut old written (out ∷ []) → SameBut written new (journal ∷ [])
    → SameBut old new (journal ∷ out ∷ [])
apart_closed old written new journal out first second =
    same_but_then old written new (journal ∷ out ∷ []) (same_but_more old written (out ∷ []) (journal ∷ out ∷ []) (λ n other. other.1) first)
    (same_but_first written new journal (out ∷ []) second)

-- the same where the log was opened first
pub closed_opened : (old opened new : RoomView) (journal out : List ℕ) → SameBut old opened (journal ∷ []) → SameBut opened new (journal ∷ out ∷ [])
    → new.open_as journal ≡ None → new.open_as out ≡ None → ((name : List ℕ) → old.open_as name ≡ None) → (name : List ℕ) → new.open_as name ≡ None
closed_opened old opened new journal out first second closed out_closed free =
    closed_but old new (journal ∷ out ∷ []) (apart_opened old opened new journal out first second) (closed, (out_closed, tt)) free

-- three steps that touch two names alone
module _ (old opened brought closed : RoomView) (from into : List ℕ) (first : SameBut old opened (from ∷ [])) (second : SameBut opened brought (into ∷ []))
    (third : SameBut brought closed (from ∷ [])) where
  apart_behind : SameBut opened closed (from ∷ into ∷ [])
  apart_behind =
      let names : List (List ℕ) = from ∷ into ∷ [] in
      same_but_then opened brought closed names (same_but_more opened brought (into ∷ []) names (λ n other. (other.1.0, tt)) second)
      (same_but_first brought closed from (into ∷ []) third)

  pub apart_over : SameBut old closed (from ∷ into ∷ [])
  apart_over = same_but_then old opened closed (from ∷ into ∷ []) (same_but_first old opened from (into ∷ []) first) apart_behind

  -- where no name was open, and the two were opened and closed again, none is open
  pub closed_over : into ≢ from → closed.open_as from ≡ None → brought.open_as into ≡ None → ((name : List ℕ) → old.open_as name ≡ None)
      → (name : List ℕ) → closed.open_as name ≡ None
  closed_over differ closed_from closed_into free =
      closed_opened old opened closed from into first apart_behind closed_from (third.open_names into (differ, tt) ∙ closed_into) free
