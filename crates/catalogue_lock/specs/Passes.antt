-- What contracts see of a lock and of its passes, and what each call does to them.
use Rattle.std.specs.Prelude.{◌≡◌, ℕ, ◌+◌, ◌<◌, ◌≤◌, List, [], ◌++◌, map, slice_get, Option, Some, None}
use Rattle.std.specs.List.{range_with_len}
use mathlib.Core.List.{IsPrefix}
use Rattle.atomic_table.specs.Seated.{TableId}
use Rattle.catalogue_lock.specs.declared.view.Numbered.{Numbered}
use Rattle.catalogue_lock.specs.History.{items, numbered, items_by}

-- a lock: which one it is, how many passes it has, and the object that `new` took
pub record Lock (O : Type 0) : Type 0 where
  pub id : TableId
  pub callers : ℕ
  pub opened : O

-- a pass: whose it is, its number, how many turns and looks it has made, what its turns added, and what it has seen of the history
pub record Pass (O I : Type 0) : Type 0 where
  pub lock : TableId
  pub opened : Option O
  pub number : ℕ
  pub turns : ℕ
  pub added : List I
  pub seen : List (Numbered I)

-- the lock is that of this object, for so many callers
abbrev pub IsLockOf : {O : Type 0} → Lock O → O → ℕ → Type 0
IsLockOf l object callers = (l.opened ≡ object) × (l.callers ≡ callers)

module _ {O I : Type 0} where
  -- the pass is one of this lock's
  abbrev pub IsPassOf : Lock O → Pass O I → Type 0
  IsPassOf l p = (p.lock ≡ l.id) × (p.opened ≡ Some l.opened)

  -- it is one of the lock's, and has made no turn
  abbrev pub IsReady : Lock O → Pass O I → Type 0
  IsReady l p = IsPassOf l p × (p.turns ≡ 0)

  -- a pass with this number that has made no turn
  abbrev pub new_pass : TableId → Option O → List (Numbered I) → ℕ → Pass O I
  new_pass lock opened seen number = record { lock = lock; opened = opened; number = number; turns = 0; added = []; seen = seen }

  -- the passes of a new lock, by their numbers: each has seen what the object brought
  abbrev pub new_passes : Lock O → List I → List (Pass O I)
  new_passes l brought = map (new_pass l.id (Some l.opened) (numbered None brought)) (range_with_len 0 l.callers)

  -- the items with the pass's number are those that its own turns added, each once, in its order
  abbrev pub HasSeenItsOwn : Pass O I → Type 0
  HasSeenItsOwn p = items_by (Some p.number) p.seen ≡ p.added

  -- the same pass, which has seen another history
  abbrev pub having_seen : Pass O I → List (Numbered I) → Pass O I
  having_seen p history = record p { seen = history }

  -- the same after a look
  abbrev pub having_looked : Pass O I → List (Numbered I) → Pass O I
  having_looked p history = record p { turns = p.turns + 1; seen = history }

  -- the same after one more turn, which added these items
  abbrev pub having_turned : Pass O I → List I → List (Numbered I) → Pass O I
  having_turned p added history = record p { turns = p.turns + 1; added = p.added ++ added; seen = history }

-- What a turn did: `before` is its point of the one history, and `added` what the call added there.
-- `replies` is the object's relation of the items before, the call, the reply and the items added.
pub record Turned {O I C R : Type 0} (replies : List I → C → R → List I → Type 0) (call : C) (reply : R) (old new : Pass O I) : Type 0 where
  pub before : List (Numbered I)
  pub added : List I
  pub begins : IsPrefix old.seen before
  pub replied : replies (items before) call reply added
  pub pass : new ≡ having_turned old added (before ++ numbered (Some old.number) added)
  pub own : HasSeenItsOwn new

-- What is known at the end: `history` is the lock's, of which `left` is the object's, and `brought` what it had at `new`.
pub record Closed {O I : Type 0} (callers : ℕ) (passes : List (Pass O I)) (brought left : List I) : Type 0 where
  pub history : List (Numbered I)
  pub whole : items history ≡ left
  pub unnumbered : items_by None history ≡ brought
  -- it begins with what each pass has seen, and has the items of each
  pub begins : (k : ℕ) (p : Pass O I) → slice_get passes k ≡ Some p → IsPrefix p.seen history
  pub own : (k : ℕ) (p : Pass O I) → slice_get passes k ≡ Some p → items_by (Some p.number) history ≡ p.added
  -- and of nobody else
  pub every : (n : ℕ) → n < callers → (k : ℕ) × (p : Pass O I) × (slice_get passes k ≡ Some p) × (p.number ≡ n)
  pub nobody : (n : ℕ) → callers ≤ n → items_by (Some n) history ≡ []
