-- What each step tells its seat.
use Rattle.std.specs.Prelude.{◌≡◌, ◌≢◌, ℕ, suc, ◌+◌, true, false, List, [], ◌∷◌, ◌++◌, map, length, Option, Some, None}
use Rattle.std.specs.List.{range_with_len}
use mathlib.Core.List.{IsPrefix}
use Rattle.atomic_table.specs.Table.{Me, Step}
use Rattle.catalogue_lock.specs.declared.view.Numbered.{Numbered}
use Rattle.atomic_table.specs.Seated.{TableId}
use Rattle.atomic_table.specs.declared.shared.Seat.{Seat}
use Rattle.catalogue_lock.specs.declared.view.Stage.TheVariants.{Idle, Waits, InTurn}
use Rattle.catalogue_lock.specs.declared.view.View.{View}
use Rattle.catalogue_lock.specs.declared.view.Terms.{Terms}
use Rattle.catalogue_lock.specs.History.{items, items_by, numbered}
use Rattle.catalogue_lock.specs.Passes.{Pass, new_pass}
use Rattle.catalogue_lock.specs.Views.{claim_of, open_view, unused_from, drawn, admitted, settled, raised, brought_in, passed, opened_up}
use Rattle.catalogue_lock.specs.Rule.{Each}

-- a seat's view, with the slot where it holds it
abbrev pub Mine : Type 0 → Type 0 → Type 0
Mine O I = Me (Option O) (View O I)

module _ {O I : Type 0} where
  -- the ticket drawn is the seat's
  abbrev pub Draws : Step (Option O) → Mine O I → ℕ → Mine O I → Type 0
  Draws s m found n = (n.0 ≡ drawn m.0 found) × (n.1 ≡ m.1)

  -- the seat is in turn, has the object, and has seen the history, which goes on from what it had seen
  pub record Admitted {Origin : Type 0} (history : O → List I) (origin : O → Origin) (ticket : ℕ) (m n : Mine O I) : Type 0 where
    pub log : List (Numbered I)
    pub object : O
    pub view : n.0 ≡ admitted m.0 ticket log
    pub hands : n.1 ≡ (0, Some object) ∷ []
    pub begins : IsPrefix m.0.seen log
    pub whole : history object ≡ items log
    pub origin_is : (x : O) → m.0.opened ≡ Some x → origin object ≡ origin x
    pub own : Each (λ c. items_by (Some c.number) log ≡ c.items) m.0.claims

  -- a seat that waits is admitted where its ticket is served, and else nothing changed
  abbrev pub Looks : {Origin : Type 0} → (O → List I) → (O → Origin) → Step (Option O) → Mine O I → ℕ → Mine O I → Type 0
  Looks history origin s m found n =
      (ticket : ℕ) → m.0.stage ≡ Waits ticket → (found ≡ ticket → Admitted history origin ticket m n) × (found ≢ ticket → n ≡ m)

  -- What a seat that holds no ticket finds: the history goes on from what it has seen and from its olds, and has its own items
  pub record Settled (m n : Mine O I) : Type 0 where
    pub log : List (Numbered I)
    pub view : n.0 ≡ settled m.0
    pub hands : n.1 ≡ m.1
    pub begins : IsPrefix m.0.seen log
    pub olds : Each (λ old. IsPrefix old log) m.0.olds
    pub own : Each (λ c. items_by (Some c.number) log ≡ c.items) m.0.claims

  -- the step of a seat that holds no ticket, which finds a history that goes on from what it has seen
  abbrev pub Settles : Step (Option O) → Mine O I → ℕ → Mine O I → Type 0
  Settles s m found n = Settled m n

  -- the count is raised by what a turn added
  abbrev pub Raises : List I → Step (Option O) → Mine O I → ℕ → Mine O I → Type 0
  Raises added s m found n = (n.0 ≡ raised m.0 added) × (n.1 ≡ m.1)

  -- the turn is passed on
  abbrev pub PassesOn : Step (Option O) → Mine O I → ℕ → Mine O I → Type 0
  PassesOn s m found n = (n.0 ≡ passed m.0) × (n.1 ≡ [])

  -- the opening's steps
  abbrev pub BeginsOpening : Step (Option O) → Mine O I → ℕ → Mine O I → Type 0
  BeginsOpening s m found n = (n.0 ≡ record m.0 { stage = InTurn 0 }) × (n.1 ≡ (0, None) ∷ [])

  -- the object is brought in with its items
  abbrev pub BringsIn : List I → Step (Option O) → Mine O I → ℕ → Mine O I → Type 0
  BringsIn added s m found n = (n.0 ≡ brought_in m.0 added) × (n.1 ≡ m.1)

  -- the lock is open from now on
  abbrev pub EndsOpening : Step (Option O) → Mine O I → ℕ → Mine O I → Type 0
  EndsOpening s m found n = (n.0 ≡ opened_up m.0) × (n.1 ≡ [])

-- the table has three words and one slot
abbrev pub IsTable : TableId → Type 0
IsTable id = (id.words ≡ 3) × (id.slots ≡ 1)

module _ {O I : Type 0} where
  -- it is the same seat of the same table, whatever it has seen since
  abbrev pub IsSameSeat : Seat (Option O) (View O I) → Seat (Option O) (View O I) → Type 0
  IsSameSeat p q = (q.table_id ≡ p.table_id) × (q.id ≡ p.id)

  -- the seat between two calls: it has one number, no ticket and no slot, and no olds
  pub record IsFree (s : Seat (Option O) (View O I)) : Type 0 where
    pub single : length s.me.0.claims ≡ 1
    pub running : s.me.0.opening ≡ false
    pub idle : s.me.0.stage ≡ Idle
    pub hands : s.me.1 ≡ []

  -- The seat has drawn a ticket, was admitted with it, and has taken the object out of the slot.
  pub record Entered {Origin : Type 0} (history : O → List I) (origin : O → Origin) (m n : Mine O I) (object : O) : Type 0 where
    pub ticket : ℕ
    pub log : List (Numbered I)
    pub view : n.0 ≡ admitted (drawn m.0 ticket) ticket log
    pub hands : n.1 ≡ (0, None) ∷ []
    pub begins : IsPrefix m.0.seen log
    pub whole : history object ≡ items log
    pub origin_is : (x : O) → m.0.opened ≡ Some x → origin object ≡ origin x
    pub own : Each (λ c. items_by (Some c.number) log ≡ c.items) m.0.claims

  -- The seat is in turn with an object whose history goes on from what it has seen, and with an empty slot.
  pub record IsInTurn {Origin : Type 0} (history : O → List I) (origin : O → Origin) (m : Mine O I) (object : O) (added : List I) : Type 0 where
    pub ticket : ℕ
    pub stage : m.0.stage ≡ InTurn ticket
    pub single : length m.0.claims ≡ 1
    pub running : m.0.opening ≡ false
    pub hands : m.1 ≡ (0, None) ∷ []
    pub whole : history object ≡ items m.0.seen ++ added
    pub opened : (x : O) × (m.0.opened ≡ Some x) × (origin object ≡ origin x)

  -- The seat is in turn, and its slot has the object with the history that it has seen.
  pub record HasPutBack {Origin : Type 0} (history : O → List I) (origin : O → Origin) (m : Mine O I) : Type 0 where
    pub ticket : ℕ
    pub object : O
    pub stage : m.0.stage ≡ InTurn ticket
    pub running : m.0.opening ≡ false
    pub hands : m.1 ≡ (0, Some object) ∷ []
    pub whole : history object ≡ items m.0.seen
    pub opened : (x : O) × (m.0.opened ≡ Some x) × (origin object ≡ origin x)

  -- The seat opens the lock, and holds its empty slot; the object brings these items.
  pub record IsOpening (key : Terms O) (m : Mine O I) : Type 0 where
    pub mark : m.0.opening ≡ true
    pub stage : m.0.stage ≡ InTurn 0
    pub seen : m.0.seen ≡ []

  -- The seat opens the lock, and its slot has the object, whose items are the history.
  pub record HasBroughtIn (history : O → List I) (key : Terms O) (m : Mine O I) : Type 0 where
    pub mark : m.0.opening ≡ true
    pub stage : m.0.stage ≡ InTurn 0
    pub seen : m.0.seen ≡ numbered None (history key.object)
    pub hands : m.1 ≡ (0, Some key.object) ∷ []

  -- One seat has the numbers and the items of all these passes, and has seen what each of them has seen.
  pub record Gathered (passes : List (Pass O I)) (m : Mine O I) : Type 0 where
    pub running : m.0.opening ≡ false
    pub idle : m.0.stage ≡ Idle
    pub hands : m.1 ≡ []
    pub claims : m.0.claims ≡ map claim_of passes
    pub begins : Each (λ p. IsPrefix p.seen m.0.seen) passes

  -- The same while some are left: these are all passes but those that the seat has.
  pub record Gathers (lock : TableId) (all left : List (Pass O I)) (m : Mine O I) : Type 0 where
    pub done : List (Pass O I)
    pub split : all ≡ left ++ done
    pub own : Each (λ p. p.lock ≡ lock) left
    pub gathered : Gathered done m

  -- So many passes have their numbers, and the seat has the others.
  pub record Deals (table : TableId) (object : O) (seen : List (Numbered I)) (callers : ℕ) (passes : List (Pass O I)) (m : Mine O I) : Type 0 where
    pub left : ℕ
    pub all : length passes + suc left ≡ callers
    pub view : m ≡ (open_view object seen (unused_from (length passes) (suc left)), [])
    pub dealt : passes ≡ map (new_pass table (Some object) seen) (range_with_len 0 (length passes))
