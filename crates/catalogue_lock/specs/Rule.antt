-- The rule of the lock's table, which every step keeps. The words are the ticket, the number served and the count; one slot has the object.
-- The spent view meets each part by having nothing.
use Rattle.std.specs.Prelude.{◌≡◌, ℕ, ◌+◌, ◌*◌, ◌<◌, ◌≤◌, ◌⊎◌, ◌==◌, ◌&&◌, Bool, true, false, nat_lt, nat_le, List, [], ◌∷◌, length, Option, Some, None, if◌then◌else◌}
use mathlib.Core.List.{IsPrefix}
use mathlib.Core.Option.{Option as Home, none, some}
use lib.ListN.{get_elem?}
use Rattle.atomic_table.specs.Table.{State}
use Rattle.catalogue_lock.specs.declared.view.Numbered.{Numbered}
use Rattle.catalogue_lock.specs.declared.view.Claim.{Claim}
use Rattle.catalogue_lock.specs.declared.view.Stage.{Stage}
use Rattle.catalogue_lock.specs.declared.view.Stage.TheVariants.{Idle, Waits, InTurn}
use Rattle.catalogue_lock.specs.declared.view.View.{View}
use Rattle.catalogue_lock.specs.declared.view.Terms.{Terms}
use Rattle.catalogue_lock.specs.History.{items, items_by}
use Rattle.catalogue_lock.specs.Views.{unused_from}

-- f of each, added up
abbrev pub total : {V : Type 0} → (V → ℕ) → List V → ℕ
total f [] = 0
total f (v ∷ vs) = f v + total f vs

-- P of each
abbrev pub Each : {X : Type 0} → (X → Type 0) → List X → Type 0
Each P [] = Unit {0}
Each P (x ∷ xs) = P x × Each P xs

-- 1 where the test holds
abbrev pub one_if : Bool → ℕ
one_if b = if b then 1 else 0

-- 1 for each number from low up to high
abbrev pub within : ℕ → ℕ → ℕ → ℕ
within low high x = one_if (nat_le low x && nat_lt x high)

-- 1 where the stage holds a ticket
abbrev pub tickets : Stage → ℕ
tickets Idle = 0
tickets (Waits t) = 1
tickets (InTurn t) = 1

-- 1 where the stage holds this ticket
abbrev pub holds_ticket : ℕ → Stage → ℕ
holds_ticket x Idle = 0
holds_ticket x (Waits t) = one_if (t == x)
holds_ticket x (InTurn t) = one_if (t == x)

-- 1 where the stage is in turn
abbrev pub turns_of : Stage → ℕ
turns_of Idle = 0
turns_of (Waits t) = 0
turns_of (InTurn t) = 1

-- how often the number is claimed
abbrev pub claimed : {I : Type 0} → ℕ → List (Claim I) → ℕ
claimed k [] = 0
claimed k (c ∷ cs) = one_if (c.number == k) + claimed k cs

-- a view in turn has the ticket that is served, and has seen the whole history
abbrev pub IsServed : {I : Type 0} → ℕ → List (Numbered I) → Stage → List (Numbered I) → Type 0
IsServed serving log Idle seen = Unit {0}
IsServed serving log (Waits t) seen = Unit {0}
IsServed serving log (InTurn t) seen = (t ≡ serving) × (seen ≡ log)

module _ {O I : Type 0} where
  -- `ticket - serving` is the number of views that hold a ticket, and these are the numbers from `serving` up to `ticket`, each in one view;
  -- `ticket` is the sum of the draws, the opening's being one
  pub record Queue (ticket serving : ℕ) (views : List (View O I)) : Type 0 where
    pub held : total (λ v. tickets v.stage) views + serving ≡ ticket
    pub each : (x : ℕ) → total (λ v. holds_ticket x v.stage) views ≡ within serving ticket x
    pub draws : 1 + total (λ v. v.draws) views ≡ ticket

  -- each pass number below `callers` is in one view, and a number that no pass has was never used
  pub record Shared (callers : ℕ) (views : List (View O I)) (log : List (Numbered I)) : Type 0 where
    pub once : (k : ℕ) → k < callers → total (λ v. claimed k v.claims) views ≡ 1
    pub all : total (λ v. length v.claims) views ≡ callers
    pub nobody : (k : ℕ) → callers ≤ k → items_by (Some k) log ≡ []

  -- What holds of each view: it has made at most 2^31 draws for each of its numbers; where it holds a ticket it has one number; what it
  -- has seen begins the history, and so do its olds; the items of its numbers are its own
  pub record Fits (key : Terms O) (log : List (Numbered I)) (serving : ℕ) (v : View O I) : Type 0 where
    pub running : v.opening ≡ false
    pub opened : (x : O) → v.opened ≡ Some x → x ≡ key.object
    pub draws : v.draws ≤ 2147483648 * length v.claims
    pub single : tickets v.stage ≡ 1 → length v.claims ≡ 1
    pub served : IsServed serving log v.stage v.seen
    pub seen : IsPrefix v.seen log
    pub olds : Each (λ old. IsPrefix old log) v.olds
    pub claims : Each (λ c. (c.number < key.callers) × (items_by (Some c.number) log ≡ c.items)) v.claims

  module _ {Origin : Type 0} (history : O → List I) (origin : O → Origin) (key : Terms O) where
    -- the slot is at home with the object where no view is in turn, and out with the one that is
    pub record Slot (homes : List (Home (Option O))) (views : List (View O I)) (log : List (Numbered I)) : Type 0 where
      pub home : total (λ v. turns_of v.stage) views ≡ 0
          → (x : O) × (homes ≡ some (Some x) ∷ []) × (history x ≡ items log) × (origin x ≡ origin key.object)
      pub away : 0 < total (λ v. turns_of v.stage) views → homes ≡ none ∷ []

    -- the lock once it is open, over plain numbers
    pub record Running (ticket serving count : ℕ) (homes : List (Home (Option O))) (views : List (View O I)) : Type 0 where
      pub log : List (Numbered I)
      pub few : key.callers < 4294967296
      pub counted : length log ≡ count
      pub queue : Queue ticket serving views
      pub shared : Shared key.callers views log
      pub slot : Slot homes views log
      pub fits : (j : ℕ) (v : View O I) → get_elem? views j ≡ some v → Fits key log serving v
      pub brought : items_by None log ≡ history key.object

    -- while the first view waits the slot has None and the history is empty; while it is in turn the slot is out with it
    abbrev pub OpeningSlot : Stage → List (Numbered I) → List (Home (Option O)) → Type 0
    OpeningSlot Idle log homes = ⊥
    OpeningSlot (Waits t) log homes = (t ≡ 0) × (log ≡ []) × (homes ≡ some None ∷ [])
    OpeningSlot (InTurn t) log homes = (t ≡ 0) × (homes ≡ none ∷ [])

    -- the lock while its first view opens it: that view is alone, has all numbers, and has seen the history
    pub record Opening (ticket serving count : ℕ) (homes : List (Home (Option O))) (views : List (View O I)) (view : View O I) : Type 0 where
      pub few : key.callers < 4294967296
      pub alone : views ≡ view ∷ []
      pub mark : view.opening ≡ true
      pub opened : view.opened ≡ Some key.object
      pub draws : view.draws ≡ 0
      pub claims : view.claims ≡ unused_from 0 key.callers
      pub olds : view.olds ≡ []
      pub first_ticket : ticket ≡ 1
      pub none_served : serving ≡ 0
      pub counted : length view.seen ≡ count
      pub slot : OpeningSlot view.stage view.seen homes

    -- the lock is being opened, or it is open
    abbrev pub Stands : ℕ → ℕ → ℕ → List (Home (Option O)) → List (View O I) → Type 0
    Stands ticket serving count homes views =
        ((view : View O I) × Opening ticket serving count homes views view) ⊎ Running ticket serving count homes views

    -- the words are the ticket, the number served and the count
    pub record Kept (s : State (Option O) (View O I)) : Type 0 where
      pub ticket : ℕ
      pub serving : ℕ
      pub count : ℕ
      pub words : s.words ≡ ticket ∷ serving ∷ count ∷ []
      pub stands : Stands ticket serving count s.homes s.views
