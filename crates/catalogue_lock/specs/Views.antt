-- The views of the seats, and how each step changes one. A view is plain data, which exists in the proofs alone.
use Rattle.std.specs.Prelude.{◌≡◌, ℕ, zero, suc, ◌+◌, true, false, List, [], ◌∷◌, ◌++◌, Option, Some, None}
use Rattle.atomic_table.specs.Table.{Me}
use Rattle.atomic_table.specs.Seated.{TableId}
use Rattle.atomic_table.specs.declared.shared.Seat.{Seat}
use Rattle.catalogue_lock.specs.declared.view.Numbered.{Numbered}
use Rattle.catalogue_lock.specs.declared.view.Claim.{Claim}
use Rattle.catalogue_lock.specs.declared.view.Stage.TheVariants.{Idle, Waits, InTurn}
use Rattle.catalogue_lock.specs.declared.view.View.{View}
use Rattle.catalogue_lock.specs.declared.view.Terms.{Terms}
use Rattle.catalogue_lock.specs.History.{numbered, items_by, longer}
use Rattle.catalogue_lock.specs.Passes.{Pass}

module _ {I : Type 0} where
  -- n numbers from the first on, none of them used
  abbrev pub unused_from : ℕ → ℕ → List (Claim I)
  unused_from first zero = []
  unused_from first (suc n) = record { number = first; items = [] } ∷ unused_from (suc first) n

  -- the claims but the first
  abbrev pub other_claims : List (Claim I) → List (Claim I)
  other_claims [] = []
  other_claims (c ∷ cs) = cs

  -- the first claim alone
  abbrev pub first_claim : List (Claim I) → List (Claim I)
  first_claim [] = []
  first_claim (c ∷ cs) = c ∷ []

  -- the number of the first claim
  abbrev pub first_number : List (Claim I) → ℕ
  first_number [] = 0
  first_number (c ∷ cs) = c.number

  -- the items of the first claim
  abbrev pub first_items : List (Claim I) → List I
  first_items [] = []
  first_items (c ∷ cs) = c.items

  -- the first claim with these items more
  abbrev pub grown : List (Claim I) → List I → List (Claim I)
  grown [] added = []
  grown (c ∷ cs) added = record { number = c.number; items = c.items ++ added } ∷ cs

module _ {O I : Type 0} where
  -- the first view: it has all numbers, and opens the lock with ticket 0
  abbrev pub opener : Terms O → View O I
  opener key = record { opening = true; opened = Some key.object; stage = Waits 0; draws = 0; claims = unused_from 0 key.callers; seen = []; olds = [] }

  -- draw: it holds the ticket
  abbrev pub drawn : View O I → ℕ → View O I
  drawn v ticket = record v { stage = Waits ticket; draws = v.draws + 1 }

  -- look at serving, where the number is its ticket: it is in turn, and has seen the whole history
  abbrev pub admitted : View O I → ℕ → List (Numbered I) → View O I
  admitted v ticket history = record v { stage = InTurn ticket; seen = history; olds = [] }

  -- look at serving by a view that holds no ticket
  abbrev pub settled : View O I → View O I
  settled v = record v { olds = [] }

  -- raise: the history and its own items grow by what was added
  abbrev pub raised : View O I → List I → View O I
  raised v added = record v { seen = v.seen ++ numbered (Some (first_number v.claims)) added; claims = grown v.claims added }

  -- raise at the opening: the items that the object brought have no number
  abbrev pub brought_in : View O I → List I → View O I
  brought_in v added = record v { seen = v.seen ++ numbered None added }

  -- pass on: it holds no ticket
  abbrev pub passed : View O I → View O I
  passed v = record v { stage = Idle }

  -- pass on at the opening, which ends the mark
  abbrev pub opened_up : View O I → View O I
  opened_up v = record v { opening = false; stage = Idle }

  -- the view that opened the lock, with the numbers that it still has
  abbrev pub open_view : O → List (Numbered I) → List (Claim I) → View O I
  open_view object seen claims = record { opening = false; opened = Some object; stage = Idle; draws = 0; claims = claims; seen = seen; olds = [] }

  -- split in `new`: the new seat gets the first number, and the other keeps the rest
  abbrev pub without_first : View O I → View O I
  without_first v = record v { claims = other_claims v.claims }

  -- the new seat, with the first number
  abbrev pub with_first : View O I → View O I
  with_first v = record { opening = false; opened = v.opened; stage = Idle; draws = 0; claims = first_claim v.claims; seen = v.seen; olds = [] }

  -- split in `meet`: the new seat gets no number
  abbrev pub copy_of : View O I → View O I
  copy_of v = record { opening = false; opened = v.opened; stage = Idle; draws = 0; claims = []; seen = v.seen; olds = [] }

  -- join: the longer list, both old ones, and the numbers, draws and items of both
  abbrev pub joined : View O I → View O I → View O I
  joined v w = record v { draws = v.draws + w.draws; claims = w.claims ++ v.claims; seen = longer v.seen w.seen; olds = v.seen ∷ w.seen ∷ [] }

  -- the seat that is gone behind a join: no number, and nothing seen
  abbrev pub spent : View O I
  spent = record { opening = false; opened = None; stage = Idle; draws = 0; claims = []; seen = []; olds = [] }

  -- a pass between two calls: one number, no ticket, no slot, and the items with its number in what it has seen are its own
  pub record IsAtRest (m : Me (Option O) (View O I)) : Type 0 where
    pub claim : Claim I
    pub claims : m.0.claims ≡ claim ∷ []
    pub running : m.0.opening ≡ false
    pub idle : m.0.stage ≡ Idle
    pub olds : m.0.olds ≡ []
    pub hands : m.1 ≡ []
    pub own : items_by (Some claim.number) m.0.seen ≡ claim.items

  -- a pass's number and its items
  abbrev pub claim_of : Pass O I → Claim I
  claim_of p = record { number = p.number; items = p.added }

  -- what contracts see of a view of this table
  abbrev pub pass_at : TableId → View O I → Pass O I
  pass_at table v = record {
    lock = table;
    opened = v.opened;
    number = first_number v.claims;
    turns = v.draws;
    added = first_items v.claims;
    seen = v.seen;
  }

  -- what contracts see of a seat
  abbrev pub pass_of : Seat (Option O) (View O I) → Pass O I
  pass_of s = pass_at s.table_id s.me.0
