-- Steps of the log: one more, one less, and their rooms.
use Rattle.std.proofs.Common.{◌≡◌, ◌∙◌, sym, ap, refl, subst, ℕ, ◌+◌, ◌≤◌, arith, true, cond, List, [], ◌∷◌, ◌++◌, map, Option, Some, None}
use Rattle.std.specs.Prelude.{◌-◌, nat_eq, if◌then◌else◌}
use Rattle.numbering.specs.Seats.{same_seat, seat_Decides}
use Rattle.numbering.specs.declared.seat.Seat.{Seat}
use Rattle.link_table.specs.Links.{Links, with_key}
use Rattle.wait_table.specs.Waits.{Waits, with_waiting}
use Rattle.wait_table.specs.declared.waiting.Waiting.{Waiting}
use Rattle.linked_store.specs.Contents.{CanGoBack, Contents, Fits, HaveRooms, Step, ToLink, ToWait, apply, apply_back, form_rooms, key_rooms, link_rooms, name_rooms, step_of, total, wait_rooms}
use Rattle.linked_store.specs.Rooms.{IsOut, IsWaitOut, link_back, link_gone, link_out, wait_back, wait_gone, wait_out}
use Rattle.linked_store.specs.declared.change.Change.{Change}

pub back_join : (steps more : List Step) (c : Contents) → apply_back (steps ++ more) c ≡ apply_back steps (apply_back more c)
back_join [] more c = refl
back_join (x ∷ xs) more c = ap (apply x) (back_join xs more c)

pub can_join : (steps more : List Step) (c : Contents) → CanGoBack steps (apply_back more c) → CanGoBack more c → CanGoBack (steps ++ more) c
can_join [] more c can rest = rest
can_join (x ∷ xs) more c can rest = (can_join xs more c can.0 rest, subst (λ t. Fits x t) (sym (back_join xs more c)) can.1)

pub can_less : (steps : List Step) (step : Step) (c : Contents) → CanGoBack (steps ++ step ∷ []) c → CanGoBack steps (apply step c) × Fits step c
can_less [] step c can = (tt, can.1)
can_less (x ∷ xs) step c can =
    let rest = can_less xs step c can.0 in
    ((rest.0, subst (λ t. Fits x t) (back_join xs (step ∷ []) c) can.1), rest.1)

pub join_assoc : (xs ys zs : List Step) → (xs ++ ys) ++ zs ≡ xs ++ (ys ++ zs)
join_assoc [] ys zs = refl
join_assoc (x ∷ xs) ys zs = ap (λ l. x ∷ l) (join_assoc xs ys zs)

pub join_none : (xs : List Step) → xs ≡ xs ++ []
join_none [] = refl
join_none (x ∷ xs) = ap (λ l. x ∷ l) (join_none xs)

steps_push : (changes : List Change) (change : Change) → map step_of (changes ++ change ∷ []) ≡ map step_of changes ++ step_of change ∷ []
steps_push [] change = refl
steps_push (x ∷ xs) change = ap (λ l. step_of x ∷ l) (steps_push xs change)

pub steps_pushed : (changes now : List Change) (change : Change) → now ≡ changes ++ change ∷ [] → map step_of now ≡ map step_of changes ++ step_of change ∷ []
steps_pushed changes now change is = ap (map step_of) is ∙ steps_push changes change

-- ---- rooms

pub total_more : (number : Step → ℕ) (steps : List Step) (step : Step) → total number (steps ++ step ∷ []) ≡ total number steps + number step
total_more number [] step = refl
total_more number (x ∷ xs) step = let rest = total_more number xs step in omega (arith, rest)

-- one more step, with its room
grown : (number : Step → ℕ) (steps : List Step) (step : Step) (n : ℕ) → total number steps ≤ n → total number (steps ++ step ∷ []) ≤ n + number step
grown number steps step n low = let e = total_more number steps step in omega (arith, e, low)

-- one more step, which needs none
same_grown : (number : Step → ℕ) (steps : List Step) (step : Step) (n : ℕ) → number step ≡ 0 → total number steps ≤ n → total number (steps ++ step ∷ []) ≤ n
same_grown number steps step n none low = let e = total_more number steps step in omega (arith, e, none, low)

-- one step less, whose room was used
shrunk : (number : Step → ℕ) (steps : List Step) (step : Step) (n : ℕ) → total number (steps ++ step ∷ []) ≤ n → total number steps ≤ n - number step
shrunk number steps step n low = let e = total_more number steps step in omega (arith, e, low)

same_shrunk : (number : Step → ℕ) (steps : List Step) (step : Step) (n : ℕ) → total number (steps ++ step ∷ []) ≤ n → total number steps ≤ n
same_shrunk number steps step n low = let e = total_more number steps step in omega (arith, e, low)

-- the rooms stay while other things change
pub rooms_same : (steps : List Step) (l m : Links) (w v : Waits) → m.taken ≡ l.taken → m.taken_from ≡ l.taken_from → v ≡ w → HaveRooms steps l w → HaveRooms steps m v
rooms_same steps l m w v taken from same rooms =
    subst (λ x. HaveRooms steps m x) (sym same) (record {
      links = λ s. subst (λ (f : Seat → ℕ). total (λ step. link_rooms step s) steps ≤ f s) (sym taken) (rooms.links s);
      keys = λ n s. subst (λ (f : ℕ → Seat → ℕ). total (λ step. key_rooms step n s) steps ≤ f n s) (sym from) (rooms.keys n s);
      waits = rooms.waits;
      forms = rooms.forms;
      names = rooms.names;
    })

-- a link goes out
pub rooms_unlinked : (steps : List Step) (seat : Seat) (number : Option ℕ) (l : Links) (w : Waits) → HaveRooms steps l w → HaveRooms (steps ++ ToLink seat number ∷ []) (link_out seat number l) w
rooms_unlinked steps seat number l w rooms = record {
  links = λ s. grown (λ step. link_rooms step s) steps (ToLink seat number) (l.taken s) (rooms.links s);
  keys = λ n s. grown (λ step. key_rooms step n s) steps (ToLink seat number) (l.taken_from n s) (rooms.keys n s);
  waits = λ s. same_grown (λ step. wait_rooms step s) steps (ToLink seat number) (w.taken s) refl (rooms.waits s);
  forms = λ n s. same_grown (λ step. form_rooms step n s) steps (ToLink seat number) (w.taken_forms n s) refl (rooms.forms n s);
  names = λ n s. same_grown (λ step. name_rooms step n s) steps (ToLink seat number) (w.taken_keys n s) refl (rooms.names n s);
}

-- what waits goes out
pub rooms_unwaited : (steps : List Step) (seat : Seat) (waiting : Option Waiting) (l : Links) (w : Waits) → HaveRooms steps l w → HaveRooms (steps ++ ToWait seat waiting ∷ []) l (wait_out seat waiting w)
rooms_unwaited steps seat waiting l w rooms = record {
  links = λ s. same_grown (λ step. link_rooms step s) steps (ToWait seat waiting) (l.taken s) refl (rooms.links s);
  keys = λ n s. same_grown (λ step. key_rooms step n s) steps (ToWait seat waiting) (l.taken_from n s) refl (rooms.keys n s);
  waits = λ s. grown (λ step. wait_rooms step s) steps (ToWait seat waiting) (w.taken s) (rooms.waits s);
  forms = λ n s. grown (λ step. form_rooms step n s) steps (ToWait seat waiting) (w.taken_forms n s) (rooms.forms n s);
  names = λ n s. grown (λ step. name_rooms step n s) steps (ToWait seat waiting) (w.taken_keys n s) (rooms.names n s);
}

-- a step that needs no room
pub record NeedsNone (step : Step) : Type 0 where
  pub links : (s : Seat) → link_rooms step s ≡ 0
  pub keys : (n : ℕ) (s : Seat) → key_rooms step n s ≡ 0
  pub waits : (s : Seat) → wait_rooms step s ≡ 0
  pub forms : (n : ℕ) (s : Seat) → form_rooms step n s ≡ 0
  pub names : (n : ℕ) (s : Seat) → name_rooms step n s ≡ 0

pub rooms_more : (steps : List Step) (step : Step) (l : Links) (w : Waits) → NeedsNone step → HaveRooms steps l w → HaveRooms (steps ++ step ∷ []) l w
rooms_more steps step l w none rooms = record {
  links = λ s. same_grown (λ x. link_rooms x s) steps step (l.taken s) (none.links s) (rooms.links s);
  keys = λ n s. same_grown (λ x. key_rooms x n s) steps step (l.taken_from n s) (none.keys n s) (rooms.keys n s);
  waits = λ s. same_grown (λ x. wait_rooms x s) steps step (w.taken s) (none.waits s) (rooms.waits s);
  forms = λ n s. same_grown (λ x. form_rooms x n s) steps step (w.taken_forms n s) (none.forms n s) (rooms.forms n s);
  names = λ n s. same_grown (λ x. name_rooms x n s) steps step (w.taken_keys n s) (none.names n s) (rooms.names n s);
}

pub rooms_less : (steps : List Step) (step : Step) (l : Links) (w : Waits) → HaveRooms (steps ++ step ∷ []) l w → HaveRooms steps l w
rooms_less steps step l w rooms = record {
  links = λ s. same_shrunk (λ x. link_rooms x s) steps step (l.taken s) (rooms.links s);
  keys = λ n s. same_shrunk (λ x. key_rooms x n s) steps step (l.taken_from n s) (rooms.keys n s);
  waits = λ s. same_shrunk (λ x. wait_rooms x s) steps step (w.taken s) (rooms.waits s);
  forms = λ n s. same_shrunk (λ x. form_rooms x n s) steps step (w.taken_forms n s) (rooms.forms n s);
  names = λ n s. same_shrunk (λ x. name_rooms x n s) steps step (w.taken_keys n s) (rooms.names n s);
}

-- a link that was out comes back
pub rooms_relinked : (steps : List Step) (seat : Seat) (number : Option ℕ) (l : Links) (w : Waits) → HaveRooms (steps ++ ToLink seat number ∷ []) l w
    → HaveRooms steps (link_back seat number (with_key seat None l)) w
rooms_relinked steps seat None l w rooms = let less = rooms_less steps (ToLink seat None) l w rooms in
    record { links = less.links; keys = less.keys; waits = less.waits; forms = less.forms; names = less.names }
rooms_relinked steps seat (Some number) l w rooms = let less = rooms_less steps (ToLink seat (Some number)) l w rooms in record {
  links = λ s. shrunk (λ x. link_rooms x s) steps (ToLink seat (Some number)) (l.taken s) (rooms.links s);
  keys = λ n s. shrunk (λ x. key_rooms x n s) steps (ToLink seat (Some number)) (l.taken_from n s) (rooms.keys n s);
  waits = less.waits;
  forms = less.forms;
  names = less.names;
}

pub rooms_rewaited : (steps : List Step) (seat : Seat) (waiting : Option Waiting) (l : Links) (w : Waits) → HaveRooms (steps ++ ToWait seat waiting ∷ []) l w
    → HaveRooms steps l (wait_back seat waiting (with_waiting seat None w))
rooms_rewaited steps seat None l w rooms = let less = rooms_less steps (ToWait seat None) l w rooms in
    record { links = less.links; keys = less.keys; waits = less.waits; forms = less.forms; names = less.names }
rooms_rewaited steps seat (Some waiting) l w rooms = let less = rooms_less steps (ToWait seat (Some waiting)) l w rooms in record {
  links = less.links;
  keys = less.keys;
  waits = λ s. shrunk (λ x. wait_rooms x s) steps (ToWait seat (Some waiting)) (w.taken s) (rooms.waits s);
  forms = λ n s. shrunk (λ x. form_rooms x n s) steps (ToWait seat (Some waiting)) (w.taken_forms n s) (rooms.forms n s);
  names = λ n s. shrunk (λ x. name_rooms x n s) steps (ToWait seat (Some waiting)) (w.taken_keys n s) (rooms.names n s);
}

pub own_seat : (seat : Seat) → same_seat seat seat ≡ true
own_seat seat = (seat_Decides seat seat).1 refl

own_more : (seat : Seat) (k n m : ℕ) → n + (if same_seat seat seat then k else 0) ≤ m → k ≤ m
own_more seat k n m low = let e : (if same_seat seat seat then k else 0) ≡ k = ap (λ b. cond b k 0) (own_seat seat) in omega (arith, e, low)

own_room : (seat : Seat) (n m : ℕ) → n + (if same_seat seat seat then 1 else 0) ≤ m → 1 ≤ m
own_room seat n m low = own_more seat 1 n m low

-- the row of the last step is out
pub last_link_out : (steps : List Step) (seat : Seat) (number : Option ℕ) (l : Links) (w : Waits) → HaveRooms (steps ++ ToLink seat number ∷ []) l w → IsOut seat number l
last_link_out steps seat None l w rooms = tt
last_link_out steps seat (Some number) l w rooms = record {
  room = own_room seat (total (λ x. link_rooms x seat) steps) (l.taken seat) (subst (λ n. n ≤ l.taken seat) (total_more (λ x. link_rooms x seat) steps (ToLink seat (Some number))) (rooms.links seat));
  from =
      let low = own_more seat (cond (nat_eq number number) 1 0) (total (λ x. key_rooms x number seat) steps) (l.taken_from number seat)
      (subst (λ n. n ≤ l.taken_from number seat) (total_more (λ x. key_rooms x number seat) steps (ToLink seat (Some number))) (rooms.keys number seat)) in
      subst (λ b. cond b 1 0 ≤ l.taken_from number seat) (own_number number) low;
}
  where
    own_number : (n : ℕ) → nat_eq n n ≡ true
    own_number n = grind arith

pub last_wait_out : (steps : List Step) (seat : Seat) (waiting : Option Waiting) (l : Links) (w : Waits) → HaveRooms (steps ++ ToWait seat waiting ∷ []) l w → IsWaitOut seat waiting w
last_wait_out steps seat None l w rooms = tt
last_wait_out steps seat (Some waiting) l w rooms = record {
  room = own_room seat (total (λ x. wait_rooms x seat) steps) (w.taken seat) (subst (λ n. n ≤ w.taken seat) (total_more (λ x. wait_rooms x seat) steps (ToWait seat (Some waiting))) (rooms.waits seat));
  forms = λ n. own_more seat _ (total (λ x. form_rooms x n seat) steps) (w.taken_forms n seat)
      (subst (λ m. m ≤ w.taken_forms n seat) (total_more (λ x. form_rooms x n seat) steps (ToWait seat (Some waiting))) (rooms.forms n seat));
  keys = λ n. own_more seat _ (total (λ x. name_rooms x n seat) steps) (w.taken_keys n seat)
      (subst (λ m. m ≤ w.taken_keys n seat) (total_more (λ x. name_rooms x n seat) steps (ToWait seat (Some waiting))) (rooms.names n seat));
}

-- a link that was out is let go
pub rooms_link_gone : (steps : List Step) (seat : Seat) (number : Option ℕ) (l : Links) (w : Waits) → HaveRooms (steps ++ ToLink seat number ∷ []) l w → HaveRooms steps (link_gone seat number l) w
rooms_link_gone steps seat None l w rooms = rooms_less steps (ToLink seat None) l w rooms
rooms_link_gone steps seat (Some number) l w rooms = let less = rooms_less steps (ToLink seat (Some number)) l w rooms in record {
  links = λ s. shrunk (λ x. link_rooms x s) steps (ToLink seat (Some number)) (l.taken s) (rooms.links s);
  keys = λ n s. shrunk (λ x. key_rooms x n s) steps (ToLink seat (Some number)) (l.taken_from n s) (rooms.keys n s);
  waits = less.waits;
  forms = less.forms;
  names = less.names;
}

pub rooms_wait_gone : (steps : List Step) (seat : Seat) (waiting : Option Waiting) (l : Links) (w : Waits) → HaveRooms (steps ++ ToWait seat waiting ∷ []) l w → HaveRooms steps l (wait_gone seat waiting w)
rooms_wait_gone steps seat None l w rooms = rooms_less steps (ToWait seat None) l w rooms
rooms_wait_gone steps seat (Some waiting) l w rooms = let less = rooms_less steps (ToWait seat (Some waiting)) l w rooms in record {
  links = less.links;
  keys = less.keys;
  waits = λ s. shrunk (λ x. wait_rooms x s) steps (ToWait seat (Some waiting)) (w.taken s) (rooms.waits s);
  forms = λ n s. shrunk (λ x. form_rooms x n s) steps (ToWait seat (Some waiting)) (w.taken_forms n s) (rooms.forms n s);
  names = λ n s. shrunk (λ x. name_rooms x n s) steps (ToWait seat (Some waiting)) (w.taken_keys n s) (rooms.names n s);
}

-- what a seat waits for came in: no row is out for it
pub rooms_waited : (steps : List Step) (seat : Seat) (waiting : Waiting) (l : Links) (w : Waits) → HaveRooms steps l w → HaveRooms steps l (with_waiting seat (Some waiting) w)
rooms_waited steps seat waiting l w rooms = record { links = rooms.links; keys = rooms.keys; waits = rooms.waits; forms = rooms.forms; names = rooms.names }
