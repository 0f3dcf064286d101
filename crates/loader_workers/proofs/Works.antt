-- What is done side by side, of three.
use Rattle.std.proofs.Common.{◌≡◌, ◌∙◌, ℕ, List, [], ◌∷◌, ◌++◌, refl, sym, ap, subst, arith, Vec}
use Rattle.std.specs.Prelude.{◌<◌, length, slice_index_or, take, drop, All, Option, Result, Ok, Err, OnErr}
use Rattle.std.proofs.lemmas.List.Elements.{All-from_recursion}
use Rattle.std.specs.declared.alloc.Global.{Global}
use Rattle.marc_types.specs.declared.entry.Entry.{Entry}
use Rattle.entry_history.specs.declared.event.Event.{Event}
use Rattle.loader_workers.proofs.Tasks.{written_back}
use Rattle.loader_workers.specs.Turns.{Replies}
use Rattle.loader_workers.specs.Beside.{HasWorked}
use Rattle.loader_workers.specs.declared.beside.Work.{Work}
use Rattle.loader_workers.specs.declared.beside.Work.TheVariants.{Follow, Page, Load}
use Rattle.loader_workers.specs.declared.following.Follower.{Follower}
use Rattle.loader_workers.specs.declared.task.FileTask.{FileTask}

module _ {X : Type 0} where
  -- what holds of three things holds of each of them
  pub all_three : (P : X → Type 0) (x y z : X) → P x → P y → P z → All P (x ∷ y ∷ z ∷ [])
  all_three P x y z first second third = All-from_recursion P (x ∷ y ∷ z ∷ []) (first, (second, (third, tt)))

  -- what was done, where it is read under other names
  pub did_at : (Did : X → X → Type 0) (x y a b : X) → a ≡ x → b ≡ y → Did a b → Did x y
  did_at Did x y a b before after did = subst (λ v. Did v y) before (subst (λ v. Did a v) after did)

  pub three_are : (none one two three : List X) (x y z : X) → none ≡ [] → one ≡ none ++ x ∷ [] → two ≡ one ++ y ∷ [] → three ≡ two ++ z ∷ []
      → three ≡ x ∷ y ∷ z ∷ []
  three_are none one two three x y z empty first second third = cc (empty, first, second, third)

  -- what holds of the three that were put into an empty list
  pub put_three : (P : X → Type 0) (none one two three read : List X) (x y z : X) → none ≡ [] → one ≡ none ++ x ∷ [] → two ≡ one ++ y ∷ [] → three ≡ two ++ z ∷ []
      → read ≡ three → P x → P y → P z → All P read
  put_three P none one two three read x y z empty first second third same px py pz =
      subst (All P) (sym (same ∙ three_are none one two three x y z empty first second third)) (all_three P x y z px py pz)

  -- what was done of each of three
  three_did : (Did : X → X → Type 0) (x y z a b c : X) → ((k : ℕ) (d : X) → k < 3 → Did (slice_index_or (x ∷ y ∷ z ∷ []) k d) (slice_index_or (a ∷ b ∷ c ∷ []) k d))
      → Did x a × Did y b × Did z c
  three_did Did x y z a b c each = (each 0 x (omega arith), each 1 x (omega arith), each 2 x (omega arith))

  did_three : (Did : X → X → Type 0) (read after : List X) (x y z a b c : X) → read ≡ x ∷ y ∷ z ∷ [] → after ≡ a ∷ b ∷ c ∷ []
      → ((k : ℕ) (d : X) → k < length read → Did (slice_index_or read k d) (slice_index_or after k d)) → Did x a × Did y b × Did z c
  did_three Did read after x y z a b c is left each =
      three_did Did x y z a b c (λ k d lt.
      subst (λ l. Did (slice_index_or (x ∷ y ∷ z ∷ []) k d) (slice_index_or l k d)) left
      (subst (λ l. Did (slice_index_or l k d) (slice_index_or after k d)) is (each k d (omega (arith, lt, ap (length {A = X}) is)))))

  -- the same where the list was read, and is written back
  pub worked_three : (Did : X → X → Type 0) (none one two three read after : List X) (n : ℕ) (x y z a b c : X) → none ≡ [] → one ≡ none ++ x ∷ [] → two ≡ one ++ y ∷ []
      → three ≡ two ++ z ∷ [] → read ≡ three → length after ≡ length read → n ≡ length three
      → take n (after ++ drop (length after) three) ≡ a ∷ b ∷ c ∷ []
      → ((k : ℕ) (d : X) → k < length read → Did (slice_index_or read k d) (slice_index_or after k d)) → Did x a × Did y b × Did z c
  worked_three Did none one two three read after n x y z a b c empty first second third same len count back each =
      did_three Did read after x y z a b c (same ∙ three_are none one two three x y z empty first second third)
      (sym (written_back after three read n len same count) ∙ back) each

-- what holds in any case holds in this one
pub on_err : {A E : Type 0} (P : Type 0) (r : Result A E) → P → OnErr r P
on_err P (Ok a) so = tt
on_err P (Err e) so = so

module _ {O S T P C R Q A : Type 0} (taken : T → List Entry) (takes : T → Type 0) (has_paged : P → P → Type 0) (replies : Replies) (left : S → Option (List ℕ)) (bound faults : S → ℕ) where
  -- a follower that worked is a follower, a pager a pager, and places are places
  pub still_follows : (f : Follower O T Event C R Q A) (v : Work O S T P Event C R Q A) → HasWorked taken takes has_paged replies left bound faults (Follow f) v
      → ((x : Follower O T Event C R Q A) → v ≡ Follow x → ⊥) → ⊥
  still_follows f (Follow x) did other = other x refl
  still_follows f (Page p) did other = did
  still_follows f (Load l) did other = did

  pub still_pages : (p : P) (v : Work O S T P Event C R Q A) → HasWorked taken takes has_paged replies left bound faults (Page p) v → ((x : P) → v ≡ Page x → ⊥) → ⊥
  still_pages p (Follow x) did other = did
  still_pages p (Page x) did other = other x refl
  still_pages p (Load l) did other = did

  pub still_loads : (l : Vec (Option (FileTask O S Event C R Q A)) Global) (v : Work O S T P Event C R Q A) → HasWorked taken takes has_paged replies left bound faults (Load l) v
      → ((x : Vec (Option (FileTask O S Event C R Q A)) Global) → v ≡ Load x → ⊥) → ⊥
  still_loads l (Follow x) did other = did
  still_loads l (Page p) did other = did
  still_loads l (Load x) did other = other x refl
