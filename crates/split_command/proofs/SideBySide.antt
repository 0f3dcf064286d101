-- Outputs that are open side by side: what a call under one name leaves of the others.
use Rattle.std.proofs.Common.{get_or, ◌≡◌, ◌≢◌, ◌∙◌, ◌⊎◌, inl, inr, ℕ, zero, suc, ◌+◌, ◌≤◌, ◌<◌, Bool, true, false, true≢false, ◌&&◌, nat_eq, List, [], ◌∷◌, ◌++◌, length, take, drop, Option, Some, None, Result, Ok, Err, OnOk, OnErr, is_ok, refl, sym, ap, subst, arith}
use Rattle.std.specs.Prelude.{slice_get, Contains}
use Rattle.std.specs.Str.{bytes_eq}
use Rattle.std.specs.Cmp.{unsigned_Decides}
use Rattle.std.specs.Cmp.Lexicographic.{pointwise_decides}
use Rattle.std.proofs.lemmas.Bool.{and_parts}
use Rattle.std.proofs.lemmas.Bool.Decides.{nat_tests}
use Rattle.std.proofs.lemmas.Option.{slice_get_read}
use Rattle.outside.specs.Fault.{Rose, count_sum}
use Rattle.outside.specs.Room.{RoomView, AsOutput, IsNoneOf, SameBut, IsUntouched}
use Rattle.outside.specs.declared.fault.Failed.{Failed}
use Rattle.outside.proofs.Closings.{AreClosed, closed_but}
use Rattle.outside.proofs.Rooms.{same_but_itself, same_but_more, same_but_then}
use Rattle.split_command.specs.Outputs.{AreApart, AreFree, AreBegun, AreFresh, KeepsFiles, HasOutputFault, IsPutOrOld, AreClosedWhole, AreClosedOrNot, EndsOutput}

-- ---- a name among others

same_or_not : (a b : List ℕ) → (a ≡ b) ⊎ (a ≢ b)
same_or_not a b = let same = pointwise_decides unsigned_Decides a b in decided (bytes_eq a b) same.0 same.1
  where
    decided : (is_same : Bool) → (is_same ≡ true → a ≡ b) → (a ≡ b → is_same ≡ true) → (a ≡ b) ⊎ (a ≢ b)
    decided true is back = inl (is refl)
    decided false is back = inr (λ e. absurd (true≢false (sym (back e))))

-- the name at a place is none of those before it and behind it
pub apart_before : (names : List (List ℕ)) (at : ℕ) (name : List ℕ) → AreApart names → slice_get names at ≡ Some name → IsNoneOf name (take at names)
apart_before [] at name apart got = cc
apart_before (n ∷ names) zero name apart got = tt
apart_before (n ∷ names) (suc at) name apart got =
    ((λ same. none_at n names at name apart.0 got (sym same)), apart_before names at name apart.1 got)
  where
    none_at : (n : List ℕ) (names : List (List ℕ)) (at : ℕ) (name : List ℕ) → IsNoneOf n names → slice_get names at ≡ Some name → n ≢ name
    none_at n [] at name none got = cc
    none_at n (m ∷ names) zero name none got = let is : m ≡ name = cc in λ same. none.0 (same ∙ sym is)
    none_at n (m ∷ names) (suc at) name none got = none_at n names at name none.1 got

pub apart_behind : (names : List (List ℕ)) (at : ℕ) (name : List ℕ) → AreApart names → slice_get names at ≡ Some name → IsNoneOf name (drop (suc at) names)
apart_behind [] at name apart got = cc
apart_behind (n ∷ names) zero name apart got = let is : n ≡ name = cc in subst (λ m. IsNoneOf m names) is apart.0
apart_behind (n ∷ names) (suc at) name apart got = apart_behind names at name apart.1 got

-- what is none of all is none of the name at a place
pub none_of_one : (n : List ℕ) (names : List (List ℕ)) (at : ℕ) (name : List ℕ) → slice_get names at ≡ Some name → IsNoneOf n names → IsNoneOf n (name ∷ [])
none_of_one n [] at name got none = cc
none_of_one n (m ∷ names) zero name got none = let is : m ≡ name = cc in ((λ same. none.0 (same ∙ sym is)), tt)
none_of_one n (m ∷ names) (suc at) name got none = none_of_one n names at name got none.1

-- a call under one of the names changes nothing but under these
pub apart_more : (old new : RoomView) (names : List (List ℕ)) (at : ℕ) (name : List ℕ) → slice_get names at ≡ Some name → SameBut old new (name ∷ []) → SameBut old new names
apart_more old new names at name got same = same_but_more old new (name ∷ []) names (λ n none. none_of_one n names at name got none) same

-- ---- what stays under the other names

module _ (old new : RoomView) (name : List ℕ) (same : SameBut old new (name ∷ [])) where
  other : (n : List ℕ) → name ≢ n → IsNoneOf n (name ∷ [])
  other n differ = ((λ is. differ (sym is)), tt)

  pub begun_still : (names : List (List ℕ)) → IsNoneOf name names → AreBegun old names → AreBegun new names
  begun_still [] none begun = tt
  begun_still (n ∷ names) none begun = (same.open_names n (other n none.0) ∙ begun.0, begun_still names none.1 begun.1)

  pub free_still : (names : List (List ℕ)) → IsNoneOf name names → AreFree old names → AreFree new names
  free_still [] none free = tt
  free_still (n ∷ names) none free = (same.open_names n (other n none.0) ∙ free.0, free_still names none.1 free.1)

  module _ {K : Type 0} (written : K → Option (List ℕ)) where
    pub whole_still : (names : List (List ℕ)) (outs : List K) → IsNoneOf name names → AreClosedWhole written old names outs → AreClosedWhole written new names outs
    whole_still [] outs none whole = tt
    whole_still (n ∷ names) [] none whole = absurd whole
    whole_still (n ∷ names) (out ∷ outs) none whole = (same.files n (other n none.0) ∙ whole.0, whole_still names outs none.1 whole.1)

    pub or_not_still : (start : RoomView) (names : List (List ℕ)) (outs : List K) → IsNoneOf name names → AreClosedOrNot written start old names outs
        → AreClosedOrNot written start new names outs
    or_not_still start [] outs none left = tt
    or_not_still start (n ∷ names) [] none left = absurd left
    or_not_still start (n ∷ names) (out ∷ outs) none left = (one left.0, or_not_still start names outs none.1 left.1)
      where
        one : IsPutOrOld start old n (written out) → IsPutOrOld start new n (written out)
        one (inl put) = inl (same.files n (other n none.0) ∙ put)
        one (inr kept) = inr (same.files n (other n none.0) ∙ kept)

-- a room in which no name is open has these names free
pub free_of_closed : (room : RoomView) (names : List (List ℕ)) → ((name : List ℕ) → room.open_as name ≡ None) → AreFree room names
free_of_closed room [] closed = tt
free_of_closed room (name ∷ names) closed = (closed name, free_of_closed room names closed)

-- where these names alone were used and closed again, what was closed is closed
are_closed : (room : RoomView) (names : List (List ℕ)) → AreFree room names → AreClosed room names
are_closed room [] free = tt
are_closed room (name ∷ names) free = (free.0, are_closed room names free.1)

pub all_closed : (old new : RoomView) (names : List (List ℕ)) → SameBut old new names → AreFree new names
    → ((name : List ℕ) → old.open_as name ≡ None) → (name : List ℕ) → new.open_as name ≡ None
all_closed old new names apart free closed = closed_but old new names apart (are_closed new names free) closed

-- ---- the name that a loop is at

pub begun_at : (room : RoomView) (names : List (List ℕ)) (at : ℕ) (name : List ℕ) → slice_get names at ≡ Some name → AreBegun room (take (suc at) names)
    → room.open_as name ≡ Some AsOutput
begun_at room [] at name got begun = cc
begun_at room (n ∷ names) zero name got begun = let is : n ≡ name = cc in subst (λ m. room.open_as m ≡ Some AsOutput) is begun.0
begun_at room (n ∷ names) (suc at) name got begun = begun_at room names at name got begun.1

pub begun_fewer : (room : RoomView) (names : List (List ℕ)) (at : ℕ) → AreBegun room (take (suc at) names) → AreBegun room (take at names)
begun_fewer room [] zero begun = tt
begun_fewer room [] (suc at) begun = tt
begun_fewer room (n ∷ names) zero begun = tt
begun_fewer room (n ∷ names) (suc at) begun = (begun.0, begun_fewer room names at begun.1)

pub begun_more : (room : RoomView) (names : List (List ℕ)) (at : ℕ) (name : List ℕ) → slice_get names at ≡ Some name → AreBegun room (take at names)
    → room.open_as name ≡ Some AsOutput → AreBegun room (take (suc at) names)
begun_more room [] at name got begun is = cc
begun_more room (n ∷ names) zero name got begun is = let same : n ≡ name = cc in (subst (λ m. room.open_as m ≡ Some AsOutput) (sym same) is, tt)
begun_more room (n ∷ names) (suc at) name got begun is = (begun.0, begun_more room names at name got begun.1 is)

pub free_at : (room : RoomView) (names : List (List ℕ)) (at : ℕ) (name : List ℕ) → slice_get names at ≡ Some name → AreFree room (drop at names) → room.open_as name ≡ None
free_at room [] at name got free = cc
free_at room (n ∷ names) zero name got free = let is : n ≡ name = cc in subst (λ m. room.open_as m ≡ None) is free.0
free_at room (n ∷ names) (suc at) name got free = free_at room names at name got free

pub free_fewer : (room : RoomView) (names : List (List ℕ)) (at : ℕ) → AreFree room (drop at names) → AreFree room (drop (suc at) names)
free_fewer room [] zero free = tt
free_fewer room [] (suc at) free = tt
free_fewer room (n ∷ names) zero free = free.1
free_fewer room (n ∷ names) (suc at) free = free_fewer room names at free

pub free_more : (room : RoomView) (names : List (List ℕ)) (at : ℕ) (name : List ℕ) → slice_get names at ≡ Some name → AreFree room (drop (suc at) names)
    → room.open_as name ≡ None → AreFree room (drop at names)
free_more room [] at name got free is = cc
free_more room (n ∷ names) zero name got free is = let same : n ≡ name = cc in (subst (λ m. room.open_as m ≡ None) (sym same) is, free)
free_more room (n ∷ names) (suc at) name got free is = free_more room names at name got free is

-- ---- loops that take the last of what is left

-- an element at a place is an element
pub at_among : {X : Type 0} (xs : List X) (at : ℕ) (x : X) → slice_get xs at ≡ Some x → Contains xs x
at_among [] at x got = cc
at_among (y ∷ xs) zero x got = let is : y ≡ x = cc in (0, omega arith, is)
at_among (y ∷ xs) (suc at) x got = let rest = at_among xs at x got in (suc rest.0, omega (arith, rest.1), rest.2)

module _ {A : Type 0} where
  pub at_end : (left : List A) (last : A) → slice_get (left ++ last ∷ []) (length left) ≡ Some last
  at_end [] last = refl
  at_end (x ∷ left) last = at_end left last

  pub at_before : (left : List A) (last : A) (index : ℕ) → index < length left → slice_get (left ++ last ∷ []) index ≡ slice_get left index
  at_before [] last index few = absurd (omega arith)
  at_before (x ∷ left) last zero few = refl
  at_before (x ∷ left) last (suc index) few = at_before left last index (omega arith)

  more_by_one : (left : List A) (last : A) → length (left ++ last ∷ []) ≡ suc (length left)
  more_by_one [] last = refl
  more_by_one (x ∷ left) last = ap suc (more_by_one left last)

  drop_here : (xs : List A) (at : ℕ) (x : A) → slice_get xs at ≡ Some x → drop at xs ≡ x ∷ drop (suc at) xs
  drop_here [] at x is = cc
  drop_here (y ∷ xs) zero x is = let same : y ≡ x = cc in ap (λ z. z ∷ xs) same
  drop_here (y ∷ xs) (suc at) x is = drop_here xs at x is

  pub all_taken : (xs : List A) (at : ℕ) → at ≡ length xs → take at xs ≡ xs
  all_taken [] zero is = refl
  all_taken [] (suc at) is = refl
  all_taken (x ∷ xs) zero is = cc
  all_taken (x ∷ xs) (suc at) is = ap (λ ys. x ∷ ys) (all_taken xs at (omega (arith, is)))

  all_dropped : (xs : List A) (at : ℕ) → at ≡ length xs → drop at xs ≡ []
  all_dropped [] zero is = refl
  all_dropped [] (suc at) is = refl
  all_dropped (x ∷ xs) zero is = cc
  all_dropped (x ∷ xs) (suc at) is = all_dropped xs at (omega (arith, is))

-- of these outputs the last were ended, and those that are left are the first
pub record AreLeft {K : Type 0} (names : List (List ℕ)) (all left : List K) (old now : RoomView) : Type 0 where
  pub few : length left ≤ length names
  pub same : (index : ℕ) → index < length left → slice_get left index ≡ slice_get all index
  pub apart : SameBut old now (drop (length left) names)
  pub begun : AreBegun now (take (length left) names)
  pub free : AreFree now (drop (length left) names)

module _ {K : Type 0} where
  pub left_all : (names : List (List ℕ)) (all : List K) (old : RoomView) → length all ≡ length names → AreBegun old names → AreLeft names all all old old
  left_all names all old many begun =
      let none : drop (length all) names ≡ [] = all_dropped names (length all) many in
      let whole : take (length all) names ≡ names = all_taken names (length all) many in record {
        few = omega (arith, many);
        same = λ index less. refl;
        apart = same_but_itself old (drop (length all) names);
        begun = subst (AreBegun old) (sym whole) begun;
        free = subst (AreFree old) (sym none) tt;
      }

  -- the last of those that are left was ended
  pub left_fewer : (names : List (List ℕ)) (all before left : List K) (last : K) (old now new : RoomView) (name : List ℕ) → AreApart names
      → before ≡ left ++ last ∷ [] → AreLeft names all before old now → slice_get names (length left) ≡ Some name → SameBut now new (name ∷ []) → new.open_as name ≡ None
      → AreLeft names all left old new
  left_fewer names all before left last old now new name apart_all popped so_far named apart closed =
      let many : length before ≡ suc (length left) = ap length popped ∙ more_by_one left last in
      let here : drop (length left) names ≡ name ∷ drop (suc (length left)) names = drop_here names (length left) name named in
      let behind = subst (λ n. SameBut old now (drop n names)) many so_far.apart in
      let begun = subst (λ n. AreBegun now (take n names)) many so_far.begun in
      let free = subst (λ n. AreFree now (drop n names)) many so_far.free in
      let few = so_far.few in record {
        few = omega (arith, many, few);
        same = λ index less.
            sym (at_before left last index less) ∙ ap (λ items. slice_get items index) (sym popped) ∙ so_far.same index (omega (arith, many, less));
        apart = subst (SameBut old new) (sym here)
            (same_but_then old now new (name ∷ drop (suc (length left)) names)
            (same_but_more old now (drop (suc (length left)) names) (name ∷ drop (suc (length left)) names) (λ n none. none.1) behind)
            (same_but_more now new (name ∷ []) (name ∷ drop (suc (length left)) names) (λ n none. (none.0, tt)) apart));
        begun = begun_still now new name apart (take (length left) names) (apart_before names (length left) name apart_all named) (begun_fewer now names (length left) begun);
        free = free_more new names (length left) name named
            (free_still now new name apart (drop (suc (length left)) names) (apart_behind names (length left) name apart_all named) free) closed;
      }

  -- the name of the last of those that are left is open
  pub last_begun : (names : List (List ℕ)) (all before left : List K) (last : K) (old now : RoomView) (name : List ℕ)
      → before ≡ left ++ last ∷ [] → AreLeft names all before old now → slice_get names (length left) ≡ Some name → now.open_as name ≡ Some AsOutput
  last_begun names all before left last old now name popped so_far named =
      let many : length before ≡ suc (length left) = ap length popped ∙ more_by_one left last in
      begun_at now names (length left) name named (subst (λ n. AreBegun now (take n names)) many so_far.begun)

  -- its name, where that was looked up
  pub last_named : (names : List (List ℕ)) (before left : List K) (last : K) (at : ℕ) (found name : List ℕ) → before ≡ left ++ last ∷ [] → length before ≤ length names
      → at ≡ length left → found ≡ get_or names at found → name ≡ found → slice_get names (length left) ≡ Some name
  last_named names before left last at found name popped few at_is found_is name_is =
      let many : length before ≡ suc (length left) = ap length popped ∙ more_by_one left last in
      let within : length left < length names = omega (arith, many, few) in
      slice_get_read names (length names) (length left) found refl within (subst (λ n. found ≡ get_or names n found) at_is found_is) ∙ ap Some (sym name_is)

  -- it is the one at its place
  pub last_is : (names : List (List ℕ)) (all before left : List K) (last : K) (old now : RoomView)
      → before ≡ left ++ last ∷ [] → AreLeft names all before old now → slice_get all (length left) ≡ Some last
  last_is names all before left last old now popped so_far =
      let many : length before ≡ suc (length left) = ap length popped ∙ more_by_one left last in
      sym (so_far.same (length left) (omega (arith, many))) ∙ ap (λ items. slice_get items (length left)) popped ∙ at_end left last

-- ---- outputs that are given up

pub record AreGivenUp {K : Type 0} (faults : K → ℕ) (names : List (List ℕ)) (all left : List K) (old now : RoomView) : Type 0 where
  pub are : AreLeft names all left old now
  pub kept : KeepsFiles old now
  pub raised : (index : ℕ) (name : List ℕ) (out : K) → length left ≤ index → slice_get names index ≡ Some name → slice_get all index ≡ Some out
      → Rose 0 (faults out) → Rose (old.out_faults name) (now.out_faults name)

module _ {K : Type 0} (faults : K → ℕ) where
  pub given_up_none : (names : List (List ℕ)) (all : List K) (old : RoomView) → length all ≡ length names → AreBegun old names → AreGivenUp faults names all all old old
  given_up_none names all old many begun = record {
    are = left_all names all old many begun;
    kept = record { files = λ name. refl };
    raised = λ index name out high named got had. absurd (beyond all index out high got);
  }
    where
      beyond : (xs : List K) (index : ℕ) (x : K) → length xs ≤ index → slice_get xs index ≡ Some x → ⊥
      beyond [] index x high got = cc
      beyond (y ∷ xs) zero x high got = omega (arith, high)
      beyond (y ∷ xs) (suc index) x high got = beyond xs index x (omega (arith, high)) got

  some_same : {X : Type 0} {x y : X} → Some x ≡ Some y → x ≡ y
  some_same is = cc

  pub given_up_more : (names : List (List ℕ)) (all before left : List K) (last : K) (old now new : RoomView) (name : List ℕ) → AreApart names
      → before ≡ left ++ last ∷ [] → AreGivenUp faults names all before old now → slice_get names (length left) ≡ Some name → SameBut now new (name ∷ []) → new.open_as name ≡ None
      → IsUntouched now new name → new.out_faults name ≡ count_sum (now.out_faults name) (faults last) → AreGivenUp faults names all left old new
  given_up_more names all before left last old now new name apart_all popped so_far named apart closed untouched counted =
      let many : length before ≡ suc (length left) = ap length popped ∙ more_by_one left last in record {
        are = left_fewer names all before left last old now new name apart_all popped so_far.are named apart closed;
        kept = record { files = λ n. file n (same_or_not n name) ∙ so_far.kept.files n };
        raised = λ index n out high got_name got_out had. decided many index n out high got_name got_out had (nat_eq index (length left)) refl;
      }
    where
      file : (n : List ℕ) → (n ≡ name) ⊎ (n ≢ name) → new.file n ≡ now.file n
      file n (inl is) = subst (λ m. new.file m ≡ now.file m) (sym is) untouched.file
      file n (inr other) = apart.files n (other, tt)

      decided : length before ≡ suc (length left) → (index : ℕ) (n : List ℕ) (out : K) → length left ≤ index → slice_get names index ≡ Some n → slice_get all index ≡ Some out
          → Rose 0 (faults out) → (b : Bool) → nat_eq index (length left) ≡ b → Rose (old.out_faults n) (new.out_faults n)
      decided many index n out high got_name got_out had true same =
          let here : index ≡ length left = grind (arith, nat_tests) in
          let it : last ≡ out = some_same (sym (last_is names all before left last old now popped so_far.are) ∙ ap (slice_get all) (sym here) ∙ got_out) in
          let its : name ≡ n = some_same (sym named ∙ ap (slice_get names) (sym here) ∙ got_name) in
          let from : Rose 0 (faults last) = subst (λ k. Rose 0 (faults k)) (sym it) had in
          let earlier = (so_far.are.apart).outs name in
          subst (λ m. Rose (old.out_faults m) (new.out_faults m)) its (omega (arith, counted, from, earlier))
      decided many index n out high got_name got_out had false other =
          let later : suc (length left) ≤ index = grind (arith, nat_tests) in
          let was = so_far.raised index n out (omega (arith, many, later)) got_name got_out had in
          let more = apart.outs n in omega (arith, was, more)

-- ---- outputs that are closed

pub record AreEnded {K : Type 0} (written : K → Option (List ℕ)) (names : List (List ℕ)) (all left : List K) (old now : RoomView) (closed : Bool) : Type 0 where
  pub are : AreLeft names all left old now
  pub whole : closed ≡ true → old.tells ≡ true → AreClosedWhole written now (drop (length left) names) (drop (length left) all)
  pub or_not : old.tells ≡ true → AreClosedOrNot written old now (drop (length left) names) (drop (length left) all)
  pub cause : closed ≡ false → HasOutputFault names old now

module _ {K : Type 0} (written : K → Option (List ℕ)) where
  pub ended_none : (names : List (List ℕ)) (all : List K) (old : RoomView) → length all ≡ length names → AreBegun old names → AreEnded written names all all old old true
  ended_none names all old many begun =
      let none : drop (length all) names ≡ [] = all_dropped names (length all) many in record {
        are = left_all names all old many begun;
        whole = λ closed tells. subst (λ l. AreClosedWhole written old l (drop (length all) all)) (sym none) tt;
        or_not = λ tells. subst (λ l. AreClosedOrNot written old old l (drop (length all) all)) (sym none) tt;
        cause = λ one_failed. absurd (true≢false one_failed);
      }

  pub ended_more : (names : List (List ℕ)) (all before left : List K) (last : K) (old now new : RoomView) (name : List ℕ) (closed closed_now : Bool) (result : Result (Unit {0}) Failed)
      → AreApart names → before ≡ left ++ last ∷ [] → AreEnded written names all before old now closed → slice_get names (length left) ≡ Some name
      → EndsOutput now new name (written last) closed result → closed_now ≡ (closed && is_ok result) → AreEnded written names all left old new closed_now
  ended_more names all before left last old now new name closed closed_now result apart_all popped so_far named ends is_now =
      let many : length before ≡ suc (length left) = ap length popped ∙ more_by_one left last in
      let here_name : drop (length left) names ≡ name ∷ drop (suc (length left)) names = drop_here names (length left) name named in
      let here_out : drop (length left) all ≡ last ∷ drop (suc (length left)) all =
      drop_here all (length left) last (last_is names all before left last old now popped so_far.are) in
      let behind = apart_behind names (length left) name apart_all named in
      let rest_apart = subst (λ n. SameBut old now (drop n names)) many so_far.are.apart in
      let was_file : now.file name ≡ old.file name = rest_apart.files name behind in record {
        are = left_fewer names all before left last old now new name apart_all popped so_far.are named ends.apart ends.closed;
        whole = λ all_closed tells.
            let both = and_parts closed (is_ok result) (sym is_now ∙ all_closed) in
            subst (λ l. AreClosedWhole written new l (drop (length left) all)) (sym here_name)
            (subst (λ l. AreClosedWhole written new (name ∷ drop (suc (length left)) names) l) (sym here_out) (
              on_ok_at result both.1 ends.put (rest_apart.tells ∙ tells),
              whole_still now new name ends.apart written (drop (suc (length left)) names) (drop (suc (length left)) all) behind
                  (subst (λ n. AreClosedWhole written now (drop n names) (drop n all)) many (so_far.whole both.0 tells)),
            ));
        or_not = λ tells.
            subst (λ l. AreClosedOrNot written old new l (drop (length left) all)) (sym here_name)
            (subst (λ l. AreClosedOrNot written old new (name ∷ drop (suc (length left)) names) l) (sym here_out) (
              since was_file (ends.or_not (rest_apart.tells ∙ tells)),
              or_not_still now new name ends.apart written old (drop (suc (length left)) names) (drop (suc (length left)) all) behind
                  (subst (λ n. AreClosedOrNot written old now (drop n names) (drop n all)) many (so_far.or_not tells)),
            ));
        cause = λ one_failed. fault closed refl result refl one_failed;
      }
    where
      on_ok_at : {P : Type 0} (r : Result (Unit {0}) Failed) → is_ok r ≡ true → OnOk r P → P
      on_ok_at (Ok value) is p = p
      on_ok_at (Err failed) is p = cc

      since : now.file name ≡ old.file name → IsPutOrOld now new name (written last) → IsPutOrOld old new name (written last)
      since was (inl put) = inl put
      since was (inr kept) = inr (kept ∙ was)

      fault : (c : Bool) → closed ≡ c → (r : Result (Unit {0}) Failed) → result ≡ r → closed_now ≡ false → HasOutputFault names old new
      fault false is r same one_failed =
          let was = so_far.cause is in record {
            name = was.name;
            among = was.among;
            rose = let more = (ends.apart).outs was.name in omega (arith, was.rose, more);
          }
      fault true is (Ok value) same one_failed = absurd (true≢false (sym (is_now ∙ ap (λ c. c && is_ok result) is ∙ ap is_ok same) ∙ one_failed))
      fault true is (Err failed) same one_failed = record {
        name = name;
        among = at_among names (length left) name named;
        rose = let mine = subst (λ r. OnErr r (Rose (now.out_faults name) (new.out_faults name))) same (ends.cause is) in
            let earlier = (so_far.are.apart).outs name in omega (arith, mine, earlier);
      }

-- a closing that failed, and one that didn't
pub and_failed : (closed : Bool) (one : Bool) → one ≡ false → false ≡ (closed && one)
and_failed true one is = sym is
and_failed false one is = refl

pub and_kept : (closed : Bool) (one : Bool) → one ≡ true → closed ≡ (closed && one)
and_kept true one is = sym is
and_kept false one is = refl

-- ---- outputs that are begun

pub record AreBeginning {K : Type 0} (written : K → Option (List ℕ)) (faults : K → ℕ) (names : List (List ℕ)) (outs : List K) (old now : RoomView) : Type 0 where
  pub apart : SameBut old now (take (length outs) names)
  pub kept : KeepsFiles old now
  pub begun : AreBegun now (take (length outs) names)
  pub free : AreFree now (drop (length outs) names)
  pub fresh : AreFresh written faults old outs

module _ {K : Type 0} (written : K → Option (List ℕ)) (faults : K → ℕ) where
  pub beginning_none : (names : List (List ℕ)) (outs : List K) (old : RoomView) → outs ≡ [] → AreFree old names → AreBeginning written faults names outs old old
  beginning_none names outs old none free = subst (λ o. AreBeginning written faults names o old old) (sym none) (record {
    apart = same_but_itself old [];
    kept = record { files = λ name. refl };
    begun = tt;
    free = free;
    fresh = tt;
  })

  taken_more : (names : List (List ℕ)) (at : ℕ) (n name : List ℕ) → slice_get names at ≡ Some name → IsNoneOf n (take (suc at) names) → IsNoneOf n (take at names) × (n ≢ name)
  taken_more [] at n name got none = cc
  taken_more (m ∷ names) zero n name got none = let is : m ≡ name = cc in (tt, λ same. none.0 (same ∙ sym is))
  taken_more (m ∷ names) (suc at) n name got none = let rest = taken_more names at n name got none.1 in ((none.0, rest.0), rest.1)

  fresh_more : (room : RoomView) (outs : List K) (out : K) → AreFresh written faults room outs → (room.tells ≡ true → written out ≡ Some []) → faults out ≡ 0
      → AreFresh written faults room (outs ++ out ∷ [])
  fresh_more room [] out fresh empty none = (empty, none, tt)
  fresh_more room (first ∷ outs) out fresh empty none = (fresh.0, fresh.1, fresh_more room outs out fresh.2 empty none)

  -- one more was begun
  pub beginning_more : (names : List (List ℕ)) (outs : List K) (out : K) (old now new : RoomView) (name : List ℕ) → AreApart names
      → AreBeginning written faults names outs old now → slice_get names (length outs) ≡ Some name → SameBut now new (name ∷ []) → IsUntouched now new name
      → new.open_as name ≡ Some AsOutput → (now.tells ≡ true → written out ≡ Some []) → faults out ≡ 0
      → AreBeginning written faults names (outs ++ out ∷ []) old new
  beginning_more names outs out old now new name apart_all so_far named apart untouched opened empty none =
      let many : length (outs ++ out ∷ []) ≡ suc (length outs) = more_by_one outs out in
      let begun = begun_more new names (length outs) name named
      (begun_still now new name apart (take (length outs) names) (apart_before names (length outs) name apart_all named) so_far.begun) opened in
      let free = free_still now new name apart (drop (suc (length outs)) names) (apart_behind names (length outs) name apart_all named)
      (free_fewer now names (length outs) so_far.free) in
      let both = same_but_then old now new (take (suc (length outs)) names)
      (same_but_more old now (take (length outs) names) (take (suc (length outs)) names) (λ n other. (taken_more names (length outs) n name named other).0) so_far.apart)
      (same_but_more now new (name ∷ []) (take (suc (length outs)) names) (λ n other. ((taken_more names (length outs) n name named other).1, tt)) apart) in record {
        apart = subst (λ n. SameBut old new (take n names)) (sym many) both;
        kept = record { files = λ n. file n (same_or_not n name) ∙ so_far.kept.files n };
        begun = subst (λ n. AreBegun new (take n names)) (sym many) begun;
        free = subst (λ n. AreFree new (drop n names)) (sym many) free;
        fresh = fresh_more old outs out so_far.fresh (λ tells. empty (so_far.apart.tells ∙ tells)) none;
      }
    where
      file : (n : List ℕ) → (n ≡ name) ⊎ (n ≢ name) → new.file n ≡ now.file n
      file n (inl is) = subst (λ m. new.file m ≡ now.file m) (sym is) untouched.file
      file n (inr other) = apart.files n (other, tt)

-- the name of the next, where it was looked up
pub next_named : {K : Type 0} (names : List (List ℕ)) (outs : List K) (index : ℕ) (found name : List ℕ) → length outs ≡ index → index < length names
    → found ≡ get_or names index found → name ≡ found → slice_get names (length outs) ≡ Some name
next_named names outs index found name many within found_is name_is =
    let here = slice_get_read names (length names) index found refl within found_is in
    ap (slice_get names) many ∙ here ∙ ap Some (sym name_is)

-- all were begun
pub begun_apart : {K : Type 0} (written : K → Option (List ℕ)) (faults : K → ℕ) (names : List (List ℕ)) (outs : List K) (old now : RoomView)
    → AreBeginning written faults names outs old now → length outs ≡ length names → SameBut old now names
begun_apart written faults names outs old now so_far many = subst (SameBut old now) (all_taken names (length outs) many) so_far.apart

pub begun_whole : {K : Type 0} (written : K → Option (List ℕ)) (faults : K → ℕ) (names : List (List ℕ)) (outs : List K) (old now : RoomView)
    → AreBeginning written faults names outs old now → length outs ≡ length names → AreBegun now names
begun_whole written faults names outs old now so_far many = subst (AreBegun now) (all_taken names (length outs) many) so_far.begun

-- ---- where one can't be begun

none_of_taken : (n : List ℕ) (names : List (List ℕ)) (at : ℕ) → IsNoneOf n names → IsNoneOf n (take at names)
none_of_taken n [] zero none = tt
none_of_taken n [] (suc at) none = tt
none_of_taken n (x ∷ names) zero none = tt
none_of_taken n (x ∷ names) (suc at) none = (none.0, none_of_taken n names at none.1)

-- the first of names that are apart
pub apart_front : (names : List (List ℕ)) (at : ℕ) → AreApart names → AreApart (take at names)
apart_front [] zero apart = tt
apart_front [] (suc at) apart = tt
apart_front (n ∷ names) zero apart = tt
apart_front (n ∷ names) (suc at) apart = (none_of_taken n names at apart.0, apart_front names at apart.1)

-- each of these is none of those
abbrev AllNone : List (List ℕ) → List (List ℕ) → Type 0
AllNone [] xs = Unit {0}
AllNone (n ∷ names) xs = IsNoneOf n xs × AllNone names xs

none_with : (n : List ℕ) (ys xs : List (List ℕ)) → IsNoneOf n ys → AllNone ys xs → AllNone ys (n ∷ xs)
none_with n [] xs none all = tt
none_with n (y ∷ ys) xs none all = (((λ same. none.0 (sym same)), all.0), none_with n ys xs none.1 all.1)

none_behind : (n : List ℕ) (xs : List (List ℕ)) (at : ℕ) → IsNoneOf n xs → IsNoneOf n (drop at xs)
none_behind n [] zero none = tt
none_behind n [] (suc at) none = tt
none_behind n (x ∷ xs) zero none = none
none_behind n (x ∷ xs) (suc at) none = none_behind n xs at none.1

all_none : (names : List (List ℕ)) (at : ℕ) → AreApart names → AllNone (drop at names) (take at names)
all_none [] zero apart = tt
all_none [] (suc at) apart = tt
all_none (n ∷ names) zero apart = all_of (n ∷ names)
  where
    all_of : (xs : List (List ℕ)) → AllNone xs []
    all_of [] = tt
    all_of (x ∷ xs) = (tt, all_of xs)
all_none (n ∷ names) (suc at) apart = none_with n (drop at names) (take at names) (none_behind n names at apart.0) (all_none names at apart.1)

free_apart : (now new : RoomView) (names xs : List (List ℕ)) → AllNone names xs → SameBut now new xs → AreFree now names → AreFree new names
free_apart now new [] xs none same free = tt
free_apart now new (n ∷ names) xs none same free = (same.open_names n none.0 ∙ free.0, free_apart now new names xs none.1 same free.1)

free_both : (room : RoomView) (names : List (List ℕ)) (at : ℕ) → AreFree room (take at names) → AreFree room (drop at names) → AreFree room names
free_both room [] at one other = tt
free_both room (n ∷ names) zero one other = other
free_both room (n ∷ names) (suc at) one other = (one.0, free_both room names at one.1 other)

pub begun_same : (now new : RoomView) (names : List (List ℕ)) → SameBut now new [] → AreBegun now names → AreBegun new names
begun_same now new [] same begun = tt
begun_same now new (n ∷ names) same begun = (same.open_names n tt ∙ begun.0, begun_same now new names same begun.1)

pub free_same : (now new : RoomView) (names : List (List ℕ)) → SameBut now new [] → AreFree now names → AreFree new names
free_same now new [] same free = tt
free_same now new (n ∷ names) same free = (same.open_names n tt ∙ free.0, free_same now new names same free.1)

-- what is given up then
pub failed_begun : {K : Type 0} (written : K → Option (List ℕ)) (faults : K → ℕ) (names : List (List ℕ)) (outs : List K) (old now new : RoomView)
    (index : ℕ) → length outs ≡ index → AreBeginning written faults names outs old now → SameBut now new [] → AreBegun new (take index names)
failed_begun written faults names outs old now new index many so_far same =
    subst (λ n. AreBegun new (take n names)) many (begun_same now new (take (length outs) names) same so_far.begun)

-- one couldn't be begun, and those before it were given up
pub record AreUnbegun (names : List (List ℕ)) (old new : RoomView) : Type 0 where
  pub apart : SameBut old new names
  pub kept : KeepsFiles old new
  pub closed : AreFree new names
  pub cause : HasOutputFault names old new

pub beginning_failed : {K : Type 0} (written : K → Option (List ℕ)) (faults : K → ℕ) (names : List (List ℕ)) (outs : List K) (old now failed new : RoomView) (name : List ℕ)
    → AreApart names → AreBeginning written faults names outs old now → slice_get names (length outs) ≡ Some name → SameBut now failed []
    → Rose (now.out_faults name) (failed.out_faults name) → SameBut failed new (take (length outs) names) → KeepsFiles failed new → AreFree new (take (length outs) names)
    → AreUnbegun names old new
beginning_failed written faults names outs old now failed new name apart_all so_far named same rose given kept closed = record {
  apart = same_but_then old now new names (same_but_more old now (take (length outs) names) names (λ n none. none_of_taken n names (length outs) none) so_far.apart)
      (same_but_then now failed new names (same_but_more now failed [] names (λ n none. tt) same)
      (same_but_more failed new (take (length outs) names) names (λ n none. none_of_taken n names (length outs) none) given));
  kept = record { files = λ n. kept.files n ∙ same.files n tt ∙ so_far.kept.files n };
  closed = free_both new names (length outs) closed
      (free_apart failed new (drop (length outs) names) (take (length outs) names) (all_none names (length outs) apart_all) given
      (free_same now failed (drop (length outs) names) same so_far.free));
  cause = record {
    name = name;
    among = at_among names (length outs) name named;
    rose = let earlier = (so_far.apart).outs name in let later = given.outs name in omega (arith, earlier, rose, later);
  };
}

-- the same by the index that the loop is at
pub none_begun : {K : Type 0} (written : K → Option (List ℕ)) (faults : K → ℕ) (names : List (List ℕ)) (outs : List K) (old now failed new : RoomView) (name : List ℕ)
    (index : ℕ) → length outs ≡ index → AreApart names → AreBeginning written faults names outs old now → slice_get names (length outs) ≡ Some name → SameBut now failed []
    → Rose (now.out_faults name) (failed.out_faults name) → SameBut failed new (take index names) → KeepsFiles failed new → AreFree new (take index names)
    → AreUnbegun names old new
none_begun written faults names outs old now failed new name index many apart_all so_far named same rose given kept closed =
    beginning_failed written faults names outs old now failed new name apart_all so_far named same rose
    (subst (λ n. SameBut failed new (take n names)) (sym many) given) kept (subst (λ n. AreFree new (take n names)) (sym many) closed)
