-- Inputs that are opened one after the other.
use Rattle.std.proofs.Common.{◌≡◌, ℕ, ◌+◌, ◌<◌, ◌≤◌, suc, zero, Bool, false, nat_eq, ◌≢◌, List, [], ◌∷◌, ◌++◌, length, map, take, drop, slice_get, get_or, Option, Some, IsSome, true, refl, sym, ap, subst, ◌∙◌, arith}
use Rattle.std.specs.Prelude.{All}
use Rattle.std.proofs.lemmas.Bool.Decides.{nat_tests}
use Rattle.std.proofs.lemmas.List.Elements.{All-nil, All-head, All-tail}
use Rattle.outside.specs.Fault.{Rose}
use Rattle.outside.specs.Room.{RoomView, SameBut}
use Rattle.command_words.specs.declared.library.Library.{Library}
use Rattle.console_lines.specs.declared.fault.Fault.{Fault}
use Rattle.loader_workers.specs.declared.input.InputFile.{InputFile}
use Rattle.loading_commands.specs.Inputs.{IsInputFault, IsInputOf, AreInputs, NoInput, OneInput, AreOpened, IsFresh, RisesFrom, lefts_of_inputs}

some_same : {A : Type 0} {x y : A} → Some x ≡ Some y → x ≡ y
some_same is = cc

-- a fault of a later opening is one since an earlier moment
pub fault_since : (libraries : List Library) (old now new : RoomView) → SameBut old now [] → IsInputFault libraries now new → IsInputFault libraries old new
fault_since libraries old now new stays is = record {
  index = is.index;
  library = is.library;
  named = is.named;
  rose = let earlier = stays.ins is.library.file in omega (arith, earlier, is.rose);
}

module _ {S : Type 0} (left : S → Option (List ℕ)) where
  -- what was opened in a room is what would have been before calls that change no file
  pub input_before : (old now : RoomView) (library : Library) (input : InputFile S) → SameBut old now [] → IsInputOf left now library input → IsInputOf left old library input
  input_before old now library input stays is = record {
    there = λ tells. subst IsSome (stays.files library.file tt) (is.there (stays.tells ∙ tells));
    bytes = λ tells. is.bytes (stays.tells ∙ tells) ∙ stays.files library.file tt;
    code = is.code;
  }

  -- the same before calls that change one file alone, which is none of these
  pub input_apart : (old now : RoomView) (name : List ℕ) (library : Library) (input : InputFile S) → SameBut old now (name ∷ []) → library.file ≢ name
      → IsInputOf left now library input → IsInputOf left old library input
  input_apart old now name library input apart other is = record {
    there = λ tells. subst IsSome (apart.files library.file (other, tt)) (is.there (apart.tells ∙ tells));
    bytes = λ tells. is.bytes (apart.tells ∙ tells) ∙ apart.files library.file (other, tt);
    code = is.code;
  }

  pub inputs_after : (old now : RoomView) (name : List ℕ) → SameBut old now (name ∷ []) → (libraries : List Library) (inputs : List (InputFile S))
      → All (λ (l : Library). l.file ≢ name) libraries → AreInputs left now libraries inputs → AreInputs left old libraries inputs
  inputs_after old now name apart _ _ others NoInput = NoInput
  inputs_after old now name apart _ _ others (OneInput ls is l i one are) =
      OneInput ls is l i (input_apart old now name l i apart (All-head (λ (l : Library). l.file ≢ name) l ls others) one)
      (inputs_after old now name apart ls is (All-tail (λ (l : Library). l.file ≢ name) l ls others) are)

  one_input : (room : RoomView) (libraries : List Library) (library : Library) (input : InputFile S) → slice_get libraries 0 ≡ Some library
      → IsInputOf left room library input → AreInputs left room (take 1 libraries) (input ∷ [])
  one_input room [] library input at is = cc
  one_input room (first ∷ libraries) library input at is = OneInput [] [] first input (let same : first ≡ library = cc in subst (λ l. IsInputOf left room l input) (sym same) is) NoInput

  -- one more input, of the next library
  pub input_more : (room : RoomView) (libraries : List Library) (inputs : List (InputFile S)) (library : Library) (input : InputFile S)
      → AreInputs left room (take (length inputs) libraries) inputs → slice_get libraries (length inputs) ≡ Some library → IsInputOf left room library input
      → AreInputs left room (take (length (inputs ++ input ∷ [])) libraries) (inputs ++ input ∷ [])
  input_more room libraries [] library input are at is = one_input room libraries library input at is
  input_more room [] (first ∷ inputs) library input are at is = cc
  input_more room (next ∷ libraries) (first ∷ inputs) library input (OneInput ls is' l i one are) at is =
      OneInput (take (length (inputs ++ input ∷ [])) libraries) (inputs ++ input ∷ []) next first one (input_more room libraries inputs library input are at is)

-- no file was opened
pub none_opened : {S : Type 0} (left : S → Option (List ℕ)) (faults : S → ℕ) (room : RoomView) (libraries : List Library) (opened : List (InputFile S)) (why : Fault)
    → opened ≡ [] → AreOpened left faults room libraries opened (Some why)
none_opened left faults room libraries opened why none = rw none (record {
  inputs = NoInput;
  fresh = All-nil (IsFresh faults);
  few = omega arith;
  whole = λ no. cc;
})

module _ {A : Type 0} where
  pub at_end : (left : List A) (last : A) → slice_get (left ++ last ∷ []) (length left) ≡ Some last
  at_end [] last = refl
  at_end (x ∷ left) last = at_end left last

  pub at_before : (left : List A) (last : A) (index : ℕ) → index < length left → slice_get (left ++ last ∷ []) index ≡ slice_get left index
  at_before [] last index few = absurd (omega arith)
  at_before (x ∷ left) last zero few = refl
  at_before (x ∷ left) last (suc index) few = at_before left last index (omega arith)

-- the last of the inputs that are left is closed
pub closed_more : {S : Type 0} (faults : S → ℕ) (libraries : List Library) (all left : List (InputFile S)) (this : Library) (last : InputFile S) (old now new : RoomView)
    → RisesFrom faults (length left + 1) libraries all old now → SameBut old now [] → SameBut now new [] → slice_get libraries (length left) ≡ Some this
    → (Rose 0 (faults last.source) → Rose (now.in_faults this.file) (new.in_faults this.file)) → slice_get all (length left) ≡ Some last
    → RisesFrom faults (length left) libraries all old new
closed_more faults libraries all left this last old now new rises before stays of rose at index library input from named is had = decided (nat_eq index (length left)) refl
  where
    decided : (b : Bool) → nat_eq index (length left) ≡ b → Rose (old.in_faults library.file) (new.in_faults library.file)
    decided true same =
        let here : index ≡ length left = grind (arith, nat_tests) in
        let it : input ≡ last = some_same (sym is ∙ subst (λ n. slice_get all n ≡ Some last) (sym here) at) in
        let its : this ≡ library = some_same (sym of ∙ subst (λ n. slice_get libraries n ≡ Some library) here named) in
        let now_rose = subst (λ (l : Library). Rose (now.in_faults l.file) (new.in_faults l.file)) its (rose (subst (λ i. Rose 0 (faults i.source)) it had)) in
        let earlier = before.ins library.file in omega (arith, now_rose, earlier)
    decided false other =
        let later : length left + 1 ≤ index = grind (arith, nat_tests) in
        let was = rises index library input later named is had in
        let more = stays.ins library.file in omega (arith, was, more)

-- an element that is there
pub get_within : {A : Type 0} (xs : List A) (n : ℕ) → n < length xs → (x : A) × (slice_get xs n ≡ Some x)
get_within [] n less = absurd (omega (arith, less))
get_within (x ∷ xs) zero less = (x, refl)
get_within (x ∷ xs) (suc n) less = get_within xs n (omega (arith, less))

-- an element that was read
pub got : {A : Type 0} (xs : List A) (n : ℕ) (x : A) → n < length xs → x ≡ get_or xs n x → slice_get xs n ≡ Some x
got [] n x less is = absurd (omega (arith, less))
got (y ∷ ys) zero x less is = ap Some (sym is)
got (y ∷ ys) (suc n) x less is = got ys n x (omega (arith, less)) is

-- an element that a test lets through
pub got_is : {A : Type 0} (P : A → Type 0) (xs : List A) (n : ℕ) (x : A) → n < length xs → x ≡ get_or xs n x → All P xs → P x
got_is P xs n x less is all = subst P (sym is) (all n x less)

pub take_all : {A : Type 0} (xs : List A) (n : ℕ) → n ≡ length xs → take n xs ≡ xs
take_all [] zero is = refl
take_all [] (suc n) is = cc
take_all (x ∷ xs) zero is = cc
take_all (x ∷ xs) (suc n) is = ap (λ ys. x ∷ ys) (take_all xs n (omega (arith, is)))

-- a fault that came between other calls is one of all of them
pub fault_between : (libraries : List Library) (old now new last : RoomView) → ((n : List ℕ) → old.in_faults n ≤ now.in_faults n) → IsInputFault libraries now new
    → ((n : List ℕ) → new.in_faults n ≤ last.in_faults n) → IsInputFault libraries old last
fault_between libraries old now new last before is behind = record {
  index = is.index;
  library = is.library;
  named = is.named;
  rose = let first = before is.library.file in let later = behind is.library.file in omega (arith, first, is.rose, later);
}

-- what is at a place comes first of what is left from there on
drop_at : {A : Type 0} (xs : List A) (n : ℕ) (x : A) → slice_get xs n ≡ Some x → drop n xs ≡ x ∷ drop (suc n) xs
drop_at [] n x is = cc
drop_at (y ∷ xs) zero x is = let same : y ≡ x = cc in ap (λ z. z ∷ xs) same
drop_at (y ∷ xs) (suc n) x is = drop_at xs n x is

-- one more input is closed, in front of those behind it
pub lefts_more : {S : Type 0} (left : S → Option (List ℕ)) (all : List (InputFile S)) (n : ℕ) (last : InputFile S) (old now new : List (Option (List ℕ)))
    → slice_get all n ≡ Some last → now ≡ lefts_of_inputs left (drop (n + 1) all) ++ old → new ≡ left last.source ∷ now → new ≡ lefts_of_inputs left (drop n all) ++ old
lefts_more left all n last old now new at was is =
    let next : n + 1 ≡ suc n = omega arith in
    is ∙ ap (λ ls. left last.source ∷ ls) (was ∙ ap (λ k. lefts_of_inputs left (drop k all) ++ old) next)
    ∙ sym (ap (λ inputs. lefts_of_inputs left inputs ++ old) (drop_at all n last at))

-- what inputs have left of which nothing was read
pub unread : {S : Type 0} (left : S → Option (List ℕ)) (room : RoomView) → room.tells ≡ true → (libraries : List Library) (inputs : List (InputFile S))
    → AreInputs left room libraries inputs → lefts_of_inputs left inputs ≡ map (λ (library : Library). room.file library.file) libraries
unread left room tells _ _ NoInput = refl
unread left room tells _ _ (OneInput ls is l i one are) =
    ap (λ x. x ∷ lefts_of_inputs left is) (one.bytes tells) ∙ ap (λ xs. room.file l.file ∷ xs) (unread left room tells ls is are)

-- counts that rose between other calls rose in all of them
pub rises_around : {S : Type 0} (faults : S → ℕ) (libraries : List Library) (inputs : List (InputFile S)) (old now new last : RoomView)
    → ((n : List ℕ) → old.in_faults n ≤ now.in_faults n) → RisesFrom faults 0 libraries inputs now new → ((n : List ℕ) → new.in_faults n ≤ last.in_faults n)
    → RisesFrom faults 0 libraries inputs old last
rises_around faults libraries inputs old now new last before rises behind index library input from named is had =
    let rose = rises index library input from named is had in
    let first = before library.file in
    let later = behind library.file in
    omega (arith, rose, first, later)

-- none is closed at first
pub lefts_none : {S : Type 0} (left : S → Option (List ℕ)) (all : List (InputFile S)) (old : List (Option (List ℕ)))
    → old ≡ lefts_of_inputs left (drop (length all) all) ++ old
lefts_none left [] old = refl
lefts_none left (i ∷ all) old = lefts_none left all old

none_behind : {A : Type 0} (xs : List A) (n : ℕ) (x : A) → length xs ≤ n → slice_get xs n ≡ Some x → ⊥
none_behind [] n x behind is = cc
none_behind (y ∷ xs) zero x behind is = absurd (omega (arith, behind))
none_behind (y ∷ xs) (suc n) x behind is = none_behind xs n x (omega (arith, behind)) is

-- before the first is closed no count has to have risen
pub rises_none : {S : Type 0} (faults : S → ℕ) (libraries : List Library) (all : List (InputFile S)) (old new : RoomView) → RisesFrom faults (length all) libraries all old new
rises_none faults libraries all old new index library input from named is had = absurd (none_behind all index input from is)
