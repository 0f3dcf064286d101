-- Lists that are read value by value.
use Rattle.std.proofs.Common.{◌≡◌, ◌∙◌, ℕ, Bool, true, false, eqb-true, zero, suc, ◌≤◌, List, [], ◌∷◌, ◌++◌, refl, sym, ap, arith, append_assoc}
use Rattle.std.proofs.lemmas.Grind.{flat_map-append}
use Rattle.std.proofs.lemmas.Bool.{true≢false}
use Rattle.std.proofs.lemmas.List.{append-nil}
use Rattle.std.proofs.lemmas.List.Elements.{All-push}
use Rattle.std.specs.Prelude.{◌==◌}
use Rattle.std.specs.List.{All, flat_map}
use Rattle.checkpoint.specs.Fronts.{BeginWith, BeginWithNone}
use Rattle.checkpoint.proofs.Once.{IsSpelledOnce}

-- whether anything is left
pub none_left : (n : ℕ) (b : Bool) → b ≡ (n == 0) → b ≡ true → n ≡ 0
none_left n b is holds = eqb-true n 0 (sym is ∙ holds)

pub some_left : (n : ℕ) (b : Bool) → b ≡ (n == 0) → b ≡ false → 1 ≤ n
some_left zero b is fails = absurd (true≢false (sym is ∙ fails))
some_left (suc n) b is fails = omega arith

-- a list goes on with others behind those that are read, and they are what is left
pub record GoesOn {X : Type 0} (written : X → List ℕ) (Can : X → Type 0) (all : List X) (behind : List ℕ) (xs : List X) (rest : List ℕ) : Type 0 where
  pub more : List X
  pub is : all ≡ xs ++ more
  pub can : All Can more
  pub split : flat_map written more ++ behind ≡ rest

-- what is read so far, and what is left: each list that is sought goes on so
pub record AreRead {X : Type 0} (written : X → List ℕ) (Can : X → Type 0) (Sought : List X → List ℕ → Type 0) (bytes : List ℕ) (xs : List X) (rest : List ℕ) : Type 0 where
  pub split : flat_map written xs ++ rest ≡ bytes
  pub can : All Can xs
  pub left : (all : List X) (behind : List ℕ) → Sought all behind → GoesOn written Can all behind xs rest

-- none that is sought ends here
abbrev pub NoneEnds : {X : Type 0} → (List X → List ℕ → Type 0) → List X → List ℕ → Type 0
NoneEnds {X} Sought xs rest = (all : List X) (behind : List ℕ) → Sought all behind → all ≡ xs → behind ≡ rest → ⊥

pub none_read : {X : Type 0} (written : X → List ℕ) (Can : X → Type 0) (Sought : List X → List ℕ → Type 0) (bytes : List ℕ)
    → ((all : List X) (behind : List ℕ) → Sought all behind → All Can all × (flat_map written all ++ behind ≡ bytes))
    → AreRead written Can Sought bytes [] bytes
none_read written Can Sought bytes says = record {
  split = refl;
  can = λ k d within. absurd (omega (arith, within));
  left = λ all behind h. let s = says all behind h in record { more = all; is = refl; can = s.0; split = s.1 };
}

one_on : {X : Type 0} (written : X → List ℕ) (Can : X → Type 0) (all : List X) (behind : List ℕ) (xs : List X) (x : X) (rest next : List ℕ) (more : List X)
    → IsSpelledOnce written Can → BeginWith written Can rest x next → (all ≡ xs → behind ≡ rest → ⊥) → all ≡ xs ++ more → All Can more
    → flat_map written more ++ behind ≡ rest → GoesOn written Can all behind (xs ++ x ∷ []) next
one_on written Can all behind xs x rest next [] spelled begin ends is can split = absurd (ends (is ∙ append-nil xs) split)
one_on written Can all behind xs x rest next (y ∷ ys) spelled begin ends is can split =
    let once = spelled.once y x (flat_map written ys ++ behind) next (can 0 y (omega arith)) begin.can
    (sym (append_assoc (written y) (flat_map written ys) behind) ∙ split ∙ sym begin.split) in
    record {
      more = ys;
      is = is ∙ ap (λ z. xs ++ z ∷ ys) once.0 ∙ sym (append_assoc xs (x ∷ []) ys);
      can = λ k d within. can (suc k) d (omega (arith, within));
      split = once.1;
    }

pub one_more : {X : Type 0} (written : X → List ℕ) (Can : X → Type 0) (Sought : List X → List ℕ → Type 0) (bytes : List ℕ) (xs : List X) (x : X) (rest next : List ℕ)
    → IsSpelledOnce written Can → AreRead written Can Sought bytes xs rest → BeginWith written Can rest x next → NoneEnds Sought xs rest
    → AreRead written Can Sought bytes (xs ++ x ∷ []) next
one_more written Can Sought bytes xs x rest next spelled read begin ends = record {
  split =
      ap (λ ys. ys ++ next) (flat_map-append written xs (x ∷ []) ∙ ap (λ ys. flat_map written xs ++ ys) (append-nil (written x)))
      ∙ append_assoc (flat_map written xs) (written x) next
      ∙ ap (λ ys. flat_map written xs ++ ys) begin.split
      ∙ read.split;
  can = All-push Can xs x read.can begin.can;
  left = λ all behind h.
      let on = read.left all behind h in
      one_on written Can all behind xs x rest next on.more spelled begin (ends all behind h) on.is on.can on.split;
}

stuck : {X : Type 0} (written : X → List ℕ) (Can : X → Type 0) (all : List X) (behind : List ℕ) (xs : List X) (rest : List ℕ) (more : List X)
    → BeginWithNone written Can rest → (all ≡ xs → behind ≡ rest → ⊥) → all ≡ xs ++ more → All Can more → flat_map written more ++ behind ≡ rest → ⊥
stuck written Can all behind xs rest [] none ends is can split = ends (is ∙ append-nil xs) split
stuck written Can all behind xs rest (y ∷ ys) none ends is can split =
    none y (flat_map written ys ++ behind) (record {
      split = sym (append_assoc (written y) (flat_map written ys) behind) ∙ split;
      can = can 0 y (omega arith);
    })

-- where what is left begins with none, none is there that is sought
pub none_more : {X : Type 0} (written : X → List ℕ) (Can : X → Type 0) (Sought : List X → List ℕ → Type 0) (bytes : List ℕ) (xs : List X) (rest : List ℕ)
    → AreRead written Can Sought bytes xs rest → BeginWithNone written Can rest → NoneEnds Sought xs rest → (all : List X) (behind : List ℕ) → Sought all behind → ⊥
none_more written Can Sought bytes xs rest read none ends all behind h =
    let on = read.left all behind h in
    stuck written Can all behind xs rest on.more none (ends all behind h) on.is on.can on.split
