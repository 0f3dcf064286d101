-- One thing's row comes or goes: what is left of a count of rows beside what stands.
use Rattle.std.proofs.Common.{◌≡◌, ◌∙◌, sym, ap, refl, subst, ℕ, ◌+◌, ◌-◌, ◌≤◌, arith, List, Option, Some, None, Bool, true, false}
use Rattle.std.specs.Prelude.{if◌then◌else◌}
use Rattle.std.specs.Bool.{Decides}
use Rattle.std.specs.List.{count_by}
use Rattle.postings.specs.Slots.{put, standing}
use Rattle.postings.specs.Counts.{brought}
use Rattle.postings.proofs.Lefts.{take_left, put_left, put_sound, gone_left, gone_sound}

stand_by : {R : Type 0} (stand : Option R → ℕ) (here : Bool) (now row : Option R) → stand (if here then now else row) ≡ (if here then stand now else stand row)
stand_by stand true now row = refl
stand_by stand false now row = refl

same_by : {X : Type 0} (here : Bool) (now was : X) → (here ≡ true → was ≡ now) → (if here then now else was) ≡ was
same_by true now was e = sym (e refl)
same_by false now was e = refl

again_by : {X : Type 0} (here : Bool) (now between was : X) → (here ≡ true → was ≡ now) → (if here then now else (if here then between else was)) ≡ was
again_by true now between was e = sym (e refl)
again_by false now between was e = refl

-- the sums of what is added and taken again
pub there_and_back : (n k : ℕ) → n + k - k ≡ n
there_and_back n k = omega arith

pub more_than : (n k m : ℕ) → k ≡ m → m ≤ n + k
more_than n k m e = omega arith

module _ {P : Type 0} {same : P → P → Bool} (decides : (x y : P) → Decides (same x y) (x ≡ y)) where
  pub itself : (p : P) → same p p ≡ true
  itself p = (decides p p).1 refl

  pub itself_one : (p : P) → ◌≡◌ {A = ℕ} (if same p p then 1 else 0) 1
  itself_one p = ap (λ b. if b then 1 else 0) (itself p)

  pub brought_itself : {N : Type 0} (same_name : N → N → Bool) (names : List N) (p : P) (name : N) → brought same_name same names p name p ≡ count_by (λ n. same_name n name) names
  brought_itself same_name names p name = ap (λ b. if b then count_by (λ n. same_name n name) names else 0) (itself p)

  pub at_thing : {X : Type 0} (f : P → X) (one p : P) → same one p ≡ true → f p ≡ f one
  at_thing f one p e = ap f (sym ((decides one p).0 e))

  left_at : (one : P) (left : P → ℕ) (n : ℕ) → n ≤ left one → (p : P) → same one p ≡ true → n ≤ left p
  left_at one left n low p e = subst (λ q. n ≤ left q) ((decides one p).0 e) low

  stands_at : {R : Type 0} (stand : Option R → ℕ) (row : P → Option R) (one : P) (r : Option R) → row one ≡ r → (p : P) → same one p ≡ true → stand (row p) ≡ stand r
  stands_at stand row one r was p e = ap stand (at_thing row one p e ∙ was)

  -- what is put there is there
  pub put_here : {R : Type 0} (one : P) (now : Option R) (row : P → Option R) → put same one now row one ≡ now
  put_here one now row = ap (λ b. if b then now else row one) (itself one)

  -- what was there and is put there changes nothing
  pub put_same : {R : Type 0} (one : P) (now : Option R) (row : P → Option R) → row one ≡ now → (p : P) → put same one now row p ≡ row p
  put_same one now row was p = same_by (same one p) now (row p) (λ e. at_thing row one p e ∙ was)

  -- nor does it where something else was put there meanwhile
  pub put_again : {R : Type 0} (one : P) (now between : Option R) (row : P → Option R) → row one ≡ now → (p : P) → put same one now (put same one between row) p ≡ row p
  put_again one now between row was p = again_by (same one p) now between (row p) (λ e. at_thing row one p e ∙ was)

  -- a slot with one more room has a room without a row
  pub room_more : {R : Type 0} (row' row : Option R) (rooms' rooms : ℕ) (one : P) → standing row ≤ rooms → row' ≡ row → rooms' ≡ rooms + (if same one one then 1 else 0) → standing row' + 1 ≤ rooms'
  room_more row' row rooms' rooms one low e f = let more = itself_one one in let g = ap standing e in omega arith

-- a row counts `stand`, and no row counts nothing
module _ {P R : Type 0} {same : P → P → Bool} (decides : (x y : P) → Decides (same x y) (x ≡ y)) (stand : Option R → ℕ) (none : stand None ≡ 0) (one : P) (it : R)
    (row : P → Option R) (count : P → ℕ) where
  -- the row is taken out of its slot
  pub took_left : {row' : P → Option R} {count' : P → ℕ} → ((p : P) → stand (row p) ≤ count p) → row one ≡ Some it → ((p : P) → row' p ≡ put same one None row p) → ((p : P) → count' p ≡ count p)
      → (p : P) → count' p - stand (row' p) ≡ count p - stand (row p) + (if same one p then stand (Some it) else 0)
  took_left {row'} {count'} sound was rows counts p =
      let after : stand (row' p) ≡ (if same one p then 0 else stand (row p)) = ap stand (rows p) ∙ stand_by stand (same one p) None (row p) ∙ ap (λ n. if same one p then n else stand (row p)) none in
      ap (λ n. n - stand (row' p)) (counts p) ∙ ap (λ n. count p - n) after
      ∙ take_left (same one p) (count p) (stand (row p)) (stand (Some it)) (sound p) (stands_at decides stand row one (Some it) was p)

  -- the row is put into its empty slot
  pub came_left : {row' : P → Option R} {count' : P → ℕ} → row one ≡ None → ((p : P) → row' p ≡ put same one (Some it) row p) → ((p : P) → count' p ≡ count p)
      → (p : P) → count' p - stand (row' p) ≡ count p - stand (row p) - (if same one p then stand (Some it) else 0)
  came_left {row'} {count'} free rows counts p =
      let after : stand (row' p) ≡ (if same one p then stand (Some it) else stand (row p)) = ap stand (rows p) ∙ stand_by stand (same one p) (Some it) (row p) in
      ap (λ n. n - stand (row' p)) (counts p) ∙ ap (λ n. count p - n) after
      ∙ put_left (same one p) (count p) (stand (row p)) (stand (Some it)) (λ e. stands_at decides stand row one None free p e ∙ none)

  pub came_sound : {row' : P → Option R} {count' : P → ℕ} → ((p : P) → stand (row p) ≤ count p) → stand (Some it) ≤ count one - stand (row one) → row one ≡ None → ((p : P) → row' p ≡ put same one (Some it) row p)
      → ((p : P) → count' p ≡ count p) → (p : P) → stand (row' p) ≤ count' p
  came_sound {row'} {count'} sound taken free rows counts p =
      let after : stand (row' p) ≡ (if same one p then stand (Some it) else stand (row p)) = ap stand (rows p) ∙ stand_by stand (same one p) (Some it) (row p) in
      subst (λ n. stand (row' p) ≤ n) (sym (counts p)) (subst (λ n. n ≤ count p) (sym after)
      (put_sound (same one p) (count p) (stand (row p)) (stand (Some it)) (sound p) (λ e. stands_at decides stand row one None free p e ∙ none) (left_at decides one (λ q. count q - stand (row q)) (stand (Some it)) taken p)))

  -- a row that is taken is let go
  pub went_left : {row' : P → Option R} {count' : P → ℕ} → ((p : P) → row' p ≡ row p) → ((p : P) → count' p ≡ count p - (if same one p then stand (Some it) else 0))
      → (p : P) → count' p - stand (row' p) ≡ count p - stand (row p) - (if same one p then stand (Some it) else 0)
  went_left {row'} {count'} rows counts p =
      ap (λ r. count' p - stand r) (rows p) ∙ ap (λ n. n - stand (row p)) (counts p) ∙ gone_left (same one p) (count p) (stand (row p)) (stand (Some it))

  pub went_sound : {row' : P → Option R} {count' : P → ℕ} → ((p : P) → stand (row p) ≤ count p) → stand (Some it) ≤ count one - stand (row one) → ((p : P) → row' p ≡ row p)
      → ((p : P) → count' p ≡ count p - (if same one p then stand (Some it) else 0)) → (p : P) → stand (row' p) ≤ count' p
  went_sound {row'} {count'} sound taken rows counts p =
      subst (λ n. stand (row' p) ≤ n) (sym (counts p)) (subst (λ r. stand r ≤ count p - (if same one p then stand (Some it) else 0)) (sym (rows p))
      (gone_sound (same one p) (count p) (stand (row p)) (stand (Some it)) (sound p) (left_at decides one (λ q. count q - stand (row q)) (stand (Some it)) taken p)))
