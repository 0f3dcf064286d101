-- What is dealt to the outputs of some shares, piece by piece.
use Rattle.std.proofs.Common.{◌-◌, get_or, ◌≡◌, ◌≢◌, ◌∙◌, ℕ, zero, suc, ◌+◌, ◌≤◌, ◌<◌, ◌==◌, Bool, true, false, cond, List, [], ◌∷◌, ◌++◌, length, Option, Some, refl, sym, ap, subst, arith, append-nil, eq-eqb, ne_eqb}
use Rattle.std.specs.Prelude.{slice_get, slice_set, if◌then◌else◌}
use Rattle.std.specs.List.{flat_map}
use Rattle.std.specs.Io.KnownBytes.{Appends}
use Rattle.std.proofs.KnownBytes.{Appends-nil}
use Rattle.std.proofs.lemmas.List.Elements.{filter-append}
use Rattle.std.proofs.lemmas.Grind.{flat_map-append}
use Rattle.std.proofs.lemmas.Option.{slice_get_read}
use Rattle.marc_types.specs.declared.key.Key.{Key}
use Rattle.outside.specs.Fault.{Rose}
use Rattle.outside.proofs.Counts.{rose_since}
use Rattle.outside.proofs.Fronts.{appends_then}
use Rattle.split_command.specs.Shares.{Piece, share_of, own, dealt}
use Rattle.split_command.specs.Outputs.{AreDealt, HasSinkFault, due_to}

-- one piece more of a file
pub dealt_more : (bounds : List Key) (share : ℕ) (pieces : List Piece) (p : Piece)
    → dealt bounds share (pieces ++ p ∷ []) ≡ dealt bounds share pieces ++ due_to (share_of bounds p.entry) p.bytes share
dealt_more bounds share pieces p =
    ap (flat_map (λ (q : Piece). q.bytes)) (filter-append (λ (q : Piece). share_of bounds q.entry == share) pieces (p ∷ []))
    ∙ flat_map-append (λ (q : Piece). q.bytes) (own bounds share pieces) (own bounds share (p ∷ []))
    ∙ ap (λ l. dealt bounds share pieces ++ l) (at (share_of bounds p.entry == share))
  where
    at : (test : Bool) → flat_map (λ (q : Piece). q.bytes) (cond test (p ∷ []) []) ≡ (if test then p.bytes else [])
    at true = append-nil p.bytes
    at false = refl

module _ {K : Type 0} (written : K → Option (List ℕ)) (faults : K → ℕ) where
  -- before the first piece
  pub dealt_none : (first : ℕ) (outs : List K) → AreDealt written faults (λ share. []) first outs outs
  dealt_none first [] = tt
  dealt_none first (out ∷ outs) = (Appends-nil (written out), omega arith, dealt_none (first + 1) outs)

  -- the same bytes
  pub dealt_same : (due other : ℕ → List ℕ) (first : ℕ) (old new : List K) → ((share : ℕ) → due share ≡ other share)
      → AreDealt written faults due first old new → AreDealt written faults other first old new
  dealt_same due other first [] [] same are = tt
  dealt_same due other first [] (now ∷ new) same are = absurd are
  dealt_same due other first (was ∷ old) [] same are = absurd are
  dealt_same due other first (was ∷ old) (now ∷ new) same are =
      (subst (Appends (written was) (written now)) (same first) are.0, are.1, dealt_same due other (first + 1) old new same are.2)

  -- one piece after the other
  pub dealt_then : (due more : ℕ → List ℕ) (first : ℕ) (old now new : List K) → AreDealt written faults due first old now
      → AreDealt written faults more first now new → AreDealt written faults (λ share. due share ++ more share) first old new
  dealt_then due more first [] [] [] one two = tt
  dealt_then due more first [] [] (c ∷ new) one two = absurd two
  dealt_then due more first [] (b ∷ now) new one two = absurd one
  dealt_then due more first (a ∷ old) [] new one two = absurd one
  dealt_then due more first (a ∷ old) (b ∷ now) [] one two = absurd two
  dealt_then due more first (a ∷ old) (b ∷ now) (c ∷ new) one two = (
    appends_then (written a) (written b) (written c) (due first) (more first) one.0 two.0,
    omega (arith, one.1, two.1),
    dealt_then due more (first + 1) old now new one.2 two.2,
  )

  -- there are as many outputs as before
  pub dealt_many : (due : ℕ → List ℕ) (first : ℕ) (old new : List K) → AreDealt written faults due first old new → length new ≡ length old
  dealt_many due first [] [] are = refl
  dealt_many due first [] (now ∷ new) are = absurd are
  dealt_many due first (was ∷ old) [] are = absurd are
  dealt_many due first (was ∷ old) (now ∷ new) are = ap suc (dealt_many due (first + 1) old new are.2)

  -- a piece of a share that is none of these
  pub dealt_elsewhere : (own : ℕ) (piece : List ℕ) (first : ℕ) (outs : List K) → ((share : ℕ) → first ≤ share → share < first + length outs → own ≢ share)
      → AreDealt written faults (due_to own piece) first outs outs
  dealt_elsewhere own piece first [] other = tt
  dealt_elsewhere own piece first (out ∷ outs) other =
      let none : due_to own piece first ≡ [] =
      ap (λ (test : Bool). if test then piece else []) (ne_eqb own first (other first (omega arith) (omega arith))) in (
        subst (Appends (written out) (written out)) (sym none) (Appends-nil (written out)),
        omega arith,
        dealt_elsewhere own piece (first + 1) outs (λ share low high. other share (omega (arith, low)) (omega (arith, high))),
      )

  pub dealt_before : (own : ℕ) (piece : List ℕ) (first : ℕ) (outs : List K) → own < first → AreDealt written faults (due_to own piece) first outs outs
  dealt_before own piece first outs less = dealt_elsewhere own piece first outs (λ share low high same. omega (arith, less, low, same))

  pub dealt_past : (own : ℕ) (piece : List ℕ) (first : ℕ) (outs : List K) → first + length outs ≤ own → AreDealt written faults (due_to own piece) first outs outs
  dealt_past own piece first outs more = dealt_elsewhere own piece first outs (λ share low high same. omega (arith, more, high, same))

  -- a piece of the share of one of these, which got it
  pub dealt_here : (piece : List ℕ) (first at : ℕ) (outs : List K) (was now : K) → slice_get outs at ≡ Some was
      → Appends (written was) (written now) piece → faults was ≤ faults now
      → AreDealt written faults (due_to (first + at) piece) first outs (slice_set outs at now)
  dealt_here piece first at [] was now got wrote later = cc
  dealt_here piece first zero (out ∷ outs) was now got wrote later =
      let is : out ≡ was = cc in
      let here : first + 0 ≡ first = omega arith in
      let due : due_to (first + 0) piece first ≡ piece = ap (λ (test : Bool). if test then piece else []) (eq-eqb (first + 0) first here) in (
        subst (Appends (written out) (written now)) (sym due) (subst (λ k. Appends (written k) (written now) piece) (sym is) wrote),
        subst (λ k. faults k ≤ faults now) (sym is) later,
        dealt_elsewhere (first + 0) piece (first + 1) outs (λ share low high same. omega (arith, low, same)),
      )
  dealt_here piece first (suc at) (out ∷ outs) was now got wrote later =
      let other : first + suc at ≢ first = λ same. omega (arith, same) in
      let none : due_to (first + suc at) piece first ≡ [] = ap (λ (test : Bool). if test then piece else []) (ne_eqb (first + suc at) first other) in
      let there : first + 1 + at ≡ first + suc at = omega arith in (
        subst (Appends (written out) (written out)) (sym none) (Appends-nil (written out)),
        omega arith,
        subst (λ own. AreDealt written faults (due_to own piece) (first + 1) outs (slice_set outs at now)) there
            (dealt_here piece (first + 1) at outs was now got wrote later),
      )

  -- the same by the number of the share
  pub dealt_place : (share : ℕ) (piece : List ℕ) (first : ℕ) (outs : List K) (was now : K) → first ≤ share → share - first < length outs
      → was ≡ get_or outs (share - first) was → Appends (written was) (written now) piece → faults was ≤ faults now
      → AreDealt written faults (due_to share piece) first outs (slice_set outs (share - first) now)
  dealt_place share piece first outs was now low within is wrote later =
      let whole : first + (share - first) ≡ share = omega (arith, low) in
      subst (λ own. AreDealt written faults (due_to own piece) first outs (slice_set outs (share - first) now)) whole
      (dealt_here piece first (share - first) outs was now (slice_get_read outs (length outs) (share - first) was refl within is) wrote later)

  set_here : (outs : List K) (at : ℕ) (was now : K) → slice_get outs at ≡ Some was → slice_get (slice_set outs at now) at ≡ Some now
  set_here [] at was now got = cc
  set_here (out ∷ outs) zero was now got = refl
  set_here (out ∷ outs) (suc at) was now got = set_here outs at was now got

  -- it had a fault
  pub fault_place : (outs : List K) (at : ℕ) (was now : K) → at < length outs → was ≡ get_or outs at was → Rose (faults was) (faults now)
      → HasSinkFault faults outs (slice_set outs at now)
  fault_place outs at was now within is rose =
      let got = slice_get_read outs (length outs) at was refl within is in
      record { index = at; was = was; now = now; before = got; behind = set_here outs at was now got; rose = rose }

  was_before : (due : ℕ → List ℕ) (first : ℕ) (old now : List K) → AreDealt written faults due first old now → (index : ℕ) (k : K) → slice_get now index ≡ Some k
      → (was : K) × (slice_get old index ≡ Some was) × (faults was ≤ faults k)
  was_before due first [] [] are index k got = cc
  was_before due first [] (now ∷ new) are index k got = absurd are
  was_before due first (was ∷ old) [] are index k got = absurd are
  was_before due first (was ∷ old) (now ∷ new) are zero k got = let is : now ≡ k = cc in (was, refl, subst (λ j. faults was ≤ faults j) is are.1)
  was_before due first (was ∷ old) (now ∷ new) are (suc index) k got = was_before due (first + 1) old new are.2 index k got

  -- a fault that was counted behind what was dealt was counted since the beginning
  pub fault_behind : (due : ℕ → List ℕ) (first : ℕ) (old now new : List K) → AreDealt written faults due first old now → HasSinkFault faults now new
      → HasSinkFault faults old new
  fault_behind due first old now new are fault =
      let start = was_before due first old now are fault.index fault.was fault.before in record {
        index = fault.index;
        was = start.0;
        now = fault.now;
        before = start.1;
        behind = fault.behind;
        rose = rose_since (faults start.0) (faults fault.was) (faults fault.now) start.2 fault.rose;
      }
