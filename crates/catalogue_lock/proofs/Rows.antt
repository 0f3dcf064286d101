-- Two passes of a lock that meet after each turn: nothing stands between their turns.
use Rattle.std.proofs.Common.{◌≡◌, ◌≢◌, ℕ, zero, suc, ◌≤◌, ◌⊎◌, List, [], ◌∷◌, ◌++◌, length, Option, Some, None, refl, ap, sym, subst, ◌∙◌, arith, ne_eqb, ⊎_elim, inl, inr}
use Rattle.std.proofs.lemmas.List.{append-nil, append_cancel_left, append_cancel_right}
use mathlib.Core.List.{IsPrefix}
use Rattle.catalogue_lock.specs.declared.view.Numbered.{Numbered}
use Rattle.catalogue_lock.specs.History.{items, items_by, numbered, longer}
use Rattle.atomic_table.specs.Seated.{TableId}
use Rattle.catalogue_lock.specs.Passes.{Pass, Turned, Closed, HasSeenItsOwn, having_seen, new_pass}
use Rattle.catalogue_lock.specs.Tally.{Tallies}
use Rattle.catalogue_lock.proofs.Prefixes.{prefix_trans, prefix_length, prefix_append}
use Rattle.catalogue_lock.proofs.Numbers.{items_by-append, items_by-own, items_by-other}
use Rattle.catalogue_lock.proofs.Splitting.{longer_again}
use Rattle.catalogue_lock.proofs.Meeting.{begins_from}

-- the numbers of two passes
abbrev pub AreTwo : ℕ → ℕ → Type 0
AreTwo k j = (n : ℕ) → (n ≡ k) ⊎ ((n ≡ j) ⊎ (2 ≤ n))

pub two_of : AreTwo 0 1
two_of zero = inl refl
two_of (suc zero) = inr (inl refl)
two_of (suc (suc n)) = inr (inr (omega arith))

pub two_back : AreTwo 1 0
two_back zero = inr (inl refl)
two_back (suc zero) = inl refl
two_back (suc (suc n)) = inr (inr (omega arith))

module _ {X : Type 0} where
  both_empty : (xs ys : List X) → xs ++ ys ≡ [] → (xs ≡ []) × (ys ≡ [])
  both_empty [] ys e = (refl, e)
  both_empty (x ∷ xs) ys e = absurd cc

  none_more : (xs ys : List X) → xs ++ ys ≡ xs → ys ≡ []
  none_more xs ys e = append_cancel_left xs ys [] (e ∙ sym (append-nil xs))

module _ {I : Type 0} where
  filed : (by : Option ℕ) (i : I) (xs : List (Numbered I)) → items_by by (record { by = by; item = i } ∷ xs) ≡ [] → ⊥
  filed by i xs e =
      let f : (i ∷ []) ++ items_by by xs ≡ [] = sym (items_by-append by (numbered by (i ∷ [])) xs ∙ ap (λ z. z ++ items_by by xs) (items_by-own by (i ∷ []))) ∙ e in
      cc

  -- a list with no item under any number, nor with none, is empty
  empty_of : (xs : List (Numbered I)) → ((by : Option ℕ) → items_by by xs ≡ []) → xs ≡ []
  empty_of [] none = refl
  empty_of (x ∷ xs) none = absurd (filed x.by x.item xs (none x.by))

  -- what a beginning has under a number, where the whole has nothing
  none_before : (by : Option ℕ) (xs h : List (Numbered I)) → IsPrefix xs h → items_by by h ≡ [] → items_by by xs ≡ []
  none_before by xs h p e = (both_empty (items_by by xs) (items_by by p.0) (sym (items_by-append by xs p.0) ∙ (ap (items_by by) p.1 ∙ e))).0

  -- nobody but the two has added to the history
  pub record OfTwo (h : List (Numbered I)) : Type 0 where
    pub unnumbered : items_by None h ≡ []
    pub nobody : (n : ℕ) → 2 ≤ n → items_by (Some n) h ≡ []

  pub nothing_between : (k j : ℕ) (s before h : List (Numbered I)) → AreTwo k j → OfTwo h → IsPrefix s before → IsPrefix before h
      → items_by (Some k) before ≡ items_by (Some k) s → items_by (Some j) before ≡ items_by (Some j) s → before ≡ s
  nothing_between k j s before h two all p q mine other =
      let rest = p.0 in
      let same : (by : Option ℕ) → items_by by before ≡ items_by by s → items_by by rest ≡ [] =
      λ by e. none_more (items_by by s) (items_by by rest) (sym (items_by-append by s rest) ∙ (ap (items_by by) p.1 ∙ e)) in
      let none : (by : Option ℕ) → items_by by h ≡ [] → items_by by rest ≡ [] =
      λ by e. (both_empty (items_by by s) (items_by by rest) (sym (items_by-append by s rest) ∙ (ap (items_by by) p.1 ∙ none_before by before h q e))).1 in
      let each : (by : Option ℕ) → items_by by rest ≡ [] = elim [
        | None ↦ none None all.unnumbered
        | Some n ↦ ⊎_elim (λ (e : n ≡ k). ap (λ (m : ℕ). items_by (Some m) rest) e ∙ same (Some k) mine)
            (⊎_elim (λ (e : n ≡ j). ap (λ (m : ℕ). items_by (Some m) rest) e ∙ same (Some j) other) (λ (e : 2 ≤ n). none (Some n) (all.nobody n e))) (two n)
      ] in
      sym p.1 ∙ (ap (λ z. s ++ z) (empty_of rest each) ∙ append-nil s)

module _ {O I : Type 0} where
  -- two passes that have both seen this history, with their own items in it
  pub record Both (k j : ℕ) (a b : Pass O I) (s : List (Numbered I)) : Type 0 where
    pub first : a.number ≡ k
    pub second : b.number ≡ j
    pub first_seen : a.seen ≡ s
    pub second_seen : b.seen ≡ s
    pub first_own : items_by (Some k) s ≡ a.added
    pub second_own : items_by (Some j) s ≡ b.added

  pub swapped : (k j : ℕ) (a b : Pass O I) (s : List (Numbered I)) → Both k j a b s → Both j k b a s
  swapped k j a b s t = record { first = t.second; second = t.first; first_seen = t.second_seen; second_seen = t.first_seen; first_own = t.second_own; second_own = t.first_own }

  -- what a turn between them did
  pub record Next {C R : Type 0} (replies : List I → C → R → List I → Type 0) (call : C) (reply : R) (k j : ℕ) (a b : Pass O I) (s : List (Numbered I)) : Type 0 where
    pub added : List I
    pub replied : replies (items s) call reply added
    pub both : Both k j a b (s ++ numbered (Some k) added)

  -- the first makes a turn, and meets the second
  pub next : {C R : Type 0} (replies : List I → C → R → List I → Type 0) (call : C) (reply : R) (k j : ℕ) (a a1 a2 b b2 : Pass O I) (s h : List (Numbered I)) → AreTwo k j → j ≢ k → OfTwo h → Both k j a b s
      → Turned replies call reply a a1 → a2 ≡ having_seen a1 (longer b.seen a1.seen) → b2 ≡ having_seen b (longer b.seen a1.seen) → HasSeenItsOwn b2 → IsPrefix a2.seen h → Next replies call reply k j a2 b2 s
  next replies call reply k j a a1 a2 b b2 s h two apart all both turn first second own begins =
      let before = turn.before in
      let more = numbered (Some a.number) turn.added in
      let seen : a1.seen ≡ before ++ more = ap (λ (p : Pass O I). p.seen) turn.pass in
      let from : IsPrefix s before = subst (λ z. IsPrefix z before) both.first_seen turn.begins in
      let grows : IsPrefix s a1.seen = subst (IsPrefix s) (sym seen) (prefix_append s before more from) in
      let whole : longer b.seen a1.seen ≡ a1.seen = ap (λ z. longer z a1.seen) both.second_seen ∙ longer_again s a1.seen (prefix_length s a1.seen grows) in
      let a_is : a2 ≡ having_seen a1 (before ++ more) = first ∙ ap (having_seen a1) (whole ∙ seen) in
      let b_is : b2 ≡ having_seen b (before ++ more) = second ∙ ap (having_seen b) (whole ∙ seen) in
      let mine : items_by (Some k) (before ++ numbered (Some k) turn.added) ≡ a.added ++ turn.added =
      subst (λ (n : ℕ). items_by (Some n) (before ++ numbered (Some n) turn.added) ≡ a.added ++ turn.added) both.first (subst HasSeenItsOwn turn.pass turn.own) in
      let theirs : items_by (Some j) (before ++ numbered (Some k) turn.added) ≡ b.added =
      subst (λ (n : ℕ). items_by (Some j) (before ++ numbered (Some n) turn.added) ≡ b.added) both.first
      (subst (λ (n : ℕ). items_by (Some n) (before ++ more) ≡ b.added) both.second (subst HasSeenItsOwn b_is own)) in
      let mine_before : items_by (Some k) before ≡ a.added = append_cancel_right (items_by (Some k) before) a.added turn.added
      (ap (λ z. items_by (Some k) before ++ z) (sym (items_by-own (Some k) turn.added)) ∙ (sym (items_by-append (Some k) before (numbered (Some k) turn.added)) ∙ mine)) in
      let theirs_before : items_by (Some j) before ≡ b.added = sym (append-nil (items_by (Some j) before))
      ∙ (ap (λ z. items_by (Some j) before ++ z) (sym (items_by-other (Some j) (Some k) turn.added (ne_eqb j k apart))) ∙ (sym (items_by-append (Some j) before (numbered (Some k) turn.added)) ∙ theirs)) in
      let inside : IsPrefix before h = prefix_trans before (before ++ more) h (more, refl) (subst (λ z. IsPrefix z h) (ap (λ (p : Pass O I). p.seen) a_is) begins) in
      let same : before ≡ s = nothing_between k j s before h two all from inside (mine_before ∙ sym both.first_own) (theirs_before ∙ sym both.second_own) in
      let now : before ++ more ≡ s ++ numbered (Some k) turn.added = λ i. same i ++ numbered (Some (both.first i)) turn.added in record {
        added = turn.added;
        replied = subst (λ z. replies (items z) call reply turn.added) same turn.replied;
        both = record {
          first = ap (λ (p : Pass O I). p.number) a_is ∙ (ap (λ (p : Pass O I). p.number) turn.pass ∙ both.first);
          second = ap (λ (p : Pass O I). p.number) b_is ∙ both.second;
          first_seen = ap (λ (p : Pass O I). p.seen) a_is ∙ now;
          second_seen = ap (λ (p : Pass O I). p.seen) b_is ∙ now;
          first_own = subst (λ z. items_by (Some k) (z ++ numbered (Some k) turn.added) ≡ a.added ++ turn.added) same mine
              ∙ sym (ap (λ (p : Pass O I). p.added) a_is ∙ ap (λ (p : Pass O I). p.added) turn.pass);
          second_own = subst (λ z. items_by (Some j) (z ++ numbered (Some k) turn.added) ≡ b.added) same theirs ∙ sym (ap (λ (p : Pass O I). p.added) b_is);
        };
      }

  -- a history in which both have seen all of their own is what they have seen
  pub whole_history : (a b : Pass O I) (s h : List (Numbered I)) → OfTwo h → Both 0 1 a b s → IsPrefix s h → items_by (Some 0) h ≡ a.added → items_by (Some 1) h ≡ b.added → h ≡ s
  whole_history a b s h all both begins mine theirs = nothing_between 0 1 s h h two_of all begins ([], append-nil h) (mine ∙ sym both.first_own) (theirs ∙ sym both.second_own)

module _ {O I C R : Type 0} {replies : List I → C → R → List I → Type 0} {call : C} {reply : R} where
  -- a turn goes on from what the pass had seen
  pub goes_on : (a a1 : Pass O I) → Turned replies call reply a a1 → IsPrefix a.seen a1.seen
  goes_on a a1 turn = subst (IsPrefix a.seen) (sym (ap (λ (p : Pass O I). p.seen) turn.pass)) (prefix_append a.seen turn.before (numbered (Some a.number) turn.added) turn.begins)

module _ {O : Type 0} (lock : TableId) (opened : Option O) where
  -- the row: 5 by the first, 7 by the second, 9 by the first, and a meeting after each
  pub worked : (a b a1 a2 b2 b3 b4 a4 a5 a6 b6 : Pass O ℕ) (r1 r2 r3 : Option ℕ) (left : List ℕ) (room callers : ℕ) (brought : List ℕ) (passes : List (Pass O ℕ)) → room ≡ 2 → callers ≡ 2 → brought ≡ [] → passes ≡ a6 ∷ b6 ∷ [] → a ≡ new_pass lock opened [] 0 → b ≡ new_pass lock opened [] 1
      → Turned (Tallies room) 5 r1 a a1 → a2 ≡ having_seen a1 (longer b.seen a1.seen) → b2 ≡ having_seen b (longer b.seen a1.seen) → HasSeenItsOwn b2
      → Turned (Tallies room) 7 r2 b2 b3 → b4 ≡ having_seen b3 (longer a2.seen b3.seen) → a4 ≡ having_seen a2 (longer a2.seen b3.seen) → HasSeenItsOwn a4 → IsPrefix a2.seen a4.seen
      → Turned (Tallies room) 9 r3 a4 a5 → a6 ≡ having_seen a5 (longer b4.seen a5.seen) → b6 ≡ having_seen b4 (longer b4.seen a5.seen) → HasSeenItsOwn b6 → IsPrefix a5.seen a6.seen
      → Closed callers passes brought left → (r1 ≡ Some 0) × (r2 ≡ Some 1) × (r3 ≡ None) × (left ≡ 5 ∷ 7 ∷ [])
  worked a b a1 a2 b2 b3 b4 a4 a5 a6 b6 r1 r2 r3 left room callers brought passes for_two of_two from_none both_passes a_new b_new one a2_is b2_is b2_own two b4_is a4_is a4_own later three a6_is b6_is b6_own last ended =
      let closed : Closed 2 (a6 ∷ b6 ∷ []) [] left = subst (λ z. Closed 2 (a6 ∷ b6 ∷ []) z left) from_none (subst (λ z. Closed 2 z brought left) both_passes (subst (λ z. Closed z passes brought left) of_two ended)) in
      let h = closed.history in
      let all : OfTwo h = record { unnumbered = closed.unnumbered; nobody = closed.nobody } in
      let end : IsPrefix a6.seen h = closed.begins 0 a6 refl in
      let a4_in : IsPrefix a4.seen h = prefix_trans a4.seen a5.seen h (goes_on a4 a5 three) (prefix_trans a5.seen a6.seen h last end) in
      let same : a4.seen ≡ b4.seen = ap (λ (p : Pass O ℕ). p.seen) a4_is ∙ sym (ap (λ (p : Pass O ℕ). p.seen) b4_is) in
      let fresh : Both 0 1 a b [] = record {
        first = ap (λ (p : Pass O ℕ). p.number) a_new;
        second = ap (λ (p : Pass O ℕ). p.number) b_new;
        first_seen = ap (λ (p : Pass O ℕ). p.seen) a_new;
        second_seen = ap (λ (p : Pass O ℕ). p.seen) b_new;
        first_own = sym (ap (λ (p : Pass O ℕ). p.added) a_new);
        second_own = sym (ap (λ (p : Pass O ℕ). p.added) b_new);
      } in
      let n1 = next (Tallies room) 5 r1 0 1 a a1 a2 b b2 [] h two_of (λ e. omega arith) all fresh one a2_is b2_is b2_own (prefix_trans a2.seen a4.seen h later a4_in) in
      let t1 = n1.replied.taken (omega arith) in
      let s1 : List (Numbered ℕ) = [] ++ numbered (Some 0) n1.added in
      let n2 = next (Tallies room) 7 r2 1 0 b2 b3 b4 a2 a4 s1 h two_back (λ e. omega arith) all (swapped 0 1 a2 b2 s1 n1.both) two b4_is a4_is a4_own (begins_from a4.seen b4.seen h h same refl a4_in) in
      let l1 : length (items s1) ≡ 1 = ap (λ z. length (items (numbered (Some 0) z))) t1.1 in
      let t2 = n2.replied.taken (omega arith) in
      let s2 : List (Numbered ℕ) = s1 ++ numbered (Some 1) n2.added in
      let n3 = next (Tallies room) 9 r3 0 1 a4 a5 a6 b4 b6 s2 h two_of (λ e. omega arith) all (swapped 1 0 b4 a4 s2 n2.both) three a6_is b6_is b6_own end in
      let l2 : length (items s2) ≡ 2 = λ i. length (items (numbered (Some 0) (t1.1 i) ++ numbered (Some 1) (t2.1 i))) in
      let t3 = n3.replied.refused (omega arith) in
      let s3 : List (Numbered ℕ) = s2 ++ numbered (Some 0) n3.added in
      let mine : items_by (Some 0) h ≡ a6.added = ap (λ (n : ℕ). items_by (Some n) h) (sym n3.both.first) ∙ closed.own 0 a6 refl in
      let theirs : items_by (Some 1) h ≡ b6.added = ap (λ (n : ℕ). items_by (Some n) h) (sym n3.both.second) ∙ closed.own 1 b6 refl in
      let is : h ≡ s3 = whole_history a6 b6 s3 h all n3.both (subst (λ z. IsPrefix z h) n3.both.first_seen end) mine theirs in
      let numbers : items s3 ≡ 5 ∷ 7 ∷ [] = λ i. items ((numbered (Some 0) (t1.1 i) ++ numbered (Some 1) (t2.1 i)) ++ numbered (Some 0) (t3.1 i)) in
      (t1.0, t2.0 ∙ ap Some l1, t3.0, sym closed.whole ∙ (ap items is ∙ numbers))

-- what two pushes leave
pub two_items : {X : Type 0} (none one two last : List X) (x y : X) → none ≡ [] → one ≡ none ++ x ∷ [] → two ≡ one ++ y ∷ [] → last ≡ two → last ≡ x ∷ y ∷ []
two_items none one two last x y e f g h = h ∙ (g ∙ ap (λ z. z ++ y ∷ []) (f ∙ ap (λ z. z ++ x ∷ []) e))
