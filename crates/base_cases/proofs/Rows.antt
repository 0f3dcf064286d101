-- The row of three turns: what is told, and whose the items are.
use Rattle.std.proofs.Common.{◌≡◌, ℕ, List, [], ◌∷◌, ◌++◌, length, Option, Some, None, refl, ap, sym, subst, ◌∙◌, arith}
use mathlib.Core.List.{IsPrefix}
use Rattle.atomic_table.specs.Seated.{TableId}
use Rattle.catalogue_lock.specs.declared.view.Numbered.{Numbered}
use Rattle.catalogue_lock.specs.History.{items, items_by, numbered}
use Rattle.catalogue_lock.specs.Passes.{Pass, Closed, new_pass}
use Rattle.catalogue_lock.specs.Tally.{Tallies}
use Rattle.catalogue_lock.proofs.Prefixes.{prefix_trans}
use Rattle.catalogue_lock.proofs.Meeting.{begins_from}
use Rattle.catalogue_lock.proofs.Rows.{OfTwo, Both, two_of, two_back, swapped, next, whole_history, goes_on}
use Rattle.base_cases.specs.Rows.{TookThreeTurns}

module _ {O : Type 0} (lock : TableId) (opened : Option O) where
  -- two new passes have both seen nothing
  both_new : (a b : Pass O ℕ) → a ≡ new_pass lock opened [] 0 → b ≡ new_pass lock opened [] 1 → Both 0 1 a b []
  both_new a b a_new b_new = record {
    first = ap (λ (p : Pass O ℕ). p.number) a_new;
    second = ap (λ (p : Pass O ℕ). p.number) b_new;
    first_seen = ap (λ (p : Pass O ℕ). p.seen) a_new;
    second_seen = ap (λ (p : Pass O ℕ). p.seen) b_new;
    first_own = sym (ap (λ (p : Pass O ℕ). p.added) a_new);
    second_own = sym (ap (λ (p : Pass O ℕ). p.added) b_new);
  }

  -- what is known of the row once the lock is closed
  pub record Ended (one two three : Option ℕ) (first second : Pass O ℕ) (left : List ℕ) : Type 0 where
    pub one_is : one ≡ Some 0
    pub two_is : two ≡ Some 1
    pub three_is : three ≡ None
    pub first_added : first.added ≡ 5 ∷ []
    pub second_added : second.added ≡ 7 ∷ []
    pub left_is : left ≡ 5 ∷ 7 ∷ []
    pub closed : Closed 2 (first ∷ second ∷ []) [] left
    pub history : closed.history ≡ numbered (Some 0) (5 ∷ []) ++ numbered (Some 1) (7 ∷ [])

  pub ended : (room : ℕ) (one two three : Option ℕ) (a b c d : Pass O ℕ) (left : List ℕ) → room ≡ 2 → a ≡ new_pass lock opened [] 0 → b ≡ new_pass lock opened [] 1
      → TookThreeTurns room one two three a b c d → Closed 2 (c ∷ d ∷ []) [] left → Ended one two three c d left
  ended room one two three a b c d left for_two a_new b_new row closed =
      let h = closed.history in
      let fives = row.fives in
      let sevens = row.sevens in
      let nines = row.nines in
      let all : OfTwo h = record { unnumbered = closed.unnumbered; nobody = closed.nobody } in
      let end : IsPrefix c.seen h = closed.begins 0 c refl in
      let after_in : IsPrefix row.first_after.seen h =
      prefix_trans row.first_after.seen nines.between.seen h (goes_on row.first_after nines.between nines.turned) (prefix_trans nines.between.seen c.seen h nines.begins end) in
      let same : row.first_after.seen ≡ row.second_after.seen = ap (λ (p : Pass O ℕ). p.seen) sevens.other_met ∙ sym (ap (λ (p : Pass O ℕ). p.seen) sevens.met) in
      let n1 = next (Tallies room) 5 one 0 1 a fives.between row.first_between b row.second_between [] h two_of (λ e. omega arith) all (both_new a b a_new b_new)
      fives.turned fives.met fives.other_met fives.other_own (prefix_trans row.first_between.seen row.first_after.seen h sevens.other_begins after_in) in
      let t1 = n1.replied.taken (omega arith) in
      let s1 : List (Numbered ℕ) = [] ++ numbered (Some 0) n1.added in
      let n2 = next (Tallies room) 7 two 1 0 row.second_between sevens.between row.second_after row.first_between row.first_after s1 h two_back (λ e. omega arith) all
      (swapped 0 1 row.first_between row.second_between s1 n1.both) sevens.turned sevens.met sevens.other_met sevens.other_own
      (begins_from row.first_after.seen row.second_after.seen h h same refl after_in) in
      let l1 : length (items s1) ≡ 1 = ap (λ z. length (items (numbered (Some 0) z))) t1.1 in
      let t2 = n2.replied.taken (omega arith) in
      let s2 : List (Numbered ℕ) = s1 ++ numbered (Some 1) n2.added in
      let n3 = next (Tallies room) 9 three 0 1 row.first_after nines.between c row.second_after d s2 h two_of (λ e. omega arith) all
      (swapped 1 0 row.second_after row.first_after s2 n2.both) nines.turned nines.met nines.other_met nines.other_own end in
      let l2 : length (items s2) ≡ 2 = λ i. length (items (numbered (Some 0) (t1.1 i) ++ numbered (Some 1) (t2.1 i))) in
      let t3 = n3.replied.refused (omega arith) in
      let s3 : List (Numbered ℕ) = s2 ++ numbered (Some 0) n3.added in
      let s3_is : s3 ≡ numbered (Some 0) (5 ∷ []) ++ numbered (Some 1) (7 ∷ []) =
      λ i. (numbered (Some 0) (t1.1 i) ++ numbered (Some 1) (t2.1 i)) ++ numbered (Some 0) (t3.1 i) in
      let mine : items_by (Some 0) h ≡ c.added = ap (λ (n : ℕ). items_by (Some n) h) (sym n3.both.first) ∙ closed.own 0 c refl in
      let theirs : items_by (Some 1) h ≡ d.added = ap (λ (n : ℕ). items_by (Some n) h) (sym n3.both.second) ∙ closed.own 1 d refl in
      let is : h ≡ s3 = whole_history c d s3 h all n3.both (subst (λ z. IsPrefix z h) n3.both.first_seen end) mine theirs in record {
        one_is = t1.0;
        two_is = t2.0 ∙ ap Some l1;
        three_is = t3.0;
        first_added = sym n3.both.first_own ∙ ap (items_by (Some 0)) s3_is;
        second_added = sym n3.both.second_own ∙ ap (items_by (Some 1)) s3_is;
        left_is = sym closed.whole ∙ ap items (is ∙ s3_is);
        closed = closed;
        history = is ∙ s3_is;
      }
