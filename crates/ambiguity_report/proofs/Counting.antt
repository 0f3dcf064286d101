-- Counting how fields stand, one record after another.
use Rattle.std.proofs.Common.{◌≡◌, ℕ, ◌+◌, ◌*◌, ◌^◌, ◌<◌, ◌≤◌, Bool, List, ◌∷◌, length, map, ap, ◌∙◌, arith}
use Rattle.std.specs.List.{sum_by, count_by}
use Rattle.std.proofs.lemmas.List.Sums.{sum_by-cons, count_by-le-length}
use Rattle.marc_types.specs.declared.key.Class.{Class}
use Rattle.marc_types.specs.declared.key.Class.TheVariants.{Authority, Bibliographic}
use Rattle.marc_types.specs.declared.key.Key.{Key}
use Rattle.entry_record.specs.Authority.{Linkable}
use Rattle.catalogue_rules.specs.State.{KeptRecord, Row, State}
use Rattle.catalogue_rules.specs.Output.{total_line}
use Rattle.catalogue_rules.specs.Receipt as definition
use Rattle.catalogue_rules.specs.Receipt.{is_linked, is_ambiguous, is_unlinked, count_standing}
use Rattle.catalogue_tables.specs.Stands.{stands_as, field_standing}
use Rattle.catalogue_tables.specs.declared.standing.Standing.{Standing}
use Rattle.catalogue_core.specs.Standings.{is_linked_here, is_ambiguous_here, is_unlinked_here}
use Rattle.catalogue_core.proofs.Standings.{linked_alike, ambiguous_alike, unlinked_alike, count_alike}
use Rattle.ambiguity_report.specs.Totals.{AddsRecord, AreAllTotals, AreTotals, totals_text}
use Rattle.ambiguity_report.specs.declared.totals.Totals.{Totals}

-- ---- how fields stand, by the rules

module _ (here : Standing → Bool) (test : definition.Standing → Bool) (same : (s : definition.Standing) → here (stands_as s) ≡ test s) (all : List Linkable) (class : Class) where
  count_kept : (r : KeptRecord) (xs : List Standing) → xs ≡ map (field_standing all class) r.fields → count_by here xs ≡ count_standing test all class r
  count_kept r xs are = ap (count_by here) are ∙ count_alike here test same all class r.fields

-- ---- one count

-- how many fields of these rows stand so
abbrev count_rows : (definition.Standing → Bool) → List Linkable → Class → List Row → ℕ
count_rows test all class rows = sum_by (λ row. count_standing test all class row.1) rows

-- of all rows, what was counted and what the rows still to come will add; each row adds less than 2^64
pub record IsCounting (test : definition.Standing → Bool) (all : List Linkable) (class : Class) (rows left : List Row) (n : ℕ) : Type 0 where
  pub split : n + count_rows test all class left ≡ count_rows test all class rows
  pub room : n + 2 ^ 64 * length left ≤ 2 ^ 64 * length rows

module _ (here : Standing → Bool) (test : definition.Standing → Bool) (same : (s : definition.Standing) → here (stands_as s) ≡ test s) (all : List Linkable) (class : Class) where
  one_more : (rows before after : List Row) (key : Key) (r : KeptRecord) (xs : List Standing) (n m : ℕ) → IsCounting test all class rows before n
      → before ≡ (key, r) ∷ after → xs ≡ map (field_standing all class) r.fields → length xs < 2 ^ 64
      → m ≡ n + count_by here xs → IsCounting test all class rows after m
  one_more rows before after key r xs n m so_far is are few sum =
      let row : Row = (key, r) in
      let first = ap (count_rows test all class) is ∙ sum_by-cons (λ (x : Row). count_standing test all class x.1) row after in
      let own = count_kept here test same all class r xs are in
      let small = count_by-le-length here xs in
      let long = ap (λ (l : List Row). length l) is in
      let split = so_far.split in
      let room = so_far.room in
      record { split = omega arith; room = omega arith }

-- ---- the three counts

pub record AreCounting (all : List Linkable) (class : Class) (rows left : List Row) (totals : Totals) : Type 0 where
  pub linked : IsCounting is_linked all class rows left totals.linked
  pub ambiguous : IsCounting is_ambiguous all class rows left totals.ambiguous
  pub unlinked : IsCounting is_unlinked all class rows left totals.unlinked

-- the next row is counted
pub counting_more : (all : List Linkable) (class : Class) (rows before after : List Row) (key : Key) (r : KeptRecord) (xs : List Standing) (old new : Totals)
    → AreCounting all class rows before old → before ≡ (key, r) ∷ after → xs ≡ map (field_standing all class) r.fields
    → AddsRecord xs old new → AreCounting all class rows after new
counting_more all class rows before after key r xs old new so_far is are adds = record {
  linked = one_more is_linked_here is_linked linked_alike all class rows before after key r xs old.linked new.linked so_far.linked is are adds.few adds.linked;
  ambiguous = one_more is_ambiguous_here is_ambiguous ambiguous_alike all class rows before after key r xs old.ambiguous new.ambiguous so_far.ambiguous is are
      adds.few adds.ambiguous;
  unlinked = one_more is_unlinked_here is_unlinked unlinked_alike all class rows before after key r xs old.unlinked new.unlinked so_far.unlinked is are
      adds.few adds.unlinked;
}

-- both classes together
pub totals_together : (s : State) (first second both : Totals) → AreTotals Authority s first → AreTotals Bibliographic s second
    → both.linked ≡ first.linked + second.linked → both.ambiguous ≡ first.ambiguous + second.ambiguous → both.unlinked ≡ first.unlinked + second.unlinked
    → AreAllTotals s both
totals_together s first second both one two linked ambiguous unlinked = record {
  linked = linked ∙ (λ i. one.linked i + two.linked i);
  ambiguous = ambiguous ∙ (λ i. one.ambiguous i + two.ambiguous i);
  unlinked = unlinked ∙ (λ i. one.unlinked i + two.unlinked i);
}

-- ---- the line

pub line_is : (s : State) (authorities bibliographic : ℕ) (totals : Totals) → authorities ≡ length s.authorities → bibliographic ≡ length s.bibliographic
    → AreAllTotals s totals → totals_text authorities bibliographic totals ≡ total_line s
line_is s authorities bibliographic totals first second are =
    ap (λ (n : ℕ). totals_text n bibliographic totals) first
    ∙ ap (λ (n : ℕ). totals_text (length s.authorities) n totals) second
    ∙ (λ i. totals_text (length s.authorities) (length s.bibliographic) (record { linked = are.linked i; ambiguous = are.ambiguous i; unlinked = are.unlinked i }))
