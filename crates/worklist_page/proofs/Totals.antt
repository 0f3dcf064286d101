-- The totals of the figures are the counts of the report.
use Rattle.std.proofs.Common.{◌≡◌, ℕ, ◌+◌, Bool, cond, List, [], ◌∷◌, map, refl, ap, arith}
use Rattle.std.specs.Prelude.{fold}
use Rattle.std.specs.List.{count_by, sum_by}
use Rattle.std.proofs.lemmas.List.Sums.{sum_by-cons}
use Rattle.marc_types.specs.declared.key.Class.{Class}
use Rattle.marc_types.specs.declared.key.Class.TheVariants.{Authority, Bibliographic}
use Rattle.marc_types.specs.declared.key.Key.{Key}
use Rattle.entry_record.specs.Authority.{Linkable}
use Rattle.catalogue_rules.specs.State.{KeptField, Row, State, linkable_authorities}
use Rattle.catalogue_rules.specs.Output.{count_all}
use Rattle.catalogue_rules.specs.Receipt as definition
use Rattle.catalogue_rules.specs.Receipt.{is_linked, is_ambiguous, is_unlinked, standing_of, count_standing}
use Rattle.catalogue_tables.specs.Stands.{stands_as}
use Rattle.catalogue_tables.specs.declared.standing.Standing.{Standing}
use Rattle.catalogue_tables.specs.declared.standing.Standing.TheVariants.{Linked, Ambiguous, Unlinked, NoHeading}
use Rattle.catalogue_core.specs.Standings.{is_linked_here, is_ambiguous_here, is_unlinked_here}
use Rattle.catalogue_core.proofs.Standings.{linked_alike, ambiguous_alike, unlinked_alike}
use Rattle.worklist_page.specs.declared.shares.Shares.{Shares}
use Rattle.worklist_page.specs.Shares.{no_shares, with_standing}
use Rattle.worklist_page.specs.Figures.{Figured, Mark, figures_of, mark_of, marks_in, no_figures, row_marks, with_class, with_mark, with_rows}
use Rattle.worklist_page.proofs.Marks.{folded}

module _ (part : Shares → ℕ) (here : Standing → Bool) (test : definition.Standing → Bool) (none : part no_shares ≡ 0)
    (steps : (st : Standing) (s : Shares) → part (with_standing st s) ≡ part s + cond (here st) 1 0)
    (same : (st : definition.Standing) → here (stands_as st) ≡ test st) where
  one_counted : (f : Figured) (m : Mark) → part (with_mark f m).totals ≡ part f.totals + cond (here m.standing) 1 0
  unfolding with_mark
  one_counted f m = steps m.standing f.totals

  fields_counted : (all : List Linkable) (class : Class) (key : Key) (hs : List KeptField) (f : Figured)
      → part (fold with_mark f (map (mark_of all class key) hs)).totals ≡ part f.totals + count_by (λ h. test (standing_of all class h)) hs
  fields_counted all class key [] f = omega arith
  fields_counted all class key (h ∷ hs) f =
      omega (
        arith,
        fields_counted all class key hs (with_mark f (mark_of all class key h)),
        one_counted f (mark_of all class key h),
        ap {B = ℕ} (λ (b : Bool). cond b 1 0) (same (standing_of all class h)),
        sum_by-cons (λ g. cond (test (standing_of all class g)) 1 0) h hs,
      )

  rows_counted : (all : List Linkable) (class : Class) (rows : List Row) (f : Figured)
      → part (with_rows all class f rows).totals ≡ part f.totals + sum_by (λ row. count_standing test all class row.1) rows
  rows_counted all class [] f = omega arith
  rows_counted all class (r ∷ rows) f =
      omega (
        arith,
        ap (λ (g : Figured). part g.totals) (folded with_mark (mark_of all class r.0) (row_marks all class r) (marks_in all class rows) f),
        rows_counted all class rows (fold with_mark f (row_marks all class r)),
        fields_counted all class r.0 r.1.fields f,
        sum_by-cons (λ row. count_standing test all class row.1) r rows,
      )

  pub all_counted : (s : State) → part (figures_of s).totals ≡ count_all test s
  unfolding figures_of
  all_counted s =
      omega (
        arith,
        none,
        rows_counted (linkable_authorities s) Authority s.authorities no_figures,
        rows_counted (linkable_authorities s) Bibliographic s.bibliographic (with_class s no_figures Authority),
      )

linked_step : (st : Standing) (s : Shares) → (with_standing st s).linked ≡ s.linked + cond (is_linked_here st) 1 0
linked_step Linked s = refl
linked_step (Ambiguous keys) s = omega arith
linked_step Unlinked s = omega arith
linked_step NoHeading s = omega arith

ambiguous_step : (st : Standing) (s : Shares) → (with_standing st s).ambiguous ≡ s.ambiguous + cond (is_ambiguous_here st) 1 0
ambiguous_step Linked s = omega arith
ambiguous_step (Ambiguous keys) s = refl
ambiguous_step Unlinked s = omega arith
ambiguous_step NoHeading s = omega arith

unlinked_step : (st : Standing) (s : Shares) → (with_standing st s).unlinked ≡ s.unlinked + cond (is_unlinked_here st) 1 0
unlinked_step Linked s = omega arith
unlinked_step (Ambiguous keys) s = omega arith
unlinked_step Unlinked s = refl
unlinked_step NoHeading s = omega arith

pub linked_total : (s : State) → (figures_of s).totals.linked ≡ count_all is_linked s
linked_total = all_counted (λ s. s.linked) is_linked_here is_linked refl linked_step linked_alike

pub ambiguous_total : (s : State) → (figures_of s).totals.ambiguous ≡ count_all is_ambiguous s
ambiguous_total = all_counted (λ s. s.ambiguous) is_ambiguous_here is_ambiguous refl ambiguous_step ambiguous_alike

pub unlinked_total : (s : State) → (figures_of s).totals.unlinked ≡ count_all is_unlinked s
unlinked_total = all_counted (λ s. s.unlinked) is_unlinked_here is_unlinked refl unlinked_step unlinked_alike
