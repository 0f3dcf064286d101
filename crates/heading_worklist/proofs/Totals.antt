-- There are as many open headings as a report counts.
use Rattle.std.proofs.Common.{◌≡◌, refl, arith, ℕ, ◌+◌, cond, List, [], ◌∷◌, length, length-append, Option, Some, None}
use Rattle.std.specs.Prelude.{option_and_then}
use Rattle.std.specs.List.{cons_option, count_by, enumerate_from, filter_map, flat_map, sum_by}
use Rattle.std.specs.Option.{option_map, option_map_or}
use Rattle.std.proofs.lemmas.List.Sums.{sum_by-cons}
use Rattle.marc_types.specs.declared.key.Class.{Class}
use Rattle.marc_types.specs.declared.key.Class.TheVariants.{Authority, Bibliographic}
use Rattle.marc_types.specs.declared.key.Key.{Key}
use Rattle.marc_types.specs.declared.form.Kind.{Kind}
use Rattle.entry_record.specs.Authority.{Linkable, heading_kind}
use Rattle.catalogue_rules.specs.Choice.{Choice, Link, Ambiguous, Unlinked, choice}
use Rattle.catalogue_rules.specs.State.{KeptField, Row, State, linkable_authorities}
use Rattle.catalogue_rules.specs.Output.{count_all}
use Rattle.catalogue_rules.specs.Receipt.{Standing, LinkedTo, WithoutHeading, count_standing, is_ambiguous, is_unlinked, standing_by, standing_of}
use Rattle.heading_worklist.specs.Headings.{OpenHeading, candidates_by, open_heading, open_headings, open_in_class, open_in_row}

-- one where a field that stands so is ambiguous or unlinked
abbrev counts : Standing → ℕ
counts s = cond (is_ambiguous s) 1 0 + cond (is_unlinked s) 1 0

module _ (all : List Linkable) (class : Class) (row : Row) where
  abbrev heading_with : ℕ → KeptField → Kind → List Key → OpenHeading
  heading_with n h kind keys = record { class = class; row = row; number = n; held = h; kind = kind; candidates = keys }

  abbrev put_so : ℕ → KeptField → Option Kind → Standing → List OpenHeading → List OpenHeading
  put_so n h k s ys = cons_option (option_and_then (λ kind. option_map (heading_with n h kind) (candidates_by s)) k) ys

  by_choice : (n : ℕ) (h : KeptField) (kind : Kind) (c : Choice) (ys : List OpenHeading)
      → length (put_so n h (Some kind) (standing_by c) ys) ≡ counts (standing_by c) + length ys
  by_choice n h kind (Link c whole) ys = omega arith
  by_choice n h kind (Ambiguous keys) ys = omega arith
  by_choice n h kind Unlinked ys = omega arith

  by_tie : (n : ℕ) (h : KeptField) (key : Option Key) (k : Option Kind) (c : Kind → Choice) (ys : List OpenHeading)
      → length (put_so n h k (option_map_or (λ key. LinkedTo key) key (option_map_or (λ kind. standing_by (c kind)) k WithoutHeading)) ys)
      ≡ counts (option_map_or (λ key. LinkedTo key) key (option_map_or (λ kind. standing_by (c kind)) k WithoutHeading)) + length ys
  by_tie n h (Some key) None c ys = omega arith
  by_tie n h (Some key) (Some kind) c ys = omega arith
  by_tie n h None None c ys = omega arith
  by_tie n h None (Some kind) c ys = by_choice n h kind (c kind) ys

  of_field : (n : ℕ) (h : KeptField) (ys : List OpenHeading)
      → length (cons_option (open_heading all class row (n, h)) ys) ≡ counts (standing_of all class h) + length ys
  unfolding standing_of
  of_field n h ys = by_tie n h h.tie.key (heading_kind class h.field) (λ kind. choice all class kind h) ys

  of_fields : (n : ℕ) (hs : List KeptField) → length (filter_map (open_heading all class row) (enumerate_from n hs))
      ≡ count_by (λ h. is_ambiguous (standing_of all class h)) hs + count_by (λ h. is_unlinked (standing_of all class h)) hs
  of_fields n [] = refl
  of_fields n (h ∷ hs) =
      let rest = filter_map (open_heading all class row) (enumerate_from (n + 1) hs) in
      let first = of_field n h rest in
      let more = of_fields (n + 1) hs in
      let ambiguous = sum_by-cons (λ (h : KeptField). cond (is_ambiguous (standing_of all class h)) 1 0) h hs in
      let unlinked = sum_by-cons (λ (h : KeptField). cond (is_unlinked (standing_of all class h)) 1 0) h hs in
      omega (arith, first, more, ambiguous, unlinked)

of_rows : (all : List Linkable) (class : Class) (rows : List Row) → length (flat_map (open_in_row all class) rows)
    ≡ sum_by (λ row. count_standing is_ambiguous all class row.1) rows + sum_by (λ row. count_standing is_unlinked all class row.1) rows
of_rows all class [] = refl
of_rows all class (row ∷ rows) =
    let split = length-append (open_in_row all class row) (flat_map (open_in_row all class) rows) in
    let first = of_fields all class row 0 row.1.fields in
    let more = of_rows all class rows in
    let ambiguous = sum_by-cons (λ (row : Row). count_standing is_ambiguous all class row.1) row rows in
    let unlinked = sum_by-cons (λ (row : Row). count_standing is_unlinked all class row.1) row rows in
    omega (arith, split, first, more, ambiguous, unlinked)

pub as_many : (s : State) → length (open_headings s) ≡ count_all is_ambiguous s + count_all is_unlinked s
as_many s =
    let all = linkable_authorities s in
    let split = length-append (open_in_class s Authority) (open_in_class s Bibliographic) in
    let authorities = of_rows all Authority s.authorities in
    let bibliographic = of_rows all Bibliographic s.bibliographic in
    omega (arith, split, authorities, bibliographic)
