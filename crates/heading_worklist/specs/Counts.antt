-- How often an open heading stands in a catalogue, and the order of the lines. The rules are this project's own.
use Rattle.std.proofs.Common.{◌∙◌}
use Rattle.std.specs.Prelude.{◌≡◌, ℕ, Bool, true, false, List, [], map, fold, if◌then◌else◌}
use Rattle.std.specs.List.{count_by}
use Rattle.std.specs.BTreeSet.{insert_key}
use Rattle.std.specs.declared.cmp.Ordering.{Ordering}
use Rattle.std.specs.Ordering.{bool_cmp, eq_by_cmp, flip_args, is_eq, nat_cmp, on, then_cmp}
use Rattle.std.specs.Cmp.{IsTotalOrder, bool_cmp_total, back_total, nat_cmp_total, on_total, second_so, then_total, tied_then}
use Rattle.std.specs.Hash.{HashWrites}
use Rattle.marc_types.specs.declared.form.Form.{Form}
use Rattle.marc_types.specs.declared.key.Place.{Place}
use Rattle.marc_types.specs.Order.{form_cmp, form_cmp_total, form_writes, form_writes_alike, place_cmp, place_cmp_total}

-- What counting and ordering look at of an open heading: whether it is ambiguous, its full form (of its base part where the field takes no
-- subdivisions), its base form, and its place. A form has its kind.
pub record Compared : Type 0 where
  pub ambiguous : Bool
  pub full : Form
  pub base : Form
  pub place : Place

-- a form of ambiguous headings, or of unlinked ones
pub record StatedForm : Type 0 where
  pub ambiguous : Bool
  pub form : Form

-- by the state, then by the form
unfoldable pub stated_cmp : StatedForm → StatedForm → Ordering
stated_cmp = then_cmp (on (λ a. a.ambiguous) bool_cmp) (on (λ a. a.form) form_cmp)

pub stated_cmp_total : IsTotalOrder stated_cmp
unfolding stated_cmp
stated_cmp_total = then_total (on_total (λ a. a.ambiguous) bool_cmp_total) (on_total (λ a. a.form) form_cmp_total)

-- what a hash table reads of them: the form alone
unfoldable pub stated_writes : StatedForm → HashWrites
stated_writes a = form_writes a.form

pub stated_writes_alike : (x y : StatedForm) → eq_by_cmp stated_cmp x y ≡ true → stated_writes x ≡ stated_writes y
unfolding stated_cmp stated_writes
stated_writes_alike x y h =
    let states = bool_cmp x.ambiguous y.ambiguous in
    let forms = form_cmp x.form y.form in form_writes_alike x.form y.form (second_so (is_eq states) (is_eq forms) (tied_then states forms ∙ h))

-- the same state and the same form
abbrev pub same_stated : StatedForm → StatedForm → Bool
same_stated = eq_by_cmp stated_cmp

-- a heading by its full form (true) or its base form (false)
abbrev pub stated : Bool → Compared → StatedForm
stated whole x = record { ambiguous = x.ambiguous; form = if whole then x.full else x.base }

-- how many of the headings have this state and form
abbrev pub count_stated : Bool → List Compared → StatedForm → ℕ
count_stated whole all a = count_by (λ x. same_stated (stated whole x) a) all

-- a heading, how often its full form stands among the open headings of the catalogue, and how often its base form
pub record Counted : Type 0 where
  pub heading : Compared
  pub count : ℕ
  pub base_count : ℕ

-- counted over all
abbrev pub counted_among : List Compared → Compared → Counted
counted_among all x = record {
  heading = x;
  count = count_stated true all (stated true x);
  base_count = count_stated false all (stated false x);
}

-- by the full form, unlinked before ambiguous; then by the class, the key and the field
unfoldable pub heading_cmp : Compared → Compared → Ordering
heading_cmp = then_cmp (on (λ x. x.full) form_cmp) (then_cmp (on (λ x. x.ambiguous) bool_cmp) (on (λ x. x.place) place_cmp))

pub heading_cmp_total : IsTotalOrder heading_cmp
unfolding heading_cmp
heading_cmp_total =
    then_total (on_total (λ x. x.full) form_cmp_total)
    (then_total (on_total (λ x. x.ambiguous) bool_cmp_total) (on_total (λ x. x.place) place_cmp_total))

-- the greatest count first; then the headings in their order
unfoldable pub counted_cmp : Counted → Counted → Ordering
counted_cmp = then_cmp (on (λ x. x.count) (flip_args nat_cmp)) (on (λ x. x.heading) heading_cmp)

pub counted_cmp_total : IsTotalOrder counted_cmp
unfolding counted_cmp
counted_cmp_total = then_total (on_total (λ x. x.count) (back_total nat_cmp_total)) (on_total (λ x. x.heading) heading_cmp_total)

-- in that order
unfoldable pub in_order : List Counted → List Counted
in_order lines = fold (insert_key counted_cmp) [] lines

-- all of them, each counted, in their order
abbrev pub counted_in_order : List Compared → List Counted
counted_in_order all = in_order (map (counted_among all) all)
