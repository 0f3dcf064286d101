-- One record's slots change, or one name's group: what the slots and the counts of all are after it.
use Rattle.std.proofs.Common.{◌≡◌, ◌∙◌, sym, ap, refl, ℕ, ◌+◌, ◌-◌, ◌<◌, arith, List, length, take, slice_index_or, Option, Some, Bool, true, false, nat_eq, unwrap_or}
use Rattle.std.specs.Prelude.{◌&&◌, if◌then◌else◌, is_some}
use Rattle.std.specs.Cmp.{unsigned_Decides}
use Rattle.std.specs.List.{count_by}
use Rattle.std.proofs.lemmas.List.Sums.{sum_by_more}
use Rattle.numbering.specs.declared.pages.Pages.{Pages}
use Rattle.numbering.specs.Pages.{there, row_or, with_row_under}
use Rattle.numbering.proofs.Pagelaws.{row_or_with_row}
use Rattle.postings.specs.declared.slot.Slot.{Slot}
use Rattle.postings.specs.declared.record_slots.RecordSlots.{RecordSlots}
use Rattle.postings.specs.declared.record_slots.RecordSlots.TheVariants as slots
use Rattle.postings.specs.declared.group.Group.{Group}
use Rattle.postings.specs.declared.group.Group.TheVariants as groups
use Rattle.postings.specs.Slot.{IsChanged, IsSame}
use Rattle.postings.specs.RecordSlots.{IsChangedUnder, IsSameUnder, slot_in, slot_under}
use Rattle.postings.specs.Group.{times_in}
use Rattle.postings.specs.Counts.{times, once, brought, TimesSame, TimesMore, TimesLess}

-- the row of the number that was written
was_there : {T : Type 0} (blank : T) (pages : Pages T) (number n : ℕ) (was : T) → Some was ≡ there pages number → nat_eq number n ≡ true → row_or blank pages n ≡ was
was_there blank pages number n was at same =
    ap (row_or blank pages) (sym ((unsigned_Decides number n).0 same)) ∙ ap (λ o. unwrap_or o blank) (sym at)

has_row : {T : Type 0} (pages : Pages T) (number : ℕ) (was : T) → Some was ≡ there pages number → is_some (there pages number) ≡ true
has_row pages number was at = ap is_some (sym at)

module _ {R : Type 0} (pages : Pages (RecordSlots R)) (number : ℕ) (was now : RecordSlots R) (at : Some was ≡ there pages number) where
  pub changed_under : (field : ℕ) (change : Option (Slot R) → Option (Slot R)) → IsChanged field change (slot_in was) (slot_in now)
      → IsChangedUnder number field change (slot_under pages) (slot_under (with_row_under pages number now))
  changed_under field change step n f =
      ap (λ row. slot_in row f) (row_or_with_row slots.Empty pages number n now (has_row pages number was at)) ∙ by (nat_eq number n) refl
    where
      by : (b : Bool) → nat_eq number n ≡ b → slot_in (if b then now else row_or slots.Empty pages n) f
          ≡ (if b && nat_eq field f then change (slot_under pages n f) else slot_under pages n f)
      by true same = step f ∙ ap (λ row. if nat_eq field f then change (slot_in row f) else slot_in row f) (sym (was_there slots.Empty pages number n was at same))
      by false apart = refl

  pub same_under : IsSame (slot_in was) (slot_in now) → IsSameUnder (slot_under pages) (slot_under (with_row_under pages number now))
  same_under same n f =
      ap (λ row. slot_in row f) (row_or_with_row slots.Empty pages number n now (has_row pages number was at)) ∙ by (nat_eq number n) refl
    where
      by : (b : Bool) → nat_eq number n ≡ b → slot_in (if b then now else row_or slots.Empty pages n) f ≡ slot_under pages n f
      by true its = same f ∙ ap (λ row. slot_in row f) (sym (was_there slots.Empty pages number n was at its))
      by false apart = refl

-- the same where all rows were as before until then
module _ {R : Type 0} (first old new : Pages (RecordSlots R)) (same : (n : ℕ) → row_or slots.Empty old n ≡ row_or slots.Empty first n) where
  same_rows : (n f : ℕ) → slot_under old n f ≡ slot_under first n f
  same_rows n f = ap (λ row. slot_in row f) (same n)

  pub changed_after : (number field : ℕ) (change : Option (Slot R) → Option (Slot R)) → IsChangedUnder number field change (slot_under old) (slot_under new)
      → IsChangedUnder number field change (slot_under first) (slot_under new)
  changed_after number field change step n f = step n f ∙ ap (λ s. if nat_eq number n && nat_eq field f then change s else s) (same_rows n f)

  pub same_after : IsSameUnder (slot_under old) (slot_under new) → IsSameUnder (slot_under first) (slot_under new)
  same_after step n f = step n f ∙ same_rows n f

-- a count under the name where it is that of one group that changed, and what it was before
more_by : (b c : Bool) (new here was old : ℕ) → new ≡ (if b then here else old) → (b ≡ true → old ≡ was) → here ≡ was + (if c then 1 else 0)
    → new ≡ old + (if c then (if b then 1 else 0) else 0)
more_by true true new here was old e its step = let same = its refl in omega arith
more_by true false new here was old e its step = let same = its refl in omega arith
more_by false true new here was old e its step = omega arith
more_by false false new here was old e its step = omega arith

less_by : (b c : Bool) (new here was old : ℕ) → new ≡ (if b then here else old) → (b ≡ true → old ≡ was) → here ≡ was - (if c then 1 else 0)
    → new ≡ old - (if c then (if b then 1 else 0) else 0)
less_by true true new here was old e its step = let same = its refl in omega arith
less_by true false new here was old e its step = let same = its refl in omega arith
less_by false true new here was old e its step = omega arith
less_by false false new here was old e its step = omega arith

stays_by : (b : Bool) (new here was old : ℕ) → new ≡ (if b then here else old) → (b ≡ true → old ≡ was) → here ≡ was → new ≡ old
stays_by true new here was old e its step = let same = its refl in omega arith
stays_by false new here was old e its step = e

module _ {P : Type 0} (same : P → P → Bool) (pages : Pages (Group P)) (name : ℕ) (was now : Group P) (at : Some was ≡ there pages name) where
  written_times : (n : ℕ) (p : P) → times same (with_row_under pages name now) n p ≡ (if nat_eq name n then times_in same now p else times same pages n p)
  written_times n p = ap (λ row. times_in same row p) (row_or_with_row groups.Empty pages name n now (has_row pages name was at)) ∙ by (nat_eq name n)
    where
      by : (b : Bool) → times_in same (if b then now else row_or groups.Empty pages n) p ≡ (if b then times_in same now p else times same pages n p)
      by true = refl
      by false = refl

  were_times : (n : ℕ) (p : P) → nat_eq name n ≡ true → times same pages n p ≡ times_in same was p
  were_times n p its = ap (λ row. times_in same row p) (was_there groups.Empty pages name n was at its)

  pub more_under : (thing : P) → ((p : P) → times_in same now p ≡ times_in same was p + (if same thing p then 1 else 0))
      → TimesMore (once nat_eq same name thing) (times same pages) (times same (with_row_under pages name now))
  more_under thing step n p =
      more_by (nat_eq name n) (same thing p) _ (times_in same now p) (times_in same was p) (times same pages n p) (written_times n p) (were_times n p) (step p)

  pub less_under : (thing : P) → ((p : P) → times_in same now p ≡ times_in same was p - (if same thing p then 1 else 0))
      → TimesLess (once nat_eq same name thing) (times same pages) (times same (with_row_under pages name now))
  less_under thing step n p =
      less_by (nat_eq name n) (same thing p) _ (times_in same now p) (times_in same was p) (times same pages n p) (written_times n p) (were_times n p) (step p)

  pub stay_under : ((p : P) → times_in same now p ≡ times_in same was p) → TimesSame (times same pages) (times same (with_row_under pages name now))
  stay_under step n p = stays_by (nat_eq name n) _ (times_in same now p) (times_in same was p) (times same pages n p) (written_times n p) (were_times n p) (step p)

module _ {P : Type 0} (same : P → P → Bool) (first old new : Pages (Group P)) (stay : (n : ℕ) → row_or groups.Empty old n ≡ row_or groups.Empty first n) where
  same_groups : (n : ℕ) (p : P) → times same old n p ≡ times same first n p
  same_groups n p = ap (λ row. times_in same row p) (stay n)

  pub more_after : (more : ℕ → P → ℕ) → TimesMore more (times same old) (times same new) → TimesMore more (times same first) (times same new)
  more_after more step n p = step n p ∙ ap (λ k. k + more n p) (same_groups n p)

  pub stay_after : TimesSame (times same old) (times same new) → TimesSame (times same first) (times same new)
  stay_after step n p = step n p ∙ same_groups n p

-- one name more
step_by : (b : Bool) (new mid old more all longer : ℕ) → new ≡ mid + (if b then more else 0) → mid ≡ old + (if b then all else 0) → longer ≡ all + more → new ≡ old + (if b then longer else 0)
step_by true new mid old more all longer e f g = omega arith
step_by false new mid old more all longer e f g = omega arith

pub more_names : {P : Type 0} (same : P → P → Bool) (names : List ℕ) (i : ℕ) (thing p : P) (name new mid old : ℕ) → i < length names
    → new ≡ mid + once nat_eq same (slice_index_or names i 0) thing name p → mid ≡ old + brought nat_eq same (take i names) thing name p
    → new ≡ old + brought nat_eq same (take (i + 1) names) thing name p
more_names same names i thing p name new mid old low step before =
    step_by (same thing p) new mid old (if nat_eq (slice_index_or names i 0) name then 1 else 0) (count_by (λ n. nat_eq n name) (take i names)) (count_by (λ n. nat_eq n name) (take (i + 1) names))
    step before (sum_by_more (λ n. if nat_eq n name then 1 else 0) names i 0 low)
