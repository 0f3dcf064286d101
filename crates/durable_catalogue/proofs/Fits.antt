-- The entries of a batch that fit, one after the other.
use Rattle.std.proofs.Common.{◌≡◌, ℕ, ◌+◌, ◌<◌, ◌≤◌, Bool, true, false, ◌||◌, nat_lt, List, [], ◌∷◌, ◌++◌, length, take, drop, get_or, refl, sym, ap, subst, ◌∙◌, arith, append_assoc, length-append, length-take}
use Rattle.std.proofs.lemmas.List.{append-nil, drop_more, take_more, take_all, drop_all, take-append-drop}
use Rattle.std.proofs.lemmas.List.Sums.{sum_by-append}
use Rattle.std.proofs.lemmas.Bool.{or_parts, ltb-false, le-ltb}
use Rattle.marc_types.specs.declared.entry.Entry.{Entry}
use Rattle.marc_types.specs.declared.entry.Limits.{Limits}
use Rattle.std.specs.List.{All}
use Rattle.std.proofs.lemmas.List.Elements.{All-nil, All-cons, All-head, All-tail}
use Rattle.entry_record.specs.History.{entry_size, entries_size, in_run, with_run, passes_limits, IsWithin}
use Rattle.entry_history.specs.Commits.{fitting}
use Rattle.catalogue_core.specs.Catalogues.{Catalogued, all_entries}
use Rattle.durable_catalogue.proofs.Within.{all_kept}

-- so many items fit, and the rest is to be seen
pub record IsFitting (limits : Limits) (before items : List Entry) (count entries bytes : ℕ) : Type 0 where
  pub is : fitting limits before items ≡ take count items ++ fitting limits (before ++ take count items) (drop count items)
  pub entries_are : entries ≡ length (before ++ take count items)
  pub bytes_are : bytes ≡ entries_size (before ++ take count items)

pub none_yet : (limits : Limits) (before items : List Entry) → IsFitting limits before items 0 (length before) (entries_size before)
none_yet limits before items = record {
  is = ap (λ all. fitting limits all items) (sym (append-nil before));
  entries_are = ap length (sym (append-nil before));
  bytes_are = ap entries_size (sym (append-nil before));
}

one_fits : (limits : Limits) (before : List Entry) (e : Entry) (es : List Entry) → passes_limits limits before e ≡ false
    → fitting limits before (e ∷ es) ≡ e ∷ fitting limits (before ++ e ∷ []) es
unfolding fitting
one_fits limits before e es room = rw room refl

one_full : (limits : Limits) (before : List Entry) (e : Entry) (es : List Entry) → passes_limits limits before e ≡ true → fitting limits before (e ∷ es) ≡ []
unfolding fitting
one_full limits before e es full = rw full refl

no_item : (limits : Limits) (before : List Entry) → fitting limits before [] ≡ []
unfolding fitting
no_item limits before = refl

size_more : (all : List Entry) (e : Entry) → entries_size (all ++ e ∷ []) ≡ entries_size all + entry_size e
size_more all e = let parts : entries_size (all ++ e ∷ []) ≡ entries_size all + entries_size (e ∷ []) = sum_by-append entry_size all (e ∷ []) in omega (arith, parts)

-- the test of the code is that of the definition
pub same_test : (limits : Limits) (before items : List Entry) (count entries bytes : ℕ) (e : Entry) (full : Bool) → IsFitting limits before items count entries bytes
    → full ≡ (nat_lt limits.entries (entries + 1) || nat_lt limits.bytes (bytes + entry_size e)) → passes_limits limits (before ++ take count items) e ≡ full
same_test limits before items count entries bytes e full f is =
    ap (λ n. nat_lt limits.entries (n + 1) || nat_lt limits.bytes (entries_size (before ++ take count items) + entry_size e)) (sym f.entries_are)
    ∙ ap (λ n. nat_lt limits.entries (entries + 1) || nat_lt limits.bytes (n + entry_size e)) (sym f.bytes_are) ∙ sym is

-- the item at a place, between what stands before and behind it
module _ (items : List Entry) (count : ℕ) (e : Entry) (within : count < length items) (is : e ≡ get_or items count e) where
  drop_is : drop count items ≡ e ∷ drop (count + 1) items
  drop_is = drop_more items count e within ∙ ap (λ x. x ∷ drop (count + 1) items) (sym is)

  take_is : take (count + 1) items ≡ take count items ++ e ∷ []
  take_is = take_more items count e within ∙ ap (λ x. take count items ++ x ∷ []) (sym is)

pub fitting_more : (limits : Limits) (before items : List Entry) (count entries bytes : ℕ) (e : Entry) → count < length items → e ≡ get_or items count e
    → IsFitting limits before items count entries bytes → (nat_lt limits.entries (entries + 1) || nat_lt limits.bytes (bytes + entry_size e)) ≡ false
    → IsFitting limits before items (count + 1) (entries + 1) (bytes + entry_size e)
fitting_more limits before items count entries bytes e within at f room =
    let so_far : List Entry = before ++ take count items in
    let rest : List Entry = drop (count + 1) items in
    let now : before ++ take (count + 1) items ≡ so_far ++ e ∷ [] = ap (λ xs. before ++ xs) (take_is items count e within at) ∙ sym (append_assoc before (take count items) (e ∷ [])) in
    let test : passes_limits limits so_far e ≡ false = same_test limits before items count entries bytes e false f (sym room) in
    record {
      is = f.is
          ∙ ap (λ xs. take count items ++ fitting limits so_far xs) (drop_is items count e within at)
          ∙ ap (λ xs. take count items ++ xs) (one_fits limits so_far e rest test)
          ∙ sym (append_assoc (take count items) (e ∷ []) (fitting limits (so_far ++ e ∷ []) rest))
          ∙ ap (λ xs. xs ++ fitting limits (so_far ++ e ∷ []) rest) (sym (take_is items count e within at))
          ∙ ap (λ all. take (count + 1) items ++ fitting limits all rest) (sym now);
      entries_are = omega (arith, f.entries_are, ap length now, length-append so_far (e ∷ []));
      bytes_are = ap (λ n. n + entry_size e) f.bytes_are ∙ sym (size_more so_far e) ∙ ap entries_size (sym now);
    }

-- the next item doesn't fit
pub fitting_full : (limits : Limits) (before items : List Entry) (count entries bytes : ℕ) (e : Entry) → count < length items → e ≡ get_or items count e
    → IsFitting limits before items count entries bytes → (nat_lt limits.entries (entries + 1) || nat_lt limits.bytes (bytes + entry_size e)) ≡ true
    → take count items ≡ fitting limits before items
fitting_full limits before items count entries bytes e within at f full =
    let so_far : List Entry = before ++ take count items in
    let test : passes_limits limits so_far e ≡ true = same_test limits before items count entries bytes e true f (sym full) in
    sym (f.is ∙ ap (λ xs. take count items ++ fitting limits so_far xs) (drop_is items count e within at)
    ∙ ap (λ xs. take count items ++ xs) (one_full limits so_far e (drop (count + 1) items) test) ∙ append-nil (take count items))

-- there is no further item
pub fitting_end : (limits : Limits) (before items : List Entry) (count entries bytes : ℕ) → length items ≤ count → IsFitting limits before items count entries bytes
    → take count items ≡ fitting limits before items
fitting_end limits before items count entries bytes whole f =
    sym (f.is ∙ ap (λ rest. take count items ++ fitting limits (before ++ take count items) rest) (drop_all count items whole)
    ∙ ap (λ rest. take count items ++ rest) (no_item limits (before ++ take count items)) ∙ append-nil (take count items))

-- a front that is as long as the whole
pub whole_fits : (items part : List Entry) (count : ℕ) → take count items ≡ part → length items ≤ length part → part ≡ items
whole_fits items part count is long = sym is ∙ take_all count items (omega (arith, long, ap length is, length-take count items))

-- all that fit are of the run that the batch has
pub runs_fit : (limits : Limits) (run : ℕ) (before items : List Entry) → All (λ e. e.run ≡ run) items → All (λ e. e.run ≡ run) (fitting limits before items)
runs_fit limits run before [] all = subst (All (λ e. e.run ≡ run)) (sym (no_item limits before)) (All-nil (λ e. e.run ≡ run))
runs_fit limits run before (e ∷ es) all = decided (passes_limits limits before e) refl (runs_fit limits run (before ++ e ∷ []) es (All-tail (λ x. x.run ≡ run) e es all))
  where
    decided : (full : Bool) → passes_limits limits before e ≡ full → All (λ x. x.run ≡ run) (fitting limits (before ++ e ∷ []) es) → All (λ x. x.run ≡ run) (fitting limits before (e ∷ es))
    decided true is rest = subst (All (λ x. x.run ≡ run)) (sym (one_full limits before e es is)) (All-nil (λ x. x.run ≡ run))
    decided false is rest =
        subst (All (λ x. x.run ≡ run)) (sym (one_fits limits before e es is))
        (All-cons (λ x. x.run ≡ run) e (fitting limits (before ++ e ∷ []) es) (All-head (λ x. x.run ≡ run) e es all) rest)

pub with_run_runs : (run : ℕ) (items : List Entry) → All (λ e. e.run ≡ run) (with_run run items)
with_run_runs run [] = All-nil (λ e. e.run ≡ run)
with_run_runs run (e ∷ es) = All-cons (λ x. x.run ≡ run) (in_run run e) (with_run run es) refl (with_run_runs run es)

one_within : (limits : Limits) (before : List Entry) (e : Entry) → passes_limits limits before e ≡ false → IsWithin limits (before ++ e ∷ [])
one_within limits before e room =
    let parts = or_parts (nat_lt limits.entries (length before + 1)) (nat_lt limits.bytes (entries_size before + entry_size e)) room in
    record {
      count = omega (arith, ltb-false limits.entries (length before + 1) parts.0, length-append before (e ∷ []));
      size = omega (arith, ltb-false limits.bytes (entries_size before + entry_size e) parts.1, size_more before e);
    }

-- all that fit stay within the limits
fitting_within : (limits : Limits) (before items : List Entry) → IsWithin limits before → IsWithin limits (before ++ fitting limits before items)
fitting_within limits before [] within =
    subst (λ es. IsWithin limits (before ++ es)) (sym (no_item limits before)) (subst (λ es. IsWithin limits es) (sym (append-nil before)) within)
fitting_within limits before (e ∷ es) within = decided (passes_limits limits before e) refl (fitting_within limits (before ++ e ∷ []) es)
  where
    decided : (full : Bool) → passes_limits limits before e ≡ full
        → (IsWithin limits (before ++ e ∷ []) → IsWithin limits ((before ++ e ∷ []) ++ fitting limits (before ++ e ∷ []) es))
        → IsWithin limits (before ++ fitting limits before (e ∷ es))
    decided true is rest =
        subst (λ fits. IsWithin limits (before ++ fits)) (sym (one_full limits before e es is)) (subst (λ all. IsWithin limits all) (sym (append-nil before)) within)
    decided false is rest =
        subst (λ fits. IsWithin limits (before ++ fits)) (sym (one_fits limits before e es is))
        (subst (λ all. IsWithin limits all) (append_assoc before (e ∷ []) (fitting limits (before ++ e ∷ []) es)) (rest (one_within limits before e is)))

-- so does the frame of a batch behind a history with nothing staged and no mark
pub frame_within : (limits : Limits) (core : Catalogued) (more ran frame : List Entry) → core.staged ≡ [] → more ≡ [] → IsWithin limits (core.history ++ more)
    → frame ≡ fitting limits (all_entries core) ran → IsWithin limits (core.history ++ frame)
frame_within limits core more ran frame unstaged unmarked within is =
    let history = core.history in
    let whole = subst (λ es. IsWithin limits es) (ap (λ es. history ++ es) unmarked ∙ append-nil history) within in
    subst (λ es. IsWithin limits (history ++ es)) (sym (is ∙ ap (λ es. fitting limits es ran) (all_kept core unstaged))) (fitting_within limits history ran whole)

-- none of the entries that are within the limits passes them
pub passes_none : (limits : Limits) (before items : List Entry) (count : ℕ) (e : Entry) → IsWithin limits (before ++ items) → count < length items
    → e ≡ get_or items count e → passes_limits limits (before ++ take count items) e ≡ false
passes_none limits before items count e within more at =
    let so_far : List Entry = before ++ take count items in
    let rest : List Entry = drop (count + 1) items in
    let now : before ++ take (count + 1) items ≡ so_far ++ e ∷ [] = ap (λ xs. before ++ xs) (take_is items count e more at) ∙ sym (append_assoc before (take count items) (e ∷ [])) in
    let joined : (so_far ++ e ∷ []) ++ rest ≡ before ++ items =
    ap (λ xs. xs ++ rest) (sym now) ∙ append_assoc before (take (count + 1) items) rest ∙ ap (λ xs. before ++ xs) (take-append-drop (count + 1) items) in
    let sum : entries_size ((so_far ++ e ∷ []) ++ rest) ≡ entries_size (so_far ++ e ∷ []) + entries_size rest = sum_by-append entry_size (so_far ++ e ∷ []) rest in
    let few : nat_lt limits.entries (length so_far + 1) ≡ false = le-ltb limits.entries (length so_far + 1)
    (omega (arith, within.count, ap length joined, length-append (so_far ++ e ∷ []) rest, length-append so_far (e ∷ []))) in
    let small : nat_lt limits.bytes (entries_size so_far + entry_size e) ≡ false = le-ltb limits.bytes (entries_size so_far + entry_size e)
    (omega (arith, within.size, ap entries_size joined, sum, size_more so_far e)) in
    ap (λ b. b || nat_lt limits.bytes (entries_size so_far + entry_size e)) few ∙ small
