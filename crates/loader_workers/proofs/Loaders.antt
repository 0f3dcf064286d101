-- What each loader committed, and what stands in the frames that a device failed to take.
use Rattle.std.proofs.Common.{◌≡◌, ◌∙◌, ℕ, ◌<◌, ◌==◌, Bool, true, false, List, [], ◌∷◌, ◌++◌, Some, if◌then◌else◌, refl, sym, ap, arith}
use Rattle.std.specs.List.{AllByRecursion, flat_map}
use Rattle.std.proofs.lemmas.List.Elements.{filter-append}
use Rattle.marc_types.specs.declared.entry.Entry.{Entry}
use Rattle.entry_record.specs.History.{brought_by}
use Rattle.entry_history.specs.Events.{entries_of}
use Rattle.entry_history.specs.declared.event.Event.{Event}
use Rattle.entry_history.specs.declared.event.Event.TheVariants.{Committed, Broke}
use Rattle.catalogue_lock.specs.declared.view.Numbered.{Numbered}
use Rattle.catalogue_lock.specs.History.{items, items_by}
use Rattle.loader_workers.proofs.Owned.{IsOfLoader, Owned, NoItem, OneMore, same_either_way}

-- the entries of a frame that a device failed to take
abbrev pub frame_entries : Event → List Entry
frame_entries (Committed e) = []
frame_entries (Broke es) = es

abbrev pub frames_of : List Event → List Entry
frames_of events = flat_map frame_entries events

-- one loader's test of another's number
test_of : (loader j n : ℕ) → j ≡ n → (j == loader) ≡ (loader == n)
test_of loader j n is = ap (λ (i : ℕ). i == loader) is ∙ same_either_way n loader

module _ (callers loader : ℕ) where
  one_entry : (b : Bool) (e : Entry) (xs : List Entry) (ys : List Event) → xs ≡ entries_of ys → (if b then e ∷ xs else xs) ≡ entries_of (if b then Committed e ∷ ys else ys)
  one_entry true e xs ys same = ap (λ l. e ∷ l) same
  one_entry false e xs ys same = same

  no_entry : (b : Bool) (es : List Entry) (ys : List Event) → entries_of (if b then Broke es ∷ ys else ys) ≡ entries_of ys
  no_entry true es ys = refl
  no_entry false es ys = refl

  -- what a loader committed is the committed entries under its number
  pub brought : (later : List (Numbered Event)) → Owned callers later → brought_by loader (entries_of (items later)) ≡ entries_of (items_by (Some loader) later)
  brought _ NoItem = refl
  brought _ (OneMore n (Committed e) rest lt is own) =
      let xs = brought_by loader (entries_of (items rest)) in
      ap (λ (b : Bool). if b then e ∷ xs else xs) (test_of loader e.loader n is)
      ∙ one_entry (loader == n) e xs (items_by (Some loader) rest) (brought rest own)
  brought _ (OneMore n (Broke es) rest lt is own) = brought rest own ∙ sym (no_entry (loader == n) es (items_by (Some loader) rest))

  none_either : (b : Bool) → ◌≡◌ {A = List Entry} [] (if b then [] else [])
  none_either true = refl
  none_either false = refl

  all_or_none : (n : ℕ) (es : List Entry) → AllByRecursion (IsOfLoader n) es → brought_by loader es ≡ (if loader == n then es else [])
  all_or_none n [] all = none_either (loader == n)
  all_or_none n (e ∷ es) all =
      ap (λ (b : Bool). if b then e ∷ brought_by loader es else brought_by loader es) (test_of loader e.loader n all.0)
      ∙ decided (loader == n) (all_or_none n es all.1)
    where
      decided : (b : Bool) → brought_by loader es ≡ (if b then es else []) → (if b then e ∷ brought_by loader es else brought_by loader es) ≡ (if b then e ∷ es else [])
      decided true rest = ap (λ l. e ∷ l) rest
      decided false rest = rest

  one_frame : (b : Bool) (es xs : List Entry) (ys : List Event) → xs ≡ frames_of ys → (if b then es else []) ++ xs ≡ frames_of (if b then Broke es ∷ ys else ys)
  one_frame true es xs ys same = ap (λ l. es ++ l) same
  one_frame false es xs ys same = same

  no_frame : (b : Bool) (e : Entry) (ys : List Event) → frames_of (if b then Committed e ∷ ys else ys) ≡ frames_of ys
  no_frame true e ys = refl
  no_frame false e ys = refl

  -- a loader's entries in the frames are those of the frames under its number
  pub framed : (later : List (Numbered Event)) → Owned callers later → brought_by loader (frames_of (items later)) ≡ frames_of (items_by (Some loader) later)
  framed _ NoItem = refl
  framed _ (OneMore n (Committed e) rest lt is own) = framed rest own ∙ sym (no_frame (loader == n) e (items_by (Some loader) rest))
  framed _ (OneMore n (Broke es) rest lt is own) =
      let xs = brought_by loader (frames_of (items rest)) in
      filter-append (λ (e : Entry). e.loader == loader) es (frames_of (items rest))
      ∙ (ap (λ l. l ++ xs) (all_or_none n es is) ∙ one_frame (loader == n) es xs (items_by (Some loader) rest) (framed rest own))

module _ (callers : ℕ) where
  all_append : {X : Type 0} (P : X → Type 0) (xs ys : List X) → AllByRecursion P xs → AllByRecursion P ys → AllByRecursion P (xs ++ ys)
  all_append P [] ys p q = q
  all_append P (x ∷ xs) ys p q = (p.0, all_append P xs ys p.1 q)

  abbrev pub IsBelow : Entry → Type 0
  IsBelow e = e.loader < callers

  all_below : (n : ℕ) (es : List Entry) → n < callers → AllByRecursion (IsOfLoader n) es → AllByRecursion IsBelow es
  all_below n [] lt all = tt
  all_below n (e ∷ es) lt all = (omega (arith, all.0, lt), all_below n es lt all.1)

  -- all are of some number's loader
  pub entries_below : (later : List (Numbered Event)) → Owned callers later → AllByRecursion IsBelow (entries_of (items later))
  entries_below _ NoItem = tt
  entries_below _ (OneMore n (Committed e) rest lt is own) = (omega (arith, is, lt), entries_below rest own)
  entries_below _ (OneMore n (Broke es) rest lt is own) = entries_below rest own

  pub frames_below : (later : List (Numbered Event)) → Owned callers later → AllByRecursion IsBelow (frames_of (items later))
  frames_below _ NoItem = tt
  frames_below _ (OneMore n (Committed e) rest lt is own) = frames_below rest own
  frames_below _ (OneMore n (Broke es) rest lt is own) = all_append IsBelow es (frames_of (items rest)) (all_below n es lt is) (frames_below rest own)
