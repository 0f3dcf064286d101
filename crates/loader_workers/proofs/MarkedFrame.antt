-- The frame that a device failed to take is of one file.
use Rattle.std.proofs.Common.{◌≡◌, ℕ, ◌<◌, List, [], ◌∷◌, ◌++◌, Option, Some, None, subst}
use Rattle.std.specs.List.{AllByRecursion}
use Rattle.std.proofs.lemmas.List.Elements.{All-nil, All-from_recursion}
use Rattle.marc_types.specs.declared.entry.Entry.{Entry}
use Rattle.entry_history.specs.Events.{committed}
use Rattle.entry_history.specs.declared.event.Event.{Event}
use Rattle.entry_history.specs.declared.event.Event.TheVariants.{Committed, Broke}
use Rattle.catalogue_lock.specs.declared.view.Numbered.{Numbered}
use Rattle.catalogue_lock.specs.History.{items}
use Rattle.durable_catalogue.specs.Durables.{marked, marks}
use Rattle.loader_workers.specs.Files.{AreOfOneFile}
use Rattle.loader_workers.proofs.Owned.{IsOfLoader, Owned, NoItem, OneMore}

module _ (callers : ℕ) (some : 0 < callers) where
  of_none : AreOfOneFile callers []
  of_none = record { loader = 0; below = some; all = All-nil (λ (e : Entry). e.loader ≡ 0) }

  -- no item is left
  at_end : (xs : List Entry) (mark : Option (List Entry)) → [] ≡ committed xs ++ marks mark → AreOfOneFile callers (marked mark)
  at_end xs None is = of_none
  at_end [] (Some frame) is = absurd (cc is)
  at_end (x ∷ xs) (Some frame) is = absurd (cc is)

  -- a committed entry comes next
  behind_entry : (e : Entry) (rest : List Event) (xs : List Entry) (mark : Option (List Entry)) → Committed e ∷ rest ≡ committed xs ++ marks mark
      → ((ys : List Entry) → rest ≡ committed ys ++ marks mark → AreOfOneFile callers (marked mark)) → AreOfOneFile callers (marked mark)
  behind_entry e rest xs None is later = of_none
  behind_entry e rest [] (Some frame) is later = absurd (cc is)
  behind_entry e rest (x ∷ xs) (Some frame) is later = let same : rest ≡ committed xs ++ marks (Some frame) = cc is in later xs same

  -- the mark comes next
  at_mark : (n : ℕ) (es : List Entry) (rest : List Event) (xs : List Entry) (mark : Option (List Entry)) → n < callers → AllByRecursion (IsOfLoader n) es
      → Broke es ∷ rest ≡ committed xs ++ marks mark → AreOfOneFile callers (marked mark)
  at_mark n es rest xs None below all is = of_none
  at_mark n es rest (x ∷ xs) (Some frame) below all is = absurd (cc is)
  at_mark n es rest [] (Some frame) below all is =
      let same : es ≡ frame = cc is in
      record { loader = n; below = below; all = All-from_recursion (λ (e : Entry). e.loader ≡ n) frame (subst (AllByRecursion (IsOfLoader n)) same all) }

  -- the frame of a mark that stands behind committed entries
  pub of_one_file : (mark : Option (List Entry)) (later : List (Numbered Event)) → Owned callers later → (xs : List Entry)
      → items later ≡ committed xs ++ marks mark → AreOfOneFile callers (marked mark)
  of_one_file mark _ NoItem xs is = at_end xs mark is
  of_one_file mark _ (OneMore n (Committed e) rest lt by own) xs is = behind_entry e (items rest) xs mark is (of_one_file mark rest own)
  of_one_file mark _ (OneMore n (Broke es) rest lt by own) xs is = at_mark n es (items rest) xs mark lt by is
