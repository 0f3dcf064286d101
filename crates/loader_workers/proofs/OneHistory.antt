-- The one history of a lock at its end, behind what the catalogue brought.
use Rattle.std.proofs.Common.{◌≡◌, ◌∙◌, ℕ, ◌<◌, ◌||◌, List, [], ◌∷◌, ◌++◌, Option, Some, None, append-nil, refl, sym, ap, subst}
use Rattle.std.specs.Prelude.{is_some}
use Rattle.std.specs.List.{AllByRecursion}
use Rattle.std.proofs.lemmas.Grind.{flat_map-append}
use Rattle.std.proofs.lemmas.List.{append_cancel_left}
use Rattle.std.proofs.lemmas.List.Folds.{list_any-append}
use mathlib.Core.List.{IsPrefix}
use Rattle.marc_types.specs.declared.entry.Entry.{Entry}
use Rattle.entry_history.specs.Events.{entries_of, is_broken, is_mark, committed, committed_entries}
use Rattle.entry_history.specs.declared.event.Event.{Event}
use Rattle.entry_history.specs.declared.event.Event.TheVariants.{Committed}
use Rattle.catalogue_lock.specs.declared.view.Numbered.{Numbered}
use Rattle.catalogue_lock.specs.History.{items, numbered, items_by}
use Rattle.catalogue_lock.specs.Passes.{Pass, Closed}
use Rattle.catalogue_lock.proofs.Numbers.{items_by-append, items_by-own, items_by-other, items-append, items-numbered}
use Rattle.catalogue_lock.proofs.Prefixes.{prefix_trans}
use Rattle.durable_catalogue.specs.Durables.{marked, marks, events}
use Rattle.loader_workers.proofs.Owned.{IsBy, Owned, owned}
use Rattle.loader_workers.proofs.Loaders.{frame_entries, frames_of}
use Rattle.loader_workers.proofs.Marks.{entries_in, frames_in, broken_in}
use Rattle.loader_workers.proofs.Tasks.{all_at}

-- what a catalogue of these entries brings
abbrev pub brought : List Entry → List (Numbered Event)
brought before = numbered None (events before None)

-- The history is what the catalogue brought and this later part, and these entries and this mark are what it comes to.
pub record IsOneHistory (callers : ℕ) (before after : List Entry) (mark : Option (List Entry)) (history later : List (Numbered Event)) : Type 0 where
  pub split : history ≡ brought before ++ later
  pub after_is : after ≡ before ++ entries_of (items later)
  pub entries : entries_of (items history) ≡ after
  pub frames : frames_of (items later) ≡ marked mark
  pub broken : is_broken (items history) ≡ is_some mark
  pub broken_later : is_broken (items later) ≡ is_some mark
  pub own : (n : ℕ) → items_by (Some n) history ≡ items_by (Some n) later
  pub owned_is : Owned callers later
  pub mark_last : items later ≡ committed (entries_of (items later)) ++ marks mark

-- the events of entries behind others
events_behind : (before more : List Entry) (mark : Option (List Entry)) → events (before ++ more) mark ≡ events before None ++ (committed more ++ marks mark)
events_behind [] more mark = refl
events_behind (e ∷ before) more mark = ap (λ l. Committed e ∷ l) (events_behind before more mark)

module _ (before : List Entry) (history later : List (Numbered Event)) (split : history ≡ brought before ++ later) where
  all_items : items history ≡ events before None ++ items later
  all_items = ap items split ∙ (items-append (brought before) later ∙ ap (λ l. l ++ items later) (items-numbered None (events before None)))

  all_entries : entries_of (items history) ≡ before ++ entries_of (items later)
  all_entries =
      ap entries_of all_items
      ∙ (flat_map-append committed_entries (events before None) (items later) ∙ ap (λ l. l ++ entries_of (items later)) (entries_in before None))

  all_frames : frames_of (items history) ≡ frames_of (items later)
  all_frames =
      ap frames_of all_items
      ∙ (flat_map-append frame_entries (events before None) (items later) ∙ ap (λ l. l ++ frames_of (items later)) (frames_in before None))

  all_broken : is_broken (items history) ≡ is_broken (items later)
  all_broken =
      ap is_broken all_items
      ∙ (list_any-append is_mark (events before None) (items later) ∙ ap (λ b. b || is_broken (items later)) (broken_in before None))

  all_own : (n : ℕ) → items_by (Some n) history ≡ items_by (Some n) later
  all_own n =
      ap (items_by (Some n)) split
      ∙ (items_by-append (Some n) (brought before) later ∙ ap (λ l. l ++ items_by (Some n) later) (items_by-other (Some n) None (events before None) refl))

  last_mark : (after : List Entry) (mark : Option (List Entry)) → items history ≡ events after mark → after ≡ before ++ entries_of (items later)
      → items later ≡ committed (entries_of (items later)) ++ marks mark
  last_mark after mark whole after_is =
      append_cancel_left (events before None) (items later) (committed (entries_of (items later)) ++ marks mark)
      (sym all_items ∙ (whole ∙ (ap (λ es. events es mark) after_is ∙ events_behind before (entries_of (items later)) mark)))

  none_else : items_by None history ≡ events before None → items_by None later ≡ []
  none_else is =
      append_cancel_left (events before None) (items_by None later) []
      (ap (λ l. l ++ items_by None later) (sym (items_by-own None (events before None)))
      ∙ (sym (items_by-append None (brought before) later) ∙ (ap (items_by None) (sym split) ∙ (is ∙ sym (append-nil (events before None))))))

module _ {O : Type 0} where
  -- what makes a pass's items those of its loader, behind what the catalogue brought
  pub record IsFair (before : List Entry) (p : Pass O Event) : Type 0 where
    pub begins : IsPrefix (brought before) p.seen
    pub own : AllByRecursion (IsBy p.number) p.added

  module _ (callers : ℕ) (passes : List (Pass O Event)) (before after : List Entry) (mark : Option (List Entry))
      (closed : Closed callers passes (events before None) (events after mark)) (fair : AllByRecursion (IsFair before) passes) where
    owned_by : (n : ℕ) → n < callers → AllByRecursion (IsBy n) (items_by (Some n) closed.history)
    owned_by n lt =
        let every = closed.every n lt in
        let p = every.1 in
        let is : items_by (Some n) closed.history ≡ p.added = ap (λ k. items_by (Some k) closed.history) (sym every.3) ∙ closed.own every.0 p every.2 in
        subst (AllByRecursion (IsBy n)) (sym is) (subst (λ k. AllByRecursion (IsBy k) p.added) every.3 (all_at (IsFair before) passes every.0 p fair every.2).own)

    pub begins : 0 < callers → IsPrefix (brought before) closed.history
    begins some =
        let every = closed.every 0 some in
        prefix_trans (brought before) every.1.seen closed.history (all_at (IsFair before) passes every.0 every.1 fair every.2).begins (closed.begins every.0 every.1 every.2)

    pub one_history : (some : 0 < callers) → IsOneHistory callers before after mark closed.history (begins some).0
    one_history some =
        let later = (begins some).0 in
        let split = sym (begins some).1 in
        let whole = closed.whole in
        let entries = ap entries_of whole ∙ entries_in after mark in
        let broken = ap is_broken whole ∙ broken_in after mark in
        let after_is = sym entries ∙ all_entries before closed.history later split in
        record {
          split = split;
          after_is = after_is;
          entries = entries;
          frames = sym (all_frames before closed.history later split) ∙ (ap frames_of whole ∙ frames_in after mark);
          broken = broken;
          broken_later = sym (all_broken before closed.history later split) ∙ broken;
          own = all_own before closed.history later split;
          owned_is = owned callers later (none_else before closed.history later split closed.unnumbered)
              (λ n le. sym (all_own before closed.history later split n) ∙ closed.nobody n le)
              (λ n lt. subst (AllByRecursion (IsBy n)) (all_own before closed.history later split n) (owned_by n lt));
          mark_last = last_mark before closed.history later split after mark whole after_is;
        }
