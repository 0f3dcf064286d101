-- The mark of a device that failed.
use Rattle.std.proofs.Common.{◌≡◌, ℕ, ◌<◌, ◌==◌, Bool, true, false, List, [], ◌∷◌, ◌++◌, Option, Some, None, if◌then◌else◌, append-nil, refl, ap}
use Rattle.std.specs.Prelude.{is_some}
use Rattle.std.proofs.lemmas.Bool.{or_parts}
use Rattle.marc_types.specs.declared.entry.Entry.{Entry}
use Rattle.entry_history.specs.Events.{entries_of, committed, is_broken, is_mark}
use Rattle.entry_history.specs.declared.event.Event.{Event}
use Rattle.entry_history.specs.declared.event.Event.TheVariants.{Committed, Broke}
use Rattle.catalogue_lock.specs.declared.view.Numbered.{Numbered}
use Rattle.catalogue_lock.specs.History.{items, items_by}
use Rattle.durable_catalogue.specs.Durables.{marked, events}
use Rattle.loader_workers.proofs.Owned.{Owned, NoItem, OneMore, chosen}
use Rattle.loader_workers.proofs.Loaders.{frames_of}

-- what stands in the events of a catalogue
pub entries_in : (entries : List Entry) (mark : Option (List Entry)) → entries_of (events entries mark) ≡ entries
entries_in [] None = refl
entries_in [] (Some frame) = refl
entries_in (e ∷ es) mark = ap (λ l. e ∷ l) (entries_in es mark)

pub frames_in : (entries : List Entry) (mark : Option (List Entry)) → frames_of (events entries mark) ≡ marked mark
frames_in [] None = refl
frames_in [] (Some frame) = append-nil frame
frames_in (e ∷ es) mark = frames_in es mark

pub broken_in : (entries : List Entry) (mark : Option (List Entry)) → is_broken (events entries mark) ≡ is_some mark
broken_in [] None = refl
broken_in [] (Some frame) = refl
broken_in (e ∷ es) mark = broken_in es mark

rest_whole : (b : Bool) (event : Event) (rest : List Event) → is_broken (if b then event ∷ rest else rest) ≡ false → is_broken rest ≡ false
rest_whole true event rest whole = (or_parts (is_mark event) (is_broken rest) whole).1
rest_whole false event rest whole = whole

-- where no number has a mark there is none
pub no_mark : (callers : ℕ) (later : List (Numbered Event)) → Owned callers later → ((n : ℕ) → n < callers → is_broken (items_by (Some n) later) ≡ false)
    → is_broken (items later) ≡ false
no_mark callers _ NoItem none = refl
no_mark callers _ (OneMore n (Committed e) rest lt is own) none =
    no_mark callers rest own (λ k below. rest_whole (k == n) (Committed e) (items_by (Some k) rest) (none k below))
no_mark callers _ (OneMore n (Broke es) rest lt is own) none =
    absurd (cc (none n lt, ap is_broken (chosen n (Broke es) (items_by (Some n) rest))))

-- behind committed entries
pub entries_behind : (es : List Entry) (marks : List Event) → entries_of marks ≡ [] → entries_of (committed es ++ marks) ≡ es
entries_behind [] marks none = none
entries_behind (e ∷ es) marks none = ap (λ l. e ∷ l) (entries_behind es marks none)

pub frames_behind : (es : List Entry) (marks : List Event) → frames_of (committed es ++ marks) ≡ frames_of marks
frames_behind [] marks = refl
frames_behind (e ∷ es) marks = frames_behind es marks

pub broken_behind : (es : List Entry) (marks : List Event) → is_broken (committed es ++ marks) ≡ is_broken marks
broken_behind [] marks = refl
broken_behind (e ∷ es) marks = broken_behind es marks

pub no_mark_told : (mark : Option (List Entry)) → is_some mark ≡ false → mark ≡ None
no_mark_told None told = refl
no_mark_told (Some frame) told = absurd (cc told)
