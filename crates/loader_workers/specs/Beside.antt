-- What is done side by side while files are loaded. The rules are this project's own.
use Rattle.std.specs.Prelude.{◌+◌, ◌<◌, ◌^◌, ℕ, List, length, slice_index_or, All, Option}
use Rattle.marc_types.specs.declared.entry.Entry.{Entry}
use Rattle.entry_history.specs.declared.event.Event.{Event}
use Rattle.catalogue_lock.specs.Passes.{Lock}
use Rattle.loader_workers.specs.Turns.{Replies}
use Rattle.loader_workers.specs.SideBySide.{CanLoad, LoadsTask, HasTask, Each}
use Rattle.loader_workers.specs.Following.{Answers, CanFollow, HasFollowed}
use Rattle.loader_workers.specs.declared.beside.Work.{Work}
use Rattle.loader_workers.specs.declared.beside.Work.TheVariants.{Follow, Page, Load}

module _ {O S T P C R Q A : Type 0} where
  -- the follower can follow, the pager page, and each task be done
  abbrev pub CanWork : (T → List Entry) → (T → Type 0) → (P → Type 0) → Answers → Lock O → Work O S T P Event C R Q A → Type 0
  CanWork taken takes can_page answers lock (Follow follower) = CanFollow taken takes answers (2 ^ 30 + 1) lock follower.pass follower.taker
  CanWork taken takes can_page answers lock (Page pager) = can_page pager
  CanWork taken takes can_page answers lock (Load places) = All (HasTask (λ task. CanLoad lock task.pass task.file.code)) places.items

  -- it did
  abbrev pub HasWorked : (T → List Entry) → (T → Type 0) → (P → P → Type 0) → Replies → (S → Option (List ℕ)) → (S → ℕ) → (S → ℕ)
      → Work O S T P Event C R Q A → Work O S T P Event C R Q A → Type 0
  HasWorked taken takes has_paged replies left bound faults (Follow old) (Follow new) = HasFollowed taken takes old.pass new.pass old.taker new.taker new.told
  HasWorked taken takes has_paged replies left bound faults (Page old) (Page new) = has_paged old new
  HasWorked taken takes has_paged replies left bound faults (Load old) (Load new) = Each (LoadsTask replies left bound faults) old.items new.items
  HasWorked taken takes has_paged replies left bound faults (Follow old) (Page new) = ⊥
  HasWorked taken takes has_paged replies left bound faults (Follow old) (Load new) = ⊥
  HasWorked taken takes has_paged replies left bound faults (Page old) (Follow new) = ⊥
  HasWorked taken takes has_paged replies left bound faults (Page old) (Load new) = ⊥
  HasWorked taken takes has_paged replies left bound faults (Load old) (Follow new) = ⊥
  HasWorked taken takes has_paged replies left bound faults (Load old) (Page new) = ⊥

  -- each of a list did
  abbrev pub HaveWorked : (T → List Entry) → (T → Type 0) → (P → P → Type 0) → Replies → (S → Option (List ℕ)) → (S → ℕ) → (S → ℕ)
      → List (Work O S T P Event C R Q A) → List (Work O S T P Event C R Q A) → Type 0
  HaveWorked taken takes has_paged replies left bound faults before after = (k : ℕ) (d : Work O S T P Event C R Q A) → k < length before
      → HasWorked taken takes has_paged replies left bound faults (slice_index_or before k d) (slice_index_or after k d)
