-- What loading many files side by side does. The rules are this project's own.
use Rattle.std.specs.Prelude.{◌≡◌, ℕ, ◌+◌, ◌^◌, List, [], ◌∷◌, Option, Some, IsTrue}
use Rattle.marc_types.specs.Valid.{is_code}
use Rattle.entry_history.specs.Commits.{Origin}
use Rattle.entry_history.specs.declared.event.Event.{Event}
use Rattle.catalogue_lock.specs.Passes.{Lock, Pass}
use Rattle.loader_workers.specs.Turns.{Replies, CommitsAs, CanTurn, HasTurned}
use Rattle.loader_workers.specs.Loading.{CountsFaults, LoadsOneFile, unread}
use Rattle.loader_workers.specs.declared.result.FileResult.{FileResult}
use Rattle.loader_workers.specs.declared.task.FileTask.{FileTask}

-- the pass can make a loader's turns at this lock, and the code is proper
pub record CanLoad {O : Type 0} (lock : Lock O) (pass : Pass O Event) (code : List ℕ) : Type 0 where
  pub turns : CanTurn lock pass (2 ^ 30)
  pub proper : IsTrue (is_code code)

-- What loading the file of a task did: it has a result, which says what of the file is committed, counted and refused, and what its
-- end means. Its pass can be used again, its file comes back, and its source's count of faults rose where that failed.
pub record LoadsTask {O S C R Q A : Type 0} (replies : Replies) (left : S → Option (List ℕ)) (bound faults : S → ℕ) (old new : FileTask O S Event C R Q A) : Type 0 where
  pub result : FileResult
  pub told : new.result ≡ Some result
  pub loads : (origin : Origin) → CommitsAs replies origin
      → LoadsOneFile origin (unread (left old.file.source) (bound old.file.source) (faults old.file.source) old.file.code old.loader) (left new.file.source)
      old.pass new.pass result
  pub pass : HasTurned old.pass new.pass (2 ^ 27 + 1)
  pub code : new.file.code ≡ old.file.code
  pub loader : new.loader ≡ old.loader
  pub faults_are : CountsFaults (faults old.file.source) (faults new.file.source) result.end

module _ {J : Type 0} where
  -- such a task is at the place
  pub record HasTask (Is : J → Type 0) (place : Option J) : Type 0 where
    pub task : J
    pub there : place ≡ Some task
    pub is : Is task

  -- the task was done, and is at its place again
  pub record IsDone (Did : J → J → Type 0) (before after : Option J) : Type 0 where
    pub task : J
    pub new : J
    pub was : before ≡ Some task
    pub is : after ≡ Some new
    pub did : Did task new

  -- each task was done, and is at its place
  pub data Each (Did : J → J → Type 0) : List (Option J) → List (Option J) → Type 0 where
    NoTask : Each Did [] []
    NextTask : (before after : List (Option J)) (task new : J) → Did task new → Each Did before after → Each Did (Some task ∷ before) (Some new ∷ after)
