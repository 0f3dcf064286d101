-- The tasks that files are loaded by. The rules are this project's own.
use Rattle.std.specs.Prelude.{◌≡◌, ℕ, ◌+◌, ◌≤◌, List, [], ◌∷◌, Option, None, vec_capacity}
use Rattle.std.specs.List.{flat_map}
use Rattle.std.specs.Option.{option_to_list}
use Rattle.catalogue_lock.specs.Passes.{Pass}
use Rattle.loader_workers.specs.declared.dealing.Reserved.{Reserved}
use Rattle.loader_workers.specs.declared.input.InputFile.{InputFile}
use Rattle.loader_workers.specs.declared.result.FileResult.{FileResult}
use Rattle.loader_workers.specs.declared.task.FileTask.{FileTask}

module _ {O S E C R Q A : Type 0} where
  -- the task of loading this file with this pass and loader, which has no result yet
  abbrev pub task_of : ℕ → Pass O E → InputFile S → FileTask O S E C R Q A
  task_of loader pass file = record { file = file; pass = pass; loader = loader; result = None }

  -- A task for each file, in their order: its pass is the one of its place, and the first of these files has that loader.
  abbrev pub tasks_from : ℕ → List (Pass O E) → List (InputFile S) → List (FileTask O S E C R Q A)
  tasks_from loader [] files = []
  tasks_from loader (pass ∷ passes) [] = []
  tasks_from loader (pass ∷ passes) (file ∷ files) = task_of loader pass file ∷ tasks_from (loader + 1) passes files

  -- the tasks that are at these places
  abbrev pub tasks_in : List (Option (FileTask O S E C R Q A)) → List (FileTask O S E C R Q A)
  tasks_in places = flat_map (λ place. option_to_list place) places

  -- the results of those that have one
  abbrev pub results_of : List (FileTask O S E C R Q A) → List FileResult
  results_of tasks = flat_map (λ task. option_to_list task.result) tasks

  -- nothing is in it yet, and there is room for so many files and passes
  pub record IsReserved (reserved : Reserved O S E C R Q A) (count passes_count : ℕ) : Type 0 where
    pub places : (reserved.places.items ≡ []) × (count ≤ vec_capacity reserved.places)
    pub files : (reserved.files.items ≡ []) × (count ≤ vec_capacity reserved.files)
    pub passes : (reserved.passes.items ≡ []) × (passes_count ≤ vec_capacity reserved.passes)
    pub results : (reserved.results.items ≡ []) × (count ≤ vec_capacity reserved.results)
