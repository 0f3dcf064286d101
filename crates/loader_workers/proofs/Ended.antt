-- What a file's end says of the entries that are left and of the marks that its pass added.
use Rattle.std.proofs.Common.{◌≡◌, ◌≢◌, ◌∙◌, ℕ, ◌+◌, ◌≤◌, ◌||◌, Bool, true, false, List, [], ◌∷◌, ◌++◌, length, Option, append-nil, refl, sym, ap, subst, arith, length-append}
use Rattle.std.specs.Prelude.{is_some, nat_lt}
use Rattle.std.specs.List.{AllByRecursion}
use Rattle.std.proofs.lemmas.Bool.Decides.{nat_tests}
use Rattle.std.proofs.lemmas.List.Sums.{sum_by-append}
use Rattle.marc_types.specs.declared.entry.Entry.{Entry}
use Rattle.marc_types.specs.declared.entry.Limits.{Limits}
use Rattle.marc_stream.specs.Pieces.{Item}
use Rattle.entry_record.specs.History.{in_run, with_run, entry_size, entries_size, passes_limits}
use Rattle.entry_history.specs.Commits.{Origin}
use Rattle.entry_history.specs.Events.{entries_of, is_broken, committed}
use Rattle.entry_history.specs.declared.event.Event.{Event}
use Rattle.file_entries.specs.Files.{IsJudged, NoItem, Accepts, Refuses}
use Rattle.file_entries.specs.declared.refused.RefusedItem.{RefusedItem}
use Rattle.loader_workers.specs.Turns.{IsMarkOf, NoMark, OneMark, IsEndOf}
use Rattle.loader_workers.specs.Loading.{IsReadTo}
use Rattle.loader_workers.specs.declared.file_end.FileEnd.{FileEnd}
use Rattle.loader_workers.specs.declared.file_end.FileEnd.TheVariants.{Done, ReadFault, Full, DeviceFault, NoMemory}
use Rattle.loader_workers.specs.Files.{IsEndOfFile}
use Rattle.loader_workers.proofs.Owned.{IsOfLoader, IsBy}
use Rattle.loader_workers.proofs.Loaders.{frames_of}

all_push : {X : Type 0} (P : X → Type 0) (xs : List X) (x : X) → AllByRecursion P xs → P x → AllByRecursion P (xs ++ x ∷ [])
all_push P [] x all p = (p, tt)
all_push P (y ∷ xs) x all p = (all.0, all_push P xs x all.1 p)

module _ (loader : ℕ) where
  all_front_of : (xs ys : List Entry) → AllByRecursion (IsOfLoader loader) (xs ++ ys) → AllByRecursion (IsOfLoader loader) xs
  all_front_of [] ys all = tt
  all_front_of (x ∷ xs) ys all = (all.0, all_front_of xs ys all.1)

  all_behind_of : (xs ys : List Entry) → AllByRecursion (IsOfLoader loader) (xs ++ ys) → AllByRecursion (IsOfLoader loader) ys
  all_behind_of [] ys all = all
  all_behind_of (x ∷ xs) ys all = all_behind_of xs ys all.1

  -- all that is accepted of a file is its loader's
  pub judged_by : (library : List ℕ) (is : List Item) (accepted : List Entry) (refused : List RefusedItem) → IsJudged library loader is accepted refused
      → AllByRecursion (IsOfLoader loader) accepted
  judged_by library _ _ _ NoItem = tt
  judged_by library _ _ _ (Accepts is accepted refused item e judged entry) =
      all_push (IsOfLoader loader) accepted e (judged_by library is accepted refused judged) (ap (λ (e : Entry). e.loader) entry.makes.is_new)
  judged_by library _ _ _ (Refuses is accepted refused item refusal judged why) = judged_by library is accepted refused judged

  run_by : (run : ℕ) (es : List Entry) → AllByRecursion (IsOfLoader loader) es → AllByRecursion (IsOfLoader loader) (with_run run es)
  run_by run [] all = tt
  run_by run (e ∷ es) all = (all.0, run_by run es all.1)

  -- what is committed of it, and the marks behind
  pub committed_by : (run : ℕ) (es : List Entry) (marks : List Event) → AllByRecursion (IsOfLoader loader) es → AllByRecursion (IsBy loader) marks
      → AllByRecursion (IsBy loader) (committed (with_run run es) ++ marks)
  committed_by run [] marks all marks_by = marks_by
  committed_by run (e ∷ es) marks all marks_by = (all.0, committed_by run es marks all.1 marks_by)

  -- `next` are the entries of the marks, of those that are left
  pub record HasLeft (run : ℕ) (end : FileEnd) (rest : List Entry) (marks : List Event) : Type 0 where
    pub next : List Entry
    pub more : List Entry
    pub rest_is : rest ≡ next ++ more
    pub frames : frames_of marks ≡ with_run run next
    pub entries : entries_of marks ≡ []
    pub by : AllByRecursion (IsBy loader) marks
    pub whole : end ≢ DeviceFault → is_broken marks ≡ false

  unmarked : (run : ℕ) (end : FileEnd) (rest : List Entry) (marks : List Event) → marks ≡ [] → HasLeft run end rest marks
  unmarked run end rest marks none =
      subst (HasLeft run end rest) (sym none) (record { next = []; more = rest; rest_is = refl; frames = refl; entries = refl; by = tt; whole = λ other. refl })

  marked_so : (run : ℕ) (rest : List Entry) (marks : List Event) → AllByRecursion (IsOfLoader loader) rest → IsMarkOf run rest marks → HasLeft run DeviceFault rest marks
  marked_so run rest marks all (NoMark none) = unmarked run DeviceFault rest marks none
  marked_so run rest marks all (OneMark next more split some is) =
      subst (HasLeft run DeviceFault rest) (sym is) (record {
        next = next;
        more = more;
        rest_is = split;
        frames = append-nil (with_run run next);
        entries = refl;
        by = (run_by run next (all_front_of next more (subst (AllByRecursion (IsOfLoader loader)) split all)), tt);
        whole = λ other. absurd (other refl);
      })

  pub has_left : (origin : Origin) (end : FileEnd) (rest : List Entry) (marks history : List Event) → AllByRecursion (IsOfLoader loader) rest
      → IsEndOf origin end rest marks history → HasLeft origin.run end rest marks
  has_left origin Done rest marks history all ends = unmarked origin.run Done rest marks ends.1
  has_left origin ReadFault rest marks history all ends = unmarked origin.run ReadFault rest marks ends.1
  has_left origin Full rest marks history all ends = unmarked origin.run Full rest marks ends.1
  has_left origin DeviceFault rest marks history all ends = marked_so origin.run rest marks all ends.1
  has_left origin NoMemory rest marks history all ends = unmarked origin.run NoMemory rest marks ends

  pub judged_front : (library : List ℕ) (is : List Item) (front rest : List Entry) (refused : List RefusedItem) → IsJudged library loader is (front ++ rest) refused
      → AllByRecursion (IsOfLoader loader) front
  judged_front library is front rest refused judged = all_front_of front rest (judged_by library is (front ++ rest) refused judged)

  pub judged_rest : (library : List ℕ) (is : List Item) (front rest : List Entry) (refused : List RefusedItem) → IsJudged library loader is (front ++ rest) refused
      → AllByRecursion (IsOfLoader loader) rest
  judged_rest library is front rest refused judged = all_behind_of front rest (judged_by library is (front ++ rest) refused judged)

more_passes : (a b m n m' n' : ℕ) → m ≤ m' → n ≤ n' → (nat_lt a m || nat_lt b n) ≡ true → (nat_lt a m' || nat_lt b n') ≡ true
more_passes a b m n m' n' p q passes = grind (arith, nat_tests)

-- what passes a limit behind some entries does so behind more
still_passes : (limits : Limits) (before more : List Entry) (e : Entry) → passes_limits limits before e ≡ true → passes_limits limits (before ++ more) e ≡ true
still_passes limits before more e passes =
    more_passes limits.entries limits.bytes (length before + 1) (entries_size before + entry_size e) (length (before ++ more) + 1) (entries_size (before ++ more) + entry_size e)
    (omega (arith, length-append before more)) (omega (arith, sum_by-append entry_size before more)) passes

-- an end as it is seen from the end of the one history, of which the pass has seen a front
pub end_of_file : (limits : Limits) (run : ℕ) (end : FileEnd) (rest more : List Entry) (marks seen others : List Event) (after : List Entry) (mark : Option (List Entry))
    (tells : Bool) (start left : Option (List ℕ)) (coming : List Item)
    → IsEndOf (record { limits = limits; run = run }) end rest marks seen → IsReadTo end tells start left coming → tells ≡ true → more ≡ rest
    → after ≡ entries_of seen ++ entries_of others → (is_broken seen ≡ true → is_some mark ≡ true)
    → IsEndOfFile limits after run mark end more coming
end_of_file limits run Done rest more marks seen others after mark tells start left coming ends read told same after_is broken = (same ∙ ends.0, read.0 told)
end_of_file limits run ReadFault rest more marks seen others after mark tells start left coming ends read told same after_is broken = same ∙ ends.0
end_of_file limits run Full rest more marks seen others after mark tells start left coming ends read told same after_is broken =
    let full = ends.0 in
    record {
      next = full.next;
      more = full.more;
      rest_is = same ∙ full.rest_is;
      passes = subst (λ (es : List Entry). passes_limits limits es (in_run run full.next) ≡ true) (sym after_is)
          (still_passes limits (entries_of seen) (entries_of others) (in_run run full.next) full.passes);
    }
end_of_file limits run DeviceFault rest more marks seen others after mark tells start left coming ends read told same after_is broken = broken ends.0
end_of_file limits run NoMemory rest more marks seen others after mark tells start left coming ends read told same after_is broken = tt
