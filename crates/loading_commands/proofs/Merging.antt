-- Files that were loaded whole make one history.
use Rattle.std.proofs.Common.{◌≡◌, ℕ, ◌+◌, suc, zero, Bool, true, false, ◌||◌, List, [], ◌∷◌, ◌++◌, length, slice_get, Some, None, refl, sym, ap, subst, ◌∙◌, arith, append_assoc, append-nil}
use Rattle.std.specs.Prelude.{nat_lt}
use Rattle.std.specs.Prelude.{if◌then◌else◌}
use Rattle.std.specs.List.{AllByRecursion}
use Rattle.marc_types.specs.declared.entry.Entry.{Entry}
use Rattle.marc_types.specs.declared.entry.Limits.{Limits}
use Rattle.marc_types.specs.declared.entry.Receipt.{Receipt}
use Rattle.outside.specs.Room.{RoomView}
use Rattle.command_words.specs.declared.library.Library.{Library}
use Rattle.marc_stream.specs.Pieces.{items}
use Rattle.file_entries.specs.Files.{IsJudged}
use Rattle.file_entries.specs.declared.refused.RefusedItem.{RefusedItem}
use Rattle.entry_record.specs.History.{brought_by, with_run, next_run}
use Rattle.catalogue_rules.specs.Receipts.{receipts_of_loader}
use Rattle.console_lines.specs.Lines.{refused_lines, totals_line}
use Rattle.console_lines.specs.Totals.{totals_of}
use Rattle.marc_types.specs.Sums.{sums_of}
use Rattle.console_lines.specs.declared.fault.Fault.{Fault}
use Rattle.console_lines.specs.declared.fault.Fault.TheVariants as fault
use Rattle.loader_workers.specs.declared.file_end.FileEnd.{FileEnd}
use Rattle.loader_workers.specs.declared.file_end.FileEnd.TheVariants as end
use Rattle.loader_workers.specs.declared.result.FileResult.{FileResult}
use Rattle.loader_workers.specs.Files.{IsFileLoaded, IsEndOfFile}
use Rattle.loading_commands.specs.Outcomes.{AreLibrariesLoaded, NoLibrary, OneLibrary, ends_so, any_ends, loading_fault}
use Rattle.loading_commands.specs.Merged.{AreJudged, NoFile, OneFile}
use Rattle.loading_commands.specs.Console.{refused_part, totals_part, any_refused}
use Rattle.loading_commands.specs.Texts.{totals_in, refused_text, totals_text, has_refused}

faultless : (a b c d : Bool) (w x y z : Fault) → (if a then Some w else if b then Some x else if c then Some y else if d then Some z else None) ≡ None
    → (a ≡ false) × (b ≡ false) × (c ≡ false) × (d ≡ false)
faultless true b c d w x y z is = cc
faultless false true c d w x y z is = cc
faultless false false true d w x y z is = cc
faultless false false false true w x y z is = cc
faultless false false false false w x y z is = (refl, refl, refl, refl)

ends_behind : (is e : FileEnd) (r : FileResult) (rs : List FileResult) → r.end ≡ e → any_ends is (r ∷ rs) ≡ false → ends_so is e || any_ends is rs ≡ false
ends_behind is e r rs at none = sym (ap (λ x. ends_so is x || any_ends is rs) at) ∙ none

module _ (r : FileResult) (rs : List FileResult) where
  first_done : (any_ends end.DeviceFault rs ≡ false → any_ends end.Full rs ≡ false → any_ends end.ReadFault rs ≡ false → any_ends end.NoMemory rs ≡ false
      → AllByRecursion (λ (r : FileResult). r.end ≡ end.Done) rs)
      → any_ends end.DeviceFault (r ∷ rs) ≡ false → any_ends end.Full (r ∷ rs) ≡ false → any_ends end.ReadFault (r ∷ rs) ≡ false → any_ends end.NoMemory (r ∷ rs) ≡ false
      → AllByRecursion (λ (r : FileResult). r.end ≡ end.Done) (r ∷ rs)
  first_done later a b c d = decided r.end refl
    where
      decided : (e : FileEnd) → r.end ≡ e → AllByRecursion (λ (r : FileResult). r.end ≡ end.Done) (r ∷ rs)
      decided end.Done at = (
        at,
        later (ends_behind end.DeviceFault end.Done r rs at a) (ends_behind end.Full end.Done r rs at b) (ends_behind end.ReadFault end.Done r rs at c)
            (ends_behind end.NoMemory end.Done r rs at d),
      )
      decided end.DeviceFault at = let no = ends_behind end.DeviceFault end.DeviceFault r rs at a in cc
      decided end.Full at = let no = ends_behind end.Full end.Full r rs at b in cc
      decided end.ReadFault at = let no = ends_behind end.ReadFault end.ReadFault r rs at c in cc
      decided end.NoMemory at = let no = ends_behind end.NoMemory end.NoMemory r rs at d in cc

each_done : (rs : List FileResult) → any_ends end.DeviceFault rs ≡ false → any_ends end.Full rs ≡ false → any_ends end.ReadFault rs ≡ false → any_ends end.NoMemory rs ≡ false
    → AllByRecursion (λ (r : FileResult). r.end ≡ end.Done) rs
each_done [] a b c d = tt
each_done (r ∷ rs) a b c d = first_done r rs (each_done rs) a b c d

-- each result is that of a file that was loaded whole
pub all_done : (results : List FileResult) → loading_fault results ≡ None → AllByRecursion (λ (r : FileResult). r.end ≡ end.Done) results
unfolding loading_fault
all_done results none =
    let f = faultless (any_ends end.DeviceFault results) (any_ends end.Full results) (any_ends end.ReadFault results) (any_ends end.NoMemory results) fault.Device fault.Full fault.Input fault.Memory none in
    each_done results f.0 f.1 f.2 f.3

-- the lists of the files of these libraries, of which the first is loaded by that loader, and what is made of them
pub record Merges (room : RoomView) (before added : List Entry) (loader : ℕ) (libraries : List Library) (results : List FileResult) : Type 0 where
  pub accepted : List (List Entry)
  pub refused : List (List RefusedItem)
  pub judged : AreJudged room loader libraries accepted refused
  pub brought : (k : ℕ) (entries : List Entry) → slice_get accepted k ≡ Some entries → brought_by (loader + k) added ≡ with_run (next_run before) entries
  pub count : length accepted ≡ length libraries
  pub refused_is : refused_text libraries results ≡ refused_part libraries refused
  pub totals_is : totals_text libraries results ≡ totals_part before added loader libraries accepted refused
  pub any_is : has_refused results ≡ any_refused refused

-- a file whose loading was done
record Whole (before added : List Entry) (code bytes : List ℕ) (loader : ℕ) (r : FileResult) : Type 0 where
  pub front : List Entry
  pub judged : IsJudged code loader (items bytes) front r.refused
  pub brought : brought_by loader added ≡ with_run (next_run before) front
  pub totals : totals_in r ≡ totals_of front r.refused (receipts_of_loader loader before added)

same_totals : (r : FileResult) (front : List Entry) (receipts : List Receipt) → r.accepted ≡ length front → r.sums ≡ sums_of receipts
    → totals_in r ≡ totals_of front r.refused receipts
same_totals r front receipts accepted sums = λ i. record { accepted = accepted i; refused = length r.refused; sums = sums i }

whole_file : (limits : Limits) (before added : List Entry) (code bytes : List ℕ) (loader : ℕ) (r : FileResult) → r.end ≡ end.Done
    → IsFileLoaded limits before added None code bytes loader r → Whole before added code bytes loader r
whole_file limits before added code bytes loader r is f =
    let ends : IsEndOfFile limits (before ++ added) (next_run before) None end.Done (f.next ++ f.more) f.coming =
    subst (λ e. IsEndOfFile limits (before ++ added) (next_run before) None e (f.next ++ f.more) f.coming) is f.ends in
    let all : items bytes ≡ f.done = f.split ∙ ap (λ c. f.done ++ c) ends.1 ∙ append-nil f.done in
    let front : f.front ++ f.next ++ f.more ≡ f.front = append_assoc f.front f.next f.more ∙ ap (λ c. f.front ++ c) ends.0 ∙ append-nil f.front in
    record {
      front = f.front;
      judged = subst (λ is. IsJudged code loader is f.front r.refused) (sym all) (subst (λ es. IsJudged code loader f.done es r.refused) front f.judged);
      brought = f.committed_are;
      totals = same_totals r f.front (receipts_of_loader loader before added) f.accepted f.sums;
    }

module _ (room : RoomView) (before added : List Entry) where
  pub merges : (loader : ℕ) (libraries : List Library) (results : List FileResult) → AreLibrariesLoaded room before added None loader libraries results
      → AllByRecursion (λ (r : FileResult). r.end ≡ end.Done) results → Merges room before added loader libraries results
  unfolding refused_part totals_part refused_text totals_text
  merges _ _ _ (NoLibrary loader) done = record {
    accepted = [];
    refused = [];
    judged = NoFile loader;
    brought = λ k entries at. cc;
    count = refl;
    refused_is = refl;
    totals_is = refl;
    any_is = refl;
  }
  merges _ _ _ (OneLibrary loader libraries results l r one more) (is, done) =
      let rest = merges (loader + 1) libraries results more done in
      let w = whole_file _ before added l.code one.bytes loader r is one.loaded in
      record {
        accepted = w.front ∷ rest.accepted;
        refused = r.refused ∷ rest.refused;
        judged = OneFile loader l one.bytes w.front r.refused libraries rest.accepted rest.refused one.there w.judged rest.judged;
        brought = first_or_later loader w.front rest.accepted w.brought rest.brought;
        count = ap suc rest.count;
        refused_is = ap (λ text. refused_lines l.file r.refused ++ text) rest.refused_is;
        totals_is = ap (λ t. totals_line l.file t ++ totals_text libraries results) w.totals
            ∙ ap (λ text. totals_line l.file (totals_of w.front r.refused (receipts_of_loader loader before added)) ++ text) rest.totals_is;
        any_is = ap (λ any. nat_lt 0 (length r.refused) || any) rest.any_is;
      }
    where
      first_or_later : (loader : ℕ) (first : List Entry) (later : List (List Entry)) → brought_by loader added ≡ with_run (next_run before) first
          → ((k : ℕ) (entries : List Entry) → slice_get later k ≡ Some entries → brought_by (loader + 1 + k) added ≡ with_run (next_run before) entries)
          → (k : ℕ) (entries : List Entry) → slice_get (first ∷ later) k ≡ Some entries → brought_by (loader + k) added ≡ with_run (next_run before) entries
      first_or_later loader first later one more zero entries at =
          let same : first ≡ entries = cc in
          subst (λ n. brought_by n added ≡ with_run (next_run before) entries) (omega arith) (subst (λ es. brought_by loader added ≡ with_run (next_run before) es) same one)
      first_or_later loader first later one more (suc k) entries at =
          subst (λ n. brought_by n added ≡ with_run (next_run before) entries) (omega arith) (more k entries at)
