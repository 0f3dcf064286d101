-- How the loading of a file ends.
use Rattle.std.proofs.Common.{◌≡◌, ◌∙◌, ℕ, ◌≤◌, Bool, true, false, List, ◌++◌, Option, Some, None, Err, ap, arith, refl, subst, sym, cond}
use Rattle.marc_types.specs.declared.entry.Entry.{Entry}
use Rattle.marc_types.specs.declared.entry.Limits.{Limits}
use Rattle.outside.specs.Fault.{Rose}
use Rattle.marc_stream.specs.Pieces.{Item, items}
use Rattle.file_entries.specs.Files.{IsEntryOf, IsJudged}
use Rattle.file_entries.specs.Entries.{FileView, IsSameFile, GivesEntry, IsFault, IsAnswered}
use Rattle.file_entries.proofs.Judged.{answered_entry, answered_refused}
use Rattle.console_lines.specs.declared.fault.Fault.{Fault}
use Rattle.console_lines.specs.declared.fault.Fault.TheVariants.{Usage, Input, Device, NotAJournal, Full, Memory, OldVersion, OtherHistory}
use Rattle.plain_commands.specs.Loading.{LoadedView, lacks_room, IsFullAt, IsTakenUp, TakenAsEntry, TakenAsRefused, IsOverfull, TakesNext, LoadsItems, told_items}

-- the next entry doesn't fit
pub full_here : (start now next : FileView) (loaded : LoadedView) (e : Entry) → start.loader ≡ 0 → IsAnswered start now loaded.accepted loaded.refused
    → GivesEntry now next e → lacks_room loaded.limits loaded.accepted e ≡ true → start.stream.tells ≡ true
    → IsFullAt loaded.limits start.library start.stream.coming
unfolding lacks_room
full_here start now next loaded e loader so_far given full told = record {
  done = so_far.done;
  accepted = loaded.accepted;
  refused = loaded.refused;
  judged = subst (λ (n : ℕ). IsJudged start.library n so_far.done loaded.accepted loaded.refused) loader so_far.judged;
  item = given.item;
  rest = next.stream.coming;
  split = so_far.split told ∙ ap (λ l. so_far.done ++ l) (given.answers.coming (so_far.tells ∙ told));
  next = e;
  entry = subst (λ (n : ℕ). IsEntryOf start.library n given.item e) (so_far.same.loader ∙ loader)
      (subst (λ (library : List ℕ). IsEntryOf library now.loader given.item e) so_far.same.library given.is);
  full = full;
}

-- ---- item by item

rose_later : (start before now : ℕ) → start ≤ before → Rose before now → Rose start now
rose_later start before now earlier rose = omega (arith, earlier, rose)

-- the limits stay
pub limits_taken : (now next : FileView) (before after : LoadedView) → IsTakenUp now before next after → after.limits ≡ before.limits
limits_taken now next before after (TakenAsEntry e gives is) = ap (λ (l : LoadedView). l.limits) is
limits_taken now next before after (TakenAsRefused item gives is) = ap (λ (l : LoadedView). l.limits) is

-- one more item was taken up
pub answered_taken : (start now next : FileView) (before after : LoadedView) → IsAnswered start now before.accepted before.refused
    → IsSameFile now next → IsTakenUp now before next after → IsAnswered start next after.accepted after.refused
answered_taken start now next before after so_far same (TakenAsEntry e gives is) =
    subst (λ (l : LoadedView). IsAnswered start next l.accepted l.refused) (sym is)
    (answered_entry start now next before.accepted before.refused e so_far same gives)
answered_taken start now next before after so_far same (TakenAsRefused item gives is) =
    subst (λ (l : LoadedView). IsAnswered start next l.accepted l.refused) (sym is)
    (answered_refused start now next before.accepted before.refused item so_far same gives)

known_is : (tells : Bool) (coming items : List Item) → cond tells (Some coming) None ≡ Some items → (tells ≡ true) × (coming ≡ items)
known_is true coming items is = (refl, cc)
known_is false coming items is = cc

module _ (start now next : FileView) (before : LoadedView) (so_far : IsAnswered start now before.accepted before.refused) where
  -- the next entry didn't fit
  loads_to_full : start.loader ≡ 0 → now.stream.faults ≤ next.stream.faults → IsOverfull now before next
      → LoadsItems before.limits start.library (told_items start.stream) start.stream.faults next.stream.faults (Err Full)
  loads_to_full loader faults over = record {
    loaded = tt;
    full = λ is all told. let known = known_is start.stream.tells start.stream.coming all told in
        subst (λ l. IsFullAt before.limits start.library l) known.1
        (full_here start now next before over.next loader so_far over.gives over.full known.0);
    faults = omega (arith, so_far.faults, faults);
    cause = λ is. cc;
    kind = tt;
  }

  -- the source failed
  loads_to_fault : IsFault now next → LoadsItems before.limits start.library (told_items start.stream) start.stream.faults next.stream.faults (Err Input)
  loads_to_fault failed = record {
    loaded = tt;
    full = λ is. cc;
    faults = omega (arith, so_far.faults, failed.fails.reads.faults);
    cause = λ is. rose_later start.stream.faults now.stream.faults next.stream.faults so_far.faults failed.fails.rose;
    kind = tt;
  }

  -- memory ran out
  loads_to_memory : now.stream.faults ≤ next.stream.faults
      → LoadsItems before.limits start.library (told_items start.stream) start.stream.faults next.stream.faults (Err Memory)
  loads_to_memory faults = record {
    loaded = tt;
    full = λ is. cc;
    faults = omega (arith, so_far.faults, faults);
    cause = λ is. cc;
    kind = tt;
  }

-- a fault came before
pub loads_in_part : (start now next : FileView) (before after : LoadedView) (fault : Fault) → start.loader ≡ 0
    → IsAnswered start now before.accepted before.refused → now.stream.faults ≤ next.stream.faults → TakesNext now before (Err fault) next after
    → LoadsItems before.limits start.library (told_items start.stream) start.stream.faults next.stream.faults (Err fault)
loads_in_part start now next before after Full loader so_far faults takes = loads_to_full start now next before so_far loader faults takes
loads_in_part start now next before after Input loader so_far faults takes = loads_to_fault start now next before so_far takes
loads_in_part start now next before after Memory loader so_far faults takes = loads_to_memory start now next before so_far faults
loads_in_part start now next before after Usage loader so_far faults takes = absurd takes
loads_in_part start now next before after Device loader so_far faults takes = absurd takes
loads_in_part start now next before after (NotAJournal place) loader so_far faults takes = absurd takes
loads_in_part start now next before after OldVersion loader so_far faults takes = absurd takes
loads_in_part start now next before after OtherHistory loader so_far faults takes = absurd takes

-- nothing was loaded, for want of memory
pub loads_nothing : (limits : Limits) (library : List ℕ) (told : Option (List Item)) (faults : ℕ) → LoadsItems limits library told faults faults (Err Memory)
loads_nothing limits library told faults = record { loaded = tt; full = λ is. cc; faults = omega arith; cause = λ is. cc; kind = tt }
