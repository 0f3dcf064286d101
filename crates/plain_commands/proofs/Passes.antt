-- How a pass ended.
use Rattle.std.proofs.Common.{◌≡◌, ℕ, Bool, true, List, length, sym, subst, arith, Option, Some, []}
use Rattle.std.specs.Prelude.{string_bytes, nat_lt, IsSomeAnd}
use Rattle.std.specs.Io.KnownBytes.{Appends}
use Rattle.marc_types.specs.declared.entry.Limits.{Limits}
use Rattle.marc_types.specs.Limits.{limits_of}
use Rattle.outside.specs.Fault.{Rose}
use Rattle.outside.specs.Room.{RoomView, SameBut}
use Rattle.outside.specs.Sink.{WritesFront}
use Rattle.outside.proofs.Rooms.{same_but_then}
use Rattle.marc_stream.specs.Pieces.{items}
use Rattle.command_words.specs.declared.library.Library.{Library}
use Rattle.console_lines.specs.Ends.{Outcome, IsTold, TellsNoFault, IsResultTold, end_of, out_unwritten}
use Rattle.console_lines.specs.declared.end.End.{End}
use Rattle.console_lines.specs.declared.end.End.TheVariants.{Told}
use Rattle.console_lines.specs.declared.end.Unwritten.TheVariants.{Out, Side, Pages, Console}
use Rattle.console_lines.specs.declared.fault.Fault.{Fault}
use Rattle.console_lines.specs.declared.fault.Fault.TheVariants.{Input, Full, Memory}
use Rattle.console_lines.proofs.Ends.{told_once, told_not_unwritten, told_not_all, told_common, all_not_unwritten, out_not_console, result_done, result_line, result_front, result_no_output, result_no_pages, result_common, result_cause}
use Rattle.output_files.specs.Outputs.{IsOutputLeft}
use Rattle.output_files.proofs.Parts.{left_since}
use Rattle.plain_commands.specs.Loading.{IsFaultOfLoading, IsFullAt}
use Rattle.plain_commands.specs.Passing.{FileDue, IsReady, IsPassed, IsPassedInPart, IsPassedUntold, IsPassDelivered, EndsDelivering, PassesFile}
use Rattle.plain_commands.proofs.There.{there_more}
use Rattle.plain_commands.specs.declared.ready.Ready.{Ready}

module _ (limits : Limits) (due : FileDue) (library : Library) (bytes : List ℕ) (ready : Ready) (is : IsReady limits library bytes ready) where
  -- what is due of what was made ready
  abbrev due_of_ready : List ℕ
  due_of_ready = due bytes ready.loaded.accepted ready.loaded.refused

  pub ended_whole : (new told now : Option (List ℕ)) (end : End) → new ≡ Some due_of_ready → Appends told now (string_bytes ready.text)
      → end ≡ end_of (nat_lt 0 (length ready.loaded.refused)) → IsPassed limits due library bytes new told now end
  ended_whole new told now end written wrote ended = record {
    accepted = ready.loaded.accepted;
    refused = ready.loaded.refused;
    judged = is.loaded.judged;
    within = is.loaded.within;
    export = written;
    console = subst (Appends told now) is.text wrote;
    end_is = ended;
  }

  pub ended_in_part : (before after : RoomView) (out : List ℕ) → IsOutputLeft before after out due_of_ready
      → IsPassedInPart limits due library bytes before after out
  ended_in_part before after out left = record {
    accepted = ready.loaded.accepted;
    refused = ready.loaded.refused;
    judged = is.loaded.judged;
    within = is.loaded.within;
    left = left;
  }

  pub ended_untold : (new told now : Option (List ℕ)) → new ≡ Some due_of_ready → WritesFront told now (string_bytes ready.text)
      → IsPassedUntold limits due library bytes new told now
  ended_untold new told now written wrote = record {
    accepted = ready.loaded.accepted;
    refused = ready.loaded.refused;
    judged = is.loaded.judged;
    within = is.loaded.within;
    export = written;
    console = subst (WritesFront told now) is.text wrote;
  }

-- what was done since a later moment
abbrev pub since : RoomView → Outcome → Outcome
since mid o = record {
  old = mid;
  new = o.new;
  told = o.told;
  now = o.now;
  faults = o.faults;
  faults_now = o.faults_now;
  end = o.end;
}

module _ (limits : Limits) (due : FileDue) (library : Library) (bytes out : List ℕ) (o : Outcome) where
  -- a fault was told, and nothing is said of what was delivered
  pub delivered_nothing : (why : Fault) → o.end ≡ Told why → IsPassDelivered limits due library bytes out o
  delivered_nothing why is = record {
    whole = λ all. absurd (told_not_all o.end why is all);
    part = λ also. absurd (told_not_unwritten o.end why Out is also);
    untold = λ also. absurd (told_not_unwritten o.end why Console is also);
  }

  pub delivered_in_part : o.end ≡ out_unwritten → IsPassedInPart limits due library bytes o.old o.new out → IsPassDelivered limits due library bytes out o
  delivered_in_part ends is = record {
    whole = λ all. absurd (all_not_unwritten o.end Out all ends);
    part = λ also. is;
    untold = λ also. absurd (out_not_console o.end ends also);
  }

  -- OUT was written, and the result was told as far as the console could be written
  pub delivered_told : {text : List ℕ} {refused : Bool} → IsResultTold o.told o.now o.faults o.faults_now text refused o.end
      → (o.end ≡ end_of refused → Appends o.told o.now text → IsPassed limits due library bytes (o.new.file out) o.told o.now o.end)
      → (WritesFront o.told o.now text → IsPassedUntold limits due library bytes (o.new.file out) o.told o.now) → IsPassDelivered limits due library bytes out o
  delivered_told told whole untold = record {
    whole = λ all. whole (result_done told all) (result_line told all);
    part = λ also. absurd ((result_no_output told).0 also);
    untold = λ also. untold (result_front told);
  }

-- what the console was told of a result says of OUT and the console
pub ends_told : (out : List ℕ) (o : Outcome) {text : List ℕ} {refused : Bool} → IsResultTold o.told o.now o.faults o.faults_now text refused o.end
    → EndsDelivering out o
ends_told out o told = record {
  out_cause = λ also. absurd ((result_no_output told).0 also);
  console_cause = result_cause told;
  no_side = ((result_no_output told).1, result_no_pages told);
  common = result_common told;
  silent = λ also. absurd ((result_no_output told).0 also);
}

part_since : (limits : Limits) (due : FileDue) (library : Library) (bytes : List ℕ) (old mid new : RoomView) (out : List ℕ) → SameBut old mid []
    → IsPassedInPart limits due library bytes mid new out → IsPassedInPart limits due library bytes old new out
part_since limits due library bytes old mid new out stays part = record {
  accepted = part.accepted;
  refused = part.refused;
  judged = part.judged;
  within = part.within;
  left = left_since old mid new out (due bytes part.accepted part.refused) [] tt stays part.left;
}

pub no_fault_told : (end : End) (why : Fault) → TellsNoFault end → end ≡ Told why → ⊥
no_fault_told end why untold is = subst TellsNoFault is untold

module _ (due : FileDue) (library : Library) (out : List ℕ) (o : Outcome) where
  -- a fault was told before anything was written
  pub passes_told : (why : Fault) → o.end ≡ Told why → IsTold why o → IsFaultOfLoading why → SameBut o.old o.new []
      → (why ≡ Input → Rose (o.old.in_faults library.file) (o.new.in_faults library.file))
      → (why ≡ Full → o.old.tells ≡ true → IsSomeAnd (o.old.file library.file) (λ bytes. IsFullAt (limits_of o.old.is_large) library.code (items bytes)))
      → PassesFile due library out o
  passes_told why is told kind stays input full = record {
    told = λ other also. subst (λ w. IsTold w o × IsFaultOfLoading w × SameBut o.old o.new []) (told_once o.end why other is also) (told, kind, stays);
    input = λ also. input (told_once o.end why Input is also);
    out_cause = λ also. absurd (told_not_unwritten o.end why Out is also);
    console_cause = λ also. absurd (told_not_unwritten o.end why Console is also);
    no_side = (told_not_unwritten o.end why Side is, told_not_unwritten o.end why Pages is);
    common = told_common o.end why is;
    full = λ also. full (told_once o.end why Full is also);
    whole = λ all. absurd (told_not_all o.end why is all);
    silent = λ also. absurd (told_not_unwritten o.end why Out is also);
    part = λ also. absurd (told_not_unwritten o.end why Out is also);
    untold = λ also. absurd (told_not_unwritten o.end why Console is also);
  }

  -- what was made ready was delivered, into a room where the file had been read
  pub passes_delivered : (mid : RoomView) → SameBut o.old mid []
      → ((why : Fault) → o.end ≡ Told why → (why ≡ Memory) × SameBut mid o.new [] × IsTold why o) → EndsDelivering out (since mid o)
      → (o.old.tells ≡ true → IsSomeAnd (o.old.file library.file) (λ bytes. IsPassDelivered (limits_of o.old.is_large) due library bytes out (since mid o)))
      → PassesFile due library out o
  passes_delivered mid stays fault ends delivered = record {
    told = λ why also.
        let memory = fault why also in
        (memory.2, subst IsFaultOfLoading (sym memory.0) tt, same_but_then o.old mid o.new [] stays memory.1);
    input = λ also. let is : Input ≡ Memory = (fault Input also).0 in cc;
    out_cause = λ also. let earlier = stays.outs out in let rose = ends.out_cause also in omega (arith, earlier, rose);
    console_cause = ends.console_cause;
    no_side = ends.no_side;
    common = ends.common;
    full = λ also. let is : Full ≡ Memory = (fault Full also).0 in cc;
    whole = λ all tells. there_more (o.old.file library.file) (λ bytes d. d.whole all) (delivered tells);
    silent = ends.silent;
    part = λ also tells.
        there_more (o.old.file library.file) (λ bytes d. part_since (limits_of o.old.is_large) due library bytes o.old mid o.new out stays (d.part also)) (delivered tells);
    untold = λ also tells. there_more (o.old.file library.file) (λ bytes d. d.untold also) (delivered tells);
  }
