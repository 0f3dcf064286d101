-- The commands over a log of checkpoints end well where they fit, or memory ran out, where no count of faults rose.
use Rattle.std.proofs.Common.{◌≡◌, ◌⊎◌, inl, inr, ℕ, true≢false, List, [], ◌∷◌, ◌++◌, Option, None, Ok, Err, refl, sym, ap, subst, ◌∙◌, arith}
use Rattle.std.specs.Prelude.{All, map}
use Rattle.std.proofs.lemmas.List.{map-append}
use Rattle.std.proofs.lemmas.List.Elements.{All-head, All-tail}
use Rattle.outside.specs.Fault.{Rose}
use Rattle.console_lines.specs.Ends.{Outcome, out_unwritten, side_unwritten, console_unwritten}
use Rattle.console_lines.specs.Faults.{fault_status}
use Rattle.console_lines.specs.declared.end.End.{End}
use Rattle.console_lines.specs.declared.end.End.TheVariants.{Done, Refused, Unwritten, Told, BroughtInPart, Differ}
use Rattle.console_lines.specs.declared.end.Unwritten.TheVariants.{Out, Side, Pages, Console}
use Rattle.console_lines.specs.declared.fault.Fault.{Fault}
use Rattle.console_lines.specs.declared.fault.Fault.TheVariants as fault
use Rattle.commit_journal.specs.Log.{version_of}
use Rattle.commit_journal.specs.declared.frame.Frame.{Frame}
use Rattle.durable_catalogue.specs.declared.fault.OpenFault.{OpenFault}
use Rattle.durable_catalogue.specs.declared.fault.OpenFault.TheVariants as opening
use Rattle.journal_files.specs.Faults.{fault_of_opening}
use Rattle.journal_files.specs.Journals.{log_bytes}
use Rattle.journal_files.proofs.Faults.{opening_device}
use Rattle.checkpoint.specs.Format.{part_bytes}
use Rattle.checkpoint.specs.Parts.{IsPart, IsPartOf}
use Rattle.commit_journal.specs.Log.{payloads_of}
use Rattle.checkpoint.specs.declared.part.Part.{Part}
use Rattle.checkpoint.specs.declared.point.Point.{Point}
use Rattle.restoring.specs.Writing.{HasLast}
use Rattle.checkpoint_commands.specs.PointLogs.{IsPointLog, IsNoPointLog, NoGate, NoPart, IsUntaken}
use Rattle.checkpoint_commands.specs.Refusals.{IsJournalRefused, IsRefusedBehind}
use Rattle.checkpoint_commands.specs.Checkpoints.{EndsCheckpoint, Checkpoints}
use Rattle.checkpoint_commands.specs.Quick.{EndsQuick, ExportsQuickly}
use Rattle.union_top.specs.Fits.{FitsPoint}
use Rattle.union_top.specs.Misfits.{IsStatus}
use Rattle.union_top.proofs.Fitting.{EndsWell}
use Rattle.union_top.proofs.Unopened.{may_be, opening_well}

-- each payload of a log of parts is one
part_at : (front : List (List ℕ)) (payload : List ℕ) (behind : List (List ℕ)) (parts : List Part) → map part_bytes parts ≡ front ++ payload ∷ behind
    → All IsPart parts → (part : Part) × IsPartOf payload part
part_at [] payload behind [] is all = cc
part_at [] payload behind (part ∷ parts) is all =
    let same : part_bytes part ≡ payload = cc in
    (part, record { written = same; can_be = All-head IsPart part parts all })
part_at (first ∷ front) payload behind [] is all = cc
part_at (first ∷ front) payload behind (part ∷ parts) is all =
    let rest : map part_bytes parts ≡ front ++ payload ∷ behind = cc in
    part_at front payload behind parts rest (All-tail IsPart part parts all)

-- a log of checkpoints is not refused as none
pub never_none : (log : List ℕ) (last : Option Point) (place : ℕ) → HasLast last log → IsNoPointLog log place → ⊥
never_none log last place has (NoGate none) = let both : Ok has.frames ≡ Err place = sym has.frames_are ∙ none in cc
never_none log last place has (NoPart frames found bad) =
    let same : has.frames ≡ frames = cc (has.frames_are, found) in
    let payloads = ap payloads_of (same ∙ bad.split) ∙ map-append (λ (f : Frame). f.payload) bad.front (bad.bad ∷ bad.behind) in
    let point = has.is in
    let one = part_at (payloads_of bad.front) bad.bad.payload (payloads_of bad.behind) point.parts (point.are.written ∙ payloads) point.are.can_be in
    bad.none one.0 one.1

-- a fault of one that remains
pub taken_well : (log : List ℕ) (last : Option Point) (reason : OpenFault) → IsPointLog last log → IsUntaken log reason → (fault_of_opening reason ≡ fault.Device → ⊥)
    → fault_of_opening reason ≡ fault.Memory
taken_well log last opening.DeviceFault is so device = absurd (device refl)
taken_well log last (opening.NotAJournal place) is so device = absurd (never_none log last place is.has so)
taken_well log last opening.OldVersion is so device = let both : 1 ≡ 2 = sym so.0 ∙ is.newest in cc
taken_well log last opening.Full is so device = absurd so
taken_well log last opening.NoMemory is so device = refl

-- why an old log of checkpoints isn't taken
pub old_taken : (log : List ℕ) (last : Option Point) (reason : OpenFault) → HasLast last log → IsUntaken log reason → (fault_of_opening reason ≡ fault.Device → ⊥)
    → IsStatus 9 (fault_status (fault_of_opening reason))
old_taken log last opening.DeviceFault has so device = absurd (device refl)
old_taken log last (opening.NotAJournal place) has so device = absurd (never_none log last place has so)
old_taken log last opening.OldVersion has so device = inl refl
old_taken log last opening.Full has so device = absurd so
old_taken log last opening.NoMemory has so device = inr refl

-- a log isn't of both versions
pub both_versions : (log : List ℕ) → version_of log ≡ 1 → version_of log ≡ 2 → ⊥
both_versions log one two = omega (arith, one, two)

checkpoint_by_end : (end : End) → EndsCheckpoint end → (end ≡ console_unwritten → ⊥) → ((why : Fault) → end ≡ Told why → why ≡ fault.Memory) → EndsWell end
checkpoint_by_end Done kind console told = inl tt
checkpoint_by_end Refused kind console told = absurd kind
checkpoint_by_end (Unwritten Out) kind console told = absurd kind
checkpoint_by_end (Unwritten Side) kind console told = absurd kind
checkpoint_by_end (Unwritten Pages) kind console told = absurd kind
checkpoint_by_end (Unwritten Console) kind console told = absurd (console refl)
checkpoint_by_end (Told why) kind console told = inr (ap Told (told why refl))
checkpoint_by_end BroughtInPart kind console told = absurd kind
checkpoint_by_end Differ kind console told = absurd kind

quick_by_end : (report : Option (List ℕ)) (end : End) → EndsQuick report end → (end ≡ out_unwritten → ⊥) → (end ≡ side_unwritten → ⊥) → (end ≡ console_unwritten → ⊥)
    → ((why : Fault) → end ≡ Told why → why ≡ fault.Memory) → EndsWell end
quick_by_end report Done kind out side console told = inl tt
quick_by_end report Refused kind out side console told = absurd kind
quick_by_end report (Unwritten Out) kind out side console told = absurd (out refl)
quick_by_end report (Unwritten Side) kind out side console told = absurd (side refl)
quick_by_end report (Unwritten Pages) kind out side console told = absurd kind
quick_by_end report (Unwritten Console) kind out side console told = absurd (console refl)
quick_by_end report (Told why) kind out side console told = inr (ap Told (told why refl))
quick_by_end report BroughtInPart kind out side console told = absurd kind
quick_by_end report Differ kind out side console told = absurd kind

-- no report is missing where none is asked for
pub never_side : (end : End) → EndsQuick None end → end ≡ side_unwritten → ⊥
never_side end kind is = true≢false (sym (subst (EndsQuick None) is kind))

module _ (o : Outcome) (journal point : List ℕ) (f : FitsPoint o.old journal point) (no_journal : Rose (o.old.log_faults journal) (o.new.log_faults journal) → ⊥)
    (no_point : Rose (o.old.log_faults point) (o.new.log_faults point) → ⊥) where
  of_journal : (why : Fault) → IsJournalRefused journal why o.old o.new → why ≡ fault.Memory
  of_journal why r =
      let w = r.unopened in
      w.is ∙ opening_well (log_bytes o.old journal) w.reason (λ old. r.current (w.is ∙ ap fault_of_opening old))
      (may_be o.old (log_bytes o.old journal) w.reason f.reading.history (w.so f.reading.tells)) (λ device. no_journal (r.cause (w.is ∙ device)))

  of_point : (why : Fault) → IsRefusedBehind journal point why o.old o.new → why ≡ fault.Memory
  of_point why r =
      r.is ∙ taken_well (log_bytes o.old point) f.last r.reason f.is (r.refused.so f.reading.tells)
      (λ device. no_point (r.refused.cause (opening_device r.reason device)))

  refused_well : (why : Fault) → IsJournalRefused journal why o.old o.new ⊎ IsRefusedBehind journal point why o.old o.new → why ≡ fault.Memory
  refused_well why (inl r) = of_journal why r
  refused_well why (inr r) = of_point why r

module _ (o : Outcome) (journal point : List ℕ) where
  pub checkpoints_well : Checkpoints journal point o → FitsPoint o.old journal point → (Rose (o.old.log_faults journal) (o.new.log_faults journal) → ⊥)
      → (Rose (o.old.log_faults point) (o.new.log_faults point) → ⊥) → (o.end ≡ console_unwritten → ⊥) → EndsWell o.end
  checkpoints_well c f no_journal no_point no_console =
      checkpoint_by_end o.end c.ends no_console (λ why is. refused_well o journal point f no_journal no_point why (c.told why is).1)

  pub quick_well : (out : List ℕ) (report : Option (List ℕ)) → ExportsQuickly journal point out report o → FitsPoint o.old journal point
      → (Rose (o.old.log_faults journal) (o.new.log_faults journal) → ⊥) → (Rose (o.old.log_faults point) (o.new.log_faults point) → ⊥)
      → (o.end ≡ out_unwritten → ⊥) → (o.end ≡ side_unwritten → ⊥) → (o.end ≡ console_unwritten → ⊥) → EndsWell o.end
  quick_well out report q f no_journal no_point no_out no_side no_console =
      quick_by_end report o.end q.ends no_out no_side no_console (λ why is. refused_well o journal point f no_journal no_point why (q.told why is).1)
