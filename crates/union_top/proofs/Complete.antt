-- A command that nothing hinders ends well, or memory ran out.
use Rattle.std.proofs.Common.{◌≡◌, ◌⊎◌, inl, inr, ℕ, zero, suc, ◌≤◌, List, [], ◌∷◌, Some, None, refl, subst}
use Rattle.std.specs.Prelude.{All, slice_get}
use Rattle.std.proofs.lemmas.List.Elements.{All-head, All-tail}
use Rattle.command_words.specs.declared.library.Library.{Library}
use Rattle.command_words.specs.Command.{Command, Pass, Run, Load, Browse, Export, Report, Make, Verify, VerifyPoint, VerifyDigest, Matches, Holdings, Headings, Worklist, Migrate, Salvage, Checkpoint, Quick, QuickReport, Read, ReadHoldings, ReadWorklist, Refused as RefusedOf, Totals as TotalsOf, Join, Split, Help, Version, libraries_of}
use Rattle.console_lines.specs.Ends.{Outcome, end_status}
use Rattle.console_lines.specs.declared.end.End.{End}
use Rattle.console_lines.specs.declared.end.End.TheVariants.{Done, Refused, Unwritten, Told, BroughtInPart, Differ}
use Rattle.console_lines.specs.declared.fault.Fault.TheVariants as fault
use Rattle.archive_commands.specs.Reads as reading
use Rattle.archive_commands.specs.Telling.{matches_due}
use Rattle.heading_list.specs.Telling.{headings_due}
use Rattle.plain_commands.specs.Passing.{export_due}
use Rattle.plain_commands.specs.GivingBack.{refused_due}
use Rattle.reading_commands.specs.Looking.{look_due}
use Rattle.loading_commands.specs.Inputs.{IsInputFault}
use Rattle.program_help.specs.Telling.{help_text, version_text}
use Rattle.union_top.specs.Commands.{Ends}
use Rattle.union_top.specs.Complete.{Around, InStayed, InputsStayed, IsUnhindered}
use Rattle.union_top.proofs.Listed.{lists_well}
use Rattle.union_top.proofs.ListedUnheld.{lists_unheld_well}
use Rattle.union_top.proofs.Fitting.{EndsWell, well_status, passes_well, makes_well, reads_well, attaches_well, loads_well, runs_well}
use Rattle.union_top.proofs.Looking.{looks_well}
use Rattle.union_top.proofs.Unheld.{unheld_well}
use Rattle.union_top.proofs.Joined.{totals_well, joins_well, splits_well}
use Rattle.union_top.proofs.Untroubled.{verify_well, digest_well, tells_well}
use Rattle.union_top.proofs.Migrated.{migrates_well}
use Rattle.union_top.proofs.Salvaged.{salvages_well}
use Rattle.union_top.proofs.Pointed.{checkpoints_well, quick_well, never_side}
use Rattle.union_top.proofs.OwnPoint.{owns_well}

-- an element of a list of which all are so
at_index : {A : Type 0} (P : A → Type 0) (xs : List A) (n : ℕ) (x : A) → All P xs → slice_get xs n ≡ Some x → P x
at_index P [] n x all at = cc
at_index P (y ∷ ys) zero x all at = let same : y ≡ x = cc in subst P same (All-head P y ys all)
at_index P (y ∷ ys) (suc n) x all at = at_index P ys n x (All-tail P y ys all) at

pub neither : {P Q : Type 0} → (P → ⊥) → (Q → ⊥) → P ⊎ Q → ⊥
neither first second (inl p) = first p
neither first second (inr q) = second q

-- what was before and after
abbrev pub around_of : Outcome → Around
around_of o = record { old = o.old; new = o.new; told = o.told; now = o.now; faults = o.faults; faults_now = o.faults_now }

-- of inputs whose counts stayed, that of the only file did, and none had a fault
module _ (a : Around) (libraries : List Library) (stayed : InputsStayed a libraries) where
  pub one_stayed : (library : Library) → libraries ≡ library ∷ [] → InStayed a library.file
  one_stayed library named =
      All-head (λ (l : Library). InStayed a l.file) library [] (subst (All (λ (l : Library). InStayed a l.file)) named stayed)

  pub none_failed : IsInputFault libraries a.old a.new → ⊥
  none_failed i = at_index (λ (l : Library). InStayed a l.file) libraries i.index i.library stayed i.named i.rose

module _ (o : Outcome) where
  ends_well : (words : List (List ℕ)) (command : Command) → Ends words command o → IsUnhindered words command (around_of o) → EndsWell o.end
  ends_well words (Pass out) ends u =
      let p = ends u.fits.library u.fits.named in
      passes_well o export_due (libraries_of words) out ends u.fits (λ is. u.stayed.1 (p.out_cause is)) (λ is. u.stayed.2 (p.console_cause is))
      (λ is. one_stayed (around_of o) (libraries_of words) u.stayed.0 u.fits.library u.fits.named (p.input is))
  ends_well words (Run journal out report files) r u =
      let s = u.stayed in
      runs_well o (libraries_of words) journal out report r u.fits (λ is. s.3 (r.out_cause is)) (λ is. s.4 (r.report_cause is))
      (λ is. s.2 (r.console_cause is)) (λ is. none_failed (around_of o) (libraries_of words) s.0 (r.input is)) (λ is. s.1 (r.device is))
  ends_well words (Browse journal out report pages files) b u =
      let s = u.stayed in
      let r = b.run (λ is. s.5 (b.pages_cause is)) in
      runs_well o (libraries_of words) journal out report r u.fits (λ is. s.3 (r.out_cause is)) (λ is. s.4 (r.report_cause is))
      (λ is. s.2 (r.console_cause is)) (λ is. none_failed (around_of o) (libraries_of words) s.0 (r.input is)) (λ is. s.1 (r.device is))
  ends_well words (Load journal files) l u =
      let s = u.stayed in
      loads_well o (libraries_of words) journal l u.fits (λ is. s.2 (l.console_cause is))
      (λ is. none_failed (around_of o) (libraries_of words) s.0 (l.input is)) (λ is. s.1 (l.device is))
  ends_well words (Export journal out code) r u =
      reads_well o journal out (reading.due_of (reading.Export code)) r u.fits (λ is. u.stayed.1 (r.out_cause is)) (λ is. u.stayed.0 (r.device is))
  ends_well words (Report journal out) r u =
      reads_well o journal out (reading.due_of reading.Report) r u.fits (λ is. u.stayed.1 (r.out_cause is)) (λ is. u.stayed.0 (r.device is))
  ends_well words (Make seed count out) m u =
      makes_well o seed count out m (λ is. u.stayed.0 (m.out_cause is)) (λ is. u.stayed.1 (m.console_cause is))
  ends_well words (Verify journal) v u =
      verify_well o journal v u.fits (λ is. u.stayed.1 (v.console_cause is)) (λ is. u.stayed.0 (v.input is))
  ends_well words (VerifyPoint journal point) v u =
      owns_well o journal point v (λ is. u.stayed.2 (v.console_cause is)) (λ is. neither u.stayed.0 u.stayed.1 (v.input is)) u.fits
  ends_well words (VerifyDigest journal count digest) v u =
      digest_well o journal count digest v u.fits (λ is. u.stayed.1 (v.console_cause is)) (λ is. u.stayed.0 (v.input is))
  ends_well words (Matches journal out) r u =
      reads_well o journal out matches_due r u.fits (λ is. u.stayed.1 (r.out_cause is)) (λ is. u.stayed.0 (r.device is))
  ends_well words (Holdings journal out rest code) ends u =
      let a = ends u.fits.library u.fits.named in
      let s = u.stayed in
      attaches_well o words journal out rest code ends u.fits (λ is. s.3 (a.out_cause is)) (λ is. s.4 (a.rest_cause is))
      (λ is. s.2 (a.console_cause is)) (λ is. one_stayed (around_of o) (libraries_of words) s.0 u.fits.library u.fits.named (a.input is))
      (λ is. s.1 (a.device is))
  ends_well words (Headings journal range out) r u =
      reads_well o journal out (headings_due range) r u.fits (λ is. u.stayed.1 (r.out_cause is)) (λ is. u.stayed.0 (r.device is))
  ends_well words (Worklist journal list page code) m u =
      lists_well o journal list page code m u.fits (λ is. u.stayed.1 (m.list_cause is)) (λ is. u.stayed.2 (m.page_cause is)) (λ is. u.stayed.0 (m.device is))
  ends_well words (Migrate from into) m u =
      migrates_well o from into m u.fits (λ is. neither u.stayed.0 u.stayed.1 (m.device is)) (λ is. u.stayed.2 (m.console is))
  ends_well words (Salvage journal into) s u =
      salvages_well o journal into s u.fits (λ is. u.stayed.0 (s.input is).0) (λ is. u.stayed.1 (s.device is)) (λ is. u.stayed.2 (s.console is))
  ends_well words (Checkpoint journal point) c u =
      checkpoints_well o journal point c u.fits u.stayed.0 u.stayed.1 (λ is. u.stayed.2 (c.console is))
  ends_well words (Quick journal point out) q u =
      quick_well o journal point out None q u.fits u.stayed.0 u.stayed.1 (λ is. u.stayed.2 (q.out_cause is)) (never_side o.end q.ends)
      (λ is. u.stayed.3 (q.console is))
  ends_well words (QuickReport journal point out report) q u =
      quick_well o journal point out (Some report) q u.fits u.stayed.0 u.stayed.1 (λ is. u.stayed.2 (q.out_cause is)) (λ is. u.stayed.4 (q.report_cause is))
      (λ is. u.stayed.3 (q.console is))
  ends_well words (Read look journal out) l u =
      looks_well o journal out (look_due look) l u.fits (λ is. u.stayed.1 (l.out_cause is)) (λ is. u.stayed.0 (l.input is))
  ends_well words (ReadHoldings journal out rest code) ends u =
      let a = ends u.fits.library u.fits.named in
      let s = u.stayed in
      unheld_well o journal out rest u.fits.library code a (λ is. s.3 (a.out_cause is)) (λ is. s.4 (a.rest_cause is)) (λ is. s.2 (a.console_cause is))
      (λ is. neither s.1 (one_stayed (around_of o) (libraries_of words) s.0 u.fits.library u.fits.named) (a.input is)) u.fits.look
  ends_well words (ReadWorklist journal list page code) l u =
      lists_unheld_well o journal list page code l u.fits (λ is. u.stayed.1 (l.list_cause is)) (λ is. u.stayed.2 (l.page_cause is)) (λ is. u.stayed.0 (l.input is))
  ends_well words (RefusedOf out) ends u =
      let p = ends u.fits.library u.fits.named in
      passes_well o refused_due (libraries_of words) out ends u.fits (λ is. u.stayed.1 (p.out_cause is)) (λ is. u.stayed.2 (p.console_cause is))
      (λ is. one_stayed (around_of o) (libraries_of words) u.stayed.0 u.fits.library u.fits.named (p.input is))
  ends_well words (TotalsOf first reports) t u =
      totals_well o first reports t u.fits (λ is. u.stayed.1 (t.console_cause is)) (λ is. u.stayed.0 (t.input is))
  ends_well words (Join out exports) j u = joins_well o out exports j u.fits (λ is. u.stayed.1 (j.cause is)) (λ is. u.stayed.0 (j.input is))
  ends_well words (Split count prefix files) s u =
      splits_well o count prefix (libraries_of words) s u.fits (none_failed (around_of o) (libraries_of words) u.stayed.0) u.stayed.1 (λ is. u.stayed.2 (s.console_cause is))
  ends_well words (Help topic) t u = tells_well o (help_text topic) t (λ is. u.stayed (t.cause is))
  ends_well words Version t u = tells_well o version_text t (λ is. u.stayed (t.cause is))

  pub complete : (words : List (List ℕ)) (command : Command) → Ends words command o → IsUnhindered words command (around_of o)
      → (end_status o.end ≤ 1) ⊎ (end_status o.end ≡ 8)
  complete words command ends u = well_status o.end (ends_well words command ends u)

-- the status of words that are no command is that of no other end
pub two_is_usage : (end : End) → end_status end ≡ 2 → end ≡ Told fault.Usage
two_is_usage Done two = cc
two_is_usage Refused two = cc
two_is_usage (Unwritten which) two = cc
two_is_usage (Told fault.Usage) two = refl
two_is_usage (Told fault.Input) two = cc
two_is_usage (Told fault.Device) two = cc
two_is_usage (Told (fault.NotAJournal place)) two = cc
two_is_usage (Told fault.Full) two = cc
two_is_usage (Told fault.Memory) two = cc
two_is_usage (Told fault.OldVersion) two = cc
two_is_usage (Told fault.OtherHistory) two = cc
two_is_usage BroughtInPart two = cc
two_is_usage Differ two = cc

pub same_command : (one other : Command) → Some one ≡ Some other → one ≡ other
same_command one other is = cc
