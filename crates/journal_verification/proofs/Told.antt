-- How a verification ended whose lines were told.
use Rattle.std.proofs.Common.{◌≡◌, true, false, List, ℕ, sym, subst}
use Rattle.std.specs.Io.KnownBytes.{Appends}
use Rattle.std.specs.Prelude.{IsSomeAnd}
use Rattle.outside.specs.Sink.{WritesFront}
use Rattle.console_lines.specs.Ends.{Outcome, IsResultTold, ResultTold, ResultUntold, IsAllDone}
use Rattle.console_lines.specs.declared.fault.Fault.TheVariants.{Input, NotAJournal}
use Rattle.console_lines.proofs.Ends.{never_told, result_untold, result_line, result_front, result_cause}
use Rattle.journal_verification.specs.Contents.{IsVerified}
use Rattle.journal_verification.specs.declared.verified.Verified.{Verified}
use Rattle.journal_verification.specs.Verifying.{EndsVerifying, Verifies, verified_lines}
use Rattle.journal_verification.proofs.There.{there_more}

module _ (journal : List ℕ) (o : Outcome) (v : Verified) (text : List ℕ) (same : text ≡ verified_lines v) where
  told_ends : IsResultTold o.told o.now o.faults o.faults_now text false o.end → EndsVerifying o.end
  told_ends (ResultTold is line) = subst EndsVerifying (sym is) tt
  told_ends (ResultUntold is rose front) = subst EndsVerifying (sym is) tt

  pub verifies_told : (o.old.tells ≡ true → IsSomeAnd (o.old.file journal) (λ log. IsVerified log v))
      → IsResultTold o.told o.now o.faults o.faults_now text false o.end → Verifies journal o
  verifies_told verified told = record {
    ends = told_ends told;
    told = λ why is. absurd (never_told o.end why (result_untold told) is);
    input = λ is. absurd (never_told o.end Input (result_untold told) is);
    console_cause = result_cause told;
    whole = λ done tells.
        let line = subst (Appends o.told o.now) same (result_line told (subst IsAllDone (sym done) tt)) in
        there_more (o.old.file journal) (λ log is. record { verified = v; is = is; console = line }) (verified tells);
    part = λ unwritten tells.
        let front = subst (WritesFront o.told o.now) same (result_front told) in
        there_more (o.old.file journal) (λ log is. record { verified = v; is = is; console = front }) (verified tells);
    none = λ place is. absurd (never_told o.end (NotAJournal place) (result_untold told) is);
  }
