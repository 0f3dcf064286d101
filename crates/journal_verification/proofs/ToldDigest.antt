-- How a verification of a digest ended whose line was told, and one whose journal has another.
use Rattle.std.proofs.Common.{◌≡◌, ◌∙◌, true, false, List, ℕ, Option, Some, IfSome, Ok, sym, subst}
use Rattle.std.specs.Io.KnownBytes.{Appends}
use Rattle.std.specs.Prelude.{IsSomeAnd}
use Rattle.hex.specs.Hex.{decode_sized}
use Rattle.outside.specs.Sink.{WritesFront}
use Rattle.console_lines.specs.Ends.{Outcome, IsTold, IsResultTold, ResultTold, ResultUntold, IsAllDone}
use Rattle.console_lines.specs.declared.end.End.TheVariants.{Told}
use Rattle.console_lines.specs.declared.end.Unwritten.TheVariants.{Console}
use Rattle.console_lines.specs.declared.fault.Fault.TheVariants.{Input, NotAJournal, OtherHistory}
use Rattle.console_lines.proofs.Ends.{told_once, told_not_unwritten, never_told, result_untold, result_line, result_front, result_cause}
use Rattle.journal_verification.specs.Contents.{IsVerified}
use Rattle.journal_verification.specs.Digests.{HasFront, IsFrontDigest, IsDigestOf, digest_line}
use Rattle.journal_verification.specs.Comparing.{EndsVerifyingDigest, IsToldDigest, HasOtherDigest, VerifiesDigest}
use Rattle.journal_verification.specs.declared.verified.Verified.{Verified}
use Rattle.journal_verification.proofs.There.{there_more, there_both}

some_once : (front : Option (List ℕ)) (one other : List ℕ) → front ≡ Some one → front ≡ Some other → one ≡ other
some_once front one other is also = let both : Some one ≡ Some other = sym is ∙ also in cc

pub front_of_some : (log : List ℕ) (count : ℕ) (front : Option (List ℕ)) (digest : List ℕ) → front ≡ Some digest → IfSome front (HasFront log count) → HasFront log count digest
front_of_some log count front digest is there = subst (λ o. IfSome o (HasFront log count)) is there

-- a front whose digest these digits are
abbrev pub own_front : (log : List ℕ) (count : ℕ) (front : Option (List ℕ)) (digest digits : List ℕ) → IsFrontDigest log count front → front ≡ Some digest
    → decode_sized digits 32 ≡ Ok digest → IsDigestOf count digits log
own_front log count front digest digits f is digits_are =
    record { digest = digest; front = front_of_some log count front digest is f.there; digits_are = digits_are }

-- none whose digest they are
pub other_front : (log : List ℕ) (count : ℕ) (front : Option (List ℕ)) (digits : List ℕ) → IsFrontDigest log count front
    → ((digest : List ℕ) → front ≡ Some digest → decode_sized digits 32 ≡ Ok digest → ⊥) → IsDigestOf count digits log → ⊥
other_front log count front digits f none own = none own.digest (f.only own.digest own.front) own.digits_are

abbrev IsFrontOf : ℕ → Option (List ℕ) → List ℕ → Type 0
IsFrontOf count front log = IsFrontDigest log count front

-- a file in whose journal the digits are of no front
pub of_others : (count : ℕ) (digits : List ℕ) (v : Verified) (front : Option (List ℕ)) (file : Option (List ℕ))
    → ((digest : List ℕ) → front ≡ Some digest → decode_sized digits 32 ≡ Ok digest → ⊥) → IsSomeAnd file (λ log. IsVerified log v)
    → IsSomeAnd file (λ log. IsFrontDigest log count front) → IsSomeAnd file (HasOtherDigest count digits)
of_others count digits v front file none verified fronts =
    there_more {P = λ log. (IsVerified log v) × (IsFrontDigest log count front)} {Q = HasOtherDigest count digits} file
    (λ log is. record { verified = v; is = is.0; other = other_front log count front digits is.1 none })
    (there_both (λ log. IsVerified log v) (IsFrontOf count front) file verified fronts)

-- it is told that the journal has another history
pub verifies_other : (journal : List ℕ) (count : ℕ) (digits : List ℕ) (o : Outcome) → o.end ≡ Told OtherHistory → IsTold OtherHistory o
    → (o.old.tells ≡ true → IsSomeAnd (o.old.file journal) (HasOtherDigest count digits)) → VerifiesDigest journal count digits o
verifies_other journal count digits o is told others = record {
  ends = subst EndsVerifyingDigest (sym is) tt;
  told = λ why also. subst (λ f. IsTold f o) (told_once o.end OtherHistory why is also) told;
  input = λ also. let no_input : OtherHistory ≡ Input = told_once o.end OtherHistory Input is also in cc;
  console_cause = λ also. absurd (told_not_unwritten o.end OtherHistory Console is also);
  own = λ untold tells. absurd (never_told o.end OtherHistory untold is);
  other = λ also tells. others tells;
  none = λ place also tells. let no_journal : OtherHistory ≡ NotAJournal place = told_once o.end OtherHistory (NotAJournal place) is also in cc;
}

module _ (journal : List ℕ) (count : ℕ) (digits : List ℕ) (o : Outcome) (v : Verified) (front : Option (List ℕ)) where
  abbrev Found : List ℕ → Type 0
  Found log = (IsVerified log v) × (IsFrontDigest log count front)

  module _ (digest text : List ℕ) (same : text ≡ digest_line digest count) (is : front ≡ Some digest) (digits_are : decode_sized digits 32 ≡ Ok digest) where
    told_ends : IsResultTold o.told o.now o.faults o.faults_now text false o.end → EndsVerifyingDigest o.end
    told_ends (ResultTold done line) = subst EndsVerifyingDigest (sym done) tt
    told_ends (ResultUntold unwritten rose front) = subst EndsVerifyingDigest (sym unwritten) tt

    pub verifies_digest : (o.old.tells ≡ true → IsSomeAnd (o.old.file journal) (λ log. IsVerified log v))
        → (o.old.tells ≡ true → IsSomeAnd (o.old.file journal) (λ log. IsFrontDigest log count front)) → IsResultTold o.told o.now o.faults o.faults_now text false o.end
        → VerifiesDigest journal count digits o
    verifies_digest verified fronts told = record {
      ends = told_ends told;
      told = λ why also. absurd (never_told o.end why (result_untold told) also);
      input = λ also. absurd (never_told o.end Input (result_untold told) also);
      console_cause = result_cause told;
      own = λ untold tells.
          there_more {P = Found} {Q = λ log. IsToldDigest count digits log o} (o.old.file journal) (λ log f. record {
            verified = v;
            is = f.0;
            own = own_front log count front digest digits f.1 is digits_are;
            line = λ done. subst (Appends o.told o.now) same (result_line told (subst IsAllDone (sym done) tt));
            front = λ unwritten. subst (WritesFront o.told o.now) same (result_front told);
          }) (there_both (λ log. IsVerified log v) (IsFrontOf count front) (o.old.file journal) (verified tells) (fronts tells));
      other = λ also. absurd (never_told o.end OtherHistory (result_untold told) also);
      none = λ place also. absurd (never_told o.end (NotAJournal place) (result_untold told) also);
    }
