-- How the command `verify` over a number of entries and a digest ends. The rules are this project's own.
use Rattle.std.specs.Prelude.{◌≡◌, ℕ, true, List, IsSomeAnd}
use Rattle.std.specs.Io.KnownBytes.{Appends}
use Rattle.outside.specs.Fault.{Rose}
use Rattle.outside.specs.Sink.{WritesFront}
use Rattle.console_lines.specs.Ends.{Outcome, IsTold, TellsNoFault, console_unwritten}
use Rattle.console_lines.specs.declared.end.End.{End}
use Rattle.console_lines.specs.declared.end.End.TheVariants.{Done, Refused, Unwritten, Told, BroughtInPart, Differ}
use Rattle.console_lines.specs.declared.end.Unwritten.TheVariants.{Out, Side, Pages, Console}
use Rattle.console_lines.specs.declared.fault.Fault.{Fault}
use Rattle.console_lines.specs.declared.fault.Fault.TheVariants.{Usage, Input, Device, NotAJournal, Full, Memory, OldVersion, OtherHistory}
use Rattle.entry_history.specs.Frames.{IsNoJournal}
use Rattle.journal_verification.specs.Contents.{IsVerified}
use Rattle.journal_verification.specs.Digests.{IsDigestOf, digest_line}
use Rattle.journal_verification.specs.declared.verified.Verified.{Verified}

-- how it ends: nothing is refused, no output is written and no device fails
abbrev pub EndsVerifyingDigest : End → Type 0
EndsVerifyingDigest Done = Unit {0}
EndsVerifyingDigest Refused = ⊥
EndsVerifyingDigest (Unwritten Out) = ⊥
EndsVerifyingDigest (Unwritten Side) = ⊥
EndsVerifyingDigest (Unwritten Pages) = ⊥
EndsVerifyingDigest (Unwritten Console) = Unit {0}
EndsVerifyingDigest (Told Usage) = ⊥
EndsVerifyingDigest (Told Input) = Unit {0}
EndsVerifyingDigest (Told Device) = ⊥
EndsVerifyingDigest (Told (NotAJournal place)) = Unit {0}
EndsVerifyingDigest (Told Full) = ⊥
EndsVerifyingDigest (Told Memory) = Unit {0}
EndsVerifyingDigest (Told OldVersion) = ⊥
EndsVerifyingDigest (Told OtherHistory) = Unit {0}
EndsVerifyingDigest BroughtInPart = ⊥
EndsVerifyingDigest Differ = ⊥

-- The file is a journal, and the digest is that of its first so many entries: the console was told so, or a front of that where it could not
-- be written.
pub record IsToldDigest (count : ℕ) (digits log : List ℕ) (o : Outcome) : Type 0 where
  pub verified : Verified
  pub is : IsVerified log verified
  pub own : IsDigestOf count digits log
  pub line : o.end ≡ Done → Appends o.told o.now (digest_line own.digest count)
  pub front : o.end ≡ console_unwritten → WritesFront o.told o.now (digest_line own.digest count)

-- the file is a journal, and the digest isn't that of its first so many entries
pub record HasOtherDigest (count : ℕ) (digits log : List ℕ) : Type 0 where
  pub verified : Verified
  pub is : IsVerified log verified
  pub other : IsDigestOf count digits log → ⊥

-- The command `verify` over a journal, a number of entries and a digest: it ends with 0 only where the bytes of so many entries have this
-- digest, and with 10 only where they haven't. No file changes.
pub record VerifiesDigest (journal : List ℕ) (count : ℕ) (digits : List ℕ) (o : Outcome) : Type 0 where
  pub ends : EndsVerifyingDigest o.end
  pub told : (why : Fault) → o.end ≡ Told why → IsTold why o
  -- the outside's faults have their cause
  pub input : o.end ≡ Told Input → Rose (o.old.in_faults journal) (o.new.in_faults journal)
  pub console_cause : o.end ≡ console_unwritten → Rose o.faults o.faults_now
  -- the file is there, and it is a journal that has a front of that digest; or one that has none; or it is no journal, first at that place
  pub own : TellsNoFault o.end → o.old.tells ≡ true → IsSomeAnd (o.old.file journal) (λ log. IsToldDigest count digits log o)
  pub other : o.end ≡ Told OtherHistory → o.old.tells ≡ true → IsSomeAnd (o.old.file journal) (HasOtherDigest count digits)
  pub none : (place : ℕ) → o.end ≡ Told (NotAJournal place) → o.old.tells ≡ true → IsSomeAnd (o.old.file journal) (λ log. IsNoJournal log place)
