-- How the command `verify` ends, and what it tells. The rules are this project's own.
use Rattle.std.specs.Prelude.{◌≡◌, ℕ, true, List, [], ◌++◌, codes, Option, Some, None, IsSomeAnd}
use Rattle.std.specs.Fmt.{decimal}
use Rattle.std.specs.Io.KnownBytes.{Appends}
use Rattle.outside.specs.Fault.{Rose}
use Rattle.outside.specs.Sink.{WritesFront}
use Rattle.console_lines.specs.Ends.{Outcome, IsTold, console_unwritten}
use Rattle.console_lines.specs.declared.end.End.{End}
use Rattle.console_lines.specs.declared.end.End.TheVariants.{Done, Refused, Unwritten, Told, BroughtInPart, Differ}
use Rattle.console_lines.specs.declared.end.Unwritten.TheVariants.{Out, Side, Pages, Console}
use Rattle.console_lines.specs.declared.fault.Fault.{Fault}
use Rattle.console_lines.specs.declared.fault.Fault.TheVariants.{Usage, Input, Device, NotAJournal, Full, Memory, OldVersion, OtherHistory}
use Rattle.commit_journal.specs.declared.tail.Tail.{Tail}
use Rattle.commit_journal.specs.declared.tail.Tail.TheVariants.{Nothing, Torn, More}
use Rattle.journal_verification.specs.Contents.{IsVerified}
use Rattle.journal_verification.specs.Digests.{digest_line}
use Rattle.entry_history.specs.Frames.{IsNoJournal}
use Rattle.journal_verification.specs.declared.verified.Verified.{Verified}

-- the line of a journal that is torn
abbrev pub torn_line : Option ℕ → List ℕ
torn_line None = []
torn_line (Some place) = codes "torn behind byte " ++ decimal place ++ codes "\n"

-- the line of one behind whose end more stands than a crash leaves
abbrev pub tail_line : Tail → List ℕ
tail_line Nothing = []
tail_line Torn = []
tail_line More = codes "more stands behind the journal's end than a crash leaves: salvage\n"

-- the line of its version, entries, frames and bytes
unfoldable pub counts_line : Verified → List ℕ
counts_line v =
    codes "version " ++ decimal v.version ++ codes ", " ++ decimal v.entries ++ codes " entries, " ++ decimal v.frames
    ++ codes " frames, " ++ decimal v.bytes ++ codes " bytes\n"

-- what is told of a journal
abbrev pub verified_lines : Verified → List ℕ
verified_lines v = counts_line v ++ (digest_line v.digest v.entries ++ (torn_line v.torn ++ tail_line v.tail))

-- how it ends
abbrev pub EndsVerifying : End → Type 0
EndsVerifying Done = Unit {0}
EndsVerifying Refused = ⊥
EndsVerifying (Unwritten Out) = ⊥
EndsVerifying (Unwritten Side) = ⊥
EndsVerifying (Unwritten Pages) = ⊥
EndsVerifying (Unwritten Console) = Unit {0}
EndsVerifying (Told Usage) = ⊥
EndsVerifying (Told Input) = Unit {0}
EndsVerifying (Told Device) = ⊥
EndsVerifying (Told (NotAJournal place)) = Unit {0}
EndsVerifying (Told Full) = ⊥
EndsVerifying (Told Memory) = Unit {0}
EndsVerifying (Told OldVersion) = ⊥
EndsVerifying (Told OtherHistory) = ⊥
EndsVerifying BroughtInPart = ⊥
EndsVerifying Differ = ⊥

-- the file is a journal, and the console was told what it has
pub record IsToldWhole (log : List ℕ) (told now : Option (List ℕ)) : Type 0 where
  pub verified : Verified
  pub is : IsVerified log verified
  pub console : Appends told now (verified_lines verified)

-- or a front of that
pub record IsToldInPart (log : List ℕ) (told now : Option (List ℕ)) : Type 0 where
  pub verified : Verified
  pub is : IsVerified log verified
  pub console : WritesFront told now (verified_lines verified)

-- The command `verify`: what the journal has is told, and no file changes, whatever the answer.
pub record Verifies (journal : List ℕ) (o : Outcome) : Type 0 where
  pub ends : EndsVerifying o.end
  pub told : (why : Fault) → o.end ≡ Told why → IsTold why o
  -- the outside's faults have their cause
  pub input : o.end ≡ Told Input → Rose (o.old.in_faults journal) (o.new.in_faults journal)
  pub console_cause : o.end ≡ console_unwritten → Rose o.faults o.faults_now
  -- the file is there, and it is a journal, which is told; or it is none, first at that place
  pub whole : o.end ≡ Done → o.old.tells ≡ true → IsSomeAnd (o.old.file journal) (λ log. IsToldWhole log o.told o.now)
  pub part : o.end ≡ console_unwritten → o.old.tells ≡ true → IsSomeAnd (o.old.file journal) (λ log. IsToldInPart log o.told o.now)
  pub none : (place : ℕ) → o.end ≡ Told (NotAJournal place) → o.old.tells ≡ true → IsSomeAnd (o.old.file journal) (λ log. IsNoJournal log place)
