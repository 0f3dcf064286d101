-- The command that compares a digest: with which status it ends over a file that has no history.
use Rattle.std.proofs.Common.{◌≡◌, inl, inr, ℕ, true, List, refl, subst}
use Rattle.std.specs.Prelude.{IsSomeAnd}
use Rattle.console_lines.specs.Ends.{Outcome, TellsNoFault, end_status}
use Rattle.console_lines.specs.declared.end.End.{End}
use Rattle.console_lines.specs.declared.end.End.TheVariants.{Done, Refused, Unwritten, Told, BroughtInPart, Differ}
use Rattle.console_lines.specs.declared.fault.Fault.TheVariants as fault
use Rattle.durable_catalogue.specs.Logs.{IsLogOf}
use Rattle.journal_verification.specs.Contents.{IsVerified}
use Rattle.journal_verification.specs.Comparing.{EndsVerifyingDigest, IsToldDigest, HasOtherDigest, VerifiesDigest}
use Rattle.journal_verification.specs.declared.verified.Verified.{Verified}
use Rattle.union_top.specs.Misfits.{IsNoHistory, IsStatus}
use Rattle.union_top.proofs.Looking.{with_bytes}

-- what is verified has a history
has_one : (log : List ℕ) (verified : Verified) (v : IsVerified log verified) → IsLogOf v.history log
has_one log verified v = record { frames = v.found; found = v.frames_are; holds = v.holds }

digest_status : (end : End) → EndsVerifyingDigest end → (TellsNoFault end → ⊥) → (end ≡ Told fault.Input → ⊥) → (end ≡ Told fault.OtherHistory → ⊥)
    → IsStatus 6 (end_status end)
digest_status Done kind untold input other = absurd (untold tt)
digest_status Refused kind untold input other = absurd kind
digest_status (Unwritten which) kind untold input other = absurd (untold tt)
digest_status (Told fault.Usage) kind untold input other = absurd kind
digest_status (Told fault.Input) kind untold input other = absurd (input refl)
digest_status (Told fault.Device) kind untold input other = absurd kind
digest_status (Told (fault.NotAJournal place)) kind untold input other = inl refl
digest_status (Told fault.Full) kind untold input other = absurd kind
digest_status (Told fault.Memory) kind untold input other = inr refl
digest_status (Told fault.OldVersion) kind untold input other = absurd kind
digest_status (Told fault.OtherHistory) kind untold input other = absurd (other refl)
digest_status BroughtInPart kind untold input other = absurd kind
digest_status Differ kind untold input other = absurd kind

pub none_digested : (o : Outcome) (journal : List ℕ) (count : ℕ) (digits : List ℕ) → VerifiesDigest journal count digits o → o.old.tells ≡ true
    → (o.end ≡ Told fault.Input → ⊥) → IsSomeAnd (o.old.file journal) IsNoHistory → IsStatus 6 (end_status o.end)
none_digested o journal count digits v tells no_input none =
    with_bytes (o.old.file journal) none (λ bytes there no.
    digest_status o.end v.ends
    (λ untold.
    let told : IsToldDigest count digits bytes o = subst (λ file. IsSomeAnd file (λ log. IsToldDigest count digits log o)) there (v.own untold tells) in
    no told.is.history ∣ has_one bytes told.verified told.is ∣₁)
    no_input
    (λ is.
    let of_other : HasOtherDigest count digits bytes = subst (λ file. IsSomeAnd file (HasOtherDigest count digits)) there (v.other is tells) in
    no of_other.is.history ∣ has_one bytes of_other.verified of_other.is ∣₁))
