-- A header, and what stands for it in the front of a log.
use Rattle.std.proofs.Common.{◌≡◌, ◌∙◌, ℕ, ◌<◌, ◌≤◌, List, ◌++◌, length, take, get_or, Option, refl, ap, arith}
use Rattle.std.proofs.lemmas.List.{take-append-le}
use Rattle.std.proofs.lemmas.Grind.{common_steps}
use Rattle.commit_journal.specs.declared.format.TheConstants.{VERSION_PLACE, FIRST_GATE}
use Rattle.commit_journal.specs.Log.{header_fault, version_of_header}
use Rattle.journal_verification.specs.Coming.{Comes}

front_there : (window rest : List ℕ) (i : ℕ) → i < length window → get_or (window ++ rest) i 0 ≡ get_or window i 0
front_there window rest i within = grind (arith, common_steps)

says_same : (a b : List ℕ) → get_or a VERSION_PLACE 0 ≡ get_or b VERSION_PLACE 0 → version_of_header a ≡ version_of_header b
unfolding version_of_header
says_same a b same = rw same refl

header_same : (a b : List ℕ) → take FIRST_GATE a ≡ take FIRST_GATE b → header_fault a ≡ header_fault b
header_same a b same = rw same refl

-- the header of what was read is that of all that comes
pub header_there : (log window : List ℕ) (left : Option (List ℕ)) → Comes window left log → 16 ≤ length window → header_fault log ≡ header_fault window
header_there log window left c long = header_same log window (ap (take FIRST_GATE) c.is ∙ take-append-le FIRST_GATE window c.rest long)

pub version_there : (log window : List ℕ) (left : Option (List ℕ)) → Comes window left log → 16 ≤ length window → version_of_header log ≡ version_of_header window
version_there log window left c long =
    says_same log window (ap (λ l. get_or l VERSION_PLACE 0) c.is ∙ front_there window c.rest VERSION_PLACE (omega (arith, long)))
