-- A header of which bytes are missing.
use Rattle.std.proofs.Common.{◌≡◌, ◌∙◌, ℕ, ◌+◌, ◌≤◌, true, List, [], ◌∷◌, ◌++◌, length, take, drop, Some, None, ◌==◌, ◌||◌, cond, refl, sym, ap, arith}
use Rattle.std.proofs.lemmas.List.{length-take}
use Rattle.std.proofs.lemmas.Bool.Decides.{nat_tests}
use Rattle.commit_journal.specs.declared.format.TheConstants.{HEADER_1, HEADER_2, FIRST_GATE}
use Rattle.commit_journal.specs.Log.{first_differing, header_fault}

right_on : (place : ℕ) (first second : List ℕ) → length first ≡ length second → first_differing place first second second ≡ None
unfolding first_differing
right_on place [] [] same = refl
right_on place [] (b ∷ second) same = absurd (omega (arith, same))
right_on place (a ∷ first) [] same = absurd (omega (arith, same))
right_on place (a ∷ first) (b ∷ second) same =
    let test : (b == a) || (b == b) ≡ true = grind (arith, nat_tests) in
    rw test (right_on (place + 1) first second (omega (arith, same)))

differing_none : (place : ℕ) (first second : List ℕ) → first_differing place first second [] ≡ None
unfolding first_differing
differing_none place [] second = refl
differing_none place (a ∷ first) [] = refl
differing_none place (a ∷ first) (b ∷ second) = refl

-- where right bytes stand in place of those that are missing, the first wrong byte is the same
pub filled : (place : ℕ) (first second bytes : List ℕ) → length first ≡ length second → length bytes ≤ length second
    → first_differing place first second (bytes ++ drop (length bytes) second) ≡ first_differing place first second bytes
unfolding first_differing
filled place first second [] same within = right_on place first second same ∙ sym (differing_none place first second)
filled place [] [] (byte ∷ bytes) same within = absurd (omega (arith, within))
filled place [] (b ∷ second) (byte ∷ bytes) same within = absurd (omega (arith, same))
filled place (a ∷ first) [] (byte ∷ bytes) same within = absurd (omega (arith, same))
filled place (a ∷ first) (b ∷ second) (byte ∷ bytes) same within =
    ap (λ rest. cond ((byte == a) || (byte == b)) rest (Some place)) (filled (place + 1) first second bytes (omega (arith, same)) (omega (arith, within)))

pub filled_same : (log : List ℕ) → first_differing 0 HEADER_1 HEADER_2 (take FIRST_GATE log ++ drop (length (take FIRST_GATE log)) HEADER_2)
    ≡ first_differing 0 HEADER_1 HEADER_2 (take FIRST_GATE log)
filled_same log = filled 0 HEADER_1 HEADER_2 (take FIRST_GATE log) refl (let short = length-take FIRST_GATE log in omega (arith, short))

header_at : (log header : List ℕ) → header ≡ take FIRST_GATE log ++ drop (length (take FIRST_GATE log)) HEADER_2 → first_differing 0 HEADER_1 HEADER_2 header ≡ header_fault log
header_at log header is = ap (first_differing 0 HEADER_1 HEADER_2) is ∙ filled_same log

pub none_wrong : (log header : List ℕ) → header ≡ take FIRST_GATE log ++ drop (length (take FIRST_GATE log)) HEADER_2 → first_differing 0 HEADER_1 HEADER_2 header ≡ None → None ≡ header_fault log
none_wrong log header is right = sym right ∙ header_at log header is

pub first_wrong : (log header : List ℕ) (place : ℕ) → header ≡ take FIRST_GATE log ++ drop (length (take FIRST_GATE log)) HEADER_2
    → first_differing 0 HEADER_1 HEADER_2 header ≡ Some place → Some place ≡ header_fault log
first_wrong log header place is wrong = sym wrong ∙ header_at log header is
