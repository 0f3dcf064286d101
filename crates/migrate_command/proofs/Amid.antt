-- Images with a front of a history.
use Rattle.std.proofs.Common.{◌≡◌, ◌⊎◌, inl, inr, ℕ, ◌+◌, ◌≤◌, max, List, ◌++◌, length, take, drop, sym, ap, subst, ◌∙◌, arith, take-append-drop}
use Rattle.std.proofs.lemmas.Grind.{common_steps}
use Rattle.marc_types.specs.declared.entry.Entry.{Entry}
use Rattle.commit_journal.specs.declared.format.TheConstants.{BLANK_LENGTH}
use Rattle.commit_journal.specs.Log.{version_of}
use Rattle.durable_catalogue.specs.Logs.{IsLogOf}
use Rattle.durable_catalogue.specs.Images.{framed_lengths}
use Rattle.durable_catalogue.proofs.Framed.{framed_append}
use Rattle.migrate_command.specs.Migrations.{IsAmid, Before, Behind}

-- a front of a front
front_front : (xs : List Entry) (n m : ℕ) → n ≤ m → m ≤ length xs → take n (take m xs) ≡ take n xs
front_front xs n m shorter within = grind (arith, common_steps)

pub amid : (history : List Entry) (count n : ℕ) (log c : List ℕ) → count ≤ n → n ≤ length history → version_of c ≡ 2 → IsLogOf (take n history) c
    → length c + framed_lengths (take count history) ≤ max BLANK_LENGTH (length log) + framed_lengths history
    → IsAmid (Unit {0}) history (take count history) log c
amid history count n log c least most newest has no_longer =
    let more : List Entry = drop count (take n history) in
    let rest : List Entry = drop n history in
    let split : take count history ++ more ≡ take n history =
    ap (λ xs. xs ++ more) (sym (front_front history count n least most)) ∙ take-append-drop count (take n history) in
    let whole : (take count history ++ more) ++ rest ≡ history = ap (λ xs. xs ++ rest) split ∙ take-append-drop n history in
    let all = framed_append (take count history ++ more) rest in
    let front = framed_append (take count history) more in
    let behind = framed_append more rest in
    Behind tt more rest whole (subst (λ es. IsLogOf es c) (sym split) has) newest (omega (arith, no_longer, ap framed_lengths whole, all, front, behind))

-- so many, or more
module _ (history : List Entry) (count at next : ℕ) (more : List Entry) (log c : List ℕ) (least : count ≤ at) (on : at ≤ next) (most : next ≤ length history)
    (there : take next history ≡ take at history ++ more) (newest : version_of c ≡ 2)
    (no_longer : length c + framed_lengths (take count history) ≤ max BLANK_LENGTH (length log) + framed_lengths (take at history) + framed_lengths more) where
  within_all : length c + framed_lengths (take count history) ≤ max BLANK_LENGTH (length log) + framed_lengths history
  within_all =
      let front = framed_append (take next history) (drop next history) in
      let both = framed_append (take at history) more in
      omega (arith, no_longer, front, both, ap framed_lengths there, ap framed_lengths (take-append-drop next history))

  pub amid_either : IsLogOf (take at history) c ⊎ IsLogOf (take at history ++ more) c → IsAmid (Unit {0}) history (take count history) log c
  amid_either (inl has) = amid history count at log c least (omega (arith, on, most)) newest has within_all
  amid_either (inr has) =
      let has_more : IsLogOf (take next history) c = subst (λ es. IsLogOf es c) (sym there) has in
      amid history count next log c (omega (arith, least, on)) most newest has_more within_all

-- What is so where one thing may be is so where another may that comes with it, and with which it comes. It is so behind a log that is
-- no shorter.
pub amid_where : (may also : Type 0) (history entries : List Entry) (log other c : List ℕ) → (may → also) → (also → may)
    → length log ≤ max BLANK_LENGTH (length other) → IsAmid may history entries log c → IsAmid also history entries other c
amid_where may also history entries log other c comes back shorter (Before is newest no_longer) =
    Before is (λ so. newest (back so)) (omega (arith, shorter, no_longer))
amid_where may also history entries log other c comes back shorter (Behind so more rest split is newest no_longer) =
    Behind (comes so) more rest split is newest (omega (arith, shorter, no_longer))
