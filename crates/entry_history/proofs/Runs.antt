-- A payload whose run is written anew.
use Rattle.std.proofs.Common.{◌≡◌, ℕ, List, [], ◌∷◌, ◌++◌, length, take, drop, refl, ap, append_assoc, arith}
use Rattle.std.specs.Int.{w32, w64, to_be_bytes}
use Rattle.std.specs.List.{flat_map}
use Rattle.std.proofs.lemmas.Grind.{common_steps}
use Rattle.marc_types.specs.declared.entry.Entry.{Entry}
use Rattle.entry_record.specs.History.{with_run}
use Rattle.entry_history.specs.Format.{payload_head, entry_bytes, payload_bytes}

-- what stands behind the run
behind_run : ℕ → List ℕ → ℕ → List Entry → List ℕ
behind_run loader library count entries =
    to_be_bytes w32 loader ++ (length library ∷ library ++ (count ∷ [] ++ flat_map entry_bytes entries))

payload-parts : (run loader : ℕ) (library : List ℕ) (entries : List Entry)
    → payload_bytes run loader library entries ≡ to_be_bytes w64 run ++ behind_run loader library (length entries) entries
unfolding payload_bytes payload_head behind_run
payload-parts run loader library entries = simp append_assoc refl

behind : (run : ℕ) (rest : List ℕ) → drop 8 (to_be_bytes w64 run ++ rest) ≡ rest
behind run rest = refl

-- the payload of the same entries in another run
pub payload_in_run : (run now loader : ℕ) (library : List ℕ) (entries : List Entry)
    → to_be_bytes w64 now ++ drop 8 (payload_bytes run loader library entries) ≡ payload_bytes now loader library entries
payload_in_run run now loader library entries =
    rw (payload-parts run loader library entries, payload-parts now loader library entries, behind run (behind_run loader library (length entries) entries)) refl

-- an entry has the same bytes in each run
pub same_entries : (run : ℕ) (entries : List Entry) → flat_map entry_bytes (with_run run entries) ≡ flat_map entry_bytes entries
unfolding entry_bytes
same_entries run [] = refl
same_entries run (e ∷ es) = ap (λ rest. entry_bytes e ++ rest) (same_entries run es)

-- what a slice of a whole vector leaves of it
pub written_whole : {X : Type 0} (n : ℕ) (new old : List X) → n ≡ length old → length new ≡ length old → take n (new ++ drop (length new) old) ≡ new
written_whole n new old is same = grind (arith, common_steps)
