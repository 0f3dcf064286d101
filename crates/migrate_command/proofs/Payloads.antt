-- The payloads of entries, in runs.
use Rattle.std.proofs.Common.{◌≡◌, ◌∙◌, ℕ, zero, suc, ◌+◌, ◌-◌, ◌<◌, ◌≤◌, List, [], ◌∷◌, ◌++◌, length, take, drop, get_or, refl, sym, ap, subst, arith, append_assoc}
use Rattle.std.proofs.lemmas.List.{append-nil, take_more, take_all}
use Rattle.std.proofs.lemmas.List.Elements.{All-nil, All-cons}
use Rattle.std.specs.List.{All}
use Rattle.std.proofs.lemmas.Grind.{common_steps}
use Rattle.marc_types.specs.declared.entry.Entry.{Entry}
use Rattle.commit_journal.specs.Journal.{frames_from, frames_len, IsPayload as Fits}
use Rattle.commit_journal.specs.Log.{payloads_of}
use Rattle.entry_history.specs.Alone.{IsPayload}
use Rattle.entry_history.specs.Payloads.{Holds, IsHistory}
use Rattle.entry_history.proofs.Alone.{held_alone, payload_some, payload_small}
use Rattle.durable_catalogue.specs.Images.{framed_lengths}
use Rattle.durable_catalogue.proofs.Histories.{one_behind}
use Rattle.migrate_command.specs.Fronts.{ArePayloads, EachFollows}

pub payloads_more : (es : List Entry) (ps : List (List ℕ)) (e : Entry) (p : List ℕ) → ArePayloads es ps → IsPayload e p → ArePayloads (es ++ e ∷ []) (ps ++ p ∷ [])
payloads_more [] [] e p are is = (is, tt)
payloads_more [] (q ∷ qs) e p are is = absurd are
payloads_more (x ∷ es) [] e p are is = absurd are
payloads_more (x ∷ es) (q ∷ qs) e p are is = (are.0, payloads_more es qs e p are.1 is)

pub payloads_length : (es : List Entry) (ps : List (List ℕ)) → ArePayloads es ps → length es ≡ length ps
payloads_length [] [] are = refl
payloads_length [] (q ∷ qs) are = absurd are
payloads_length (x ∷ es) [] are = absurd are
payloads_length (x ∷ es) (q ∷ qs) are = ap suc (payloads_length es qs are.1)

payloads_take : (n : ℕ) (es : List Entry) (ps : List (List ℕ)) → ArePayloads es ps → ArePayloads (take n es) (take n ps)
payloads_take zero es ps are = tt
payloads_take (suc n) [] [] are = tt
payloads_take (suc n) [] (q ∷ qs) are = absurd are
payloads_take (suc n) (x ∷ es) [] are = absurd are
payloads_take (suc n) (x ∷ es) (q ∷ qs) are = (are.0, payloads_take n es qs are.1)

payloads_drop : (n : ℕ) (es : List Entry) (ps : List (List ℕ)) → ArePayloads es ps → ArePayloads (drop n es) (drop n ps)
payloads_drop zero es ps are = are
payloads_drop (suc n) [] [] are = tt
payloads_drop (suc n) [] (q ∷ qs) are = absurd are
payloads_drop (suc n) (x ∷ es) [] are = absurd are
payloads_drop (suc n) (x ∷ es) (q ∷ qs) are = payloads_drop n es qs are.1

-- one more of those of a history, and the last of them
pub one_payload : (history : List Entry) (at : ℕ) (e : Entry) → at < length history → e ≡ get_or history at e → (ps : List (List ℕ)) (p : List ℕ)
    → ArePayloads (take at history) ps → IsPayload e p → (next : ℕ) → next ≡ at + 1 → ArePayloads (take next history) (ps ++ p ∷ [])
one_payload history at e within is ps p are one next next_is =
    let more : take next history ≡ take at history ++ e ∷ [] =
    ap (λ n. take n history) next_is ∙ take_more history at e within ∙ ap (λ x. take at history ++ x ∷ []) (sym is) in
    subst (λ es. ArePayloads es (ps ++ p ∷ [])) (sym more) (payloads_more (take at history) ps e p are one)

pub all_payloads : (history : List Entry) (at : ℕ) (ps : List (List ℕ)) → length history ≤ at → ArePayloads (take at history) ps → ArePayloads history ps
all_payloads history at ps whole are = subst (λ es. ArePayloads es ps) (take_all at history whole) are

-- each can be appended
pub payloads_fit : (es : List Entry) (ps : List (List ℕ)) → ArePayloads es ps → All Fits ps
payloads_fit [] [] are = All-nil Fits
payloads_fit [] (q ∷ qs) are = absurd are
payloads_fit (x ∷ es) [] are = absurd are
payloads_fit (x ∷ es) (q ∷ qs) are =
    let small = payload_small x q are.0.entry.admitted are.0.is in
    All-cons Fits q qs (payload_some x q are.0.is, omega (arith, small)) (payloads_fit es qs are.1)

-- a run of them
pub payloads_run : (from count : ℕ) (es : List Entry) (ps : List (List ℕ)) → ArePayloads es ps → ArePayloads (take count (drop from es)) (take count (drop from ps))
payloads_run from count es ps are = payloads_take count (drop from es) (drop from ps) (payloads_drop from es ps are)

-- the run is what more of the history is there then
pub run_there : (history : List Entry) (at next : ℕ) → at ≤ next → take next history ≡ take at history ++ take (next - at) (drop at history)
run_there history at next on = ap (λ n. take n history) (omega (arith, on)) ∙ split at (next - at) history
  where
    split : (first count : ℕ) (es : List Entry) → take (first + count) es ≡ take first es ++ take count (drop first es)
    split zero count es = ap (λ n. take n es) (omega arith)
    split (suc first) count [] = take_all (suc first + count) [] (omega arith) ∙ sym (take_all count [] (omega arith))
    split (suc first) count (x ∷ es) =
        let same : suc first + count ≡ suc (first + count) = omega arith in
        ap (λ n. take n (x ∷ es)) same ∙ ap (λ rest. x ∷ rest) (split first count es)

-- how many bytes they take
pub run_len : (es : List Entry) (ps : List (List ℕ)) → ArePayloads es ps → frames_len ps ≡ framed_lengths es
run_len [] [] are = refl
run_len [] (q ∷ qs) are = absurd are
run_len (x ∷ es) [] are = absurd are
run_len (x ∷ es) (q ∷ qs) are = let rest = run_len es qs are.1 in let first = ap (length {A = ℕ}) are.0.is in omega (arith, rest, first)

-- that of one more, and of all of them
pub frames_more : (ps : List (List ℕ)) (n : ℕ) (p : List ℕ) → n < length ps → p ≡ get_or ps n p → frames_len (take (n + 1) ps) ≡ frames_len (take n ps) + (4 + length p + 1)
frames_more ps n p within is =
    ap frames_len (take_more ps n p within) ∙ frames_append (take n ps) (get_or ps n p) ∙ ap (λ q. frames_len (take n ps) + (4 + length q + 1)) (sym is)
  where
    frames_append : (qs : List (List ℕ)) (q : List ℕ) → frames_len (qs ++ q ∷ []) ≡ frames_len qs + (4 + length q + 1)
    frames_append [] q = omega arith
    frames_append (r ∷ qs) q = let rest = frames_append qs q in omega (arith, rest)

pub frames_whole : (ps : List (List ℕ)) (n k room most : ℕ) → frames_len (take n ps) + room ≡ most → length ps ≤ n → k ≡ length ps → frames_len (take k ps) ≤ most
frames_whole ps n k room most is whole k_is =
    let all : frames_len (take n ps) ≡ frames_len ps = ap frames_len (take_all n ps whole) in
    let same : frames_len (take k ps) ≡ frames_len ps = ap frames_len (take_all k ps (omega (arith, k_is))) in
    omega (arith, is, all, same)

pub slice_len : (n : ℕ) (ps : List (List ℕ)) → length (take (length ps - n) (drop n ps)) ≡ length ps - n
slice_len n ps = grind (arith, common_steps)

pub payloads_back : (payloads : List (List ℕ)) (place : ℕ) → payloads_of (frames_from place payloads) ≡ payloads
payloads_back [] place = refl
payloads_back (payload ∷ payloads) place = ap (λ ps. payload ∷ ps) (payloads_back payloads _)

-- the history that they make of another
pub run_behind : (es before : List Entry) (ps qs : List (List ℕ)) → ArePayloads es qs → EachFollows before es → IsHistory 2 [] ps before → IsHistory 2 [] (ps ++ qs) (before ++ es)
run_behind [] before ps [] are follows is =
    subst (λ es. IsHistory 2 [] (ps ++ []) es) (sym (append-nil before)) (subst (λ l. IsHistory 2 [] l before) (sym (append-nil ps)) is)
run_behind [] before ps (q ∷ qs) are follows is = absurd are
run_behind (e ∷ es) before ps [] are follows is = absurd are
run_behind (e ∷ es) before ps (q ∷ qs) are follows is =
    let here : IsHistory 2 [] (ps ++ q ∷ []) (before ++ e ∷ []) =
    one_behind 2 (e ∷ []) q is (subst (λ p. Holds 2 before (e ∷ []) p) (sym are.0.is) (held_alone before e are.0.entry follows.0)) in
    let whole = run_behind es (before ++ e ∷ []) (ps ++ q ∷ []) qs are.1 follows.1 here in
    subst (λ l. IsHistory 2 [] l (before ++ e ∷ es)) (append_assoc ps (q ∷ []) qs)
    (subst (λ l. IsHistory 2 [] ((ps ++ q ∷ []) ++ qs) l) (append_assoc before (e ∷ []) es) whole)
