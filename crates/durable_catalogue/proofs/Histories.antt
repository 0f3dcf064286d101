-- Histories of payloads, one payload after the other, and the runs of their entries.
use Rattle.std.proofs.Common.{◌≡◌, ℕ, zero, suc, ◌≤◌, List, [], ◌∷◌, ◌++◌, length, Option, Some, None, get_or, refl, sym, ap, subst, ◌∙◌, arith, length-append}
use Rattle.std.proofs.lemmas.List.{append-nil}
use Rattle.std.proofs.lemmas.List.Elements.{All-head, All-tail}
use Rattle.std.specs.List.{All, AllPairs, last_or}
use Rattle.std.specs.Option.{option_map_or}
use Rattle.marc_types.specs.declared.entry.Entry.{Entry}
use Rattle.entry_record.specs.History.{last_run}
use Rattle.entry_history.specs.Batches.{IsLike, IsBatch, batch_payload}
use Rattle.entry_history.specs.Payloads.{IsEntry, IsOf, CanFollow, HoldsNow, Holds, Newer, Older, IsHistory, NoMore, OneMore}

pub none_more : (version : ℕ) {before all : List Entry} → IsHistory version before [] all → all ≡ before
none_more version (NoMore entries) = refl

-- one payload behind the others
pub one_behind : (version : ℕ) (more : List Entry) (payload : List ℕ) {before all : List Entry} {payloads : List (List ℕ)}
    → IsHistory version before payloads all → Holds version all more payload → IsHistory version before (payloads ++ payload ∷ []) (all ++ more)
one_behind version more payload (NoMore entries) holds = OneMore entries more (entries ++ more) payload [] holds (NoMore (entries ++ more))
one_behind version more payload (OneMore before entries all first rest is others) holds =
    OneMore before entries (all ++ more) first (rest ++ payload ∷ []) is (one_behind version more payload others holds)

-- the last item of a list that has another behind it
last_behind : (o : Option Entry) (before : List Entry) (e : Entry) (es : List Entry) → last_or o (before ++ e ∷ es) ≡ last_or (Some e) es
last_behind o [] e es = refl
last_behind o (x ∷ xs) e es = last_behind (Some x) xs e es

last_shared : (run : ℕ) (e : Entry) (es : List Entry) → e.run ≡ run → All (λ x. x.run ≡ run) es → option_map_or (λ x. x.run) (last_or (Some e) es) 0 ≡ run
last_shared run e [] is all = is
last_shared run e (x ∷ xs) is all = last_shared run x xs (All-head (λ y. y.run ≡ run) x xs all) (All-tail (λ y. y.run ≡ run) x xs all)

-- the last of some entries of one run has that run
pub run_behind : (run : ℕ) (before entries : List Entry) → 1 ≤ length entries → All (λ x. x.run ≡ run) entries → last_run (before ++ entries) ≡ run
run_behind run before [] some all = absurd (omega (arith, some))
run_behind run before (e ∷ es) some all =
    ap (λ o. option_map_or (λ x. x.run) o 0) (last_behind None before e es)
    ∙ last_shared run e es (All-head (λ y. y.run ≡ run) e es all) (All-tail (λ y. y.run ≡ run) e es all)

of_run : (run loader : ℕ) (library : List ℕ) (entries : List Entry) → All (IsOf run loader library) entries → All (λ x. x.run ≡ run) entries
of_run run loader library entries all i d within = (all i d within).run_is

-- no entry's run is greater than the number of entries up to it
pub runs_bounded : (version : ℕ) {before all : List Entry} {payloads : List (List ℕ)} → version ≡ 2 → IsHistory version before payloads all
    → last_run before ≤ length before → last_run all ≤ length all
runs_bounded version newest (NoMore entries) bounded = bounded
runs_bounded version newest (OneMore before entries all payload payloads (Newer two held) others) bounded =
    let is = run_behind held.run before entries held.count.some (of_run held.run held.loader held.library entries held.shared) in
    runs_bounded version newest others (omega (arith, is, held.follows.bounded, held.count.some, length-append before entries))
runs_bounded version newest (OneMore before entries all payload payloads (Older one held) others) bounded = absurd (omega (arith, newest, one))

-- a run that can follow some entries can follow them with more of that run
pub follows_more : (before entries : List Entry) (run : ℕ) → CanFollow before run → All (λ x. x.run ≡ run) entries → CanFollow (before ++ entries) run
follows_more before [] run follows all = subst (λ es. CanFollow es run) (sym (append-nil before)) follows
follows_more before (e ∷ es) run follows all = record {
  rises = omega (arith, run_behind run before (e ∷ es) (omega arith) all);
  bounded = omega (arith, follows.bounded, length-append before (e ∷ es));
}

like_first : (e : Entry) (es : List Entry) → AllPairs IsLike (e ∷ es) → All (IsOf e.run e.loader e.library) (e ∷ es)
like_first e es alike zero d within = record { run_is = refl; loader_is = refl; library_is = refl }
like_first e es alike (suc k) d within =
    let like : IsLike e (get_or es k d) = alike 0 (suc k) d (omega arith) within in
    record { run_is = sym like.run; loader_is = sym like.loader; library_is = sym like.library }

-- the entries of a batch that are not none, in its payload
pub batch_held : (before entries : List Entry) (run : ℕ) → CanFollow before run → 1 ≤ length entries → IsBatch entries → All IsEntry entries
    → All (λ x. x.run ≡ run) entries → HoldsNow before entries (batch_payload entries)
batch_held before [] run follows some batch each all = absurd (omega (arith, some))
batch_held before (e ∷ es) run follows some batch each all =
    record {
      run = e.run;
      loader = e.loader;
      library = e.library;
      written = refl;
      follows = subst (CanFollow before) (sym (All-head (λ y. y.run ≡ run) e es all)) follows;
      count = record { some = some; few = batch.few };
      shared = like_first e es batch.alike;
      entries_are = each;
    }

pub bounded_behind_none : (version : ℕ) (payloads : List (List ℕ)) (all : List Entry) → version ≡ 2 → IsHistory version [] payloads all → last_run all ≤ length all
bounded_behind_none version payloads all newest holds = runs_bounded version newest holds (omega arith)
