-- The runs of a log's entries are in order.
use Rattle.std.proofs.Common.{◌≡◌, ℕ, List, [], ◌∷◌, ◌++◌, refl, sym, subst, arith, append_assoc}
use Rattle.std.proofs.lemmas.List.{append-nil}
use Rattle.std.proofs.lemmas.List.Elements.{All-nil, All-cons, All-head, All-tail}
use Rattle.std.specs.List.{All}
use Rattle.marc_types.specs.declared.entry.Entry.{Entry}
use Rattle.commit_journal.specs.Log.{version_of}
use Rattle.entry_record.specs.History.{last_run}
use Rattle.entry_history.specs.Payloads.{IsOf, IsOld, CanFollow, Newer, Older, IsHistory, NoMore, OneMore}
use Rattle.durable_catalogue.specs.Logs.{IsLogOf}
use Rattle.durable_catalogue.proofs.Histories.{run_behind, follows_more}
use Rattle.migrate_command.specs.Fronts.{EachFollows}

of_run : (run loader : ℕ) (library : List ℕ) (entries : List Entry) → All (IsOf run loader library) entries → All (λ x. x.run ≡ run) entries
of_run run loader library entries all i d within = (all i d within).run_is

of_none : (entries : List Entry) → All IsOld entries → All (λ x. x.run ≡ 0) entries
of_none entries all i d within = (all i d within).run_is

-- entries of one run that can follow
follow_all : (run : ℕ) (before entries : List Entry) → CanFollow before run → All (λ x. x.run ≡ run) entries → EachFollows before entries
follow_all run before [] follows all = tt
follow_all run before (e ∷ es) follows all =
    let is : e.run ≡ run = All-head (λ y. y.run ≡ run) e es all in
    let one : All (λ y. y.run ≡ run) (e ∷ []) = All-cons (λ y. y.run ≡ run) e [] is (All-nil (λ y. y.run ≡ run)) in (
      subst (CanFollow before) (sym is) follows,
      follow_all run (before ++ e ∷ []) es (follows_more before (e ∷ []) run follows one) (All-tail (λ y. y.run ≡ run) e es all),
    )

follow_append : (before xs ys : List Entry) → EachFollows before xs → EachFollows (before ++ xs) ys → EachFollows before (xs ++ ys)
follow_append before [] ys first others = subst (λ es. EachFollows es ys) (append-nil before) others
follow_append before (x ∷ xs) ys first others =
    (first.0, follow_append (before ++ x ∷ []) xs ys first.1 (subst (λ es. EachFollows es ys) (sym (append_assoc before (x ∷ []) xs)) others))

follow_history : (version : ℕ) {before all : List Entry} {payloads : List (List ℕ)} → IsHistory version before payloads all → (version ≡ 1 → last_run before ≡ 0)
    → EachFollows [] before → EachFollows [] all
follow_history version (NoMore entries) old each = each
follow_history version (OneMore before entries all payload payloads (Newer two held) others) old each =
    follow_history version others (λ one. absurd (omega (arith, one, two)))
    (follow_append [] before entries each (follow_all held.run before entries held.follows (of_run held.run held.loader held.library entries held.shared)))
follow_history version (OneMore before entries all payload payloads (Older one held) others) old each =
    let none = of_none entries held.old in
    let is : last_run (before ++ entries) ≡ 0 = run_behind 0 before entries held.count.some none in
    let zero_before : last_run before ≡ 0 = old one in
    let follows : CanFollow before 0 = record { rises = omega (arith, zero_before); bounded = omega arith } in
    follow_history version others (λ same. is) (follow_append [] before entries each (follow_all 0 before entries follows none))

pub log_follows : (entries : List Entry) (log : List ℕ) → IsLogOf entries log → EachFollows [] entries
log_follows entries log is = follow_history (version_of log) is.holds (λ one. refl) tt

-- entries among others
follow_front : (before xs ys : List Entry) → EachFollows before (xs ++ ys) → EachFollows before xs
follow_front before [] ys h = tt
follow_front before (x ∷ xs) ys h = (h.0, follow_front (before ++ x ∷ []) xs ys h.1)

follow_rest : (before xs ys : List Entry) → EachFollows before (xs ++ ys) → EachFollows (before ++ xs) ys
follow_rest before [] ys h = subst (λ es. EachFollows es ys) (sym (append-nil before)) h
follow_rest before (x ∷ xs) ys h = subst (λ es. EachFollows es ys) (append_assoc before (x ∷ []) xs) (follow_rest (before ++ x ∷ []) xs ys h.1)

pub follows_within : (before xs ys zs : List Entry) → EachFollows before ((xs ++ ys) ++ zs) → EachFollows (before ++ xs) ys
follows_within before xs ys zs h = follow_rest before xs ys (follow_front before (xs ++ ys) zs h)
