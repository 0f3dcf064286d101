-- The entries of a workload are committed one after the other.
use Rattle.std.proofs.Common.{◌≡◌, ◌∙◌, ◌+◌, ◌≤◌, Bool, false, List, [], ◌∷◌, ◌++◌, length, length-append, append_assoc, append-nil, sym, ap, subst, arith}
use Rattle.std.specs.Prelude.{◌||◌}
use Rattle.std.proofs.lemmas.Bool.{le-ltb}
use Rattle.std.proofs.lemmas.List.Sums.{sum_by-append, sum_by-cons}
use Rattle.marc_types.specs.declared.entry.Entry.{Entry}
use Rattle.marc_types.specs.declared.entry.Limits.{Limits}
use Rattle.entry_record.specs.History.{entry_size, entries_size}
use Rattle.plain_commands.specs.Loading.{LoadedView, lacks_room, nothing_loaded}

neither : (a b : Bool) → a ≡ false → b ≡ false → (a || b) ≡ false
neither a b first second = ap (λ x. x || b) first ∙ second

-- there is room for the next of entries that are all within the limits
pub room_for_next : (limits : Limits) (accepted before after all : List Entry) (e : Entry) → accepted ++ before ≡ all → before ≡ e ∷ after
    → length all ≤ limits.entries → entries_size all ≤ limits.bytes → lacks_room limits accepted e ≡ false
unfolding lacks_room
room_for_next limits accepted before after all e split next few small =
    let none = append-nil accepted in
    let number = ap (length {A = Entry}) split in
    let parts = length-append accepted before in
    let left = ap (length {A = Entry}) next in
    let before_it = ap (length {A = Entry}) none in
    let size = ap entries_size split in
    let sizes = sum_by-append entry_size accepted before in
    let size_left = ap entries_size next in
    let first = sum_by-cons entry_size e after in
    let size_before = ap entries_size none in
    neither _ _ (le-ltb limits.entries (length (accepted ++ []) + 1) (omega arith))
    (le-ltb limits.bytes (entries_size (accepted ++ []) + entry_size e) (omega arith))

-- it was committed
pub committed_next : (accepted now before after all : List Entry) (e : Entry) → accepted ++ before ≡ all → before ≡ e ∷ after
    → now ≡ accepted ++ e ∷ [] → now ++ after ≡ all
committed_next accepted now before after all e split next more =
    ap (λ l. l ++ after) more ∙ append_assoc accepted (e ∷ []) after ∙ ap (λ l. accepted ++ l) (sym next) ∙ split

-- no entry is left
pub committed_all : (accepted before all : List Entry) → accepted ++ before ≡ all → before ≡ [] → accepted ≡ all
committed_all accepted before all split none = sym (append-nil accepted) ∙ ap (λ l. accepted ++ l) (sym none) ∙ split

-- ---- from none on

-- all are within limits that have room for them
pub few_begun : (loaded : LoadedView) (limits : Limits) (entries all : List Entry) → loaded ≡ nothing_loaded limits → entries ≡ all → length all ≤ limits.entries
    → length (loaded.accepted ++ entries) ≤ loaded.limits.entries
few_begun loaded limits entries all none is few =
    subst (λ (l : LoadedView). length (l.accepted ++ entries) ≤ l.limits.entries) (sym none) (subst (λ (es : List Entry). length es ≤ limits.entries) (sym is) few)

pub small_begun : (loaded : LoadedView) (limits : Limits) (entries all : List Entry) → loaded ≡ nothing_loaded limits → entries ≡ all → entries_size all ≤ limits.bytes
    → entries_size (loaded.accepted ++ entries) ≤ loaded.limits.bytes
small_begun loaded limits entries all none is small =
    subst (λ (l : LoadedView). entries_size (l.accepted ++ entries) ≤ l.limits.bytes) (sym none) (subst (λ (es : List Entry). entries_size es ≤ limits.bytes) (sym is) small)

-- and then they were committed
pub all_begun : (loaded : LoadedView) (limits : Limits) (entries all now : List Entry) → loaded ≡ nothing_loaded limits → entries ≡ all → now ≡ loaded.accepted ++ entries
    → now ≡ all
all_begun loaded limits entries all now none is more = more ∙ ap (λ (l : LoadedView). l.accepted ++ entries) none ∙ is
