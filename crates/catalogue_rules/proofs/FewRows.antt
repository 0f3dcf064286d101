-- A catalogue has no more records than entries, so a commit changes no more.
use Rattle.std.proofs.Common.{◌≡◌, ℕ, ◌+◌, ◌≤◌, Bool, true, false, cond, List, [], ◌∷◌, length, map, if◌then◌else◌, refl, arith}
use Rattle.std.specs.Prelude.{fold}
use Rattle.std.specs.Map.{remove_entry}
use Rattle.std.specs.BTreeMap.{insert_entry}
use Rattle.std.specs.Ordering.{match_ordering}
use Rattle.std.specs.declared.cmp.Ordering.{Ordering}
use Rattle.std.specs.declared.cmp.Ordering.TheVariants.{Less, Equal, Greater}
use Rattle.std.proofs.lemmas.List.{length-map}
use Rattle.std.proofs.lemmas.List.Sums.{count_by-le-length}
use Rattle.marc_types.specs.Order.{key_cmp, same_key}
use Rattle.marc_types.specs.declared.key.Class.{Class}
use Rattle.marc_types.specs.declared.key.Class.TheVariants.{Authority, Bibliographic}
use Rattle.marc_types.specs.declared.key.Key.{Key}
use Rattle.marc_types.specs.declared.entry.Entry.{Entry}
use Rattle.entry_record.specs.Identity.{is_deletion}
use Rattle.catalogue_rules.specs.State.{KeptField, KeptRecord, Row, State, empty_state, new_record, each_in_row, each_field, linkable_authorities}
use Rattle.entry_record.specs.Authority.{successor_of}
use Rattle.catalogue_rules.specs.Settle.{Arrival, place, loosen, put, put_in, settle, settle_field, step, state_after, arrival_of}
use Rattle.catalogue_rules.specs.Receipt.{is_changed_row, changed_in, receipt_of, receipt}
use Rattle.catalogue_rules.specs.Receipts.{receipt_behind}

abbrev rows_in : State → ℕ
rows_in s = length s.authorities + length s.bibliographic

placed_few : (order : Ordering) (k : Key) (r : KeptRecord) (row : Row) (rows inserted : List Row) → length inserted ≤ length rows + 1
    → length (match_ordering order ((k, r) ∷ row ∷ rows) ((row.0, r) ∷ rows) (row ∷ inserted)) ≤ length (row ∷ rows) + 1
placed_few Less k r row rows inserted h = omega arith
placed_few Equal k r row rows inserted h = omega arith
placed_few Greater k r row rows inserted h = omega arith

inserted_few : (rows : List Row) (k : Key) (r : KeptRecord) → length (insert_entry key_cmp rows k r) ≤ length rows + 1
inserted_few [] k r = omega arith
inserted_few (row ∷ rows) k r = placed_few (key_cmp k row.0) k r row rows (insert_entry key_cmp rows k r) (inserted_few rows k r)

removed_if : (b : Bool) (row : Row) (rows removed : List Row) → length removed ≤ length rows
    → length (cond b rows (row ∷ removed)) ≤ length (row ∷ rows)
removed_if true row rows removed h = omega arith
removed_if false row rows removed h = omega arith

removed_few : (test : Key → Bool) (rows : List Row) → length (remove_entry test rows) ≤ length rows
removed_few test [] = omega arith
removed_few test (row ∷ rows) = removed_if (test row.0) row rows (remove_entry test rows) (removed_few test rows)

place_if : (deletion : Bool) (rows removed inserted : List Row) → length removed ≤ length rows → length inserted ≤ length rows + 1
    → length (if deletion then removed else inserted) ≤ length rows + 1
place_if true rows removed inserted p q = omega arith
place_if false rows removed inserted p q = q

place_few : (a : Arrival) (rows : List Row) → length (place a rows) ≤ length rows + 1
unfolding place
place_few a rows =
    place_if (is_deletion a.leader) rows (remove_entry (same_key a.key) rows) (insert_entry key_cmp rows a.key (new_record a.leader a.fields))
    (removed_few (same_key a.key) rows) (inserted_few rows a.key (new_record a.leader a.fields))

each_same : (change : Class → KeptField → KeptField) (s : State) → rows_in (each_field change s) ≡ rows_in s
unfolding each_field
each_same change s =
    let one = length-map s.authorities (each_in_row (change Authority)) in
    let two = length-map s.bibliographic (each_in_row (change Bibliographic)) in
    omega arith

settled_same : (s : State) → rows_in (settle s) ≡ rows_in s
unfolding settle
settled_same s = each_same (settle_field (linkable_authorities s)) s

put_in_few : (class : Class) (a : Arrival) (s : State) → rows_in (put_in class a s) ≤ rows_in s + 1
put_in_few Authority a s =
    let placed : State = record s { authorities = place a s.authorities } in
    let same = each_same (loosen (linkable_authorities placed) a.key (successor_of a.leader a.key a.fields)) placed in
    let few = place_few a s.authorities in
    omega arith
put_in_few Bibliographic a s = let few = place_few a s.bibliographic in omega arith

put_few : (a : Arrival) (s : State) → rows_in (put a s) ≤ rows_in s + 1
unfolding put
put_few a s = put_in_few a.class a s

step_few : (a : Arrival) (s : State) → rows_in (step s a) ≤ rows_in s + 1
step_few a s = let same = settled_same (put a s) in let few = put_few a s in omega arith

steps_few : (history : List Arrival) (s : State) → rows_in (fold step s history) ≤ rows_in s + length history
steps_few [] s = omega arith
steps_few (a ∷ history) s = let rest = steps_few history (step s a) in let one = step_few a s in omega arith

after_few : (history : List Arrival) → rows_in (state_after history) ≤ length history
unfolding state_after
after_few history = let few = steps_few history empty_state in let none : rows_in empty_state ≡ 0 = refl in omega arith

changed_few : (a : Arrival) (before now : State) → changed_in a before now Authority + changed_in a before now Bibliographic ≤ rows_in now
changed_few a before now =
    let one = count_by-le-length (is_changed_row a before Authority) now.authorities in
    let two = count_by-le-length (is_changed_row a before Bibliographic) now.bibliographic in
    omega arith

receipt_few : (history : List Arrival) (a : Arrival) → (receipt history a).changed_records ≤ length history + 1
unfolding receipt receipt_of
receipt_few history a =
    let changed = changed_few a (state_after history) (step (state_after history) a) in
    let one = step_few a (state_after history) in
    let all = after_few history in
    omega arith

pub few_changed : (history : List Entry) (e : Entry) → (receipt_behind history e).changed_records ≤ length history + 1
few_changed history e =
    let few = receipt_few (map arrival_of history) (arrival_of e) in
    let same = length-map history arrival_of in
    omega arith
