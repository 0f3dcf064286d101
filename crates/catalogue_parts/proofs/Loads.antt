-- What the commits of bibliographic records tell of their own headings, in the parts and in the whole.
use Rattle.std.proofs.Common.{◌≡◌, ℕ, ◌+◌, Bool, true, false, cond, List, [], ◌∷◌, ◌++◌, map, refl, sym, ap, ◌∙◌, arith}
use Rattle.std.specs.Prelude.{All, filter, fold}
use Rattle.std.specs.List.{sum_by, count_by}
use Rattle.std.specs.Option.{option_map_or}
use Rattle.std.proofs.lemmas.List.{map-append}
use Rattle.std.proofs.lemmas.List.Elements.{recursion_from_All}
use Rattle.std.proofs.lemmas.List.Sums.{sum_by-cons, fold-append}
use Rattle.std.proofs.lemmas.Map.Entries.{lookup-filter-keys}
use Rattle.marc_types.specs.Order.{key_Decides, same_key}
use Rattle.marc_types.specs.declared.key.Class.{Class}
use Rattle.marc_types.specs.declared.key.Class.TheVariants.{Bibliographic}
use Rattle.marc_types.specs.declared.key.Key.{Key}
use Rattle.marc_types.specs.declared.entry.Entry.{Entry}
use Rattle.marc_types.specs.declared.entry.Receipt.{Receipt}
use Rattle.entry_record.specs.History.{IsAdmitted}
use Rattle.catalogue_rules.specs.State.{State, empty_state, linkable_authorities}
use Rattle.catalogue_rules.specs.Settle.{Arrival, step, state_after, arrival_of, state_of}
use Rattle.catalogue_rules.specs.Receipt.{Standing, is_linked, is_ambiguous, is_unlinked, count_standing, kept_under, receipt_of, receipt}
use Rattle.catalogue_rules.specs.Receipts.{receipt_behind, receipts_behind}
use Rattle.catalogue_rules.proofs.Elements.{Each, each_weaker, each_both, each_map, each_filter}
use Rattle.catalogue_rules.proofs.States.{IsDoneState, IsFitArrival, done_valid, fit_entry}
use Rattle.catalogue_rules.proofs.Still.{valid_settled}
use Rattle.catalogue_parts.specs.Joined.{TellTogether}
use Rattle.catalogue_parts.specs.Parts.{Part, comes_to, part_of, cut, ranges}
use Rattle.catalogue_parts.proofs.Cut.{comes, ready_again, step_done, own_step, other_step, empty_done, arrivals_of_part, part_cut}
use Rattle.catalogue_parts.proofs.Ranges.{in_one_range}

-- ---- one commit

-- how many fields of the record under the arrival's key stand so behind its commit
abbrev own_number : (Standing → Bool) → Class → State → Arrival → ℕ
own_number test class s a = option_map_or (count_standing test (linkable_authorities (step s a)) class) (kept_under class a.key (step s a)) 0

kept_same : (mine : Part) (key : Key) (s : State) → mine key ≡ true → kept_under Bibliographic key (cut mine s) ≡ kept_under Bibliographic key s
kept_same mine key s own = lookup-filter-keys (same_key key) mine true (λ other e. ap mine (sym ((key_Decides key other).0 e)) ∙ own) s.bibliographic

own_same : (test : Standing → Bool) (mine : Part) (a : Arrival) (s : State) → a.class ≡ Bibliographic → mine a.key ≡ true → IsDoneState s →
    own_number test Bibliographic (cut mine s) a ≡ own_number test Bibliographic s a
own_same test mine a s class own d =
    let comes_here : comes mine a ≡ true = ap (λ c. comes_to mine c a.key) class ∙ own in
    let now = own_step mine a s comes_here (ready_again s d) in
    ap (λ (t : State). option_map_or (count_standing test (linkable_authorities t) Bibliographic) (kept_under Bibliographic a.key t) 0) now
    ∙ ap (λ o. option_map_or (count_standing test (linkable_authorities (step s a)) Bibliographic) o 0) (kept_same mine a.key (step s a) own)

-- ---- commits one after the other

abbrev numbers : (Standing → Bool) → State → List Arrival → ℕ
numbers test s [] = 0
numbers test s (a ∷ more) = own_number test Bibliographic s a + numbers test (step s a) more

-- those of a part's arrivals among them
abbrev own_numbers : (Standing → Bool) → Part → State → List Arrival → ℕ
own_numbers test mine s [] = 0
own_numbers test mine s (a ∷ more) = cond (mine a.key) (own_number test Bibliographic s a) 0 + own_numbers test mine (step s a) more

abbrev IsComing : Arrival → Type 0
IsComing a = (a.class ≡ Bibliographic) × IsFitArrival a

numbers_in_part : (test : Standing → Bool) (mine : Part) (added : List Arrival) (s : State) → Each IsComing added → IsDoneState s →
    numbers test (cut mine s) (filter (comes mine) added) ≡ own_numbers test mine s added
numbers_in_part test mine [] s fits d = refl
numbers_in_part test mine (a ∷ added) s fits d =
    let class = fits.0.0 in
    let same : comes mine a ≡ mine a.key = ap (λ c. comes_to mine c a.key) class in
    ap (λ b. numbers test (cut mine s) (cond b (a ∷ filter (comes mine) added) (filter (comes mine) added))) same
    ∙ at (mine a.key) refl (numbers_in_part test mine added (step s a) fits.1 (step_done a s fits.0.1 d))
  where
    at : (b : Bool) → mine a.key ≡ b → numbers test (cut mine (step s a)) (filter (comes mine) added) ≡ own_numbers test mine (step s a) added →
        numbers test (cut mine s) (cond b (a ∷ filter (comes mine) added) (filter (comes mine) added))
        ≡ cond b (own_number test Bibliographic s a) 0 + own_numbers test mine (step s a) added
    at true own ih =
        let comes_here : comes mine a ≡ true = ap (λ c. comes_to mine c a.key) fits.0.0 ∙ own in
        let first = own_same test mine a s fits.0.0 own d in
        let later = ap (λ t. numbers test t (filter (comes mine) added)) (own_step mine a s comes_here (ready_again s d)) ∙ ih in
        omega arith
    at false other ih =
        let away : comes mine a ≡ false = ap (λ c. comes_to mine c a.key) fits.0.0 ∙ other in
        let same = ap (λ t. numbers test t (filter (comes mine) added)) (sym (other_step mine a s away (valid_settled s (done_valid s d)))) ∙ ih in
        omega arith

-- ---- the parts together

sum_both : (f g : Part → ℕ) (parts : List Part) → sum_by (λ mine. f mine + g mine) parts ≡ sum_by f parts + sum_by g parts
sum_both f g [] = refl
sum_both f g (mine ∷ parts) =
    let both = sum_by-cons (λ (m : Part). f m + g m) mine parts in
    let one = sum_by-cons f mine parts in
    let other = sum_by-cons g mine parts in
    let rest = sum_both f g parts in
    omega arith

sum_nothing : (parts : List Part) → sum_by (λ (mine : Part). 0) parts ≡ 0
sum_nothing [] = refl
sum_nothing (mine ∷ parts) = let first = sum_by-cons (λ (m : Part). 0) mine parts in let rest = sum_nothing parts in omega arith

none_step : (b : Bool) (n counted summed : ℕ) → cond b 1 0 + counted ≡ 0 → (counted ≡ 0 → summed ≡ 0) → cond b n 0 + summed ≡ 0
none_step true n counted summed none rest = omega arith
none_step false n counted summed none rest = let same = rest (omega arith) in omega arith

one_step : (b : Bool) (n counted summed : ℕ) → cond b 1 0 + counted ≡ 1 → (counted ≡ 0 → summed ≡ 0) → (counted ≡ 1 → summed ≡ n) → cond b n 0 + summed ≡ n
one_step true n counted summed one nothing rest = let same = nothing (omega arith) in omega arith
one_step false n counted summed one nothing rest = let same = rest (omega arith) in omega arith

none_of_parts : (key : Key) (n : ℕ) (parts : List Part) → count_by (λ mine. mine key) parts ≡ 0 → sum_by (λ mine. cond (mine key) n 0) parts ≡ 0
none_of_parts key n [] none = refl
none_of_parts key n (mine ∷ parts) none =
    sum_by-cons (λ (m : Part). cond (m key) n 0) mine parts
    ∙ none_step (mine key) n (count_by (λ m. m key) parts) (sum_by (λ m. cond (m key) n 0) parts) (sym (sum_by-cons (λ (m : Part). cond (m key) 1 0) mine parts) ∙ none)
    (none_of_parts key n parts)

one_of_parts : (key : Key) (n : ℕ) (parts : List Part) → count_by (λ mine. mine key) parts ≡ 1 → sum_by (λ mine. cond (mine key) n 0) parts ≡ n
one_of_parts key n [] one = omega arith
one_of_parts key n (mine ∷ parts) one =
    sum_by-cons (λ (m : Part). cond (m key) n 0) mine parts
    ∙ one_step (mine key) n (count_by (λ m. m key) parts) (sum_by (λ m. cond (m key) n 0) parts) (sym (sum_by-cons (λ (m : Part). cond (m key) 1 0) mine parts) ∙ one)
    (none_of_parts key n parts) (one_of_parts key n parts)

numbers_of_parts : (test : Standing → Bool) (parts : List Part) → ((key : Key) → count_by (λ mine. mine key) parts ≡ 1) → (added : List Arrival) (s : State) →
    sum_by (λ mine. own_numbers test mine s added) parts ≡ numbers test s added
numbers_of_parts test parts each [] s = sum_nothing parts
numbers_of_parts test parts each (a ∷ added) s =
    let n = own_number test Bibliographic s a in
    let both = sum_both (λ mine. cond (mine a.key) n 0) (λ mine. own_numbers test mine (step s a) added) parts in
    let first = one_of_parts a.key n parts (each a.key) in
    let rest = numbers_of_parts test parts each added (step s a) in
    omega arith

-- ---- receipts

abbrev IsBrought : Arrival → Type 0
IsBrought a = a.class ≡ Bibliographic

-- a receipt's number is that of the fields that stand so
abbrev Tells : (Receipt → ℕ) → (Standing → Bool) → Type 0
Tells number test = (history : List Arrival) (a : Arrival) → IsBrought a → number (receipt history a) ≡ own_number test Bibliographic (state_after history) a

own_class : (test : Standing → Bool) (s : State) (a : Arrival) → IsBrought a → own_number test a.class s a ≡ own_number test Bibliographic s a
own_class test s a class = ap (λ c. own_number test c s a) class

tells_linked : Tells (λ r. r.linked) is_linked
unfolding receipt receipt_of
tells_linked history a class = own_class is_linked (state_after history) a class

tells_ambiguous : Tells (λ r. r.ambiguous) is_ambiguous
unfolding receipt receipt_of
tells_ambiguous history a class = own_class is_ambiguous (state_after history) a class

tells_unlinked : Tells (λ r. r.unlinked) is_unlinked
unfolding receipt receipt_of
tells_unlinked history a class = own_class is_unlinked (state_after history) a class

state_push : (before : List Entry) (e : Entry) → state_of (before ++ e ∷ []) ≡ step (state_of before) (arrival_of e)
unfolding state_after
state_push before e = ap (fold step empty_state) (map-append arrival_of before (e ∷ [])) ∙ fold-append step empty_state (map arrival_of before) (arrival_of e ∷ [])

told_numbers : (number : Receipt → ℕ) (test : Standing → Bool) → Tells number test → (added before : List Entry) → Each IsBrought (map arrival_of added) →
    sum_by number (receipts_behind before added) ≡ numbers test (state_of before) (map arrival_of added)
unfolding receipts_behind
told_numbers number test tells [] before brought = refl
told_numbers number test tells (e ∷ added) before brought =
    let whole = sum_by-cons number (receipt_behind before e) (receipts_behind (before ++ e ∷ []) added) in
    let first = tells (map arrival_of before) (arrival_of e) brought.0 in
    let rest = told_numbers number test tells added (before ++ e ∷ []) brought.1 ∙ ap (λ s. numbers test s (map arrival_of added)) (state_push before e) in
    omega arith

steps_done : (history : List Arrival) (s : State) → Each IsFitArrival history → IsDoneState s → IsDoneState (fold step s history)
steps_done [] s fits d = d
steps_done (a ∷ history) s fits d = steps_done history (step s a) fits.1 (step_done a s fits.0 d)

history_done : (history : List Arrival) → Each IsFitArrival history → IsDoneState (state_after history)
unfolding state_after
history_done history fits = steps_done history empty_state fits empty_done

brought_in_part : (mine : Part) (added : List Entry) → Each IsBrought (map arrival_of added) → Each IsBrought (map arrival_of (part_of mine added))
brought_in_part mine added brought =
    rw (arrivals_of_part mine added)
    (each_weaker (λ a. IsBrought a × (comes mine a ≡ true)) IsBrought (λ a both. both.0) (filter (comes mine) (map arrival_of added)) (each_filter IsBrought (comes mine) (map arrival_of added) brought))

told_in_part : (number : Receipt → ℕ) (test : Standing → Bool) → Tells number test → (before added : List Entry) → All IsAdmitted before → Each IsComing (map arrival_of added) →
    (mine : Part) → sum_by number (receipts_behind (part_of mine before) (part_of mine added)) ≡ own_numbers test mine (state_of before) (map arrival_of added)
told_in_part number test tells before added a coming mine =
    let brought = each_weaker IsComing IsBrought (λ b both. both.0) (map arrival_of added) coming in
    let done = history_done (map arrival_of before) (each_map IsAdmitted IsFitArrival arrival_of fit_entry before (recursion_from_All IsAdmitted before a)) in
    told_numbers number test tells (part_of mine added) (part_of mine before) (brought_in_part mine added brought)
    ∙ (λ i. numbers test (part_cut mine before a i) (arrivals_of_part mine added i))
    ∙ numbers_in_part test mine (map arrival_of added) (state_of before) coming done

-- what the parts' commits tell, together
told_together : (number : Receipt → ℕ) (test : Standing → Bool) → Tells number test → (bounds : List Key) (before added : List Entry) → All IsAdmitted before → All IsAdmitted added →
    All (λ e. e.class ≡ Bibliographic) added →
    sum_by (λ mine. sum_by number (receipts_behind (part_of mine before) (part_of mine added))) (ranges bounds) ≡ sum_by number (receipts_behind before added)
told_together number test tells bounds before added a b class =
    let admitted = recursion_from_All IsAdmitted added b in
    let classes = recursion_from_All (λ e. e.class ≡ Bibliographic) added class in
    let coming = each_map (λ e. (e.class ≡ Bibliographic) × IsAdmitted e) IsComing arrival_of (λ e both. (both.0, fit_entry e both.1)) added
    (each_both (λ e. e.class ≡ Bibliographic) IsAdmitted added classes admitted) in
    (λ i. sum_by (λ mine. told_in_part number test tells before added a coming mine i) (ranges bounds))
    ∙ numbers_of_parts test (ranges bounds) (in_one_range bounds) (map arrival_of added) (state_of before)
    ∙ sym (told_numbers number test tells added before (each_weaker IsComing IsBrought (λ b both. both.0) (map arrival_of added) coming))

pub linked_together : TellTogether (λ r. r.linked)
linked_together = told_together (λ r. r.linked) is_linked tells_linked

pub ambiguous_together : TellTogether (λ r. r.ambiguous)
ambiguous_together = told_together (λ r. r.ambiguous) is_ambiguous tells_ambiguous

pub unlinked_together : TellTogether (λ r. r.unlinked)
unlinked_together = told_together (λ r. r.unlinked) is_unlinked tells_unlinked
