-- One more entry is committed, and its receipt summed.
use Rattle.std.proofs.Common.{◌≡◌, ◌∙◌, ◌+◌, ◌≤◌, false, List, [], ◌∷◌, ◌++◌, length, length-append, append_assoc, append-nil, refl, sym, ap, arith, subst}
use Rattle.std.specs.Prelude.{nat_lt}
use Rattle.std.proofs.lemmas.Bool.{or_parts, ltb-false}
use Rattle.std.proofs.lemmas.List.Sums.{sum_by_push}
use Rattle.marc_types.specs.declared.entry.Entry.{Entry}
use Rattle.marc_types.specs.declared.entry.Limits.{Limits}
use Rattle.marc_types.specs.declared.entry.Receipt.{Receipt}
use Rattle.entry_record.specs.History.{entry_size, entries_size}
use Rattle.catalogue_rules.specs.Receipts.{receipt_behind, receipts_behind}
use Rattle.catalogue_core.specs.Catalogues.{Catalogued, is_full, with_entry}
use Rattle.marc_types.specs.Sums.{no_sums, sums_of, with_receipts, HasRoom, AddsFew, AreFew}
use Rattle.marc_types.specs.declared.sums.Sums.{Sums}
use Rattle.marc_types.proofs.Adding.{with_both, few_none, room_in_few, still_few}
use Rattle.plain_commands.specs.Totals.{holding, IsWithinLimits, IsSummed}
use Rattle.marc_types.specs.Limits.{most_entries}
use Rattle.plain_commands.specs.Loading.{IsCommitted}
use Rattle.catalogue_rules.proofs.FewRows.{few_changed}

receipts_last : (history entries : List Entry) (e : Entry)
    → receipts_behind history (entries ++ e ∷ []) ≡ receipts_behind history entries ++ receipt_behind (history ++ entries) e ∷ []
unfolding receipts_behind
receipts_last history [] e = ap (λ h. receipt_behind h e ∷ []) (sym (append-nil history))
receipts_last history (first ∷ entries) e =
    ap (λ l. receipt_behind history first ∷ l)
    (receipts_last (history ++ first ∷ []) entries e
    ∙ ap (λ h. receipts_behind (history ++ first ∷ []) entries ++ receipt_behind h e ∷ []) (append_assoc history (first ∷ []) entries))

sums_more : (accepted : List Entry) (e : Entry) (sums : Sums) → sums ≡ sums_of (receipts_behind [] accepted)
    → with_receipts sums (receipt_behind accepted e ∷ []) ≡ sums_of (receipts_behind [] (accepted ++ e ∷ []))
sums_more accepted e sums are =
    ap (λ (s : Sums). with_receipts s (receipt_behind accepted e ∷ [])) are
    ∙ (with_both no_sums (receipts_behind [] accepted) (receipt_behind accepted e ∷ []) ∙ sym (ap sums_of (receipts_last [] accepted e)))

within_more : (limits : Limits) (accepted : List Entry) (e : Entry) → is_full (holding limits accepted) e ≡ false → IsWithinLimits limits (accepted ++ e ∷ [])
within_more limits accepted e h =
    let parts = or_parts (nat_lt limits.entries (length (accepted ++ []) + 1)) (nat_lt limits.bytes (entries_size (accepted ++ []) + entry_size e)) h in
    let count = ltb-false limits.entries (length (accepted ++ []) + 1) parts.0 in
    let size = ltb-false limits.bytes (entries_size (accepted ++ []) + entry_size e) parts.1 in
    let same_count = ap (length {A = Entry}) (append-nil accepted) in
    let same_size = ap entries_size (append-nil accepted) in
    let longer = length-append accepted (e ∷ []) in
    let larger = sum_by_push entry_size accepted e in
    record { entries = omega arith; bytes = omega arith }

room_for_receipt : (accepted : List Entry) (e : Entry) (sums : Sums) → IsSummed accepted sums → length (accepted ++ e ∷ []) ≤ most_entries
    → HasRoom sums (receipt_behind accepted e).changed_records
room_for_receipt accepted e sums summed entries =
    let few = few_changed accepted e in
    let longer = length-append accepted (e ∷ []) in
    room_in_few sums (length accepted) (receipt_behind accepted e).changed_records summed.few (omega arith) (omega arith)

summed_none : IsSummed [] no_sums
unfolding receipts_behind
summed_none = record { are = refl; few = few_none }

within_none : (limits : Limits) → IsWithinLimits limits []
within_none limits = record { entries = omega arith; bytes = omega arith }

summed_more : (accepted : List Entry) (e : Entry) (sums now : Sums) → IsSummed accepted sums → length (accepted ++ e ∷ []) ≤ most_entries
    → now ≡ with_receipts sums (receipt_behind accepted e ∷ []) → AddsFew sums now 1 → IsSummed (accepted ++ e ∷ []) now
summed_more accepted e sums now summed entries is adds =
    let few = few_changed accepted e in
    let longer = length-append accepted (e ∷ []) in
    record {
      are = is ∙ sums_more accepted e sums summed.are;
      few = subst (AreFew now) (sym longer) (still_few sums now (receipt_behind accepted e ∷ []) (length accepted) summed.few is adds (omega arith));
    }

-- a catalogue that has these entries and limits has what it has
held_by : (core : Catalogued) (limits : Limits) (accepted : List Entry) → core ≡ holding limits accepted → core ≡ holding core.limits core.history
held_by core limits accepted is = is ∙ sym (ap (λ (c : Catalogued). holding c.limits c.history) is)

pub committed_none : (core : Catalogued) (limits : Limits) (sums : Sums) → limits.entries ≤ most_entries → core ≡ holding limits [] → sums ≡ no_sums
    → IsCommitted core sums
committed_none core limits sums few empty none =
    let history = ap (λ (c : Catalogued). c.history) empty in
    record {
      holds = held_by core limits [] empty;
      few = subst (λ (c : Catalogued). c.limits.entries ≤ most_entries) (sym empty) few;
      within = subst (λ (c : Catalogued). IsWithinLimits c.limits c.history) (sym empty) (within_none limits);
      summed = subst (λ (h : List Entry). IsSummed h sums) (sym history) (subst (IsSummed []) (sym none) summed_none);
    }

within_one : (core : Catalogued) (sums : Sums) (e : Entry) → IsCommitted core sums → is_full core e ≡ false
    → IsWithinLimits core.limits (core.history ++ e ∷ [])
within_one core sums e is room = within_more core.limits core.history e (subst (λ (c : Catalogued). is_full c e ≡ false) is.holds room)

-- so it isn't more than the most of any catalogue
few_with_one : (core : Catalogued) (sums : Sums) (e : Entry) → IsCommitted core sums → is_full core e ≡ false
    → length (core.history ++ e ∷ []) ≤ most_entries
few_with_one core sums e is room =
    let within = (within_one core sums e is room).entries in
    let few = is.few in
    omega arith

-- there is room for the receipt of one more entry
pub room_to_add : (core : Catalogued) (sums : Sums) (e : Entry) (r : Receipt) → IsCommitted core sums → is_full core e ≡ false
    → r ≡ receipt_behind core.history e → HasRoom sums r.changed_records
room_to_add core sums e r is room receipt =
    subst (λ (r : Receipt). HasRoom sums r.changed_records) (sym receipt)
    (room_for_receipt core.history e sums is.summed (few_with_one core sums e is room))

pub committed_more : (core now : Catalogued) (sums added : Sums) (e : Entry) (r : Receipt) → IsCommitted core sums → is_full core e ≡ false
    → r ≡ receipt_behind core.history e → now ≡ with_entry core e → added ≡ with_receipts sums (r ∷ []) → AddsFew sums added 1 → IsCommitted now added
committed_more core now sums added e r is room receipt behind sum adds =
    let held : now ≡ holding core.limits (core.history ++ e ∷ []) = behind ∙ ap (λ (c : Catalogued). with_entry c e) is.holds in
    let history : now.history ≡ core.history ++ e ∷ [] = ap (λ (c : Catalogued). c.history) held in
    record {
      holds = held_by now core.limits (core.history ++ e ∷ []) held;
      few = subst (λ (c : Catalogued). c.limits.entries ≤ most_entries) (sym held) is.few;
      within = subst (λ (c : Catalogued). IsWithinLimits c.limits c.history) (sym held) (within_one core sums e is room);
      summed = subst (λ (h : List Entry). IsSummed h added) (sym history)
          (summed_more core.history e sums added is.summed (few_with_one core sums e is room) (sum ∙ ap (λ (r : Receipt). with_receipts sums (r ∷ [])) receipt) adds);
    }
