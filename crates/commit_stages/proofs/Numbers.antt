-- The numbers of a receipt; the key that has a number.
use Rattle.std.proofs.Common.{◌≡◌, ◌∙◌, sym, ap, ℕ, true, List, get_or}
use Rattle.std.proofs.lemmas.List.Sums.{passes_at_first}
use Rattle.marc_types.specs.Order.{key_Decides, same_key}
use Rattle.marc_types.specs.declared.entry.Entry.{Entry}
use Rattle.marc_types.specs.declared.key.Class.{Class}
use Rattle.marc_types.specs.declared.key.Key.{Key}
use Rattle.numbering.specs.Numbers.{IsNumberOf, is_known, number_of}
use Rattle.numbering.proofs.Numberlaws.{number_below}
use Rattle.form_index.specs.Order.{key_at, no_key}
use Rattle.catalogue_rules.specs.State.{State, linkable_authorities}
use Rattle.linking_laws.specs.Commits.{CanBeCommitted, placed_by}
use Rattle.linking_laws.specs.Receipts.{receipt_by}
use Rattle.linking_laws.proofs.Counts.{own_counts}
use Rattle.commit_stages.specs.declared.counts.HeadingCounts.{HeadingCounts}
use Rattle.commit_stages.specs.Receipts.{AreReceiptCounts}
use Rattle.commit_stages.specs.Stages.{AreCountsBrought}

-- the key that a known key's number stands for is that key
pub key_of_known : (keys : List Key) (key : Key) → is_known same_key keys key ≡ true → key_at keys (number_of same_key keys key) ≡ key
unfolding key_at
key_of_known keys key known =
    sym ((key_Decides key (get_or keys (number_of same_key keys key) no_key)).0 (passes_at_first (same_key key) keys no_key (number_below same_key keys key known)))

pub key_numbered_so : (keys : List Key) (key : Key) (number : ℕ) → IsNumberOf same_key keys key number → key_at keys number ≡ key
key_numbered_so keys key number numbered = ap (key_at keys) numbered.is ∙ key_of_known keys key numbered.known

-- the receipt's numbers: those of the own fields, and how many other records changed
pub own_numbers : (s : State) (e : Entry) (k : Class) → CanBeCommitted k s e → (counts : HeadingCounts) (changed : ℕ) → AreCountsBrought (linkable_authorities (placed_by e.class s e)) e counts → (at : ℕ)
    → changed ≡ (receipt_by at s e).changed_records
    → AreReceiptCounts (receipt_by at s e) (record { linked = counts.linked; ambiguous = counts.ambiguous; unlinked = counts.unlinked; changed_records = changed })
own_numbers s e k c counts changed are at is =
    let own = own_counts at s e k c in
    record { linked = are.linked ∙ sym own.linked; ambiguous = are.ambiguous ∙ sym own.ambiguous; unlinked = are.unlinked ∙ sym own.unlinked; changed_records = is }
