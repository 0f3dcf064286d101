-- A catalogue with nothing staged is within its limits.
use Rattle.std.proofs.Common.{◌≡◌, ◌≤◌, [], ◌++◌, length, ap, subst, ◌∙◌, append-nil}
use Rattle.entry_record.specs.History.{entries_size, IsWithin}
use Rattle.catalogue_core.specs.Catalogues.{Catalogued, all_entries}

pub all_kept : (core : Catalogued) → core.staged ≡ [] → all_entries core ≡ core.history
all_kept core none = ap (λ staged. core.history ++ staged) none ∙ append-nil core.history

pub within_limits : (core : Catalogued) → core.staged ≡ [] → length (all_entries core) ≤ core.limits.entries
    → entries_size (all_entries core) ≤ core.limits.bytes → IsWithin core.limits core.history
within_limits core none few small = record {
  count = subst (λ es. length es ≤ core.limits.entries) (all_kept core none) few;
  size = subst (λ es. entries_size es ≤ core.limits.bytes) (all_kept core none) small;
}
