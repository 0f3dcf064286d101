use Rattle.std.proofs.Common.{◌≡◌, ◌+◌, ◌||◌, ℕ, length, ap, ◌∙◌, arith}
use Rattle.std.specs.Prelude.{nat_lt}
use Rattle.entry_record.specs.History.{entry_size}
use Rattle.catalogue_core.specs.Catalogues.{Catalogued, catalogued, entries_seen, is_full}
use Rattle.catalogue_core.proofs.Catalogues.{all_is, seen_many}
use Rattle.catalogue_core.proofs.Entries.{full_all}
use Rattle.catalogue_core.proofs.catalogue.Catalogue.is_full.Goals as goal

pub returns : goal.returns
returns c =
    let k = c.self.inside in
    let e = c.args.item.now in
    let all = entries_seen k.entries.items in
    let size = k.entries.ok.0 in
    let count : c.len.result ≡ length all = omega (arith, size, c.len.ensures, seen_many k.entries.items) in
    c.passes_limits.ensures.value
    ∙ ap (λ (n : ℕ). nat_lt k.limits.entries (n + 1) || nat_lt k.limits.bytes (k.bytes + entry_size e)) count
    ∙ ap (λ (n : ℕ). nat_lt k.limits.entries (length all + 1) || nat_lt k.limits.bytes (n + entry_size e)) c.self.invariant.bytes_are
    ∙ full_all (catalogued k.kept all k.limits) all e (all_is k.kept all k.limits)
    ∙ ap (λ (x : Catalogued). is_full x e) c.self.view_is
