use Rattle.std.proofs.Common.{◌≡◌, ◌+◌, ◌∙◌, ℕ, List, [], ◌∷◌, ◌++◌, length, map, false, arith, sym, ap, subst}
use Rattle.marc_types.specs.declared.entry.Entry.{Entry}
use Rattle.catalogue_rules.specs.Settle.{arrival_of, step}
use Rattle.catalogue_rules.specs.Receipt.{receipt}
use Rattle.catalogue_core.specs.Catalogues.{Catalogued, all_entries, catalogued, entries_seen, is_full, receipt_with, IsCatalogue}
use Rattle.catalogue_core.proofs.Catalogues.{all_is, seen_many, seen_more, catalogue_added}
use Rattle.catalogue_core.proofs.Entries.{receipt_made}
use Rattle.catalogue_core.proofs.catalogue.Catalogue.stage.Goals as goal

pub invariant_of-self-2 : goal.invariant_of-self-2
invariant_of-self-2 g c =
    let k = c.self.inside in
    let e = c.args.item in
    let all = entries_seen k.entries.items in
    let now = entries_seen c.push_reserved.new.self.items in
    let full : is_full (catalogued k.kept all k.limits) e ≡ false = subst (λ (x : Catalogued). is_full x e ≡ false) (sym c.self.view_is) c.requires.room in
    let put : now ≡ all ++ e ∷ [] =
    seen_more k.entries.items c.push_reserved.new.self.items c.of-entry.result e
    (c.push_reserved.ensures.items ∙ ap (λ x. x ++ c.of-entry.result ∷ []) c.reserve.ensures.items) (c.of-entry.ensures ∙ c.entry.ensures.value) in
    subst (λ (n : ℕ). IsCatalogue c.step.new.self k.kept k.kept_bytes now (k.bytes + n) k.limits) (sym c.size-size.ensures.value)
    (catalogue_added k.engine c.step.new.self k.kept k.kept_bytes all now k.bytes k.limits e c.self.invariant c.entry.ensures.admitted full
    c.in_ok-changes.ensures.state c.step.ensures.before put)

pub returns-clause-receipt : goal.returns-clause-receipt
returns-clause-receipt g c =
    let k = c.self.inside in
    let e = c.args.item in
    let size = k.entries.ok.0 in
    let len = c.len-at.ensures in
    let all = entries_seen k.entries.items in
    let count : c.len-at.result ≡ length all = omega (arith, size, len, seen_many k.entries.items) in
    c.receipt_at.ensures
    ∙ ap (λ (n : ℕ). receipt_with n c.in_ok-changes.changes) count
    ∙ receipt_made all e k.engine.state c.in_ok-changes.changes c.self.invariant.state_is c.in_ok-changes.ensures.changes
    ∙ ap (λ (es : List Entry). receipt (map arrival_of es) (arrival_of e)) (sym (all_is k.kept all k.limits) ∙ ap all_entries c.self.view_is)
