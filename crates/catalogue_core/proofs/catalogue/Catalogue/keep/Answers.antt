use Rattle.std.proofs.Common.{◌≡◌, ◌∙◌, ap, arith, length}
use Rattle.catalogue_core.specs.Catalogues.{entries_seen, with_kept}
use Rattle.catalogue_core.proofs.Catalogues.{seen_many, kept_catalogue, kept_is}
use Rattle.catalogue_core.proofs.catalogue.Catalogue.keep.Goals as goal

pub invariant_of-self : goal.invariant_of-self
invariant_of-self c =
    let k = c.self.inside in
    let size = k.entries.ok.0 in
    let len = c.len-self-inside.ensures in
    let entries = entries_seen k.entries.items in
    let all : c.len-self-inside.result ≡ length entries = omega (arith, size, len, seen_many k.entries.items) in
    kept_catalogue k.engine c.keep.new.self k.kept k.kept_bytes c.len-self-inside.result entries k.bytes k.limits c.self.invariant c.keep.ensures all

pub returns : goal.returns
returns c =
    let k = c.self.inside in
    let size = k.entries.ok.0 in
    let len = c.len-self-inside.ensures in
    let entries = entries_seen k.entries.items in
    let all : c.len-self-inside.result ≡ length entries = omega (arith, size, len, seen_many k.entries.items) in
    kept_is k.kept c.len-self-inside.result entries k.limits all ∙ ap with_kept c.self.view_is
