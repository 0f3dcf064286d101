use Rattle.std.proofs.Common.{refl, sym, subst, ◌<◌, List, length}
use Rattle.marc_types.specs.declared.key.Key.{Key}
use Rattle.form_index.specs.Index.{IsInOrder}
use Rattle.linked_store.proofs.Indexed.{back_indexed}
use Rattle.linked_store.proofs.back.index_back.Goals as goal

pub restore_authority-requires-clause-known : goal.restore_authority-requires-clause-known
restore_authority-requires-clause-known c = subst (λ (l : List Key). c.args.number < length l) (sym c.keys-keys.ensures) c.requires.known

pub restore_authority-requires-clause-ordered : goal.restore_authority-requires-clause-ordered
restore_authority-requires-clause-ordered c = subst (λ (l : List Key). IsInOrder l c.args.transaction.now.tables.index) (sym c.keys-keys.ensures) c.requires.ordered

pub restore_authority-requires-clause-held : goal.restore_authority-requires-clause-held
restore_authority-requires-clause-held c = c.requires.held

pub returns : goal.returns
returns c =
    back_indexed c.args.transaction.now _ c.args.number c.args.before c.keys-keys.result.now c.keys-keys.ensures refl refl c.restore_authority.ensures.only c.restore_authority.ensures.back
