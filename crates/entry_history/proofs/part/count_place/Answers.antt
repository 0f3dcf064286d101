use Rattle.std.proofs.Common.{◌≡◌, length, ap, arith}
use Rattle.marc_types.specs.declared.entry.Entry.{Entry}
use Rattle.entry_record.proofs.Admitted.{admitted_library}
use Rattle.entry_history.proofs.part.count_place.Goals as goal

pub overflow_add-result : goal.overflow_add-result
overflow_add-result c =
    let same : length c.entry.result.now.library ≡ length c.args.item.now.library = ap (λ (e : Entry). length e.library) c.entry.ensures.value in
    omega (arith, c.len.ensures, same, admitted_library c.args.item.now c.entry.ensures.admitted)

pub returns-clause-small : goal.returns-clause-small
returns-clause-small c =
    let same : length c.entry.result.now.library ≡ length c.args.item.now.library = ap (λ (e : Entry). length e.library) c.entry.ensures.value in
    omega (arith, c.len.ensures, same, admitted_library c.args.item.now c.entry.ensures.admitted)
