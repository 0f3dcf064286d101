use Rattle.std.proofs.Common.{◌∙◌, ◌+◌, ap, sym, subst, arith, if◌then◌else◌}
use Rattle.std.specs.Option.{is_some, option_map}
use Rattle.std.specs.Prelude.{slice_get}
use Rattle.numbered_store.specs.Kept.{kept_record}
use Rattle.numbered_store.specs.Rows.{HaveSlots, count_in, rows_by, with_row}
use Rattle.numbered_store.proofs.Shelving.{have_set, rows_exchanged, row_held, rows_back, count_set, count_there}
use Rattle.numbered_store.proofs.slots.exchange_slot.Goals as goal

pub replaced-requires : goal.replaced-requires
replaced-requires c = omega (arith, c.requires.known, c.requires.slots.long)

pub returns-clause-slots : goal.returns-clause-slots
returns-clause-slots c =
    subst (λ l. HaveSlots c.args.keys.now l) (sym c.replaced.ensures.after) (have_set c.args.keys.now c.args.slots.now.items c.requires.slots c.args.number c.args.kept)

pub returns-clause-rows : goal.returns-clause-rows
returns-clause-rows c =
    ap (rows_by c.args.keys.now) c.replaced.ensures.after ∙ rows_exchanged c.args.keys.now c.args.slots.now.items c.requires.slots c.args.number c.args.kept c.requires.known

pub returns-clause-before : goal.returns-clause-before
returns-clause-before c = row_held c.args.keys.now c.args.slots.now.items c.requires.slots c.args.number c.replaced.result c.replaced.ensures.before

pub returns-clause-back : goal.returns-clause-back
returns-clause-back c =
    ap (λ l. with_row (slice_get c.args.keys.now c.args.number) (option_map kept_record c.replaced.result) (rows_by c.args.keys.now l)) c.replaced.ensures.after
    ∙ rows_back c.args.keys.now c.args.slots.now.items c.requires.slots c.args.number c.args.kept c.replaced.result c.requires.known c.replaced.ensures.before

pub returns-clause-count : goal.returns-clause-count
returns-clause-count c =
    ap (λ l. count_in c.args.keys.now l + (if is_some c.replaced.result then 1 else 0)) c.replaced.ensures.after
    ∙ count_set c.args.keys.now c.args.slots.now.items c.requires.slots c.args.number c.args.kept c.replaced.result c.requires.known c.replaced.ensures.before

pub returns-clause-there : goal.returns-clause-there
returns-clause-there c =
    count_there c.args.keys.now c.args.slots.now.items c.requires.slots c.args.number c.replaced.result c.requires.known c.replaced.ensures.before
