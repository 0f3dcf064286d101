use Rattle.std.proofs.Common.{◌≤◌, List, arith, length, subst, sym}
use Rattle.marc_types.specs.declared.field.Field.{Field}
use Rattle.catalogue_rules.specs.Settle.{arrival_of}
use Rattle.linked_store.specs.Placing.{fields_brought}
use Rattle.linked_store.proofs.Brought.{brought_few, no_rows_yet, rows_found, rows_more}
use Rattle.linked_store.proofs.Fielded.{unchanged_none, unchanged_then}
use Rattle.linked_store.proofs.store.LinkedStore.rows_for.Goals as goal

pub returns-in_err-row-clause-unchanged : goal.returns-in_err-row-clause-unchanged
returns-in_err-row-clause-unchanged c =
    unchanged_then c.args.self.now c.loop-place.self c.row_at.new.self c.loop-place.invariant.0 c.row_at.ensures.unchanged

pub returns-in_err-note_row-clause-unchanged : goal.returns-in_err-note_row-clause-unchanged
returns-in_err-note_row-clause-unchanged c =
    unchanged_then c.args.self.now c.loop-place.self c.row_at.new.self c.loop-place.invariant.0 c.row_at.ensures.unchanged

pub count_of-places-requires : goal.count_of-places-requires
count_of-places-requires c = subst (λ (l : List Field). length l ≤ 8331) (sym c.requires) (brought_few c.args.item.now)

pub loop-place-init : goal.loop-place-init
loop-place-init c = (
  unchanged_none c.args.self.now,
  no_rows_yet c.args.item.now.class c.args.self.now.keys.authorities (fields_brought (arrival_of c.args.item.now)) c.new-rows.result.items c.new-rows.ensures.items,
)

pub loop-place-preserved : goal.loop-place-preserved
loop-place-preserved c = (
  unchanged_then c.args.self.now c.loop-place.self c.row_at.new.self c.loop-place.invariant.0 c.row_at.ensures.unchanged,
  rows_more c.args.item.now.class (fields_brought (arrival_of c.args.item.now)) c.loop-place.self.keys.authorities c.row_at.new.self.keys.authorities c.loop-place.place
      c.loop-place.rows.items c.note_row.new.rows.items c.in_ok-row.row c.row_at.ensures.unchanged.ahead.keys.keep.authorities c.in_ok-note_row.ensures c.loop-place.invariant.1
      c.in_ok-row.ensures.ok,
)

pub returns-clause-rows : goal.returns-clause-rows
returns-clause-rows c =
    rows_found c.args.item.now.class c.loop-place.self.keys.authorities (fields_brought (arrival_of c.args.item.now)) c.loop-place.place c.loop-place.rows.items
    (subst (λ (l : List Field). length l ≤ c.loop-place.place) c.requires (omega (arith, c.loop-place-test.false, c.count_of-places.ensures))) c.loop-place.invariant.1
