use Rattle.std.proofs.Common.{rules, ◌≡◌, true, false, ap}
use Rattle.catalogue_rules.specs.State.{Row}
use Rattle.numbered_store.specs.Kept.{kept_record}
use Rattle.kept_rows.specs.Rows.{row_of}
use Rattle.restoring.proofs.Alike.{pair_is, key_is, is_key}
use Rattle.restoring.proofs.comparing.is_row.Goals as goal

pub returns-then-eq : goal.returns-then-eq
returns-then-eq c = (
  (λ yes.
      pair_is (c.args.key.now, kept_record c.args.kept.now) (row_of c.args.row.now) (key_is c.args.key.now c.args.row.now.key c.eq.result c.eq.ensures c.if-eq.true)
      (c.has_record.ensures.0 yes)),
  (λ same. c.has_record.ensures.1 (ap (λ (r : Row). r.1) same)),
)

pub returns-else-eq : goal.returns-else-eq
returns-else-eq c = (
  (λ yes. search rules),
  (λ same. is_key c.args.key.now c.args.row.now.key c.eq.result c.eq.ensures (ap (λ (r : Row). r.0) same)),
)
