use Rattle.std.proofs.Common.{arith}
use Rattle.numbered_store.proofs.Tied.{fit_set, kept_long, kept_set, long_set, valid_set}
use Rattle.numbered_store.proofs.kept.StoredRecord.with_field.Goals as goal

pub with_field-requires-clause-within : goal.with_field-requires-clause-within
with_field-requires-clause-within c = let long = kept_long c.args.self.now in omega (arith, long, c.requires.within)

pub with_field-requires-clause-valid : goal.with_field-requires-clause-valid
with_field-requires-clause-valid c = valid_set c.args.self.now c.args.place c.args.field.now c.requires.valid

pub with_field-requires-clause-room : goal.with_field-requires-clause-room
with_field-requires-clause-room c = fit_set c.args.self.now c.args.place c.args.field.now c.requires.fit

pub replaced-ties-requires : goal.replaced-ties-requires
replaced-ties-requires c = let long = kept_long c.args.self.now in omega (arith, long, c.in_ok-all_ties.ensures.long, c.requires.within)

pub with_these-requires : goal.with_these-requires
with_these-requires c =
    long_set c.args.self.now c.args.place c.args.field.now c.args.tie _ _ _ c.in_ok-all_ties.ensures.long c.in_ok-written.ensures.fields c.replaced-ties.ensures

pub returns : goal.returns
returns c =
    kept_set c.args.self.now _ _ _ c.args.place c.args.field.now c.args.tie _ _ c.in_ok-all_ties.ensures.long c.in_ok-all_ties.ensures.same c.in_ok-written.ensures.leader
    c.in_ok-written.ensures.fields c.replaced-ties.ensures c.with_these.ensures
