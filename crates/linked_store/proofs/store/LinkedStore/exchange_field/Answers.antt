use Rattle.std.proofs.Common.{◌∙◌, refl}
use Rattle.std.proofs.lemmas.Result.{on_err_weaker, on_ok_weaker}
use Rattle.catalogue_rules.specs.State.{kept_field}
use Rattle.linked_store.proofs.Fielded.{ahead_same, ahead_then, link_still, state_then, suits_kept, unchanged_then}
use Rattle.linked_store.proofs.store.LinkedStore.exchange_field.Goals as goal

pub returns-in_err-wanted-clause-ahead : goal.returns-in_err-wanted-clause-ahead
returns-in_err-wanted-clause-ahead c = ahead_same c.args.self.now c.args.self.now refl

pub returns-in_err-row-clause-ahead : goal.returns-in_err-row-clause-ahead
returns-in_err-row-clause-ahead c =
    (unchanged_then c.args.self.now c.link_number.new.self c.numbered_row.new.self c.link_number.ensures.unchanged c.numbered_row.ensures.unchanged).ahead

pub relink_field-requires-clause-suits : goal.relink_field-requires-clause-suits
relink_field-requires-clause-suits c =
    suits_kept c.args.seat (kept_field c.args.field c.args.tie) c.args.self.now c.numbered_row.new.self
    (unchanged_then c.args.self.now c.link_number.new.self c.numbered_row.new.self c.link_number.ensures.unchanged c.numbered_row.ensures.unchanged) c.requires

pub relink_field-requires-clause-link : goal.relink_field-requires-clause-link
relink_field-requires-clause-link c = link_still c.link_number.new.self c.numbered_row.new.self c.args.tie.key c.in_ok-link.link c.numbered_row.ensures.unchanged c.in_ok-link.ensures.ok

pub relink_field-requires-clause-row : goal.relink_field-requires-clause-row
relink_field-requires-clause-row c = c.in_ok-row.ensures.ok c.args.seat.class (kept_field c.args.field c.args.tie) c.in_ok-wanted.ensures

pub returns-clause-ok : goal.returns-clause-ok
returns-clause-ok c =
    on_ok_weaker c.relink_field.result
    (state_then c.args.seat (kept_field c.args.field c.args.tie) c.args.self.now c.numbered_row.new.self c.relink_field.new.self
    (unchanged_then c.args.self.now c.link_number.new.self c.numbered_row.new.self c.link_number.ensures.unchanged c.numbered_row.ensures.unchanged) c.requires.known)
    c.relink_field.ensures.ok

pub returns-clause-err : goal.returns-clause-err
returns-clause-err c =
    on_err_weaker c.relink_field.result
    (λ e. e ∙ (unchanged_then c.args.self.now c.link_number.new.self c.numbered_row.new.self c.link_number.ensures.unchanged c.numbered_row.ensures.unchanged).state)
    c.relink_field.ensures.err

pub returns-clause-ahead : goal.returns-clause-ahead
returns-clause-ahead c =
    ahead_then c.args.self.now c.numbered_row.new.self c.relink_field.new.self
    (unchanged_then c.args.self.now c.link_number.new.self c.numbered_row.new.self c.link_number.ensures.unchanged c.numbered_row.ensures.unchanged).ahead
    c.relink_field.ensures.ahead
