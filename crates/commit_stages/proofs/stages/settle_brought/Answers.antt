use Rattle.std.proofs.Common.{◌∙◌, ap, subst, sym}
use Rattle.std.proofs.lemmas.Result.{IfOk-weaker}
use Rattle.catalogue_rules.specs.State.{linkable_authorities}
use Rattle.commit_stages.proofs.Turning.{ahead_itself}
use Rattle.marc_types.specs.declared.key.Class.{Class}
use Rattle.linked_store.specs.Placing.{own_record}
use Rattle.commit_stages.specs.OwnFields.{AreAsCame, fields_in}
use Rattle.commit_stages.proofs.Parts.{all_came, counts_brought, deletion_settled, fields_there}
use Rattle.commit_stages.proofs.stages.settle_brought.Goals as goal

pub returns-then-is_deletion-clause-ok : goal.returns-then-is_deletion-clause-ok
returns-then-is_deletion-clause-ok g c =
    deletion_settled c.args.number c.args.item.now c.args.store.now c.requires.key c.requires.came (sym c.is_deletion.ensures ∙ c.if-is_deletion.true) c.requires.middle

pub returns-then-is_deletion-clause-ahead : goal.returns-then-is_deletion-clause-ahead
returns-then-is_deletion-clause-ahead g c = ahead_itself c.args.store.now

pub settle_own-requires-clause-came : goal.settle_own-requires-clause-came
settle_own-requires-clause-came g c =
    subst (λ (k : Class). AreAsCame k c.args.number c.args.store.now) (sym c.class.ensures)
    (all_came c.args.number c.args.item.now c.args.store.now c.requires.came (sym c.is_deletion.ensures ∙ c.if-is_deletion.false))

pub settle_own-requires-clause-own : goal.settle_own-requires-clause-own
settle_own-requires-clause-own g c = c.requires.placed ∙ ap (λ (k : Class). own_record k c.args.number) (sym c.class.ensures)

pub returns-clause-counts : goal.returns-clause-counts
returns-clause-counts g c =
    let stays = sym c.is_deletion.ensures ∙ c.if-is_deletion.false in
    IfOk-weaker c.settle_own.result _ _
    (counts_brought (linkable_authorities c.args.store.now.state) c.args.item.now c.class.result (fields_in c.class.result c.args.number c.args.store.now)
    (ap (λ (k : Class). fields_in k c.args.number c.args.store.now) c.class.ensures ∙ fields_there c.args.number c.args.item.now c.args.store.now c.requires.came stays)
    c.class.ensures stays)
    c.settle_own.ensures.counts
