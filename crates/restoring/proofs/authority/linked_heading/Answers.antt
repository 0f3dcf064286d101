use Rattle.std.proofs.Common.{Some, None, subst}
use Rattle.std.proofs.lemmas.Result.{IfOk-weaker}
use Rattle.marc_types.specs.declared.key.Class.TheVariants.{Authority}
use Rattle.commit_stages.proofs.Reached.{AreNumbered}
use Rattle.restoring.proofs.Numbers.{number_lent, number_low}
use Rattle.restoring.proofs.Authorities.{heading_found, none_known, none_linkable}
use Rattle.restoring.proofs.authority.linked_heading.Goals as goal

pub returns-in_default : goal.returns-in_default
returns-in_default c =
    none_known c.args.store.now c.args.key.now (subst AreNumbered c.as_linked-linked.ensures c.each_authority_has_a_number.ensures)
    (number_lent c.args.store.now c.as_linked-linked.result.now Authority c.args.key.now None c.as_linked-linked.ensures c.in_default.ensures)

pub is_linkable-requires : goal.is_linkable-requires
is_linkable-requires c = number_low Authority c.args.key.now c.args.store.now.keys c.args.store.now.state c.in-Some.number (number_lent c.args.store.now c.as_linked-linked.result.now Authority c.args.key.now (Some c.in-Some.number) c.as_linked-linked.ensures c.in-Some.ensures)

pub returns-then-not-branch : goal.returns-then-not-branch
returns-then-not-branch c =
    none_linkable c.args.store.now c.args.key.now c.in-Some.number (number_lent c.args.store.now c.as_linked-linked.result.now Authority c.args.key.now (Some c.in-Some.number) c.as_linked-linked.ensures c.in-Some.ensures) c.in_ok-is_linkable.field-0 c.in_ok-is_linkable.ensures c.if-not-branch.true

pub own_heading_under-requires : goal.own_heading_under-requires
own_heading_under-requires c = number_low Authority c.args.key.now c.args.store.now.keys c.args.store.now.state c.in-Some.number (number_lent c.args.store.now c.as_linked-linked.result.now Authority c.args.key.now (Some c.in-Some.number) c.as_linked-linked.ensures c.in-Some.ensures)

pub returns : goal.returns
returns c =
    IfOk-weaker c.own_heading_under.result _ _
    (λ heading is. heading_found c.args.store.now c.args.key.now c.in-Some.number (number_lent c.args.store.now c.as_linked-linked.result.now Authority c.args.key.now (Some c.in-Some.number) c.as_linked-linked.ensures c.in-Some.ensures) c.in_ok-is_linkable.field-0 _
    c.requires c.in_ok-is_linkable.ensures c.if-not-branch.false is)
    c.own_heading_under.ensures
