use Rattle.std.proofs.Common.{subst}
use Rattle.form_index.specs.Index.{IsBlankScan, IsScan, rows_in}
use Rattle.form_index.specs.declared.among.By.TheVariants.{Established, SeeFrom}
use Rattle.numbering.specs.Pages.{is_there}
use Rattle.form_index.proofs.Indexing.{empty_is, filled_is, scans, scans_none}
use Rattle.form_index.proofs.index.FormIndex.candidates.Goals as goal

pub returns-then-not-is_empty : goal.returns-then-not-is_empty
returns-then-not-is_empty c = (
  subst (λ x. IsScan c.args.among Established c.args.form x c.live-established.result.now) c.self.view_is
      (scans (rows_in c.self.inside.rows) (is_there c.self.inside.rows) c.self.inside.lists c.self.invariant c.args.among Established c.args.form c.live-established.result.now c.live-established.ensures),
  filled_is c.is_empty.result c.live-established.result.now c.is_empty.ensures c.if-not-is_empty.true,
)

pub returns-then-is_empty : goal.returns-then-is_empty
returns-then-is_empty c = (
  subst (IsBlankScan c.args.among Established c.args.form) c.self.view_is
      (scans_none (rows_in c.self.inside.rows) (is_there c.self.inside.rows) c.self.inside.lists c.self.invariant c.args.among Established c.args.form c.live-established.result.now c.live-established.ensures
      (empty_is c.is_empty.result c.live-established.result.now c.is_empty.ensures c.if-not-is_empty.false)),
  subst (IsBlankScan c.args.among SeeFrom c.args.form) c.self.view_is
      (scans_none (rows_in c.self.inside.rows) (is_there c.self.inside.rows) c.self.inside.lists c.self.invariant c.args.among SeeFrom c.args.form c.live-see_from.result.now c.live-see_from.ensures
      (empty_is c.is_empty-2.result c.live-see_from.result.now c.is_empty-2.ensures c.if-is_empty.true)),
)

pub returns : goal.returns
returns c = (
  subst (IsBlankScan c.args.among Established c.args.form) c.self.view_is
      (scans_none (rows_in c.self.inside.rows) (is_there c.self.inside.rows) c.self.inside.lists c.self.invariant c.args.among Established c.args.form c.live-established.result.now c.live-established.ensures
      (empty_is c.is_empty.result c.live-established.result.now c.is_empty.ensures c.if-not-is_empty.false)),
  subst (λ x. IsScan c.args.among SeeFrom c.args.form x c.live-see_from.result.now) c.self.view_is
      (scans (rows_in c.self.inside.rows) (is_there c.self.inside.rows) c.self.inside.lists c.self.invariant c.args.among SeeFrom c.args.form c.live-see_from.result.now c.live-see_from.ensures),
  filled_is c.is_empty-2.result c.live-see_from.result.now c.is_empty-2.ensures c.if-is_empty.false,
)
