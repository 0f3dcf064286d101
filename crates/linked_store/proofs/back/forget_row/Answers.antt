use Rattle.linked_store.proofs.Noted.{keeps_none}
use Rattle.linked_store.proofs.back.forget_row.Goals as goal

pub returns-in_default-clause-rows : goal.returns-in_default-clause-rows
returns-in_default-clause-rows c = keeps_none c.args.tables.now.index

pub returns-clause-rows : goal.returns-clause-rows
returns-clause-rows c = record {
  rows = c.let_authority_go.ensures.rows;
  ordered = λ keys order. (c.let_authority_go.ensures.only keys order).ordered;
}

pub returns-clause-forms : goal.returns-clause-forms
returns-clause-forms c = (c.let_authority_go.ensures.only c.requires.keys c.requires.ordered).forms

pub returns-clause-links : goal.returns-clause-links
returns-clause-links c = (c.let_authority_go.ensures.only c.requires.keys c.requires.ordered).links

pub returns-clause-waits : goal.returns-clause-waits
returns-clause-waits c = (c.let_authority_go.ensures.only c.requires.keys c.requires.ordered).waits
