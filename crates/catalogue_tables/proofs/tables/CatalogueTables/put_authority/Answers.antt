use Rattle.catalogue_tables.proofs.Numbered.{puts_authority}
use Rattle.catalogue_tables.proofs.tables.CatalogueTables.put_authority.Goals as goal

pub returns-clause-ok : goal.returns-clause-ok
returns-clause-ok c =
    puts_authority c.add.new.self c.numbers_of.new.forms c.args.number c.in_ok-own.own c.args.established.now c.args.see_from.now c.in_ok-traced.traced.items c.args.bare
    c.new-row.result c.args.self.now.index c.put.new.self c.in_ok-own.ensures.number c.numbers_of.ensures.keeps c.in_ok-traced.ensures.ok
    c.new-row.ensures.established c.new-row.ensures.see_from c.new-row.ensures.bare c.in_ok-put.ensures.ok
