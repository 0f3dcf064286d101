use Rattle.std.proofs.Common.{rules, ◌≡◌, true, false, refl}
use Rattle.heading_list.specs.Rows.{is_wanted}
use Rattle.heading_list.proofs.Firsts.{takes_unwanted, takes_wanted}
use Rattle.heading_list.proofs.first_rows.FirstRows.put.Goals as goal

pub returns-then-not-is_wanted : goal.returns-then-not-is_wanted
returns-then-not-is_wanted c =
    let isnt : is_wanted c.args.self.now.from c.args.row ≡ false = search rules in
    takes_unwanted c.args.self.now c.args.row isnt

pub returns : goal.returns
returns c =
    let old = c.args.self.now in
    let is : is_wanted old.from c.args.row ≡ true = search rules in
    takes_wanted old (record { from = old.from; most = old.most; rows = c.trim.new.rows }) c.args.row c.insert.new.self.keys is refl refl
    c.in_ok-insert.ensures.keys c.trim.ensures
