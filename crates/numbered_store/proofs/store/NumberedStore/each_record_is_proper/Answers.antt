use Rattle.std.proofs.Common.{subst}
use Rattle.numbered_store.proofs.Keeping.{EachIsProper, proper_in}
use Rattle.numbered_store.proofs.store.NumberedStore.each_record_is_proper.Goals as goal

pub returns : goal.returns
returns c =
    subst EachIsProper c.self.view_is
    (proper_in c.self.inside.authorities c.self.inside.bibliographic c.each_record_is_proper.ensures c.each_record_is_proper-2.ensures)
