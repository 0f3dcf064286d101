use Rattle.std.proofs.Common.{subst}
use Rattle.numbered_store.proofs.Keeping.{EachHasNumber, known_in}
use Rattle.numbered_store.proofs.store.NumberedStore.each_record_has_a_number.Goals as goal

pub returns : goal.returns
returns c =
    subst EachHasNumber c.self.view_is
    (known_in c.self.inside.authorities c.self.inside.bibliographic c.each_record_has_a_number.ensures c.each_record_has_a_number-2.ensures)
