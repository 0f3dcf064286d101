use Rattle.iso2709_record.proofs.texts.texts_are_utf8.Goals as goal

pub returns-in-Variable : goal.returns-in-Variable
returns-in-Variable c = rw c.in-Variable.is c.subfields_are_utf8.ensures
