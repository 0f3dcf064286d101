use Rattle.reading.proofs.Fields.{control_read}
use Rattle.reading.proofs.field.control_field.Goals as goal

pub returns-clause-read : goal.returns-clause-read
returns-clause-read c =
    rw c.in_ok-text.ensures
    (control_read _ _ _ _ c.requires.valid c.requires.control c.requires.fits c.requires.unended c.in_ok-text_of_entry.ensures.text)
