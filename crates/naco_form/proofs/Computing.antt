use Rattle.naco_form.specs.Comparison.{squeezed, trim_front, single_blanks}
use Rattle.naco_form.specs.Pen.{still, written_and_still, whole}

-- `unfolding squeezing` opens the words of a pen
unfoldable pub squeezing : Unit {0}
unfolding whole written_and_still still squeezed trim_front single_blanks
squeezing = tt
