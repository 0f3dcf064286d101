-- Forms that the order ties are the same form.
use Rattle.std.proofs.Common.{◌≡◌, sym, true}
use Rattle.marc_types.specs.declared.form.Form.{Form}
use Rattle.marc_types.specs.Order.{form_ties_same, same_form}

pub same_form_value : (x y : Form) → same_form x y ≡ true → y ≡ x
same_form_value x y tie = sym (form_ties_same.same x y tie)
