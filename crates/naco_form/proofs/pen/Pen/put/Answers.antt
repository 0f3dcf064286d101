use Rattle.std.proofs.Common.{◌≡◌, ℕ, List, ◌∷◌, sym, ap, ◌∙◌}
use Rattle.std.proofs.lemmas.Result.{on_ok_weaker}
use Rattle.naco_form.specs.Comparison.{commas}
use Rattle.naco_form.specs.Pen.{written_and_still, whole}
use Rattle.naco_form.proofs.PenLemmas.{put_decided}
use Rattle.naco_form.proofs.pen.Pen.put.Goals as goal

pub returns-in-32 : goal.returns-in-32
returns-in-32 c cs =
    let decided = c.decide_comma in
    let rest = commas decided.new.self.keeps_comma cs in
    put_decided _ _ _ c.args.c decided.result cs (decided.ensures.decided cs) decided.ensures.out decided.ensures.at c.hold_blank.ensures.comma (c.hold_blank.ensures.text rest ∙ ap (λ d. written_and_still decided.new.self (d ∷ rest)) (sym c.in-32.is))

pub returns-in_default : goal.returns-in_default
returns-in_default c =
    let decided = c.decide_comma in
    on_ok_weaker {P = (cs : List ℕ) → written_and_still c.write.new.self cs ≡ written_and_still decided.new.self (decided.result ∷ cs)} {Q = (cs : List ℕ) → whole c.write.new.self cs ≡ whole c.args.self.now (c.args.c ∷ cs)} c.write.result (λ text cs. put_decided _ _ _ c.args.c decided.result cs (decided.ensures.decided cs) decided.ensures.out decided.ensures.at c.write.ensures.comma (text (commas decided.new.self.keeps_comma cs))) c.write.ensures.text
