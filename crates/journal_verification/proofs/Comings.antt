-- What is still to come after a read, and behind what is passed.
use Rattle.std.proofs.Common.{◌≡◌, ℕ, ◌≤◌, List, ◌++◌, length, drop, Option, ap, ◌∙◌, arith, length-append, length-drop, ◌+◌}
use Rattle.std.proofs.lemmas.Grind.{common_steps}
use Rattle.journal_verification.specs.Coming.{Comes, ComesOn}

drop_front : (n : ℕ) (a b : List ℕ) → n ≤ length a → drop n (a ++ b) ≡ drop n a ++ b
drop_front n a b within = grind (arith, common_steps)

pub comes_behind : (count : ℕ) (window bytes : List ℕ) (left : Option (List ℕ)) → count ≤ length window → Comes window left bytes
    → Comes (drop count window) left (drop count bytes)
comes_behind count window bytes left within c = record {
  rest = c.rest;
  told = c.told;
  is = ap (drop count) c.is ∙ drop_front count window c.rest within;
}

-- so many more bytes are read and passed
pub comes_passed : (from place count next : ℕ) (bytes window filled passed : List ℕ) (left read after : Option (List ℕ)) → ComesOn from bytes place window left
    → ((b : List ℕ) → Comes window left b → Comes filled read b) → ((b : List ℕ) → Comes filled read b → Comes passed after (drop count b))
    → count ≤ length filled → next ≡ place + count → ComesOn from bytes next passed after
comes_passed from place count next bytes window filled passed left read after on fills passes within at =
    let c = fills on.now on.comes in
    let len = ap (length {A = ℕ}) c.is ∙ length-append filled c.rest in
    let rest = length-drop count on.now in
    let size = on.size in
    record {
      now = drop count on.now;
      comes = passes on.now c;
      size = omega (arith, len, rest, size, within, at);
    }
