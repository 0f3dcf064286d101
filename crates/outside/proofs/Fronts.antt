-- What several writes wrote, one after the other, and what is left to write.
use Rattle.std.proofs.Common.{◌≡◌, ℕ, List, [], ◌++◌, Option, Some, None, refl, sym, ap, ◌∙◌, append_assoc, append-nil, ◌<◌, ◌+◌, length, take, drop, get_or, arith, subst, ◌∷◌, take-append-drop, drop-cons}
use Rattle.std.specs.Io.KnownBytes.{Appends, Consumes, IsAtEnd}
use Rattle.std.proofs.KnownBytes.{Appends-trans, Appends-nil, Consumes-trans}
use Rattle.std.specs.List.{flat_map}
use Rattle.std.proofs.lemmas.Grind.{common_steps, flat_map-append}
use Rattle.std.proofs.lemmas.List.{drop_more}
use Rattle.outside.specs.Sink.{WritesFront}

-- nothing was written
pub front_none : (a : Option (List ℕ)) (p : List ℕ) → WritesFront a a p
front_none a p = record { front = []; rest = p; split = refl; wrote = Appends-nil a }

-- all was written
pub front_all : (a b : Option (List ℕ)) (p : List ℕ) → Appends a b p → WritesFront a b p
front_all a b p wrote = record { front = p; rest = []; split = sym (append-nil p); wrote = wrote }

-- a front of the bytes is a front of more bytes
pub front_more : (a b : Option (List ℕ)) (p q : List ℕ) → WritesFront a b p → WritesFront a b (p ++ q)
front_more a b p q w = record {
  front = w.front;
  rest = w.rest ++ q;
  split = ap (λ l. l ++ q) w.split ∙ append_assoc w.front w.rest q;
  wrote = w.wrote;
}

-- all of the first bytes, and then a front of the next
pub front_then : (a b c : Option (List ℕ)) (p q : List ℕ) → Appends a b p → WritesFront b c q → WritesFront a c (p ++ q)
front_then a b c p q first w = record {
  front = p ++ w.front;
  rest = w.rest;
  split = ap (λ l. p ++ l) w.split ∙ sym (append_assoc p w.front w.rest);
  wrote = Appends-trans a b c p w.front first w.wrote;
}

-- the first bytes, and then the next
pub appends_then : (a b c : Option (List ℕ)) (p q : List ℕ) → Appends a b p → Appends b c q → Appends a c (p ++ q)
appends_then a b c p q first second = Appends-trans a b c p q first second

-- the first bytes read, and then the next
pub consumes_then : (a b c : Option (List ℕ)) (p q : List ℕ) → Consumes a b p → Consumes b c q → Consumes a c (p ++ q)
consumes_then a b c p q first second = Consumes-trans a b c p q first second

-- told bytes with more behind them
pub appends_told : (a b : Option (List ℕ)) (xs bs : List ℕ) → a ≡ Some xs → Appends a b bs → b ≡ Some (xs ++ bs)
appends_told None b xs bs told wrote = cc
appends_told (Some x) None xs bs told wrote = absurd wrote
appends_told (Some x) (Some y) xs bs told wrote = cc

-- told bytes that were read to their end
pub consumes_told : (a b : Option (List ℕ)) (xs bs : List ℕ) → a ≡ Some xs → Consumes a b bs → IsAtEnd b → bs ≡ xs
consumes_told None b xs bs told read end = cc
consumes_told (Some x) None xs bs told read end = absurd read
consumes_told (Some x) (Some y) xs bs told read end = let e = append-nil bs in cc

-- one after the other, of three
pub appends_three : (a b c d : Option (List ℕ)) (p q r : List ℕ) → Appends a b p → Appends b c q → Appends c d r → Appends a d (p ++ q ++ r)
appends_three a b c d p q r first second third = appends_then a c d (p ++ q) r (appends_then a b c p q first second) third

-- a front of the first bytes, and nothing of the rest
pub front_first : (a b : Option (List ℕ)) (p q r : List ℕ) → WritesFront a b p → WritesFront a b (p ++ q ++ r)
front_first a b p q r first = front_more a b (p ++ q) r (front_more a b p q first)

-- the first bytes, a front of the next, and nothing of the rest
pub front_second : (a b c : Option (List ℕ)) (p q r : List ℕ) → Appends a b p → WritesFront b c q → WritesFront a c (p ++ q ++ r)
front_second a b c p q r first second = front_more a c (p ++ q) r (front_then a b c p q first second)

-- the first bytes, the next, and a front of the rest
pub front_third : (a b c d : Option (List ℕ)) (p q r : List ℕ) → Appends a b p → Appends b c q → WritesFront c d r → WritesFront a d (p ++ q ++ r)
front_third a b c d p q r first second third = front_then a c d (p ++ q) r (appends_then a b c p q first second) third

-- the items before this one, and a front of this one
pub front_item : {X : Type 0} (f : X → List ℕ) (a b c : Option (List ℕ)) (xs : List X) (i : ℕ) (x : X) → Appends a b (flat_map f (take i xs))
    → WritesFront b c (f x) → i < length xs → x ≡ get_or xs i x → WritesFront a c (flat_map f xs)
front_item f a b c xs i x before item within is =
    let split : flat_map f xs ≡ flat_map f (take i xs) ++ f x ++ flat_map f (drop (i + 1) xs) = grind (arith, common_steps, flat_map-append f (take i xs) (drop i xs), take-append-drop i xs, drop-cons xs i x within) in
    rw split (front_second a b c (flat_map f (take i xs)) (f x) (flat_map f (drop (i + 1) xs)) before item)

-- of the whole, the first bytes were written, and the rest is left
pub record IsWriting (old now : Option (List ℕ)) (whole rest : List ℕ) : Type 0 where
  pub done : List ℕ
  pub split : whole ≡ done ++ rest
  pub wrote : Appends old now done

pub writing_begun : (a : Option (List ℕ)) (whole : List ℕ) → IsWriting a a whole whole
writing_begun a whole = record { done = []; split = refl; wrote = Appends-nil a }

-- the next piece was written
pub writing_more : (a b c : Option (List ℕ)) (whole left piece rest : List ℕ)
    → IsWriting a b whole left → left ≡ piece ++ rest → Appends b c piece → IsWriting a c whole rest
writing_more a b c whole left piece rest w e wrote = record {
  done = w.done ++ piece;
  split = w.split ∙ ap (λ l. w.done ++ l) e ∙ sym (append_assoc w.done piece rest);
  wrote = appends_then a b c w.done piece w.wrote wrote;
}

-- of the next piece some front was written
pub writing_failed : (a b c : Option (List ℕ)) (whole left piece rest : List ℕ)
    → IsWriting a b whole left → left ≡ piece ++ rest → WritesFront b c piece → WritesFront a c whole
writing_failed a b c whole left piece rest w e front =
    subst (WritesFront a c) (sym (w.split ∙ ap (λ l. w.done ++ l) e))
    (front_then a b c w.done (piece ++ rest) w.wrote (front_more b c piece rest front))

-- nothing is left
pub writing_done : (a b : Option (List ℕ)) (whole : List ℕ) → IsWriting a b whole [] → Appends a b whole
writing_done a b whole w = subst (Appends a b) (sym (w.split ∙ append-nil w.done)) w.wrote

-- what was written so far is a front of the whole
pub writing_stopped : (a b : Option (List ℕ)) (whole rest : List ℕ) → IsWriting a b whole rest → WritesFront a b whole
writing_stopped a b whole rest w = record { front = w.done; rest = rest; split = w.split; wrote = w.wrote }

-- the next element of a list that a loop goes over
pub drop_next : {X : Type 0} (xs : List X) (i : ℕ) (x : X) → i < length xs → x ≡ get_or xs i x → drop i xs ≡ x ∷ drop (i + 1) xs
drop_next xs i x h is = drop_more xs i x h ∙ ap (λ y. y ∷ drop (i + 1) xs) (sym is)

-- the next piece, where each element has one
pub piece_next : {X : Type 0} (f : X → List ℕ) (xs : List X) (i : ℕ) (x : X) → i < length xs → x ≡ get_or xs i x
    → flat_map f (drop i xs) ≡ f x ++ flat_map f (drop (i + 1) xs)
piece_next f xs i x h is = ap (flat_map f) (drop_next xs i x h is)
