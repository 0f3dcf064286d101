-- Typed characters, one by one.
use Rattle.std.proofs.Common.{◌≡◌, ◌∙◌, ℕ, ◌==◌, Bool, true, false, ◌&&◌, List, [], ◌∷◌, ◌++◌, encode_utf8, encode_utf8_all, refl, sym, ap, append-nil, append_assoc}
use Rattle.std.specs.Prelude.{if◌then◌else◌}
use Rattle.marc_types.specs.declared.field.Subfield.{Subfield}
use Rattle.heading_list.specs.Typed.{coded_subfields, is_typed_code, text_before, typed_subfield, typed_subfields}
use Rattle.heading_list.specs.Typing.{typed_on, typed_with}
use Rattle.heading_list.specs.declared.typed.Typing.{Typing}

-- a subfield of a code and a text
abbrev pub subfield : ℕ → List ℕ → Subfield
subfield code text = record { code = code; text = text }

-- a character that is no `$`
plain_text : (c : ℕ) (cs : List ℕ) → (c == 36) ≡ false → text_before (c ∷ cs) ≡ c ∷ text_before cs
unfolding text_before
plain_text c [] other = refl
plain_text c (next ∷ cs) other = ap (λ b. if b && is_typed_code next then [] else c ∷ text_before (next ∷ cs)) other

plain_coded : (c : ℕ) (cs : List ℕ) → (c == 36) ≡ false → coded_subfields (c ∷ cs) ≡ coded_subfields cs
unfolding coded_subfields
plain_coded c [] other = refl
plain_coded c (next ∷ cs) other = ap (λ b. if b && is_typed_code next then typed_subfield next cs ∷ coded_subfields cs else coded_subfields (next ∷ cs)) other

-- a `$` before what is no code
dollar_text : (c : ℕ) (cs : List ℕ) → is_typed_code c ≡ false → text_before (36 ∷ c ∷ cs) ≡ 36 ∷ text_before (c ∷ cs)
unfolding text_before
dollar_text c cs none = ap (λ b. if b then [] else 36 ∷ text_before (c ∷ cs)) none

dollar_coded : (c : ℕ) (cs : List ℕ) → is_typed_code c ≡ false → coded_subfields (36 ∷ c ∷ cs) ≡ coded_subfields (c ∷ cs)
unfolding coded_subfields
dollar_coded c cs none = ap (λ b. if b then typed_subfield c cs ∷ coded_subfields cs else coded_subfields (c ∷ cs)) none

-- a `$` before a code
code_text : (c : ℕ) (cs : List ℕ) → is_typed_code c ≡ true → text_before (36 ∷ c ∷ cs) ≡ []
unfolding text_before
code_text c cs is = ap (λ b. if b then [] else 36 ∷ text_before (c ∷ cs)) is

code_coded : (c : ℕ) (cs : List ℕ) → is_typed_code c ≡ true → coded_subfields (36 ∷ c ∷ cs) ≡ typed_subfield c cs ∷ coded_subfields cs
unfolding coded_subfields
code_coded c cs is = ap (λ b. if b then typed_subfield c cs ∷ coded_subfields cs else coded_subfields (c ∷ cs)) is

-- what there will be, by the parts of a typing
by_parts : (t : Typing) (done : List Subfield) (code : ℕ) (text : List ℕ) (held : Bool) → t.done.items ≡ done → t.code ≡ code → t.text ≡ text → t.held ≡ held
    → (cs : List ℕ) → typed_with t cs ≡ done ++ typed_on code text (if held then 36 ∷ cs else cs)
unfolding typed_with
by_parts t done code text held d c x h cs = λ i. d i ++ typed_on (c i) (x i) (if h i then 36 ∷ cs else cs)

pub nothing_typed : (t : Typing) → t.done.items ≡ [] → t.code ≡ 97 → t.text ≡ [] → t.held ≡ false → (cs : List ℕ) → typed_with t cs ≡ typed_subfields cs
nothing_typed t d c x h cs = by_parts t [] 97 [] false d c x h cs

-- a code: the subfield is done, and another begins
pub begun : (old new : Typing) (code : ℕ) → old.held ≡ true → is_typed_code code ≡ true → new.done.items ≡ old.done.items ++ subfield old.code old.text ∷ []
    → new.code ≡ code → new.text ≡ [] → new.held ≡ false → (cs : List ℕ) → typed_with new cs ≡ typed_with old (code ∷ cs)
unfolding typed_with coded_subfields
begun old new code held is d c x h cs =
    by_parts new (old.done.items ++ subfield old.code old.text ∷ []) code [] false d c x h cs
    ∙ append_assoc old.done.items (subfield old.code old.text ∷ []) (typed_on code [] cs)
    ∙ (λ i. old.done.items ++ subfield old.code (sym (append-nil old.text) i) ∷ typed_on code [] cs)
    ∙ (λ i. old.done.items ++ subfield old.code (old.text ++ encode_utf8_all (sym (code_text code cs is) i)) ∷ sym (code_coded code cs is) i)
    ∙ sym (by_parts old old.done.items old.code old.text true refl refl refl held (code ∷ cs))

-- a character of the text
pub typed_more : (old new : Typing) (c : ℕ) → old.held ≡ false → (c == 36) ≡ false → new.done.items ≡ old.done.items → new.code ≡ old.code
    → new.text ≡ old.text ++ encode_utf8 c → new.held ≡ false → (cs : List ℕ) → typed_with new cs ≡ typed_with old (c ∷ cs)
unfolding typed_with coded_subfields
typed_more old new c held other d k x h cs =
    by_parts new old.done.items old.code (old.text ++ encode_utf8 c) false d k x h cs
    ∙ (λ i. old.done.items ++ subfield old.code (append_assoc old.text (encode_utf8 c) (encode_utf8_all (text_before cs)) i) ∷ coded_subfields cs)
    ∙ (λ i. old.done.items ++ subfield old.code (old.text ++ encode_utf8_all (sym (plain_text c cs other) i)) ∷ sym (plain_coded c cs other) i)
    ∙ sym (by_parts old old.done.items old.code old.text false refl refl refl held (c ∷ cs))

-- a `$` is held back
pub held_back : (old new : Typing) → old.held ≡ false → new.done.items ≡ old.done.items → new.code ≡ old.code → new.text ≡ old.text
    → new.held ≡ true → (cs : List ℕ) → typed_with new cs ≡ typed_with old (36 ∷ cs)
held_back old new held d k x h cs =
    by_parts new old.done.items old.code old.text true d k x h cs
    ∙ sym (by_parts old old.done.items old.code old.text false refl refl refl held (36 ∷ cs))

-- a `$` that was held back comes into the text, since no code is behind it
pub let_go_before : (old new : Typing) → old.held ≡ true → new.done.items ≡ old.done.items → new.code ≡ old.code → new.text ≡ old.text ++ encode_utf8 36
    → new.held ≡ false → (c : ℕ) (cs : List ℕ) → is_typed_code c ≡ false → typed_with new (c ∷ cs) ≡ typed_with old (c ∷ cs)
unfolding typed_with coded_subfields
let_go_before old new held d k x h c cs none =
    by_parts new old.done.items old.code (old.text ++ encode_utf8 36) false d k x h (c ∷ cs)
    ∙ (λ i. old.done.items ++ subfield old.code (append_assoc old.text (encode_utf8 36) (encode_utf8_all (text_before (c ∷ cs))) i) ∷ coded_subfields (c ∷ cs))
    ∙ (λ i. old.done.items ++ subfield old.code (old.text ++ encode_utf8_all (sym (dollar_text c cs none) i)) ∷ sym (dollar_coded c cs none) i)
    ∙ sym (by_parts old old.done.items old.code old.text true refl refl refl held (c ∷ cs))

pub let_go_last : (old new : Typing) → old.held ≡ true → new.done.items ≡ old.done.items → new.code ≡ old.code → new.text ≡ old.text ++ encode_utf8 36
    → new.held ≡ false → typed_with new [] ≡ typed_with old []
unfolding text_before coded_subfields typed_with
let_go_last old new held d k x h =
    by_parts new old.done.items old.code (old.text ++ encode_utf8 36) false d k x h []
    ∙ (λ i. old.done.items ++ subfield old.code (append_assoc old.text (encode_utf8 36) [] i) ∷ [])
    ∙ sym (by_parts old old.done.items old.code old.text true refl refl refl held [])

-- all is typed
pub all_typed : (t : Typing) → t.held ≡ false → t.done.items ++ subfield t.code t.text ∷ [] ≡ typed_with t []
unfolding text_before coded_subfields typed_with
all_typed t held =
    (λ i. t.done.items ++ subfield t.code (sym (append-nil t.text) i) ∷ [])
    ∙ sym (by_parts t t.done.items t.code t.text false refl refl refl held [])
