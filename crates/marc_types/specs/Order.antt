-- The order of keys, places and forms, by which sorted containers keep them, and what a hash table reads of them.
use Rattle.std.specs.Prelude.{◌≡◌, ℕ, Bool, true, false, ◌&&◌, ◌==◌, List, ◌++◌, cond, refl}
use Rattle.std.specs.Bool.{Decides}
use Rattle.std.specs.declared.cmp.Ordering.{Ordering}
use Rattle.std.specs.Ordering.{nat_cmp, on, then_cmp, ordering_then, is_eq, eq_by_cmp}
use Rattle.std.specs.Cmp.{IsTotalOrder, then_total, on_total, nat_cmp_total, eq_by_cmp_equiv, tied_then, first_so, second_so, unsigned_ties, unsigned_Decides}
use Rattle.std.specs.Cmp.Lexicographic.{slice_cmp, nat_list_cmp_total, lists_total, lists_ties, texts_ties, pointwise, pointwise_decides}
use Rattle.std.specs.Hash.{HashWrites}
use Rattle.std.specs.Hash as fed
use Rattle.std.specs.Str.{bytes_eq}
use Rattle.std.proofs.Common.{sym, ◌∙◌, ◌≢◌, ap, subst, ne_eqb}
use Rattle.marc_types.specs.declared.key.Class.{Class}
use Rattle.marc_types.specs.declared.key.Class.TheVariants.{Authority, Bibliographic}
use Rattle.marc_types.specs.declared.key.Key.{Key}
use Rattle.marc_types.specs.declared.key.Place.{Place}
use Rattle.marc_types.specs.declared.form.Kind.{Kind}
use Rattle.marc_types.specs.declared.form.Kind.TheVariants.{Personal, Corporate, Meeting, Title, Chronological, Topical, Geographic, Genre}
use Rattle.marc_types.specs.declared.form.Item.{Item}
use Rattle.marc_types.specs.declared.form.Form.{Form}

-- values that an order ties are the same value
pub record TiesOnlySame {K : Type 0} (R : K → K → Ordering) : Type 0 where
  pub same : (x y : K) → eq_by_cmp R x y ≡ true → x ≡ y

-- a test that says whether two values tie decides whether they are the same
pub decided_by : {K : Type 0} {R : K → K → Ordering} → IsTotalOrder R → TiesOnlySame R → (x y : K) → Decides (eq_by_cmp R x y) (x ≡ y)
decided_by {K} {R} t s x y = (s.same x y, λ e. subst (λ z. eq_by_cmp R x z ≡ true) e ((eq_by_cmp_equiv t).refl x))

pub text_Decides : (xs ys : List ℕ) → Decides (bytes_eq xs ys) (xs ≡ ys)
text_Decides = pointwise_decides unsigned_Decides

text_same : (xs ys : List ℕ) → is_eq (slice_cmp nat_cmp xs ys) ≡ true → xs ≡ ys
text_same xs ys h = (text_Decides xs ys).0 (texts_ties xs ys ∙ h)

-- two results tie in turn where each ties
split_first : (a b : Ordering) → is_eq (ordering_then a b) ≡ true → is_eq a ≡ true
split_first a b h = first_so (is_eq a) (is_eq b) (tied_then a b ∙ h)

split_second : (a b : Ordering) → is_eq (ordering_then a b) ≡ true → is_eq b ≡ true
split_second a b h = second_so (is_eq a) (is_eq b) (tied_then a b ∙ h)

-- by the bytes of the code, then by those of the number
unfoldable pub key_cmp : Key → Key → Ordering
key_cmp = then_cmp (on (λ k. k.code) (slice_cmp nat_cmp)) (on (λ k. k.number) (slice_cmp nat_cmp))

-- whether two keys are the same
abbrev pub same_key : Key → Key → Bool
same_key = eq_by_cmp key_cmp

pub key_cmp_total : IsTotalOrder key_cmp
unfolding key_cmp
key_cmp_total = then_total (on_total (λ k. k.code) nat_list_cmp_total) (on_total (λ k. k.number) nat_list_cmp_total)

pub key_ties_same : TiesOnlySame key_cmp
unfolding key_cmp
key_ties_same = record {
  same = λ x y h.
      let code : x.code ≡ y.code = text_same x.code y.code (split_first (slice_cmp nat_cmp x.code y.code) (slice_cmp nat_cmp x.number y.number) h) in
      let number : x.number ≡ y.number = text_same x.number y.number (split_second (slice_cmp nat_cmp x.code y.code) (slice_cmp nat_cmp x.number y.number) h) in
      λ i. record { code = code i; number = number i };
}

pub key_ties : (x y : Key) → (bytes_eq x.code y.code && bytes_eq x.number y.number) ≡ eq_by_cmp key_cmp x y
unfolding key_cmp
key_ties x y =
    ap (λ b. b && bytes_eq x.number y.number) (texts_ties x.code y.code)
    ∙ ap (λ b. is_eq (slice_cmp nat_cmp x.code y.code) && b) (texts_ties x.number y.number)
    ∙ tied_then (slice_cmp nat_cmp x.code y.code) (slice_cmp nat_cmp x.number y.number)

pub key_ties_then : (x y : Key) (r : Bool) → true ≡ bytes_eq x.code y.code → r ≡ bytes_eq x.number y.number → r ≡ eq_by_cmp key_cmp x y
key_ties_then x y r c n = n ∙ ap (λ b. b && bytes_eq x.number y.number) c ∙ key_ties x y

pub key_ties_else : (x y : Key) → false ≡ bytes_eq x.code y.code → false ≡ eq_by_cmp key_cmp x y
key_ties_else x y c = ap (λ b. b && bytes_eq x.number y.number) c ∙ key_ties x y

pub key_Decides : (x y : Key) → Decides (eq_by_cmp key_cmp x y) (x ≡ y)
key_Decides = decided_by key_cmp_total key_ties_same

-- what a hash table reads of a key
unfoldable pub key_writes : Key → HashWrites
key_writes k = fed.str k.code ++ fed.str k.number

pub key_writes_alike : (x y : Key) → eq_by_cmp key_cmp x y ≡ true → key_writes x ≡ key_writes y
key_writes_alike x y h = ap key_writes ((key_Decides x y).0 h)

-- authorities stand before publications
abbrev pub class_rank : Class → ℕ
class_rank Authority = 0
class_rank Bibliographic = 1

class_at : ℕ → Class
class_at n = cond (n == 0) Authority Bibliographic

class_at-rank : (c : Class) → class_at (class_rank c) ≡ c
unfolding class_at
class_at-rank Authority = refl
class_at-rank Bibliographic = refl

class_rank_same : (c d : Class) → class_rank c ≡ class_rank d → c ≡ d
class_rank_same c d e = sym (class_at-rank c) ∙ ap class_at e ∙ class_at-rank d

-- by the class, then by the key, then by the field
unfoldable pub place_cmp : Place → Place → Ordering
place_cmp = then_cmp (on (λ p. class_rank p.class) nat_cmp) (then_cmp (on (λ p. p.key) key_cmp) (on (λ p. p.field) nat_cmp))

-- whether two places are the same
abbrev pub same_place : Place → Place → Bool
same_place = eq_by_cmp place_cmp

pub place_cmp_total : IsTotalOrder place_cmp
unfolding place_cmp
place_cmp_total = then_total (on_total (λ p. class_rank p.class) nat_cmp_total) (then_total (on_total (λ p. p.key) key_cmp_total) (on_total (λ p. p.field) nat_cmp_total))

-- two numbers tie only where they are the same
number_same : (m n : ℕ) → is_eq (nat_cmp m n) ≡ true → m ≡ n
number_same m n h = (unsigned_Decides m n).0 (unsigned_ties m n ∙ h)

pub place_ties_same : TiesOnlySame place_cmp
unfolding place_cmp
place_ties_same = record {
  same = λ x y h.
      let behind = λ (p q : Place). ordering_then (key_cmp p.key q.key) (nat_cmp p.field q.field) in
      let class : x.class ≡ y.class = class_rank_same x.class y.class (number_same (class_rank x.class) (class_rank y.class) (split_first (nat_cmp (class_rank x.class) (class_rank y.class)) (behind x y) h)) in
      let rest = split_second (nat_cmp (class_rank x.class) (class_rank y.class)) (behind x y) h in
      let key : x.key ≡ y.key = key_ties_same.same x.key y.key (split_first (key_cmp x.key y.key) (nat_cmp x.field y.field) rest) in
      let field : x.field ≡ y.field = number_same x.field y.field (split_second (key_cmp x.key y.key) (nat_cmp x.field y.field) rest) in
      λ i. record { class = class i; key = key i; field = field i };
}

pub place_Decides : (x y : Place) → Decides (eq_by_cmp place_cmp x y) (x ≡ y)
place_Decides = decided_by place_cmp_total place_ties_same

-- what a hash table reads of a place
unfoldable pub place_writes : Place → HashWrites
place_writes p = fed.u8 (class_rank p.class) ++ key_writes p.key ++ fed.u32 p.field

pub place_writes_alike : (x y : Place) → eq_by_cmp place_cmp x y ≡ true → place_writes x ≡ place_writes y
place_writes_alike x y h = ap place_writes ((place_Decides x y).0 h)

-- the place of a kind in the order of its tags
abbrev pub kind_rank : Kind → ℕ
kind_rank Personal = 0
kind_rank Corporate = 1
kind_rank Meeting = 2
kind_rank Title = 3
kind_rank Chronological = 4
kind_rank Topical = 5
kind_rank Geographic = 6
kind_rank Genre = 7

-- by the code, then by the bytes of the text
unfoldable pub item_cmp : Item → Item → Ordering
item_cmp = then_cmp (on (λ t. t.code) nat_cmp) (on (λ t. t.text) (slice_cmp nat_cmp))

pub item_cmp_total : IsTotalOrder item_cmp
unfolding item_cmp
item_cmp_total = then_total (on_total (λ t. t.code) nat_cmp_total) (on_total (λ t. t.text) nat_list_cmp_total)

pub item_ties_same : TiesOnlySame item_cmp
unfolding item_cmp
item_ties_same = record {
  same = λ x y h.
      let code : x.code ≡ y.code = (unsigned_Decides x.code y.code).0 (unsigned_ties x.code y.code ∙ split_first (nat_cmp x.code y.code) (slice_cmp nat_cmp x.text y.text) h) in
      let text : x.text ≡ y.text = text_same x.text y.text (split_second (nat_cmp x.code y.code) (slice_cmp nat_cmp x.text y.text) h) in
      λ i. record { code = code i; text = text i };
}

pub item_ties : (x y : Item) → ((x.code == y.code) && bytes_eq x.text y.text) ≡ eq_by_cmp item_cmp x y
unfolding item_cmp
item_ties x y =
    ap (λ b. b && bytes_eq x.text y.text) (unsigned_ties x.code y.code)
    ∙ ap (λ b. is_eq (nat_cmp x.code y.code) && b) (texts_ties x.text y.text)
    ∙ tied_then (nat_cmp x.code y.code) (slice_cmp nat_cmp x.text y.text)

pub item_ties_then : (x y : Item) (r : Bool) → x.code ≡ y.code → r ≡ bytes_eq x.text y.text → r ≡ eq_by_cmp item_cmp x y
item_ties_then x y r c n =
    n ∙ ap (λ b. b && bytes_eq x.text y.text) (sym ((unsigned_Decides (x.code) (y.code)).1 c)) ∙ item_ties x y

pub item_ties_else : (x y : Item) → x.code ≢ y.code → (x.code == y.code) ≡ eq_by_cmp item_cmp x y
item_ties_else x y c =
    ne_eqb (x.code) (y.code) c ∙ ap (λ b. b && bytes_eq x.text y.text) (sym (ne_eqb (x.code) (y.code) c)) ∙ item_ties x y

pub item_Decides : (x y : Item) → Decides (eq_by_cmp item_cmp x y) (x ≡ y)
item_Decides = decided_by item_cmp_total item_ties_same

items_same : (xs ys : List Item) → is_eq (slice_cmp item_cmp xs ys) ≡ true → xs ≡ ys
items_same xs ys h = (pointwise_decides item_Decides xs ys).0 (lists_ties item_cmp (λ x y. refl) xs ys ∙ h)

-- by the kind, then by the items in turn
unfoldable pub form_cmp : Form → Form → Ordering
form_cmp = then_cmp (on (λ f. kind_rank f.kind) nat_cmp) (on (λ f. f.items) (slice_cmp item_cmp))

-- whether two forms are the same, and so the headings by the rules of comparison
abbrev pub same_form : Form → Form → Bool
same_form = eq_by_cmp form_cmp

pub form_cmp_total : IsTotalOrder form_cmp
unfolding form_cmp
form_cmp_total = then_total (on_total (λ f. kind_rank f.kind) nat_cmp_total) (on_total (λ f. f.items) (lists_total item_cmp_total))

kind_at : ℕ → Kind
kind_at n =
    cond (n == 0) Personal (cond (n == 1) Corporate (cond (n == 2) Meeting (cond (n == 3) Title
    (cond (n == 4) Chronological (cond (n == 5) Topical (cond (n == 6) Geographic Genre))))))

kind_at-rank : (k : Kind) → kind_at (kind_rank k) ≡ k
unfolding kind_at
kind_at-rank Personal = refl
kind_at-rank Corporate = refl
kind_at-rank Meeting = refl
kind_at-rank Title = refl
kind_at-rank Chronological = refl
kind_at-rank Topical = refl
kind_at-rank Geographic = refl
kind_at-rank Genre = refl

pub kind_rank_same : (j k : Kind) → kind_rank j ≡ kind_rank k → j ≡ k
kind_rank_same j k e = sym (kind_at-rank j) ∙ ap kind_at e ∙ kind_at-rank k

pub form_ties_same : TiesOnlySame form_cmp
unfolding form_cmp
form_ties_same = record {
  same = λ x y h.
      let tied : is_eq (nat_cmp (kind_rank x.kind) (kind_rank y.kind)) ≡ true = split_first (nat_cmp (kind_rank x.kind) (kind_rank y.kind)) (slice_cmp item_cmp x.items y.items) h in
      let kind : x.kind ≡ y.kind = kind_rank_same x.kind y.kind ((unsigned_Decides (kind_rank x.kind) (kind_rank y.kind)).0 (unsigned_ties (kind_rank x.kind) (kind_rank y.kind) ∙ tied)) in
      let items : x.items ≡ y.items = items_same x.items y.items (split_second (nat_cmp (kind_rank x.kind) (kind_rank y.kind)) (slice_cmp item_cmp x.items y.items) h) in
      λ i. record { kind = kind i; items = items i };
}

pub form_ties : (x y : Form) →
    ((kind_rank x.kind == kind_rank y.kind) && pointwise (eq_by_cmp item_cmp) x.items y.items) ≡ eq_by_cmp form_cmp x y
unfolding form_cmp
form_ties x y =
    ap (λ b. b && pointwise (eq_by_cmp item_cmp) x.items y.items) (unsigned_ties (kind_rank x.kind) (kind_rank y.kind))
    ∙ ap (λ b. is_eq (nat_cmp (kind_rank x.kind) (kind_rank y.kind)) && b) (lists_ties item_cmp (λ s t. refl) x.items y.items)
    ∙ tied_then (nat_cmp (kind_rank x.kind) (kind_rank y.kind)) (slice_cmp item_cmp x.items y.items)

pub form_ties_then : (x y : Form) (r : Bool) → kind_rank x.kind ≡ kind_rank y.kind → r ≡ pointwise (eq_by_cmp item_cmp) x.items y.items → r ≡ eq_by_cmp form_cmp x y
form_ties_then x y r c n =
    n ∙ ap (λ b. b && pointwise (eq_by_cmp item_cmp) x.items y.items) (sym ((unsigned_Decides (kind_rank x.kind) (kind_rank y.kind)).1 c)) ∙ form_ties x y

pub form_ties_else : (x y : Form) → kind_rank x.kind ≢ kind_rank y.kind → (kind_rank x.kind == kind_rank y.kind) ≡ eq_by_cmp form_cmp x y
form_ties_else x y c =
    ne_eqb (kind_rank x.kind) (kind_rank y.kind) c ∙ ap (λ b. b && pointwise (eq_by_cmp item_cmp) x.items y.items) (sym (ne_eqb (kind_rank x.kind) (kind_rank y.kind) c)) ∙ form_ties x y

pub form_Decides : (x y : Form) → Decides (eq_by_cmp form_cmp x y) (x ≡ y)
form_Decides = decided_by form_cmp_total form_ties_same

-- what a hash table reads of an item
unfoldable pub item_writes : Item → HashWrites
item_writes t = fed.u8 t.code ++ fed.str t.text

pub item_writes_alike : (x y : Item) → eq_by_cmp item_cmp x y ≡ true → item_writes x ≡ item_writes y
item_writes_alike x y h = ap item_writes ((item_Decides x y).0 h)

-- what a hash table reads of a form
unfoldable pub form_writes : Form → HashWrites
form_writes f = fed.u8 (kind_rank f.kind) ++ fed.slice item_writes f.items

pub form_writes_alike : (x y : Form) → eq_by_cmp form_cmp x y ≡ true → form_writes x ≡ form_writes y
form_writes_alike x y h = ap form_writes ((form_Decides x y).0 h)
