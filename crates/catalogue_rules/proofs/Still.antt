-- Settling leaves a valid state as it is.
use Rattle.std.proofs.Common.{◌≡◌, List, [], ◌∷◌, map, Option, Some, None, refl, sym, ap, ◌∙◌}
use Rattle.std.specs.Prelude.{All, find, IfSome}
use Rattle.std.specs.Option.{option_map_or}
use Rattle.std.proofs.lemmas.List.Elements.{recursion_from_All}
use Rattle.marc_types.specs.Order.{key_Decides}
use Rattle.marc_types.specs.declared.key.Class.{Class}
use Rattle.marc_types.specs.declared.key.Class.TheVariants.{Authority, Bibliographic}
use Rattle.marc_types.specs.declared.key.Key.{Key}
use Rattle.marc_types.specs.declared.form.Kind.{Kind}
use Rattle.entry_record.specs.Authority.{Linkable, heading_kind}
use Rattle.catalogue_rules.specs.State.{KeptField, Row, State, linkable_authorities, each_in_row, each_field}
use Rattle.catalogue_rules.specs.Choice.{Choice, Link, Ambiguous, Unlinked, has_key, choice}
use Rattle.catalogue_rules.specs.Settle.{link_to, take_choice, settle_linked, settle_unlinked, settle_field, settle}
use Rattle.catalogue_rules.specs.Valid.{IsLink, IsTied, IsRewrittenFrom, IsRewritten, IsNoLink, IsSettled, IsValid}
use Rattle.catalogue_rules.proofs.Elements.{Each, each_weaker, each_both, find_found, each_anything}
use Rattle.catalogue_rules.proofs.Fitting.{from_found}
use Rattle.catalogue_rules.proofs.Settled.{IsKeptBy, kept_by}

linked_same : (class : Class) (h : KeptField) (c : Linkable) → h.tie.key ≡ Some c.key → h.tie.awaits ≡ None → IsRewrittenFrom class h c → link_to class h h.tie.whole c ≡ h
linked_same class h c key awaits same = λ i. record { field = same i; tie = record { key = sym key i; whole = h.tie.whole; awaits = sym awaits i } }

found_same : (all : List Linkable) (class : Class) (h : KeptField) (key : Key) (c : Linkable) → h.tie.key ≡ Some key → IsLink all class h key → IsKeptBy all class h key c →
    IfSome (find (has_key key) all) (IsRewrittenFrom class h) → settle_linked all class h key ≡ h
found_same all class h key c e link k r =
    let found = find_found (λ (d : Linkable). Unit {0}) (has_key key) all c (each_anything all) k.found in
    let key_same : key ≡ c.key = (key_Decides key c.key).0 found.1 in
    let same = from_found class h c (find (has_key key) all) k.found r in
    rw k.found (linked_same class h c (e ∙ ap (λ (x : Key). Some x) key_same) link.unawaiting same)

choice_same : (class : Class) (h : KeptField) (x : Choice) → IsNoLink x → take_choice class h x ≡ h
choice_same class h (Link c whole) none = absurd none
choice_same class h (Ambiguous keys) none = refl
choice_same class h Unlinked none = refl

heading_same : (all : List Linkable) (class : Class) (h : KeptField) (o : Option Kind) → IfSome o (λ kind. IsNoLink (choice all class kind h)) →
    option_map_or (λ kind. take_choice class h (choice all class kind h)) o h ≡ h
heading_same all class h None none = refl
heading_same all class h (Some kind) none = choice_same class h (choice all class kind h) none

key_same : (all : List Linkable) (class : Class) (h : KeptField) (o : Option Key) → h.tie.key ≡ o → IfSome o (IsLink all class h) →
    IfSome o (λ key. IfSome (find (has_key key) all) (IsRewrittenFrom class h)) → IsSettled all class h → option_map_or (settle_linked all class h) o (settle_unlinked all class h) ≡ h
key_same all class h None e link r settled = heading_same all class h (heading_kind class h.field) (settled e)
key_same all class h (Some key) e link r settled =
    let by = kept_by all class h key (find (has_key key) all) refl link.kept in
    found_same all class h key by.0 e link by.1 r

-- a field that is tied, rewritten and settled stays
pub field_same : (all : List Linkable) (class : Class) (h : KeptField) → IsTied all class h → IsRewritten all class h → IsSettled all class h → settle_field all class h ≡ h
unfolding settle_field
field_same all class h tied r settled = key_same all class h h.tie.key refl tied.linked r settled

fields_same : (f : KeptField → KeptField) (hs : List KeptField) → Each (λ h. f h ≡ h) hs → map f hs ≡ hs
fields_same f [] a = refl
fields_same f (h ∷ hs) a = rw (a.0, fields_same f hs a.1) refl

rows_same : (f : KeptField → KeptField) (rows : List Row) → Each (λ (row : Row). Each (λ h. f h ≡ h) row.1.fields) rows → map (each_in_row f) rows ≡ rows
rows_same f [] a = refl
rows_same f (row ∷ rows) a =
    let fields = fields_same f row.1.fields a.0 in
    let rest = rows_same f rows a.1 in
    λ i. (row.0, record { leader = row.1.leader; fields = fields i }) ∷ rest i

class_same : (all : List Linkable) (class : Class) (rows : List Row) → All (λ (row : Row). All (IsTied all class) row.1.fields) rows →
    All (λ (row : Row). All (IsRewritten all class) row.1.fields) rows → All (λ (row : Row). All (IsSettled all class) row.1.fields) rows →
    map (each_in_row (settle_field all class)) rows ≡ rows
class_same all class rows t r s =
    let T = λ (row : Row). All (IsTied all class) row.1.fields in
    let R = λ (row : Row). All (IsRewritten all class) row.1.fields in
    let S = λ (row : Row). All (IsSettled all class) row.1.fields in
    let Same = λ (h : KeptField). settle_field all class h ≡ h in
    let one = λ (row : Row) (x : (T row × R row) × S row).
    each_weaker (λ h. (IsTied all class h × IsRewritten all class h) × IsSettled all class h) Same (λ h y. field_same all class h y.0.0 y.0.1 y.1) row.1.fields
    (each_both (λ h. IsTied all class h × IsRewritten all class h) (IsSettled all class) row.1.fields
    (each_both (IsTied all class) (IsRewritten all class) row.1.fields (recursion_from_All (IsTied all class) row.1.fields x.0.0) (recursion_from_All (IsRewritten all class) row.1.fields x.0.1))
    (recursion_from_All (IsSettled all class) row.1.fields x.1)) in
    rows_same (settle_field all class) rows
    (each_weaker (λ row. (T row × R row) × S row) (λ (row : Row). Each Same row.1.fields) one rows
    (each_both (λ row. T row × R row) S rows (each_both T R rows (recursion_from_All T rows t) (recursion_from_All R rows r)) (recursion_from_All S rows s)))

-- settling leaves a valid state
pub valid_settled : (s : State) → IsValid s → settle s ≡ s
unfolding settle each_field
valid_settled s v =
    let all = linkable_authorities s in
    let authorities = class_same all Authority s.authorities v.ties.0 v.rewritten.0 v.settled.0 in
    let bibliographic = class_same all Bibliographic s.bibliographic v.ties.1 v.rewritten.1 v.settled.1 in
    λ i. record { authorities = authorities i; bibliographic = bibliographic i }
