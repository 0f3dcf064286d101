-- Every record of a valid state fits into its written form.
use Rattle.std.proofs.Common.{◌≡◌, suc, ◌≤◌, true, List, [], ◌∷◌, map, length, Option, Some, None, refl, ap, ◌∙◌, arith}
use Rattle.std.specs.Prelude.{All, IfSome, find, nat_le}
use Rattle.std.specs.List.{sum_by}
use Rattle.std.proofs.lemmas.Bool.{le-leb}
use Rattle.std.proofs.lemmas.List.Sums.{sum_by-cons}
use Rattle.std.proofs.lemmas.List.Elements.{All-from_recursion, recursion_from_All}
use Rattle.marc_types.specs.Order.{key_Decides}
use Rattle.marc_types.specs.declared.field.Field.{Field}
use Rattle.marc_types.specs.declared.field.Field.TheVariants.{Control, Variable}
use Rattle.marc_types.specs.declared.key.Class.{Class}
use Rattle.marc_types.specs.declared.key.Class.TheVariants.{Authority, Bibliographic}
use Rattle.marc_types.specs.declared.key.Key.{Key}
use Rattle.marc_types.specs.declared.form.Kind.{Kind}
use Rattle.marc_types.specs.Valid.{subfields_size}
use Rattle.heading_fields.specs.Tables.{kind_of}
use Rattle.heading_fields.specs.Parts.{written_length, field_outside, reaches}
use Rattle.marc_types.specs.Fields.{subfields_of}
use Rattle.heading_fields.specs.Numbers.{unnumbered}
use Rattle.heading_fields.proofs.Fieldlaws.{written_length_rewriting}
use Rattle.iso2709_record.specs.Written.{field_length, fields_length, record_length, fits}
use Rattle.iso2709_record.proofs.Lengths.{field_length-variable, fits_from}
use Rattle.entry_record.specs.Authority.{Linkable, heading_kind}
use Rattle.catalogue_rules.specs.State.{KeptField, Row, State, fields_of, linkable_authorities}
use Rattle.catalogue_rules.specs.Choice.{has_key}
use Rattle.catalogue_rules.specs.Valid.{IsLink, IsTied, IsRewrittenFrom, IsRewritten, HasRoom, IsValid, IsRow, EachRow, other_subfields, reach}
use Rattle.catalogue_rules.proofs.Elements.{Each, each_weaker, each_both, find_found}
use Rattle.catalogue_rules.proofs.Fit.{IsFit}
use Rattle.catalogue_rules.proofs.Proper.{all_fit}
use Rattle.catalogue_rules.proofs.Reach.{heading_of_kind, reach_of}
use Rattle.catalogue_rules.proofs.Room.{kind_of_variable, other_reach}
use Rattle.catalogue_rules.proofs.Settled.{IsKeptBy, kept_by, kind_by_is}
use Rattle.catalogue_rules.proofs.Sizes.{part_and_outside, part_within_full}

written_is : (class : Class) (f : Field) (kind : Kind) → kind_of class f ≡ Some kind → written_length f ≡ field_length f
written_is class (Control tag text) kind e = cc
written_is class (Variable tag ind1 ind2 subs) kind e = let own = field_length-variable tag ind1 ind2 subs in omega arith

-- an unlinked heading field
unlinked_within : (class : Class) (h : KeptField) (kind : Kind) → heading_kind class h.field ≡ Some kind → h.tie.key ≡ None → field_length h.field ≤ reach class h
unlinked_within class h kind e key =
    let own = heading_of_kind class h.field kind e in
    let is = reach_of class h kind e in
    let written = kind_of_variable class h.field kind own.kind_is in
    let parts = part_and_outside (reaches h.tie.whole class h.field) kind (subfields_of h.field) in
    let out : subfields_size (other_subfields h.tie.key (field_outside h.tie.whole kind class h.field)) ≡ subfields_size (field_outside h.tie.whole kind class h.field) = rw key refl in
    omega arith

-- a linked field that equals its rewriting
rewritten_within : (all : List Linkable) (class : Class) (h : KeptField) (c : Linkable) → IsFit all c → heading_kind class h.field ≡ Some c.kind → h.tie.key ≡ Some c.key → IsRewrittenFrom class h c →
    field_length h.field ≤ reach class h
rewritten_within all class h c fit e key same =
    let own = heading_of_kind class h.field c.kind e in
    let is = reach_of class h c.kind e in
    let length_is = written_length_rewriting h.field c.kind class c.heading c.key h.tie.whole own.some in
    let rewritten = ap written_length same in
    let written = written_is class h.field c.kind own.kind_is in
    let within = part_within_full (reaches h.tie.whole class h.field) c.kind (subfields_of c.heading) in
    let short = fit.short in
    let code = fit.code in
    let number = fit.number in
    let out : subfields_size (other_subfields h.tie.key (field_outside h.tie.whole c.kind class h.field)) ≡ subfields_size (unnumbered c.key (field_outside h.tie.whole c.kind class h.field)) = rw key refl in
    omega arith

pub from_found : (class : Class) (h : KeptField) (c : Linkable) (o : Option Linkable) → o ≡ Some c → IfSome o (IsRewrittenFrom class h) → IsRewrittenFrom class h c
from_found class h c None e r = cc
from_found class h c (Some d) e r = let same : d ≡ c = cc in rw (← same) r

linked_within : (all : List Linkable) (class : Class) (h : KeptField) (key : Key) (kind : Kind) (c : Linkable) → Each (IsFit all) all → h.tie.key ≡ Some key → heading_kind class h.field ≡ Some kind →
    IsKeptBy all class h key c → IfSome (find (has_key key) all) (IsRewrittenFrom class h) → field_length h.field ≤ reach class h
linked_within all class h key kind c fits linked heading k r =
    let own = heading_of_kind class h.field kind heading in
    let same : kind ≡ c.kind = kind_by_is c.kind (kind_of class h.field) kind own.kind_is k.kind_is in
    let found = find_found (IsFit all) (has_key key) all c fits k.found in
    let key_same : key ≡ c.key = (key_Decides key c.key).0 found.1 in
    rewritten_within all class h c found.0 (heading ∙ ap (λ (x : Kind). Some x) same) (linked ∙ ap (λ (x : Key). Some x) key_same)
    (from_found class h c (find (has_key key) all) k.found r)

heading_within : (all : List Linkable) (class : Class) (h : KeptField) (kind : Kind) (o : Option Key) → Each (IsFit all) all → heading_kind class h.field ≡ Some kind → h.tie.key ≡ o →
    IfSome o (IsLink all class h) → IfSome o (λ key. IfSome (find (has_key key) all) (IsRewrittenFrom class h)) → field_length h.field ≤ reach class h
heading_within all class h kind None fits heading e link r = unlinked_within class h kind heading e
heading_within all class h kind (Some key) fits heading e link r =
    let by = kept_by all class h key (find (has_key key) all) refl link.kept in
    linked_within all class h key kind by.0 fits e heading by.1 r

within_at : (all : List Linkable) (class : Class) (h : KeptField) (o : Option Kind) → Each (IsFit all) all → heading_kind class h.field ≡ o → IsTied all class h → IsRewritten all class h →
    field_length h.field ≤ reach class h
within_at all class h None fits e tied r = let same = other_reach class h e in omega arith
within_at all class h (Some kind) fits e tied r = heading_within all class h kind h.tie.key fits e refl tied.linked r

-- a field is no longer than its reach
pub field_within : (all : List Linkable) (class : Class) → Each (IsFit all) all → (h : KeptField) → IsTied all class h × IsRewritten all class h → field_length h.field ≤ reach class h
field_within all class fits h both = within_at all class h (heading_kind class h.field) fits refl both.0 both.1

total_within : (class : Class) (hs : List KeptField) → Each (λ h. field_length h.field ≤ reach class h) hs → fields_length (map (λ h. h.field) hs) ≤ sum_by (reach class) hs
total_within class [] a = omega arith
total_within class (h ∷ hs) a =
    let total = sum_by-cons (reach class) h hs in
    let rest = total_within class hs a.1 in
    let own = a.0 in
    omega arith

each_short : (class : Class) (hs : List KeptField) → Each (λ h. field_length h.field ≤ reach class h) hs → Each (λ h. reach class h ≤ 9999) hs →
    Each (λ (f : Field). nat_le (field_length f) 9999 ≡ true) (map (λ h. h.field) hs)
each_short class [] a b = tt
each_short class (h ∷ hs) a b =
    let own = a.0 in
    let reach_short = b.0 in
    let short : field_length h.field ≤ 9999 = omega arith in
    (le-leb (field_length h.field) 9999 short, each_short class hs a.1 b.1)

fields_count : (hs : List KeptField) → length (map (λ (h : KeptField). h.field) hs) ≡ length hs
fields_count [] = refl
fields_count (h ∷ hs) = ap suc (fields_count hs)

pub row_fits : (class : Class) (row : Row) → Each (λ h. field_length h.field ≤ reach class h) row.1.fields → HasRoom class row → fits (fields_of row.1) ≡ true
row_fits class row a room =
    let fields = fields_of row.1 in
    let total = total_within class row.1.fields a in
    let count = fields_count row.1.fields in
    let was = room.record_fits in
    let long : record_length fields ≤ 99999 = omega arith in
    fits_from fields long
    (All-from_recursion (λ (f : Field). nat_le (field_length f) 9999 ≡ true) fields
    (each_short class row.1.fields a (recursion_from_All (λ h. reach class h ≤ 9999) row.1.fields room.fields_fit)))

rows_fit : (all : List Linkable) (class : Class) → Each (IsFit all) all → (rows : List Row) → All (λ (row : Row). All (IsTied all class) row.1.fields) rows →
    All (λ (row : Row). All (IsRewritten all class) row.1.fields) rows → All (HasRoom class) rows → All (λ (row : Row). fits (fields_of row.1) ≡ true) rows
rows_fit all class fits_all rows t r m =
    let T = λ (row : Row). All (IsTied all class) row.1.fields in
    let R = λ (row : Row). All (IsRewritten all class) row.1.fields in
    let ts = recursion_from_All T rows t in
    let rs = recursion_from_All R rows r in
    let ms = recursion_from_All (HasRoom class) rows m in
    let tr = each_both T R rows ts rs in
    let trm = each_both (λ row. T row × R row) (HasRoom class) rows tr ms in
    let one = λ (row : Row) (x : (T row × R row) × HasRoom class row).
    row_fits class row
    (each_weaker (λ h. IsTied all class h × IsRewritten all class h) (λ h. field_length h.field ≤ reach class h) (field_within all class fits_all) row.1.fields
    (each_both (IsTied all class) (IsRewritten all class) row.1.fields (recursion_from_All (IsTied all class) row.1.fields x.0.0) (recursion_from_All (IsRewritten all class) row.1.fields x.0.1))) x.1 in
    All-from_recursion (λ (row : Row). fits (fields_of row.1) ≡ true) rows
    (each_weaker (λ row. (T row × R row) × HasRoom class row) (λ (row : Row). fits (fields_of row.1) ≡ true) one rows trm)

-- every record of a valid state fits
pub valid_fits : (s : State) → IsValid s → EachRow (λ class row. fits (fields_of row.1) ≡ true) s
valid_fits s v =
    let all = linkable_authorities s in
    let fits_all = all_fit s.authorities v.authorities_ascend (recursion_from_All (IsRow Authority) s.authorities v.rows.0) in
    (rows_fit all Authority fits_all s.authorities v.ties.0 v.rewritten.0 v.room.0, rows_fit all Bibliographic fits_all s.bibliographic v.ties.1 v.rewritten.1 v.room.1)
