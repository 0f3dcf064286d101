-- Fields with their ties: read and changed at one place.
use Rattle.std.proofs.Common.{◌≡◌, ℕ, zero, suc, ◌+◌, ◌-◌, ◌<◌, ◌≤◌, true, List, [], ◌∷◌, ◌++◌, append-nil, append_assoc, length, map, Option, Some, None, IfSome, refl, sym, ap, ◌∙◌, subst, arith}
use mathlib.Core.Bool.{false≢true}
use Rattle.std.specs.Prelude.{All, slice_get, slice_set, unwrap_or}
use Rattle.std.specs.Option.{ForSome, is_some, option_map, option_map_or}
use Rattle.marc_types.specs.Fields.{tag_of}
use Rattle.marc_types.specs.Valid.{is_record}
use Rattle.marc_types.specs.declared.field.Field.{Field}
use Rattle.marc_types.specs.declared.field.Leader.{Leader}
use Rattle.marc_types.specs.declared.entry.Tie.{Tie}
use Rattle.iso2709_record.specs.Written.{fits, record_bytes}
use Rattle.iso2709_record.specs.Texts.{HasUtf8Texts}
use Rattle.catalogue_rules.specs.State.{KeptField, KeptRecord, fields_of, kept_field, new_field, new_tie, tied}
use Rattle.catalogue_rules.specs.Store.{with_field}
use Rattle.numbered_store.specs.Kept.{blanks, kept_record, tied_record, with_ties}
use Rattle.numbered_store.specs.declared.kept.StoredRecord.{StoredRecord}

abbrev AreTied : List Field → Option (List Tie) → Type 0
AreTied fields ties = IfSome ties (λ t. length t ≡ length fields)

tied_by : (fields : List Field) (ties : Option (List Tie)) → ForSome ties (λ t. length t ≡ length fields) → AreTied fields ties
tied_by fields None all = tt
tied_by fields (Some ties) all = all ties refl

are_tied : (kept : StoredRecord) → AreTied kept.written.fields kept.ties
are_tied kept = tied_by kept.written.fields kept.ties kept.tied

-- ---- all fields

fields_back : (fields : List Field) (ties : Option (List Tie)) → AreTied fields ties → map (λ (h : KeptField). h.field) (with_ties fields ties) ≡ fields
fields_back [] None same = refl
fields_back (f ∷ fields) None same = ap (λ l. f ∷ l) (fields_back fields None same)
fields_back [] (Some ties) same = refl
fields_back (f ∷ fields) (Some []) same = absurd (omega (arith, same))
fields_back (f ∷ fields) (Some (t ∷ ties)) same = ap (λ l. f ∷ l) (fields_back fields (Some ties) (omega (arith, same)))

long_by : (fields : List Field) (ties : Option (List Tie)) → AreTied fields ties → length (with_ties fields ties) ≡ length fields
long_by [] None same = refl
long_by (f ∷ fields) None same = ap suc (long_by fields None same)
long_by [] (Some ties) same = refl
long_by (f ∷ fields) (Some []) same = absurd (omega (arith, same))
long_by (f ∷ fields) (Some (t ∷ ties)) same = ap suc (long_by fields (Some ties) (omega (arith, same)))

pub kept_fields : (kept : StoredRecord) → fields_of (kept_record kept) ≡ kept.written.fields
unfolding kept_record
kept_fields kept = fields_back kept.written.fields kept.ties (are_tied kept)

pub kept_long : (kept : StoredRecord) → length (kept_record kept).fields ≡ length kept.written.fields
unfolding kept_record
kept_long kept = long_by kept.written.fields kept.ties (are_tied kept)

-- the written form
pub kept_bytes : (kept : StoredRecord) → record_bytes kept.written.leader kept.written.fields ≡ record_bytes (kept_record kept).leader (fields_of (kept_record kept))
unfolding kept_record
kept_bytes kept = sym (ap (record_bytes kept.written.leader) (kept_fields kept))

-- its texts are those of its written record
pub utf8_of_kept : (kept : StoredRecord) → All HasUtf8Texts kept.written.fields → All HasUtf8Texts (fields_of (kept_record kept))
utf8_of_kept kept texts = subst (All HasUtf8Texts) (sym (kept_fields kept)) texts

-- ---- one field

field_by : (fields : List Field) (ties : Option (List Tie)) (i : ℕ) → AreTied fields ties
    → option_map (λ (h : KeptField). h.field) (slice_get (with_ties fields ties) i) ≡ slice_get fields i
field_by [] None i same = refl
field_by (f ∷ fields) None zero same = refl
field_by (f ∷ fields) None (suc i) same = field_by fields None i same
field_by [] (Some ties) i same = refl
field_by (f ∷ fields) (Some []) i same = absurd (omega (arith, same))
field_by (f ∷ fields) (Some (t ∷ ties)) zero same = refl
field_by (f ∷ fields) (Some (t ∷ ties)) (suc i) same = field_by fields (Some ties) i (omega (arith, same))

tag_by : (fields : List Field) (ties : Option (List Tie)) (i : ℕ) → AreTied fields ties
    → option_map (λ (h : KeptField). tag_of h.field) (slice_get (with_ties fields ties) i) ≡ option_map tag_of (slice_get fields i)
tag_by [] None i same = refl
tag_by (f ∷ fields) None zero same = refl
tag_by (f ∷ fields) None (suc i) same = tag_by fields None i same
tag_by [] (Some ties) i same = refl
tag_by (f ∷ fields) (Some []) i same = absurd (omega (arith, same))
tag_by (f ∷ fields) (Some (t ∷ ties)) zero same = refl
tag_by (f ∷ fields) (Some (t ∷ ties)) (suc i) same = tag_by fields (Some ties) i (omega (arith, same))

pub field_of_kept : (kept : StoredRecord) (i : ℕ) → slice_get kept.written.fields i ≡ option_map (λ (h : KeptField). h.field) (slice_get (kept_record kept).fields i)
unfolding kept_record
field_of_kept kept i = sym (field_by kept.written.fields kept.ties i (are_tied kept))

pub tag_of_kept : (kept : StoredRecord) (i : ℕ) → option_map tag_of (slice_get kept.written.fields i) ≡ option_map (λ (h : KeptField). tag_of h.field) (slice_get (kept_record kept).fields i)
unfolding kept_record
tag_of_kept kept i = sym (tag_by kept.written.fields kept.ties i (are_tied kept))

-- ---- one tie

tie_by : (fields : List Field) (ties : List Tie) (i : ℕ) → length ties ≡ length fields → option_map (λ (h : KeptField). h.tie) (slice_get (tied fields ties) i) ≡ slice_get ties i
tie_by [] [] i same = refl
tie_by [] (t ∷ ties) i same = absurd (omega (arith, same))
tie_by (f ∷ fields) [] i same = absurd (omega (arith, same))
tie_by (f ∷ fields) (t ∷ ties) zero same = refl
tie_by (f ∷ fields) (t ∷ ties) (suc i) same = tie_by fields ties i (omega (arith, same))

own_tie : (kept : StoredRecord) (i : ℕ) (ties : List Tie) → kept.ties ≡ Some ties → option_map (λ (h : KeptField). h.tie) (slice_get (kept_record kept).fields i) ≡ slice_get ties i
unfolding kept_record
own_tie kept i ties some =
    let same : length ties ≡ length kept.written.fields = subst (λ o. AreTied kept.written.fields o) some (are_tied kept) in
    ap (λ o. option_map (λ (h : KeptField). h.tie) (slice_get (with_ties kept.written.fields o) i)) some ∙ tie_by kept.written.fields ties i same

read_by : (o : Option KeptField) (tie : Option Tie) → option_map (λ (h : KeptField). h.tie) o ≡ tie → unwrap_or tie new_tie ≡ option_map_or (λ (h : KeptField). h.tie) o new_tie
read_by None tie is = ap (λ t. unwrap_or t new_tie) (sym is)
read_by (Some h) tie is = ap (λ t. unwrap_or t new_tie) (sym is)

pub tie_read : (kept : StoredRecord) (i : ℕ) (ties : List Tie) (own : Option Tie) → kept.ties ≡ Some ties → own ≡ slice_get ties i
    → unwrap_or own new_tie ≡ option_map_or (λ (h : KeptField). h.tie) (slice_get (kept_record kept).fields i) new_tie
tie_read kept i ties own some is = read_by (slice_get (kept_record kept).fields i) own (own_tie kept i ties some ∙ sym is)

none_by : (fields : List Field) (i : ℕ) → new_tie ≡ option_map_or (λ (h : KeptField). h.tie) (slice_get (map new_field fields) i) new_tie
none_by [] i = refl
none_by (f ∷ fields) zero = refl
none_by (f ∷ fields) (suc i) = none_by fields i

pub tie_blank : (kept : StoredRecord) (i : ℕ) → kept.ties ≡ None → new_tie ≡ option_map_or (λ (h : KeptField). h.tie) (slice_get (kept_record kept).fields i) new_tie
unfolding kept_record
tie_blank kept i none = none_by kept.written.fields i ∙ ap (λ o. option_map_or (λ (h : KeptField). h.tie) (slice_get (with_ties kept.written.fields o) i) new_tie) (sym none)

-- a field found with its tie
found_by : (o : Option KeptField) (field : Field) (own : Option Tie) (blank : Tie) → Some field ≡ option_map (λ (h : KeptField). h.field) o
    → unwrap_or own new_tie ≡ option_map_or (λ (h : KeptField). h.tie) o new_tie → blank ≡ new_tie → Some (kept_field field (unwrap_or own blank)) ≡ o
found_by None field own blank is tie none = absurd (false≢true (sym (ap is_some is)))
found_by (Some h) field own blank is tie none =
    let f : field ≡ h.field = cc in
    let t : unwrap_or own blank ≡ h.tie = ap (unwrap_or own) none ∙ tie in
    λ n. Some (kept_field (f n) (t n))

pub field_found : (kept : StoredRecord) (i : ℕ) (field : Field) (own : Option Tie) (blank : Tie) → Some field ≡ option_map (λ (h : KeptField). h.field) (slice_get (kept_record kept).fields i)
    → unwrap_or own new_tie ≡ option_map_or (λ (h : KeptField). h.tie) (slice_get (kept_record kept).fields i) new_tie → blank ≡ new_tie
    → Some (kept_field field (unwrap_or own blank)) ≡ slice_get (kept_record kept).fields i
field_found kept i field own blank is tie none = found_by (slice_get (kept_record kept).fields i) field own blank is tie none

nothing_by : (o : Option KeptField) → None ≡ option_map (λ (h : KeptField). h.field) o → None ≡ o
nothing_by None e = refl
nothing_by (Some h) e = absurd (false≢true (ap is_some e))

pub nothing_found : (kept : StoredRecord) (i : ℕ) → None ≡ option_map (λ (h : KeptField). h.field) (slice_get (kept_record kept).fields i) → None ≡ slice_get (kept_record kept).fields i
nothing_found kept i e = nothing_by (slice_get (kept_record kept).fields i) e

-- ---- all ties

pub blanks_long : (n : ℕ) → length (blanks n) ≡ n
blanks_long zero = refl
blanks_long (suc n) = ap suc (blanks_long n)

-- made one by one: so many are there, and the others are still to come
abbrev pub AreMade : ℕ → ℕ → List Tie → Type 0
AreMade count done ties = ties ++ blanks (count - done) ≡ blanks count

pub blanks_begun : (count : ℕ) (ties : List Tie) → ties ≡ [] → AreMade count 0 ties
blanks_begun count ties none = let all : count - 0 ≡ count = omega arith in ap (λ l. l ++ blanks (count - 0)) none ∙ ap blanks all

pub blanks_next : (count done : ℕ) (before now : List Tie) (tie : Tie) → done < count → AreMade count done before → now ≡ before ++ tie ∷ [] → tie ≡ new_tie → AreMade count (done + 1) now
blanks_next count done before now tie low so_far is blank =
    let rest : count - done ≡ suc (count - (done + 1)) = omega (arith, low) in
    ap (λ l. l ++ blanks (count - (done + 1))) is
    ∙ append_assoc before (tie ∷ []) (blanks (count - (done + 1)))
    ∙ ap (λ t. before ++ t ∷ blanks (count - (done + 1))) blank
    ∙ ap (λ n. before ++ blanks n) (sym rest) ∙ so_far

pub blanks_done : (count done : ℕ) (ties : List Tie) → count ≤ done → AreMade count done ties → ties ≡ blanks count
blanks_done count done ties past so_far =
    let none : count - done ≡ 0 = omega (arith, past) in
    sym (append-nil ties) ∙ ap (λ n. ties ++ blanks n) (sym none) ∙ so_far

blanks_tied : (fields : List Field) → tied fields (blanks (length fields)) ≡ map new_field fields
blanks_tied [] = refl
blanks_tied (f ∷ fields) = ap (λ l. new_field f ∷ l) (blanks_tied fields)

pub all_blank : (kept : StoredRecord) (ties : List Tie) → kept.ties ≡ None → ties ≡ blanks (length kept.written.fields) → with_ties kept.written.fields (Some ties) ≡ (kept_record kept).fields
unfolding kept_record
all_blank kept ties none are = ap (tied kept.written.fields) are ∙ blanks_tied kept.written.fields ∙ sym (ap (with_ties kept.written.fields) none)

pub all_own : (kept : StoredRecord) (ties : List Tie) → kept.ties ≡ Some ties → with_ties kept.written.fields (Some ties) ≡ (kept_record kept).fields
unfolding kept_record
all_own kept ties some = sym (ap (with_ties kept.written.fields) some)

pub own_long : (kept : StoredRecord) (ties : List Tie) → kept.ties ≡ Some ties → length ties ≡ length kept.written.fields
own_long kept ties some = subst (λ o. AreTied kept.written.fields o) some (are_tied kept)

tied_ties : (fields : List Field) (ties : List Tie) → length ties ≡ length fields → ties ≡ map (λ (h : KeptField). h.tie) (tied fields ties)
tied_ties [] [] same = refl
tied_ties [] (t ∷ ties) same = absurd (omega (arith, same))
tied_ties (f ∷ fields) [] same = absurd (omega (arith, same))
tied_ties (f ∷ fields) (t ∷ ties) same = ap (λ l. t ∷ l) (tied_ties fields ties (omega (arith, same)))

pub own_ties : (kept : StoredRecord) (ties : List Tie) → kept.ties ≡ Some ties → ties ≡ map (λ (h : KeptField). h.tie) (kept_record kept).fields
unfolding kept_record
own_ties kept ties some =
    tied_ties kept.written.fields ties (own_long kept ties some) ∙ sym (ap (λ o. map (λ (h : KeptField). h.tie) (with_ties kept.written.fields o)) some)

pub no_ties : (kept : StoredRecord) → kept.ties ≡ None → (kept_record kept).fields ≡ map new_field (fields_of (kept_record kept))
unfolding kept_record
no_ties kept none = ap (with_ties kept.written.fields) none ∙ sym (ap (map new_field) (kept_fields kept))

-- ---- another field and tie

pub set_long : {X : Type 0} (xs : List X) (n : ℕ) (x : X) → length (slice_set xs n x) ≡ length xs
set_long [] n x = refl
set_long (y ∷ xs) zero x = refl
set_long (y ∷ xs) (suc n) x = ap suc (set_long xs n x)

set_by : (fields : List Field) (ties : List Tie) (i : ℕ) (field : Field) (tie : Tie) → length ties ≡ length fields
    → tied (slice_set fields i field) (slice_set ties i tie) ≡ slice_set (tied fields ties) i (kept_field field tie)
set_by [] ties i field tie same = refl
set_by (f ∷ fields) [] i field tie same = absurd (omega (arith, same))
set_by (f ∷ fields) (t ∷ ties) zero field tie same = refl
set_by (f ∷ fields) (t ∷ ties) (suc i) field tie same = ap (λ l. kept_field f t ∷ l) (set_by fields ties i field tie (omega (arith, same)))

-- what was asked of the record with its ties holds of the written one
pub valid_set : (kept : StoredRecord) (i : ℕ) (field : Field) → is_record (kept_record kept).leader (slice_set (fields_of (kept_record kept)) i field) ≡ true
    → is_record kept.written.leader (slice_set kept.written.fields i field) ≡ true
unfolding kept_record
valid_set kept i field valid = subst (λ l. is_record kept.written.leader (slice_set l i field) ≡ true) (kept_fields kept) valid

pub fit_set : (kept : StoredRecord) (i : ℕ) (field : Field) → fits (slice_set (fields_of (kept_record kept)) i field) ≡ true → fits (slice_set kept.written.fields i field) ≡ true
fit_set kept i field fit = subst (λ l. fits (slice_set l i field) ≡ true) (kept_fields kept) fit

-- there are as many ties then as fields
pub long_set : (kept : StoredRecord) (i : ℕ) (field : Field) (tie : Tie) (fields : List Field) (ties now : List Tie) → length ties ≡ length kept.written.fields
    → fields ≡ slice_set kept.written.fields i field → now ≡ slice_set ties i tie → length now ≡ length fields
long_set kept i field tie fields ties now long fields_are now_is =
    ap (λ l. length l) now_is ∙ set_long ties i tie ∙ long ∙ sym (set_long kept.written.fields i field) ∙ sym (ap (λ l. length l) fields_are)

pub kept_set : (before : StoredRecord) (after : KeptRecord) (leader : Leader) (fields : List Field) (i : ℕ) (field : Field) (tie : Tie) (ties now : List Tie)
    → length ties ≡ length before.written.fields → with_ties before.written.fields (Some ties) ≡ (kept_record before).fields → leader ≡ before.written.leader
    → fields ≡ slice_set before.written.fields i field → now ≡ slice_set ties i tie → after ≡ tied_record leader fields now
    → after ≡ with_field i (kept_field field tie) (kept_record before)
unfolding kept_record
kept_set before after leader fields i field tie ties now long same leader_is fields_are now_is is =
    let joined =
    ap (λ l. tied l now) fields_are ∙ ap (tied (slice_set before.written.fields i field)) now_is
    ∙ set_by before.written.fields ties i field tie long ∙ ap (λ l. slice_set l i (kept_field field tie)) same in
    is ∙ (λ n. record { leader = leader_is n; fields = joined n })
