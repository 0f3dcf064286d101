-- What a report that was read tells.
use Rattle.std.proofs.Common.{◌≡◌, ◌∙◌, ℕ, ◌+◌, ◌<◌, ◌≤◌, Bool, true, false, List, [], ◌∷◌, ◌++◌, length, take, drop, get_or, Option, Some, None, refl, sym, ap, take-append-drop}
use Rattle.std.specs.Prelude.{if◌then◌else◌}
use Rattle.std.proofs.lemmas.List.{drop_at}
use Rattle.catalogue_parts.specs.declared.totals.Totals.{Totals}
use Rattle.catalogue_parts.specs.Joined.{line_of_totals}
use Rattle.outside.specs.Fault.{Rose, count_total}
use Rattle.outside.proofs.Counts.{rose_total_first, rose_total_rest}
use Rattle.outside.proofs.Fronts.{drop_next}
use Rattle.parts_commands.specs.Reading.{IsRead, IsAdded, with_part}
use Rattle.parts_commands.specs.Reports.{FileOf, AreSmall, IsReportOf, IsLastLine, IsBeyond, IsShared, IsNotShared, IsNotBeyond}
use Rattle.parts_commands.proofs.LastLines.{one_place}
use Rattle.parts_commands.proofs.Lines.{words_of, plain_words}

-- the last line of a report tells its numbers
pub line_there : (bytes : List ℕ) (place : ℕ) (t : Totals) → IsLastLine bytes place → IsReportOf t bytes → drop place bytes ≡ line_of_totals t
line_there bytes place t last r =
    let at = one_place bytes r.before (words_of t) place r.ends r.lines (plain_words t r.small) last in
    ap (drop place) r.ends ∙ drop_at r.before (line_of_totals t) place (sym at)

pub read_when : (bytes line told : List ℕ) (place : ℕ) (totals : Totals) (is_report : Bool) → IsLastLine bytes place → line ≡ drop place bytes
    → AreSmall totals → ((t : Totals) → AreSmall t → line ≡ line_of_totals t → totals ≡ t) → told ≡ line_of_totals totals
    → (is_report ≡ true → told ≡ line) → (told ≡ line → is_report ≡ true) → IsRead bytes (if is_report then Some totals else None) place
read_when bytes line told place totals true last is small again told_is same back = record {
  last = last;
  is = record {
    small = small;
    before = take place bytes;
    lines = last.begins;
    ends = sym (take-append-drop place bytes) ∙ ap (λ l. take place bytes ++ l) (sym is ∙ sym (same refl) ∙ told_is);
  };
  every = λ t r. ap Some (again t r.small (is ∙ line_there bytes place t last r));
}
read_when bytes line told place totals false last is small again told_is same back = record {
  last = last;
  is = tt;
  every = λ t r.
      let here = is ∙ line_there bytes place t last r in
      let no : false ≡ true = back (told_is ∙ ap line_of_totals (again t r.small here) ∙ sym here) in
      cc;
}

-- ---- the report of the authorities alone

pub shared_of : (file : FileOf) (name bytes : List ℕ) (t : Totals) (place : ℕ) → file name ≡ Some bytes → IsRead bytes (Some t) place → t.bibliographic ≡ 0
    → IsShared file name t
shared_of file name bytes t place there read none = record { bytes = bytes; there = there; tells = read.is; alone = none }

pub not_shared : (file : FileOf) (name bytes : List ℕ) (found : Option Totals) (place : ℕ) → file name ≡ Some bytes → IsRead bytes found place
    → ((t : Totals) → found ≡ Some t → t.bibliographic ≡ 0 → ⊥) → IsNotShared file name place
not_shared file name bytes found place there read denied = record { bytes = bytes; there = there; last = read.last; none = λ t r. denied t (read.every t r) }

-- ---- the report of a part

pub added_of : (file : FileOf) (shared : Totals) (name bytes : List ℕ) (t old new : Totals) (place : ℕ) → file name ≡ Some bytes → IsRead bytes (Some t) place
    → IsBeyond shared t → new ≡ with_part old shared t → IsAdded file shared name old new
added_of file shared name bytes t old new place there read beyond is = record {
  part = t;
  report = record { bytes = bytes; there = there; tells = read.is; beyond = beyond };
  new_is = is;
}

pub not_beyond : (file : FileOf) (shared : Totals) (name bytes : List ℕ) (found : Option Totals) (place : ℕ) → file name ≡ Some bytes → IsRead bytes found place
    → ((t : Totals) → found ≡ Some t → IsBeyond shared t → ⊥) → IsNotBeyond file shared name place
not_beyond file shared name bytes found place there read denied = record { bytes = bytes; there = there; last = read.last; none = λ t r. denied t (read.every t r) }

-- ---- one of several names

pub parts_at : (names : List (List ℕ)) (i : ℕ) (name : List ℕ) → i < length names → name ≡ get_or names i name
    → names ≡ take i names ++ name ∷ drop (i + 1) names
parts_at names i name within is = sym (take-append-drop i names) ∙ ap (λ l. take i names ++ l) (drop_next names i name within is)

pub rose_among : (old new : List ℕ → ℕ) (before : List (List ℕ)) (name : List ℕ) (after : List (List ℕ)) → ((n : List ℕ) → old n ≤ new n)
    → Rose (old name) (new name) → Rose (count_total old (before ++ name ∷ after)) (count_total new (before ++ name ∷ after))
rose_among old new [] name after later rose = rose_total_first old new name after later rose
rose_among old new (n ∷ before) name after later rose = rose_total_rest old new n (before ++ name ∷ after) later (rose_among old new before name after later rose)
