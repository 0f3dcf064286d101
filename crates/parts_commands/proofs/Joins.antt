-- Exports that are joined one after the other.
use Rattle.std.proofs.Common.{◌≡◌, ◌∙◌, ℕ, List, [], ◌∷◌, ◌++◌, map, get_or, Option, Some, refl, sym, ap, subst, append_assoc, append-nil}
use Rattle.std.specs.Io.KnownBytes.{Appends}
use Rattle.std.specs.List.{flat_map}
use Rattle.std.proofs.lemmas.Grind.{flat_map-append}
use Rattle.std.proofs.lemmas.List.{map-append}
use Rattle.outside.proofs.Fronts.{appends_then}
use Rattle.marc_stream.specs.Pieces.{items}
use Rattle.parts_commands.specs.Exports.{AreParts, CanBeJoined, ExportsDiffer, IsPart, authorities_of, bytes_of, joined_exports, last_piece, records_of}
use Rattle.parts_commands.specs.Joining.{AreJoinedBehind, AreWritten, IsOtherPart, IsPartWritten}
use Rattle.parts_commands.specs.Reports.{FileOf}

-- the last record of exports, or the one before them where they have none
pub last_over : List ℕ → List (List ℕ) → List ℕ
last_over before [] = before
last_over before (export ∷ exports) = last_over (last_piece before (records_of (items export))) exports

-- one export more
more_parts : (shared : List (List ℕ)) (before : List ℕ) (exports : List (List ℕ)) (export : List ℕ) → AreParts shared before exports
    → IsPart shared (last_over before exports) (items export) → AreParts shared before (exports ++ export ∷ [])
unfolding last_over
more_parts shared before [] export parts part = (part, tt)
more_parts shared before (e ∷ exports) export parts part =
    (parts.0, more_parts shared (last_piece before (records_of (items e))) exports export parts.1 part)

last_part : (shared : List (List ℕ)) (before : List ℕ) (exports : List (List ℕ)) (export : List ℕ) → AreParts shared before (exports ++ export ∷ [])
    → IsPart shared (last_over before exports) (items export)
unfolding last_over
last_part shared before [] export parts = parts.0
last_part shared before (e ∷ exports) export parts = last_part shared (last_piece before (records_of (items e))) exports export parts.1

last_over_more : (before : List ℕ) (exports : List (List ℕ)) (export : List ℕ)
    → last_over before (exports ++ export ∷ []) ≡ last_piece (last_over before exports) (records_of (items export))
unfolding last_over
last_over_more before [] export = refl
last_over_more before (e ∷ exports) export = last_over_more (last_piece before (records_of (items e))) exports export

-- the records of exports, one behind the other
abbrev records_bytes : List (List ℕ) → List ℕ
records_bytes exports = flat_map (λ export. bytes_of (records_of (items export))) exports

records_more : (exports : List (List ℕ)) (export : List ℕ) → records_bytes (exports ++ export ∷ []) ≡ records_bytes exports ++ bytes_of (records_of (items export))
records_more exports export =
    flat_map-append (λ e. bytes_of (records_of (items e))) exports (export ∷ [])
    ∙ ap (λ l. records_bytes exports ++ l) (append-nil (bytes_of (records_of (items export))))

-- what was joined so far: the authorities of the first, and the records of the exports of these names
pub record AreJoinedSoFar (file : FileOf) (first : List ℕ) (names : List (List ℕ)) (last : List ℕ) (old new : Option (List ℕ)) : Type 0 where
  pub bytes : List ℕ
  pub first_there : file first ≡ Some bytes
  pub exports : List (List ℕ)
  pub there : map file names ≡ map Some exports
  pub parts : AreParts (authorities_of (items bytes)) [] exports
  pub last_is : last ≡ last_over [] exports
  pub wrote : Appends old new (bytes_of (authorities_of (items bytes)) ++ records_bytes exports)

pub joining_begun : (file : FileOf) (first last : List ℕ) (old new : Option (List ℕ)) → AreWritten file first old new → last ≡ []
    → AreJoinedSoFar file first [] last old new
unfolding last_over
joining_begun file first last old new written none = record {
  bytes = written.bytes;
  first_there = written.there;
  exports = [];
  there = refl;
  parts = tt;
  last_is = none;
  wrote = subst (Appends old new) (sym (append-nil (bytes_of (authorities_of (items written.bytes))))) written.wrote;
}

same_bytes : (file : FileOf) (name a b : List ℕ) → file name ≡ Some a → file name ≡ Some b → a ≡ b
same_bytes file name a b one other = let both : Some a ≡ Some b = sym one ∙ other in cc

pub joining_more : (file : FileOf) (first name : List ℕ) (names all : List (List ℕ)) (last last_now : List ℕ) (old now new : Option (List ℕ))
    → AreJoinedSoFar file first names last old now → IsPartWritten file first name last last_now now new → names ++ name ∷ [] ≡ all
    → AreJoinedSoFar file first all last_now old new
joining_more file first name names all last last_now old now new so more e =
    let same = same_bytes file first more.first_bytes so.bytes more.first_there so.first_there in
    let part : IsPart (authorities_of (items so.bytes)) last (items more.bytes) =
    subst (λ bytes. IsPart (authorities_of (items bytes)) last (items more.bytes)) same more.appended.part in
    let shared : List ℕ = bytes_of (authorities_of (items so.bytes)) in
    let own : List ℕ = bytes_of (records_of (items more.bytes)) in
    record {
      bytes = so.bytes;
      first_there = so.first_there;
      exports = so.exports ++ more.bytes ∷ [];
      there = ap (map file) (sym e) ∙ map-append file names (name ∷ []) ∙ ap (λ l. l ++ file name ∷ []) so.there
          ∙ ap (λ f. map Some so.exports ++ f ∷ []) more.there ∙ sym (map-append Some so.exports (more.bytes ∷ []));
      parts = more_parts (authorities_of (items so.bytes)) [] so.exports more.bytes so.parts
          (subst (λ before. IsPart (authorities_of (items so.bytes)) before (items more.bytes)) so.last_is part);
      last_is = more.appended.last_is ∙ ap (λ before. last_piece before (records_of (items more.bytes))) so.last_is
          ∙ sym (last_over_more [] so.exports more.bytes);
      wrote = subst (Appends old new)
          (append_assoc shared (records_bytes so.exports) own ∙ ap (λ l. shared ++ l) (sym (records_more so.exports more.bytes)))
          (appends_then old now new (shared ++ records_bytes so.exports) own so.wrote more.appended.wrote);
    }

-- ---- the first of the exports is that of the first name

first_bytes : (file : FileOf) (first bytes : List ℕ) (names exports rest : List (List ℕ)) → file first ≡ Some bytes → map file names ≡ map Some exports
    → names ≡ first ∷ rest → get_or exports 0 [] ≡ bytes
first_bytes file first bytes [] exports rest there are is = cc
first_bytes file first bytes (n ∷ names) [] rest there are is =
    let both : file n ∷ map file names ≡ [] = are in cc
first_bytes file first bytes (n ∷ names) (e ∷ exports) rest there are is =
    let head : file n ∷ map file names ≡ Some e ∷ map Some exports = are in
    let names_are : n ≡ first = cc in
    same_bytes file first e bytes (ap file (sym names_are) ∙ head_of head) there
  where
    head_of : {a b : Option (List ℕ)} {xs ys : List (Option (List ℕ))} → a ∷ xs ≡ b ∷ ys → a ≡ b
    head_of e = cc

first_or_next : (file : FileOf) (first bytes name export : List ℕ) (before exports after rest : List (List ℕ)) → file first ≡ Some bytes → file name ≡ Some export
    → map file before ≡ map Some exports → before ++ name ∷ after ≡ first ∷ rest → get_or (exports ++ export ∷ []) 0 [] ≡ bytes
first_or_next file first bytes name export [] [] after rest there export_there are is =
    let names_are : name ≡ first = cc in same_bytes file first export bytes (ap file (sym names_are) ∙ export_there) there
first_or_next file first bytes name export [] (e ∷ exports) after rest there export_there are is =
    let both : [] ≡ Some e ∷ map Some exports = are in cc
first_or_next file first bytes name export (n ∷ before) [] after rest there export_there are is =
    let both : file n ∷ map file before ≡ [] = are in cc
first_or_next file first bytes name export (n ∷ before) (e ∷ exports) after rest there export_there are is =
    let head : file n ∷ map file before ≡ Some e ∷ map Some exports = are in
    let names_are : n ≡ first = cc in
    let there_too : file n ≡ Some e = cc in
    same_bytes file first e bytes (ap file (sym names_are) ∙ there_too) there

module _ (file : FileOf) (first : List ℕ) (rest names : List (List ℕ)) (last : List ℕ) (old new : Option (List ℕ))
    (so : AreJoinedSoFar file first names last old new) where
  pub joining_done : names ≡ first ∷ rest → AreJoinedBehind file names old new
  joining_done is =
      let head = first_bytes file first so.bytes names so.exports rest so.first_there so.there is in
      record {
        due = joined_exports so.exports;
        joined = record {
          exports = so.exports;
          there = so.there;
          can = subst (λ bytes. AreParts (authorities_of (items bytes)) [] so.exports) (sym head) so.parts;
          due_is = refl;
        };
        wrote = subst (λ bytes. Appends old new (bytes_of (authorities_of (items bytes)) ++ records_bytes so.exports)) (sym head) so.wrote;
      }

  -- the exports before the next can be joined, if there are any
  can_so_far : (name : List ℕ) (after : List (List ℕ)) → names ++ name ∷ after ≡ first ∷ rest → CanBeJoined so.exports
  can_so_far name after is = by so.exports so.there so.parts
    where
      by : (exports : List (List ℕ)) → map file names ≡ map Some exports → AreParts (authorities_of (items so.bytes)) [] exports → CanBeJoined exports
      by [] there parts = tt
      by (e ∷ exports) there parts =
          subst (λ bytes. AreParts (authorities_of (items bytes)) [] (e ∷ exports)) (sym (begins names there is)) parts
        where
          begins : (ns : List (List ℕ)) → map file ns ≡ Some e ∷ map Some exports → ns ++ name ∷ after ≡ first ∷ rest → e ≡ so.bytes
          begins [] there is = let both : [] ≡ Some e ∷ map Some exports = there in cc
          begins (n ∷ ns) there is =
              let head : file n ∷ map file ns ≡ Some e ∷ map Some exports = there in
              let names_are : n ≡ first = cc in
              let there_too : file n ≡ Some e = cc in
              same_bytes file first e so.bytes (ap file (sym names_are) ∙ there_too) so.first_there

  pub joining_differs : (name : List ℕ) (after : List (List ℕ)) (place : ℕ) → names ++ name ∷ after ≡ first ∷ rest → IsOtherPart file first name last place
      → ExportsDiffer file (first ∷ rest) place name
  joining_differs name after place is other =
      let same = same_bytes file first other.first_bytes so.bytes other.first_there so.first_there in
      let head = first_or_next file first so.bytes name other.bytes names so.exports after rest so.first_there other.there so.there is in
      record {
        before = names;
        after = after;
        names_are = sym is;
        exports = so.exports;
        there = so.there;
        can = can_so_far name after is;
        export = other.bytes;
        export_there = other.there;
        cannot = λ can.
            let parts = subst (λ bytes. AreParts (authorities_of (items bytes)) [] (so.exports ++ other.bytes ∷ [])) (head ∙ sym same) can in
            other.not.no_part (subst (λ before. IsPart (authorities_of (items other.first_bytes)) before (items other.bytes)) (sym so.last_is)
            (last_part (authorities_of (items other.first_bytes)) [] so.exports other.bytes parts));
        place_is = other.not.place_is;
      }
