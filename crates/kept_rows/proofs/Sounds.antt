-- A state that a catalogue can begin with is one whose rows are in order, each sound alone, and whose fields rest.
use Rattle.std.proofs.Common.{false, List, get_or, arith}
use Rattle.std.specs.List.{All}
use Rattle.std.proofs.lemmas.List.Elements.{All-from_recursion, recursion_from_All}
use Rattle.marc_types.specs.Fields.{subfields_of}
use Rattle.marc_types.specs.declared.key.Class.{Class}
use Rattle.marc_types.specs.declared.key.Class.TheVariants.{Authority, Bibliographic}
use Rattle.entry_record.specs.Authority.{Linkable}
use Rattle.catalogue_rules.specs.State.{KeptField, Row, State, linkable_authorities}
use Rattle.catalogue_rules.specs.Valid.{EachRow, EachField, IsAscending, IsRow, IsShort, HasRoom, IsTied, IsRewritten, IsSettled}
use Rattle.catalogue_rules.proofs.Fit.{IsFit}
use Rattle.catalogue_rules.proofs.Proper.{all_fit}
use Rattle.catalogue_rules.proofs.Sizes.{part_within_full}
use Rattle.kept_rows.specs.Standing.{IsLiving, IsStanding, IsSoundField, IsSoundRow, DoesRest, IsSound}

short_heading : (all : List Linkable) (c : Linkable) → IsFit all c → IsShort c
short_heading all c fit = let within = part_within_full false c.kind (subfields_of c.heading) in let short = fit.short in omega arith

-- the heading of an authority that fields are linked to is short, since it is short in full
headings_short : (s : State) → IsAscending s.authorities → All (IsRow Authority) s.authorities → All IsShort (linkable_authorities s)
headings_short s ascend rows =
    let all = linkable_authorities s in
    let fits = All-from_recursion (IsFit all) all (all_fit s.authorities ascend (recursion_from_All (IsRow Authority) s.authorities rows)) in
    λ k d within. short_heading all (get_or all k d) (fits k d within)

each_row : (P Q : Class → Row → Type 0) (s : State) → ((class : Class) (row : Row) → P class row → Q class row) → EachRow P s → EachRow Q s
each_row P Q s f h = (
  λ k d within. f Authority (get_or s.authorities k d) (h.0 k d within),
  λ k d within. f Bibliographic (get_or s.bibliographic k d) (h.1 k d within),
)

each_field : (P Q : Class → KeptField → Type 0) (s : State) → ((class : Class) (h : KeptField) → P class h → Q class h) → EachField P s → EachField Q s
each_field P Q s f h =
    each_row (λ class row. All (P class) row.1.fields) (λ class row. All (Q class) row.1.fields) s
    (λ class row all k d within. f class (get_or row.1.fields k d) (all k d within)) h

pub sound_stands : (s : State) → IsSound s → IsStanding s
sound_stands s h =
    let all = linkable_authorities s in
    let rows = each_row IsSoundRow IsRow s (λ class row r. r.row_is) h.rows in
    record {
      valid = record {
        authorities_ascend = h.authorities_ascend;
        bibliographic_ascend = h.bibliographic_ascend;
        rows = rows;
        headings = headings_short s h.authorities_ascend rows.0;
        ties = each_field (DoesRest all) (IsTied all) s (λ class f r. r.tied) h.fields;
        rewritten = each_field (DoesRest all) (IsRewritten all) s (λ class f r. r.rewritten) h.fields;
        settled = each_field (DoesRest all) (IsSettled all) s (λ class f r. r.settled) h.fields;
        room = each_row IsSoundRow HasRoom s (λ class row r. r.room) h.rows;
      };
      living = each_row IsSoundRow IsLiving s (λ class row r. r.living) h.rows;
    }

sound_fields : (authorities : List Linkable) (class : Class) (row : Row) → All (IsTied authorities class) row.1.fields → All (IsSoundField class) row.1.fields
sound_fields authorities class row ties k d within = record { whole = (ties k d within).whole; awaits = (ties k d within).awaits }

sound_rows : (authorities : List Linkable) (class : Class) (rows : List Row) → All (IsRow class) rows → All (IsLiving class) rows → All (HasRoom class) rows
    → All (λ row. All (IsTied authorities class) row.1.fields) rows → All (IsSoundRow class) rows
sound_rows authorities class rows are living room ties k d within = record {
  row_is = are k d within;
  living = living k d within;
  fields = sound_fields authorities class (get_or rows k d) (ties k d within);
  room = room k d within;
}

resting : (authorities : List Linkable) (class : Class) (rows : List Row) → All (λ row. All (IsTied authorities class) row.1.fields) rows
    → All (λ row. All (IsRewritten authorities class) row.1.fields) rows → All (λ row. All (IsSettled authorities class) row.1.fields) rows
    → All (λ row. All (DoesRest authorities class) row.1.fields) rows
resting authorities class rows ties rewritten settled k d within i e inside =
    record { tied = ties k d within i e inside; rewritten = rewritten k d within i e inside; settled = settled k d within i e inside }

pub standing_is_sound : (s : State) → IsStanding s → IsSound s
standing_is_sound s h =
    let all = linkable_authorities s in
    let v = h.valid in
    record {
      authorities_ascend = v.authorities_ascend;
      bibliographic_ascend = v.bibliographic_ascend;
      rows = (
        sound_rows all Authority s.authorities v.rows.0 h.living.0 v.room.0 v.ties.0,
        sound_rows all Bibliographic s.bibliographic v.rows.1 h.living.1 v.room.1 v.ties.1,
      );
      fields = (
        resting all Authority s.authorities v.ties.0 v.rewritten.0 v.settled.0,
        resting all Bibliographic s.bibliographic v.ties.1 v.rewritten.1 v.settled.1,
      );
    }
