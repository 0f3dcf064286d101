-- The first reading of a source, of a file in a room, and of all files.
use Rattle.std.proofs.Common.{◌≡◌, ◌∙◌, ℕ, suc, ◌+◌, ◌≤◌, ◌<◌, Bool, true, false, ◌||◌, nat_lt, List, [], ◌∷◌, ◌++◌, length, take, get_or, Option, Some, None, IsSome, Result, Ok, Err, string_bytes, refl, sym, ap, subst, append_assoc, append-nil, arith}
use Rattle.std.specs.Prelude.{IsSomeAnd, slice_get}
use Rattle.std.specs.List.{All}
use Rattle.std.proofs.lemmas.List.{take_more}
use Rattle.std.proofs.lemmas.List.Elements.{All-nil, All-cons, All-head, All-tail, All-push}
use Rattle.marc_types.specs.declared.entry.Entry.{Entry}
use Rattle.marc_types.specs.declared.key.Class.TheVariants.{Authority}
use Rattle.outside.specs.Fault.{Rose, count_sum}
use Rattle.outside.specs.Room.{RoomView, SameBut}
use Rattle.outside.proofs.Counts.{rose_closed, rose_since}
use Rattle.marc_stream.specs.Pieces.{items}
use Rattle.marc_stream.specs.Stream.{opened}
use Rattle.file_entries.specs.Entries.{FileView, view_of}
use Rattle.command_words.specs.declared.library.Library.{Library}
use Rattle.console_lines.specs.Lines.{refused_lines}
use Rattle.split_command.specs.Shares.{Piece, entries_of}
use Rattle.split_command.specs.Cut.{FileCut, IsCut, AreCut}
use Rattle.split_command.specs.Console.{counted_line, console_of, any_refused, file_part}
use Rattle.split_command.specs.Splitting.{HasNoRecord}
use Rattle.split_command.specs.Surveying.{IsTold, IsReadingCause, SurveysEntries, SurveysSource, SurveysFile, AreSurveyed}
use Rattle.split_command.specs.Groups.{IsFilesCause}
use Rattle.split_command.specs.declared.survey.Survey.{Survey}
use Rattle.split_command.specs.declared.fault.SplitFault.{SplitFault}
use Rattle.split_command.specs.declared.fault.SplitFault.TheVariants.{Input, Output, Memory}
use Rattle.split_command.proofs.Cuts.{judged_cut}

-- ---- a source

told_of : (file library bytes : List ℕ) (left : Option (List ℕ)) (bound before : ℕ) (start end : Survey) → left ≡ Some bytes
    → ((opened left bound before).tells ≡ true → IsTold file library (opened left bound before).coming start end) → IsTold file library (items bytes) start end
told_of file library bytes left bound before start end is read =
    subst (λ (l : Option (List ℕ)). (opened l bound before).tells ≡ true → IsTold file library (opened l bound before).coming start end) is read refl

pub surveyed_source : (file library : List ℕ) (left : Option (List ℕ)) (bound before now : ℕ) (start end : Survey) (result : Result (Unit {0}) SplitFault) (entries after : FileView)
    → entries ≡ view_of (opened left bound before) library 0 false → SurveysEntries file entries after start end result → now ≡ after.stream.faults
    → SurveysSource file library left before now start end result
surveyed_source file library left bound before now start end result entries after is reads same =
    at result (subst (λ (e : FileView). SurveysEntries file e after start end result) is reads)
  where
    at : (r : Result (Unit {0}) SplitFault) → SurveysEntries file (view_of (opened left bound before) library 0 false) after start end r
        → SurveysSource file library left before now start end r
    at (Ok value) reads_so = record {
      read = λ bytes there. told_of file library bytes left bound before start end there reads_so.read;
      later = subst (λ n. before ≤ n) (sym same) reads_so.later;
      cause = tt;
    }
    at (Err why) reads_so = record {
      read = tt;
      later = subst (λ n. before ≤ n) (sym same) reads_so.later;
      cause = subst (λ n. IsReadingCause before n why) (sym same) reads_so.cause;
    }

-- one that could not be read for want of memory
pub surveyed_not : (file library : List ℕ) (left : Option (List ℕ)) (before now : ℕ) (start end : Survey) → now ≡ before
    → SurveysSource file library left before now start end (Err Memory)
surveyed_not file library left before now start end same = record { read = tt; later = omega (arith, same); cause = tt }

-- ---- a file in a room

pub surveyed_file : (old mid new : RoomView) (library : Library) (left : Option (List ℕ)) (before now : ℕ) (start end : Survey) (result : Result (Unit {0}) SplitFault)
    → SameBut old mid [] → (old.tells ≡ true → left ≡ old.file library.file) → (old.tells ≡ true → IsSome (old.file library.file)) → before ≡ 0
    → new.in_faults library.file ≡ count_sum (mid.in_faults library.file) now
    → SurveysSource library.file library.code left before now start end result → SurveysFile old new library start end result
surveyed_file old mid new library left before now start end result stays there is_there fresh counted reads = at result reads
  where
    in_file : (file : Option (List ℕ)) → left ≡ file → IsSome file
        → ((bytes : List ℕ) → left ≡ Some bytes → IsTold library.file library.code (items bytes) start end)
        → IsSomeAnd file (λ bytes. IsTold library.file library.code (items bytes) start end)
    in_file None is some read = cc
    in_file (Some bytes) is some read = read bytes is

    at : (r : Result (Unit {0}) SplitFault) → SurveysSource library.file library.code left before now start end r → SurveysFile old new library start end r
    at (Ok value) so = record { read = λ tells. in_file (old.file library.file) (there tells) (is_there tells) so.read; cause = tt }
    at (Err Input) so = record {
      read = tt;
      cause = subst (λ n. Rose (old.in_faults library.file) n) (sym counted)
          (rose_closed (old.in_faults library.file) (mid.in_faults library.file) now (stays.ins library.file) (subst (λ n. Rose n now) fresh so.cause));
    }
    at (Err Output) so = absurd so.cause
    at (Err Memory) so = record { read = tt; cause = tt }

-- one that could not be opened
pub unopened : (old new : RoomView) (library : Library) (start end : Survey) → Rose (old.in_faults library.file) (new.in_faults library.file)
    → SurveysFile old new library start end (Err Input)
unopened old new library start end rose = record { read = tt; cause = rose }

-- ---- all files

pub surveyed_none : (room : RoomView) (survey : Survey) → string_bytes survey.text ≡ [] → survey.has_refused ≡ false → AreSurveyed room [] survey
surveyed_none room survey text has = record { cuts = []; cut = tt; text = text; has = has; none = λ is. All-nil HasNoRecord }

cut_more : (room : RoomView) (libraries : List Library) (cuts : List FileCut) (library : Library) (cut : FileCut) → AreCut room libraries cuts
    → IsSomeAnd (room.file library.file) (λ bytes. IsCut library.code (items bytes) cut.pieces cut.refused)
    → AreCut room (libraries ++ library ∷ []) (cuts ++ cut ∷ [])
cut_more room [] [] library cut are one = (one, tt)
cut_more room [] (c ∷ cuts) library cut are one = absurd are
cut_more room (l ∷ libraries) [] library cut are one = absurd are
cut_more room (l ∷ libraries) (c ∷ cuts) library cut are one = (are.0, cut_more room libraries cuts library cut are.1 one)

text_more : (room : RoomView) (libraries : List Library) (cuts : List FileCut) (library : Library) (cut : FileCut) → AreCut room libraries cuts
    → console_of (libraries ++ library ∷ []) (cuts ++ cut ∷ []) ≡ console_of libraries cuts ++ file_part library.file cut
text_more room [] [] library cut are = append-nil (file_part library.file cut)
text_more room [] (c ∷ cuts) library cut are = absurd are
text_more room (l ∷ libraries) [] library cut are = absurd are
text_more room (l ∷ libraries) (c ∷ cuts) library cut are =
    ap (λ t. file_part l.file c ++ t) (text_more room libraries cuts library cut are.1)
    ∙ sym (append_assoc (file_part l.file c) (console_of libraries cuts) (file_part library.file cut))

refused_more : (cuts : List FileCut) (cut : FileCut) → any_refused (cuts ++ cut ∷ []) ≡ (any_refused cuts || nat_lt 0 (length cut.refused))
refused_more [] cut = or_false (nat_lt 0 (length cut.refused))
  where
    or_false : (b : Bool) → (b || false) ≡ b
    or_false true = refl
    or_false false = refl
refused_more (c ∷ cuts) cut = at (nat_lt 0 (length c.refused)) (refused_more cuts cut)
  where
    at : (b : Bool) → any_refused (cuts ++ cut ∷ []) ≡ (any_refused cuts || nat_lt 0 (length cut.refused))
        → (b || any_refused (cuts ++ cut ∷ [])) ≡ ((b || any_refused cuts) || nat_lt 0 (length cut.refused))
    at true same = refl
    at false same = same

all_authorities : (pieces : List Piece) → All (λ (e : Entry). e.class ≡ Authority) (entries_of pieces) → All (λ (p : Piece). p.entry.class ≡ Authority) pieces
all_authorities [] all = All-nil (λ (p : Piece). p.entry.class ≡ Authority)
all_authorities (p ∷ pieces) all =
    All-cons (λ (q : Piece). q.entry.class ≡ Authority) p pieces
    (All-head (λ (e : Entry). e.class ≡ Authority) p.entry (entries_of pieces) all)
    (all_authorities pieces (All-tail (λ (e : Entry). e.class ≡ Authority) p.entry (entries_of pieces) all))

length_entries : (pieces : List Piece) → length (entries_of pieces) ≡ length pieces
length_entries [] = refl
length_entries (p ∷ pieces) = ap suc (length_entries pieces)

-- one file more was read
pub surveyed_more : (room now : RoomView) (libraries : List Library) (at : ℕ) (library : Library) (before after : Survey) → at < length libraries
    → library ≡ get_or libraries at library → SameBut room now [] → AreSurveyed room (take at libraries) before
    → IsSomeAnd (now.file library.file) (λ bytes. IsTold library.file library.code (items bytes) before after) → AreSurveyed room (take (at + 1) libraries) after
surveyed_more room now libraries at library before after within is stays so_far one =
    subst (λ ls. AreSurveyed room ls after) (sym (take_more libraries at library within ∙ ap (λ l. take at libraries ++ l ∷ []) (sym is)))
    (in_file (room.file library.file) (stays.files library.file tt) refl)
  where
    told_to_cut : (bytes : List ℕ) → room.file library.file ≡ Some bytes → IsTold library.file library.code (items bytes) before after
        → AreSurveyed room (take at libraries ++ library ∷ []) after
    told_to_cut bytes here told =
        let cut_is = judged_cut library.code (items bytes) told.accepted told.refused told.judged in
        let cut : FileCut = record { pieces = cut_is.pieces; refused = told.refused } in
        let many : length told.accepted ≡ length cut_is.pieces = ap length (sym cut_is.entries) ∙ length_entries cut_is.pieces in record {
          cuts = so_far.cuts ++ cut ∷ [];
          cut = cut_more room (take at libraries) so_far.cuts library cut so_far.cut
              (subst (λ f. IsSomeAnd f (λ b. IsCut library.code (items b) cut.pieces cut.refused)) (sym here) cut_is.is);
          text = told.text ∙ ap (λ l. l ++ (refused_lines library.file told.refused ++ counted_line library.file (length told.accepted) (length told.refused))) so_far.text
              ∙ ap (λ n. console_of (take at libraries) so_far.cuts ++ (refused_lines library.file told.refused ++ counted_line library.file n (length told.refused))) many
              ∙ sym (text_more room (take at libraries) so_far.cuts library cut so_far.cut);
          has = told.has ∙ ap (λ b. b || nat_lt 0 (length told.refused)) so_far.has ∙ sym (refused_more so_far.cuts cut);
          none = λ empty.
              let both = told.sampled.none empty in
              All-push HasNoRecord so_far.cuts cut (so_far.none both.0)
              (all_authorities cut_is.pieces (subst (All (λ (e : Entry). e.class ≡ Authority)) (sym cut_is.entries) both.1));
        }

    in_file : (file : Option (List ℕ)) → now.file library.file ≡ file → room.file library.file ≡ file → AreSurveyed room (take at libraries ++ library ∷ []) after
    in_file None now_is here = absurd (subst (λ f. IsSomeAnd f (λ bytes. IsTold library.file library.code (items bytes) before after)) now_is one)
    in_file (Some bytes) now_is here = told_to_cut bytes here (subst (λ f. IsSomeAnd f (λ b. IsTold library.file library.code (items b) before after)) now_is one)

-- a file couldn't be read
pub reading_cause : (libraries : List Library) (library : Library) (old now new : RoomView) (why : SplitFault) → SameBut old now []
    → (index : ℕ) → slice_get libraries index ≡ Some library → IsReadingCause (now.in_faults library.file) (new.in_faults library.file) why → IsFilesCause libraries [] old new why
reading_cause libraries library old now new Input stays index named cause = record {
  index = index;
  library = library;
  named = named;
  rose = rose_since (old.in_faults library.file) (now.in_faults library.file) (new.in_faults library.file) (stays.ins library.file) cause;
}
reading_cause libraries library old now new Output stays index named cause = absurd cause
reading_cause libraries library old now new Memory stays index named cause = tt
