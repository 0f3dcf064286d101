-- What was taken of a file, one item after the other.
use Rattle.std.proofs.Common.{◌≡◌, ◌∙◌, ℕ, false, List, [], ◌∷◌, ◌++◌, append_assoc, append-nil, refl, sym, ap, subst, arith}
use Rattle.std.specs.List.{All}
use Rattle.std.proofs.lemmas.List.Elements.{All-push}
use Rattle.std.proofs.Common.{length-append}
use Rattle.marc_types.specs.declared.entry.Entry.{Entry}
use Rattle.marc_stream.specs.Pieces.{Item}
use Rattle.marc_stream.specs.Stream.{Stream, ReadsOn}
use Rattle.marc_stream.proofs.Windows.{gives_none, gives_then}
use Rattle.entry_history.specs.Batches.{IsLike}
use Rattle.file_entries.specs.Files.{IsEntryOf, IsJudged, NoItem, Accepts, Refuses}
use Rattle.file_entries.specs.Entries.{FileView, IsSameFile, GivesEntry, GivesRefused}
use Rattle.file_entries.specs.declared.refused.RefusedItem.{RefusedItem}
use Rattle.file_entries.proofs.Judged.{answered_none, answered_entry, answered_refused}
use Rattle.loader_workers.specs.Gathering.{IsGathered, IsGathering}

pub reads_none : (s : Stream) → ReadsOn s s
reads_none s = record { gives = gives_none s.left s.given; tells = refl; faults = omega arith }

pub reads_then : (a b c : Stream) → ReadsOn a b → ReadsOn b c → ReadsOn a c
reads_then a b c p q = record {
  gives = gives_then a.left b.left c.left a.given b.given c.given p.gives q.gives;
  tells = q.tells ∙ p.tells;
  faults = omega (arith, p.faults, q.faults);
}

pub taken_none : (start : FileView) → start.over ≡ false → IsGathered start start [] []
taken_none start going = record { answered = answered_none start going; reads = reads_none start.stream }

pub taken_entry : (start now next : FileView) (accepted : List Entry) (refused : List RefusedItem) (e : Entry)
    → IsGathered start now accepted refused → IsSameFile now next → GivesEntry now next e → IsGathered start next (accepted ++ e ∷ []) refused
taken_entry start now next accepted refused e taken same given = record {
  answered = answered_entry start now next accepted refused e taken.answered same given;
  reads = reads_then start.stream now.stream next.stream taken.reads given.answers.reads;
}

pub taken_refused : (start now next : FileView) (accepted : List Entry) (refused : List RefusedItem) (item : RefusedItem)
    → IsGathered start now accepted refused → IsSameFile now next → GivesRefused now next item → IsGathered start next accepted (refused ++ item ∷ [])
taken_refused start now next accepted refused item taken same given = record {
  answered = answered_refused start now next accepted refused item taken.answered same given;
  reads = reads_then start.stream now.stream next.stream taken.reads given.answers.reads;
}

-- a loader's entries are of one run, one loader and one library
record IsOf (library : List ℕ) (loader : ℕ) (e : Entry) : Type 0 where
  run : e.run ≡ 0
  loader_is : e.loader ≡ loader
  library_is : e.library ≡ library

brought : (library : List ℕ) (loader : ℕ) (item : Item) (e : Entry) → IsEntryOf library loader item e → IsOf library loader e
brought library loader item e is = record {
  run = ap (λ (e : Entry). e.run) is.makes.is_new;
  loader_is = ap (λ (e : Entry). e.loader) is.makes.is_new;
  library_is = ap (λ (e : Entry). e.library) is.makes.is_new;
}

all_brought : (library : List ℕ) (loader : ℕ) (items : List Item) (accepted : List Entry) (refused : List RefusedItem)
    → IsJudged library loader items accepted refused → All (IsOf library loader) accepted
all_brought library loader _ _ _ NoItem = λ k d within. absurd (omega arith)
all_brought library loader _ _ _ (Accepts items accepted refused item e judged is) =
    All-push (IsOf library loader) accepted e (all_brought library loader items accepted refused judged) (brought library loader item e is)
all_brought library loader _ _ _ (Refuses items accepted refused item refusal judged why) = all_brought library loader items accepted refused judged

like : (library : List ℕ) (loader : ℕ) (one other : Entry) → IsOf library loader one → IsOf library loader other → IsLike one other
like library loader one other p q = record {
  run = p.run ∙ sym q.run;
  loader = p.loader_is ∙ sym q.loader_is;
  library = p.library_is ∙ sym q.library_is;
}

-- the next entry is like those before
pub next_is_like : (start now next : FileView) (accepted : List Entry) (refused : List RefusedItem) (e : Entry)
    → IsGathered start now accepted refused → GivesEntry now next e → All (λ one. IsLike one e) accepted
next_is_like start now next accepted refused e taken given =
    let same = taken.answered.same in
    let is = subst (λ (library : List ℕ). IsEntryOf library start.loader given.item e) same.library
    (subst (λ (loader : ℕ). IsEntryOf now.library loader given.item e) same.loader given.is) in
    let one = brought start.library start.loader given.item e is in
    let all = all_brought start.library start.loader taken.answered.done accepted refused taken.answered.judged in
    λ k d within. like start.library start.loader _ e (all k d within) one

pub gathering_none : (start : FileView) (before : List RefusedItem) (held : List Entry) → start.over ≡ false → held ≡ [] → IsGathering start start before before held
gathering_none start before held going none =
    subst (IsGathering start start before before) (sym none)
    (record { more = []; refused_are = sym (append-nil before); taken = taken_none start going; falls = omega arith })

pub gathering_entry : (start now next : FileView) (before refused : List RefusedItem) (held more : List Entry) (e : Entry)
    → IsGathering start now before refused held → IsSameFile now next → GivesEntry now next e → more ≡ held ++ e ∷ []
    → IsGathering start next before refused more
gathering_entry start now next before refused held more e so_far same given is =
    let falls = given.answers.falls in
    let earlier = so_far.falls in
    let longer = length-append held (e ∷ []) in
    subst (IsGathering start next before refused) (sym is) (record {
      more = so_far.more;
      refused_are = so_far.refused_are;
      taken = taken_entry start now next held so_far.more e so_far.taken same given;
      falls = omega arith;
    })

pub gathering_refused : (start now next : FileView) (before refused refused' : List RefusedItem) (held : List Entry) (item : RefusedItem)
    → IsGathering start now before refused held → IsSameFile now next → GivesRefused now next item → refused' ≡ refused ++ item ∷ []
    → IsGathering start next before refused' held
gathering_refused start now next before refused refused' held item so_far same given is =
    let falls = given.answers.falls in
    let earlier = so_far.falls in
    record {
      more = so_far.more ++ item ∷ [];
      refused_are = is ∙ (ap (λ l. l ++ item ∷ []) so_far.refused_are ∙ append_assoc before so_far.more (item ∷ []));
      taken = taken_refused start now next held so_far.more item so_far.taken same given;
      falls = omega arith;
    }
