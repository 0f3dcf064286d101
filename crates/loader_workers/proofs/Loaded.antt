-- How the loading of a file goes on, and how it ends.
use Rattle.std.proofs.Common.{◌≡◌, ◌≢◌, ◌∙◌, ℕ, ◌+◌, ◌^◌, ◌≤◌, Bool, false, List, [], ◌∷◌, ◌++◌, length, Option, Some, None, append_assoc, append-nil, refl, sym, ap, subst, arith}
use Rattle.outside.specs.Fault.{Rose}
use Rattle.marc_types.specs.declared.entry.Entry.{Entry}
use Rattle.marc_stream.specs.Pieces.{Item}
use Rattle.marc_stream.specs.Window.{Gives}
use Rattle.entry_history.specs.Commits.{Origin}
use Rattle.entry_history.specs.declared.event.Event.{Event}
use Rattle.catalogue_lock.specs.History.{items}
use Rattle.catalogue_lock.specs.Passes.{Pass, HasSeenItsOwn}
use Rattle.marc_types.proofs.Adding.{few_none}
use Rattle.file_entries.specs.Files.{IsJudged, NoItem}
use Rattle.file_entries.specs.Entries.{FileView}
use Rattle.file_entries.specs.declared.refused.RefusedItem.{RefusedItem}
use Rattle.loader_workers.specs.Counts.{no_counts, result_of}
use Rattle.loader_workers.specs.Gathering.{IsGathered, StopsAt, HasGathered}
use Rattle.loader_workers.specs.Turns.{Replies, CommitsAs, AnswersAsCatalogue, HasCommitted, CommitsFront, IsSamePass, HasTurned, IsCounted, IsEndOf, IsEndOfBatch}
use Rattle.loader_workers.specs.Loading.{CountsFaults, IsReadTo, LoadsOneFile, IsLoading}
use Rattle.loader_workers.specs.declared.counts.Counts.{Counts}
use Rattle.loader_workers.specs.declared.file_end.FileEnd.{FileEnd}
use Rattle.loader_workers.specs.declared.file_end.FileEnd.TheVariants.{Done, ReadFault, Full, DeviceFault, NoMemory}
use Rattle.loader_workers.specs.declared.result.FileResult.{FileResult}
use Rattle.loader_workers.proofs.Taking.{taken_none, reads_then}
use Rattle.loader_workers.proofs.Turned.{nothing_yet}
use Rattle.loader_workers.proofs.Joining.{taken_then, committed_then}

batch_end : (origin : Origin) (end : FileEnd) (rest : List Entry) (marks history : List Event)
    → IsEndOfBatch origin (Some end) rest marks history → IsEndOf origin end rest marks history
batch_end origin Done rest marks history is = absurd is
batch_end origin ReadFault rest marks history is = absurd is
batch_end origin Full rest marks history is = is
batch_end origin DeviceFault rest marks history is = is
batch_end origin NoMemory rest marks history is = is

-- a commit's fault says nothing of what was read
read_anyhow : (origin : Origin) (end : FileEnd) (rest : List Entry) (marks history : List Event) (tells : Bool) (start left : Option (List ℕ)) (coming : List Item)
    → IsEndOfBatch origin (Some end) rest marks history → IsReadTo end tells start left coming
read_anyhow origin Done rest marks history tells start left coming is = absurd is
read_anyhow origin ReadFault rest marks history tells start left coming is = absurd is
read_anyhow origin Full rest marks history tells start left coming is = tt
read_anyhow origin DeviceFault rest marks history tells start left coming is = tt
read_anyhow origin NoMemory rest marks history tells start left coming is = tt

file_end : (origin : Origin) (end : FileEnd) (last now : FileView) (rest : List Entry) (marks history : List Event)
    → StopsAt (Some end) last now → (rest ≡ []) × (marks ≡ []) → IsEndOf origin end rest marks history
file_end origin Done last now rest marks history stops is = is
file_end origin ReadFault last now rest marks history stops is = is
file_end origin Full last now rest marks history stops is = absurd stops
file_end origin DeviceFault last now rest marks history stops is = absurd stops
file_end origin NoMemory last now rest marks history stops is = is.1

file_read_to : (end : FileEnd) (start last now : FileView) (accepted : List Entry) (refused : List RefusedItem) → start.stream.given ≡ 0
    → IsGathered start last accepted refused → StopsAt (Some end) last now → IsReadTo end start.stream.tells start.stream.left now.stream.left last.stream.coming
file_read_to Done start last now accepted refused fresh taken stops =
    (λ told. stops.ends.coming (taken.answered.tells ∙ told), stops.ends.read_all)
file_read_to ReadFault start last now accepted refused fresh taken stops = λ told. record {
  given = now.stream.given;
  gives = subst (λ n. Gives start.stream.left now.stream.left n now.stream.given) fresh
      (reads_then start.stream last.stream now.stream taken.reads stops.fails.reads).gives;
  unended = stops.fails.coming (taken.answered.tells ∙ told);
}
file_read_to Full start last now accepted refused fresh taken stops = absurd stops
file_read_to DeviceFault start last now accepted refused fresh taken stops = absurd stops
file_read_to NoMemory start last now accepted refused fresh taken stops = tt

rose_since : (first before now : ℕ) → first ≤ before → Rose before now → Rose first now
rose_since first before now le rose = omega arith

-- the faults of a source whose file ends so, and of one whose file ends by a commit's fault
pub faults_at_end : (first before now : ℕ) (over : Option FileEnd) (end : FileEnd) → first ≤ before → before ≤ now → (over ≡ Some ReadFault → Rose before now)
    → over ≡ Some end → CountsFaults first now end
faults_at_end first before now over end le later cause is = record {
  later = omega (arith, le, later);
  cause = λ same. rose_since first before now le (cause (is ∙ ap (λ (e : FileEnd). Some e) same));
}

pub faults_before : (first before now : ℕ) (end : FileEnd) → first ≤ before → before ≤ now → (end ≡ ReadFault → ⊥) → CountsFaults first now end
faults_before first before now end le later other = record { later = omega (arith, le, later); cause = λ same. absurd (other same) }

one_at_least : (es : List Entry) → es ≢ [] → 1 ≤ length es
one_at_least [] some = absurd (some refl)
one_at_least (e ∷ es) some = omega arith

module _ {O : Type 0} where
  same_begun : (pass : Pass O Event) → IsSamePass pass pass
  same_begun pass = record { lock = refl; opened = refl; number = refl }

  same_then : (old pass new : Pass O Event) → IsSamePass old pass → IsSamePass pass new → IsSamePass old new
  same_then old pass new p q = record { lock = q.lock ∙ p.lock; opened = q.opened ∙ p.opened; number = q.number ∙ p.number }

  -- no turn was made
  pub turned_none : (pass : Pass O Event) (most : ℕ) → HasSeenItsOwn pass → HasTurned pass pass most
  turned_none pass most own = record { same = same_begun pass; seen = own; turns = omega arith }

  -- the turns before and behind
  turned_then : (old pass new : Pass O Event) (begun more most : ℕ) → HasTurned old pass begun → HasTurned pass new more → begun + more ≤ most → HasTurned old new most
  turned_then old pass new begun more most p q le = record {
    same = same_then old pass new p.same q.same;
    seen = q.seen;
    turns = omega (arith, p.turns, q.turns, le);
  }

  counted_none : (pass : Pass O Event) → IsCounted no_counts pass.seen
  counted_none pass = record { entries = omega arith; few = omega arith; sums = few_none }

  pub loading_none : (replies : Replies) (start : FileView) (pass : Pass O Event) (counts : Counts) (refused : List RefusedItem)
      → start.over ≡ false → HasSeenItsOwn pass → counts ≡ no_counts → refused ≡ [] → IsLoading replies start start pass pass counts refused
  loading_none replies start pass counts refused going own none empty =
      subst (λ (c : Counts). IsLoading replies start start pass pass c refused) (sym none)
      (subst (IsLoading replies start start pass pass no_counts) (sym empty) (record {
        accepted = [];
        taken = taken_none start going;
        committed_are = λ origin commits. nothing_yet origin no_counts pass;
        turned = turned_none pass 0 own;
        counted = counted_none pass;
      }))

  -- how loading goes on from here: a batch is gathered, and a front of it committed
  pub record Steps (replies : Replies) (mid now : FileView) (refused refused' : List RefusedItem) (batch : List Entry) (over fault : Option FileEnd)
      (counts counts' : Counts) (pass new : Pass O Event) : Type 0 where
    pub gathers : HasGathered mid now refused refused' batch over
    pub commits : (origin : Origin) → CommitsAs replies origin → CommitsFront origin batch fault counts counts' pass new
    pub turned : HasTurned pass new 1

  loads_by : (origin : Origin) (start last : FileView) (left : Option (List ℕ)) (old pass new : Pass O Event) (batch begun : List Entry) (fault : Option FileEnd)
      (counts counts' : Counts) (refused refused' more : List RefusedItem) (end : FileEnd) → refused' ≡ refused ++ more → IsGathered start last (begun ++ batch) (refused ++ more)
      → pass.number ≡ old.number → HasCommitted origin begun [] no_counts counts old pass → (f : CommitsFront origin batch fault counts counts' pass new)
      → IsEndOf origin end f.rest f.marks (items new.seen) → IsReadTo end start.stream.tells start.stream.left left last.stream.coming
      → LoadsOneFile origin start left old new (result_of counts' refused' end)
  loads_by origin start last left old pass new batch begun fault counts counts' refused refused' more end refused_are taken number before f ends read_to =
      subst (λ rs. LoadsOneFile origin start left old new (result_of counts' rs end)) (sym refused_are) (record {
        done = taken.answered.done;
        coming = last.stream.coming;
        front = begun ++ f.front;
        rest = f.rest;
        marks = f.marks;
        judged = subst (λ es. IsJudged start.library start.loader taken.answered.done es (refused ++ more))
            (ap (λ es. begun ++ es) f.split ∙ sym (append_assoc begun f.front f.rest)) taken.answered.judged;
        split = taken.answered.split;
        committed_is = committed_then origin begun f.front f.marks no_counts counts counts' old pass new number before f.committed_is;
        ends = ends;
        read_to = read_to;
      })

  -- a commit's fault ends the file
  pub loads_to_fault : (replies : Replies) (origin : Origin) (start mid now : FileView) (old pass new : Pass O Event) (counts counts' : Counts)
      (refused refused' : List RefusedItem) (batch : List Entry) (over : Option FileEnd) (end : FileEnd) → CommitsAs replies origin
      → IsLoading replies start mid old pass counts refused → Steps replies mid now refused refused' batch over (Some end) counts counts' pass new
      → LoadsOneFile origin start now.stream.left old new (result_of counts' refused' end)
  loads_to_fault replies origin start mid now old pass new counts counts' refused refused' batch over end commits l s =
      let g = s.gathers.gathers in
      let f = s.commits origin commits in
      let taken = taken_then start mid g.last l.accepted batch refused s.gathers.more l.taken g.taken in
      loads_by origin start g.last now.stream.left old pass new batch l.accepted (Some end) counts counts' refused refused' s.gathers.more end
      s.gathers.refused_are taken l.turned.same.number (l.committed_are origin commits) f
      (batch_end origin end f.rest f.marks (items new.seen) f.ends)
      (read_anyhow origin end f.rest f.marks (items new.seen) start.stream.tells start.stream.left now.stream.left g.last.stream.coming f.ends)

  -- the file is over, and all that was gathered is committed
  pub loads_to_end : (replies : Replies) (origin : Origin) (start mid now : FileView) (old pass new : Pass O Event) (counts counts' : Counts)
      (refused refused' : List RefusedItem) (batch : List Entry) (end : FileEnd) → CommitsAs replies origin → start.stream.given ≡ 0
      → IsLoading replies start mid old pass counts refused → Steps replies mid now refused refused' batch (Some end) None counts counts' pass new
      → LoadsOneFile origin start now.stream.left old new (result_of counts' refused' end)
  loads_to_end replies origin start mid now old pass new counts counts' refused refused' batch end commits fresh l s =
      let g = s.gathers.gathers in
      let f = s.commits origin commits in
      let taken = taken_then start mid g.last l.accepted batch refused s.gathers.more l.taken g.taken in
      loads_by origin start g.last now.stream.left old pass new batch l.accepted None counts counts' refused refused' s.gathers.more end
      s.gathers.refused_are taken l.turned.same.number (l.committed_are origin commits) f
      (file_end origin end g.last now f.rest f.marks (items new.seen) g.stops f.ends)
      (file_read_to end start g.last now (l.accepted ++ batch) (refused ++ s.gathers.more) fresh taken g.stops)

  whole_batch : (origin : Origin) (batch : List Entry) (counts counts' : Counts) (pass new : Pass O Event)
      → CommitsFront origin batch None counts counts' pass new → HasCommitted origin batch [] counts counts' pass new
  whole_batch origin batch counts counts' pass new f =
      let whole : f.front ≡ batch = sym (f.split ∙ (ap (λ es. f.front ++ es) f.ends.0 ∙ append-nil f.front)) in
      subst (λ es. HasCommitted origin es [] counts counts' pass new) whole
      (subst (λ ms. HasCommitted origin f.front ms counts counts' pass new) f.ends.1 f.committed_is)

  -- all that was gathered is committed, and the file goes on
  pub loads_on : (replies : Replies) (start mid now : FileView) (old pass new : Pass O Event) (counts counts' : Counts)
      (refused refused' : List RefusedItem) (batch : List Entry) → AnswersAsCatalogue replies
      → IsLoading replies start mid old pass counts refused → Steps replies mid now refused refused' batch None None counts counts' pass new
      → IsCounted counts' new.seen
      → IsLoading replies start now old new counts' refused'
  loads_on replies start mid now old pass new counts counts' refused refused' batch catalogue l s counted =
      let g = s.gathers.gathers in
      let taken = taken_then start mid g.last l.accepted batch refused s.gathers.more l.taken g.taken in
      let some = one_at_least batch (g.some refl).0 in
      let one = whole_batch catalogue.origin batch counts counts' pass new (s.commits catalogue.origin catalogue.commits) in
      let more = one.accepted in
      subst (λ rs. IsLoading replies start now old new counts' rs) (sym s.gathers.refused_are) (record {
        accepted = l.accepted ++ batch;
        taken = subst (λ (file : FileView). IsGathered start file (l.accepted ++ batch) (refused ++ s.gathers.more)) (sym g.stops) taken;
        committed_are = λ origin commits. committed_then origin l.accepted batch [] no_counts counts counts' old pass new l.turned.same.number
            (l.committed_are origin commits) (whole_batch origin batch counts counts' pass new (s.commits origin commits));
        turned = turned_then old pass new counts.accepted 1 counts'.accepted l.turned s.turned (omega (arith, more, some));
        counted = counted;
      })

  -- a loader makes a turn for each entry at most, and a last one
  pub turned_whole : (replies : Replies) (start mid : FileView) (old pass new : Pass O Event) (counts : Counts) (refused : List RefusedItem)
      → IsLoading replies start mid old pass counts refused → HasTurned pass new 1 → HasTurned old new (2 ^ 27 + 1)
  turned_whole replies start mid old pass new counts refused l turned =
      turned_then old pass new counts.accepted 1 (2 ^ 27 + 1) l.turned turned (omega (arith, l.counted.few))

  -- a commit answers no fault of the source
  pub no_read_fault : (replies : Replies) (batch : List Entry) (fault : Option FileEnd) (counts counts' : Counts) (pass new : Pass O Event) → AnswersAsCatalogue replies
      → ((origin : Origin) → CommitsAs replies origin → CommitsFront origin batch fault counts counts' pass new) → fault ≡ Some ReadFault → ⊥
  no_read_fault replies batch fault counts counts' pass new catalogue commits is =
      (subst (λ (end : Option FileEnd). CommitsFront catalogue.origin batch end counts counts' pass new) is (commits catalogue.origin catalogue.commits)).ends

  -- nothing is read, so nothing is judged or committed
  pub loads_nothing : (origin : Origin) (start : FileView) (left : Option (List ℕ)) (pass : Pass O Event) (result : FileResult)
      → result ≡ result_of no_counts [] NoMemory → LoadsOneFile origin start left pass pass result
  loads_nothing origin start left pass result is = subst (LoadsOneFile origin start left pass pass) (sym is) (record {
    done = [];
    coming = start.stream.coming;
    front = [];
    rest = [];
    marks = [];
    judged = NoItem;
    split = λ told. refl;
    committed_is = nothing_yet origin no_counts pass;
    ends = refl;
    read_to = tt;
  })
