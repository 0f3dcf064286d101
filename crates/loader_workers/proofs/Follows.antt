-- What follows a history takes its entries in their order.
use Rattle.std.proofs.Common.{◌≡◌, ◌∙◌, ℕ, suc, ◌+◌, ◌-◌, ◌^◌, ◌<◌, ◌≤◌, Bool, true, false, not, List, [], ◌∷◌, ◌++◌, length, take, drop, Option, Some, None, refl, sym, ap, subst, arith, append_assoc, append-nil, length-append}
use Rattle.std.specs.Prelude.{Result, Ok, Err, IfOk, OnOk}
use Rattle.std.proofs.lemmas.Grind.{flat_map-append}
use Rattle.std.proofs.lemmas.List.{take-append-drop, drop_at}
use Rattle.std.proofs.lemmas.List.FromFn.{map-range_with_len_more}
use mathlib.Core.List.{IsPrefix}
use Rattle.marc_types.specs.declared.copying.NoMemory.{NoMemory}
use Rattle.marc_types.specs.declared.entry.Entry.{Entry}
use Rattle.entry_history.specs.Events.{entries_of, committed_entries}
use Rattle.entry_history.specs.declared.event.Event.{Event}
use Rattle.catalogue_lock.specs.History.{items}
use Rattle.catalogue_lock.specs.Passes.{Lock, Pass, IsPassOf, new_passes, having_looked}
use Rattle.catalogue_lock.specs.declared.view.Numbered.{Numbered}
use Rattle.catalogue_lock.proofs.Numbers.{items-append, items-numbered}
use Rattle.catalogue_lock.proofs.Prefixes.{prefix_trans, prefix_length}
use Rattle.durable_catalogue.specs.Durables.{events}
use Rattle.durable_catalogue.specs.Asked.{IsFrom, IsToldSince, IsAnswered}
use Rattle.durable_catalogue.specs.declared.question.Ask.TheVariants as ask
use Rattle.durable_catalogue.specs.declared.question.Told.{Told}
use Rattle.durable_catalogue.specs.declared.question.Told.TheVariants.{Since, NotKept}
use Rattle.loader_workers.proofs.Marks.{entries_in}
use Rattle.loader_workers.specs.Files.{first_passes, extra_pass}
use Rattle.loader_workers.specs.Following.{Answers, TakesTold, CanFollow, HasLooked, HasFollowed}

-- what is told behind a front of a history goes on with it
part_begins : (history old part : List Entry) → IsPrefix old history → part ≡ take 1024 (drop (length old) history) → IsPrefix (old ++ part) history
part_begins history old part begins told =
    let rest : drop (length old) history ≡ begins.0 = ap (drop (length old)) (sym begins.1) ∙ drop_at old begins.0 (length old) refl in
    let is : part ≡ take 1024 begins.0 = told ∙ ap (take 1024) rest in (
      drop 1024 begins.0,
      append_assoc old part (drop 1024 begins.0)
          ∙ (ap (λ l. old ++ (l ++ drop 1024 begins.0)) is ∙ (ap (λ l. old ++ l) (take-append-drop 1024 begins.0) ∙ begins.1)),
    )

none_taken : (more : ℕ) (rest : List Entry) → take (suc more) rest ≡ [] → rest ≡ []
none_taken more [] none = refl
none_taken more (e ∷ rest) none = absurd (cc none)

-- where nothing is told, all was taken
part_ends : (history old part : List Entry) → IsPrefix old history → part ≡ take 1024 (drop (length old) history) → part ≡ [] → old ≡ history
part_ends history old part begins told none =
    let rest : drop (length old) history ≡ begins.0 = ap (drop (length old)) (sym begins.1) ∙ drop_at old begins.0 (length old) refl in
    let left : begins.0 ≡ [] = none_taken 1023 begins.0 (sym (ap (take 1024) rest) ∙ (sym told ∙ none)) in
    sym (append-nil old) ∙ (ap (λ l. old ++ l) (sym left) ∙ begins.1)

not_before : (start : Option ℕ) (from : ℕ) → IsFrom start from → ((history : List Entry) (most : ℕ) → IsToldSince start history from most NotKept → ⊥)
not_before None from kept history most told = kept
not_before (Some start) from kept history most told = absurd (omega (arith, kept, told))

-- what was told was taken, or there was no memory for it
pub takes_since : (start : Option ℕ) (history old now part : List Entry) (more : Result Bool NoMemory) → IsPrefix old history
    → IsToldSince start history (length old) 1024 (Since part) → now ≡ old ++ part → IfOk more (λ more. more ≡ false → part ≡ []) → TakesTold history now more
takes_since start history old now part more begins told taken some = record {
  begins = subst (λ l. IsPrefix l history) (sym taken) (part_begins history old part begins told.1);
  none_left = if_none more some;
}
  where
    if_none : (more : Result Bool NoMemory) → IfOk more (λ more. more ≡ false → part ≡ []) → IfOk more (λ more. more ≡ false → now ≡ history)
    if_none (Ok m) some = λ none.
        taken ∙ (ap (λ l. old ++ l) (some none) ∙ (append-nil old ∙ part_ends history old part begins told.1 (some none)))
    if_none (Err why) some = tt

-- the same, of an answer as it is read
pub takes_told : (start : Option ℕ) (history old now part : List Entry) (told : Result Told NoMemory) (t : Told) (empty : Bool) → IsPrefix old history → told ≡ Ok t → t ≡ Since part
    → IfOk told (IsToldSince start history (length old) 1024) → now ≡ old ++ part → (empty ≡ true → part ≡ []) → TakesTold history now (Ok (not empty))
takes_told start history old now part told t empty begins is since answered taken none =
    let is_since : told ≡ Ok (Since part) = cc (is, since) in
    takes_since start history old now part (Ok (not empty)) begins (subst (λ (r : Result Told NoMemory). IfOk r (IsToldSince start history (length old) 1024)) is_since answered) taken
    (λ some. none (empty_of empty some))
  where
    empty_of : (b : Bool) → not b ≡ false → b ≡ true
    empty_of true e = refl
    empty_of false e = absurd (cc e)

-- what a catalogue tells of its history
pub since_told : (start : Option ℕ) (entries old : List Entry) (mark : Option (List Entry)) (count : ℕ) (told : Result Told NoMemory) → count ≡ length old
    → IsAnswered start (events entries mark) (ask.Since count 1024) told → IfOk told (IsToldSince start entries (length old) 1024)
since_told start entries old mark count told counts answered =
    subst (λ es. IfOk told (IsToldSince start es (length old) 1024)) (entries_in entries mark)
    (subst (λ n. IfOk told (IsToldSince start (entries_of (events entries mark)) n 1024)) counts answered)

-- nothing was taken for want of memory
pub takes_none : (history old now : List Entry) (why : NoMemory) → IsPrefix old history → now ≡ old → TakesTold history now (Err why)
takes_none history old now why begins same = record { begins = subst (λ l. IsPrefix l history) (sym same) begins; none_left = tt }

-- the entries of a front of a history's items
pub entries_begin : (xs ys : List (Numbered Event)) → IsPrefix xs ys → IsPrefix (entries_of (items xs)) (entries_of (items ys))
entries_begin xs ys begins =
    (entries_of (items begins.0), sym (flat_map-append committed_entries (items xs) (items begins.0)) ∙ (ap entries_of (sym (items-append xs begins.0)) ∙ ap (λ l. entries_of (items l)) begins.1))

-- what is left of a history grows less
pub fewer_left : (old new history : List Entry) → IsPrefix new history → length old < length new → length history - length new < length history - length old
fewer_left old new history begins longer = omega (arith, prefix_length new history begins, longer)

pub from_later : (start : Option ℕ) (count later : ℕ) → IsFrom start count → count ≤ later → IsFrom start later
from_later None count later kept le = kept
from_later (Some start) count later kept le = omega (arith, kept, le)

-- what was taken of a front of the history is a front of its entries
pub taken_begins : (taken : List Entry) (seen history : List (Numbered Event)) (entries : List Entry) (mark : Option (List Entry)) → IsPrefix taken (entries_of (items seen))
    → IsPrefix seen history → items history ≡ events entries mark → IsPrefix taken entries
taken_begins taken seen history entries mark begins later whole =
    subst (λ l. IsPrefix taken l) (ap entries_of whole ∙ entries_in entries mark)
    (prefix_trans taken (entries_of (items seen)) (entries_of (items history)) begins (entries_begin seen history later))

module _ {O T : Type 0} (taken : T → List Entry) (takes : T → Type 0) (answers : Answers) where
  -- one look, and what was taken of it
  pub followed_once : (most count : ℕ) (lock : Lock O) (old new : Pass O Event) (taker now : T) (told : Result Told NoMemory) (more : Result Bool NoMemory)
      → CanFollow taken takes answers most lock old taker → IsPrefix old.seen new.seen → new ≡ having_looked old new.seen
      → count ≡ length (taken taker) → answers (items new.seen) (ask.Since count 1024) told
      → ((start : Option ℕ) (history : List Entry) → IsFrom start (length (taken taker)) → IsPrefix (taken taker) history
      → IfOk told (IsToldSince start history (length (taken taker)) 1024) → TakesTold history (taken now) more)
      → length (taken taker) ≤ length (taken now) → OnOk more (takes now) → HasFollowed taken takes old new taker now more
  followed_once most count lock old new taker now told more can begins looked counts asked took longer able =
      let news = can.news in
      let answered = subst (λ n. answers (items new.seen) (ask.Since n 1024) told) counts asked in
      record {
        pass = record {
          same = record { lock = ap (λ (p : Pass O Event). p.lock) looked; opened = ap (λ (p : Pass O Event). p.opened) looked; number = ap (λ (p : Pass O Event). p.number) looked };
          added = ap (λ (p : Pass O Event). p.added) looked;
        };
        behind = (took news.start (entries_of (items new.seen)) news.early
            (prefix_trans (taken taker) (entries_of (items old.seen)) (entries_of (items new.seen)) can.behind (entries_begin old.seen new.seen begins))
            (news.answered (items new.seen) (ask.Since (length (taken taker)) 1024) told answered)).begins;
        longer = longer;
        able = able;
      }

  -- a pass that looked can look again
  pub can_again : {A : Type 0} (most more : ℕ) (lock : Lock O) (old new : Pass O Event) (taker now : T) (told : Result A NoMemory)
      → CanFollow taken takes answers most lock old taker → HasFollowed taken takes old new taker now told → takes now → new.turns + more ≤ 2 ^ 31
      → CanFollow taken takes answers more lock new now
  can_again most more lock old new taker now told can did able room = record {
    own = (did.pass.same.lock ∙ can.own.0, did.pass.same.opened ∙ can.own.1);
    room = room;
    news = record { start = can.news.start; early = from_later can.news.start (length (taken taker)) (length (taken now)) can.news.early did.longer; answered = can.news.answered };
    behind = did.behind;
    able = able;
  }

  -- nothing was done yet
  pub followed_none : (most : ℕ) (lock : Lock O) (pass : Pass O Event) (taker : T) → CanFollow taken takes answers most lock pass taker
      → HasFollowed taken takes {A = Unit {0}} pass pass taker taker (Ok tt)
  followed_none most lock pass taker can = record {
    pass = record { same = record { lock = refl; opened = refl; number = refl }; added = refl };
    behind = can.behind;
    longer = omega arith;
    able = can.able;
  }

-- what is put behind the first of passes, where there were no others
pub first_given : {X : Type 0} (none given all passes : List X) (first : X) → none ≡ [] → given ≡ none ++ first ∷ [] → all ≡ given ++ passes → all ≡ first ∷ passes
first_given none given all passes first empty is whole = whole ∙ ap (λ l. l ++ passes) (is ∙ ap (λ l. l ++ first ∷ []) empty)

module _ {O T : Type 0} (taken : T → List Entry) (takes : T → Type 0) where
  -- what follows a new lock over a catalogue that keeps news of all that comes behind what was taken, with the lock's last pass
  pub can_begin : (start : Option ℕ) (lock : Lock O) (before : List Entry) (mark : Option (List Entry)) (files : ℕ) (pass : Pass O Event) (taker : T)
      → pass ≡ extra_pass lock (events before mark) files → IsFrom start (length (taken taker)) → taken taker ≡ before → takes taker
      → CanFollow taken takes (λ history question answer. IsAnswered start history question answer) (2 ^ 30 + 1) lock pass taker
  can_begin start lock before mark files pass taker is kept same able =
      subst (λ (p : Pass O Event). CanFollow taken takes (λ history question answer. IsAnswered start history question answer) (2 ^ 30 + 1) lock p taker) (sym is) (record {
        own = (refl, refl);
        room = omega arith;
        news = record { start = start; early = kept; answered = λ history question answer told. told };
        behind = ([], append-nil (taken taker) ∙ (same ∙ sym (ap entries_of (items-numbered None (events before mark)) ∙ entries_in before mark)));
        able = able;
      })

-- The follower's pass at the end: it is the lock's, has the number behind the loaders', and added nothing.
pub record IsIdle {O : Type 0} (lock : Lock O) (files : ℕ) (pass : Pass O Event) : Type 0 where
  pub own : IsPassOf lock pass
  pub number : pass.number ≡ files
  pub added : pass.added ≡ []

pub idle_now : {O : Type 0} (lock : Lock O) (brought : List Event) (files : ℕ) (old new : Pass O Event) → old ≡ extra_pass lock brought files → HasLooked old new → IsIdle lock files new
idle_now lock brought files old new is looked = record {
  own = (looked.same.lock ∙ ap (λ (p : Pass _ Event). p.lock) is, looked.same.opened ∙ ap (λ (p : Pass _ Event). p.opened) is);
  number = looked.same.number ∙ ap (λ (p : Pass _ Event). p.number) is;
  added = looked.added ∙ ap (λ (p : Pass _ Event). p.added) is;
}

-- one look behind others
pub followed_more : {O T A B : Type 0} (taken : T → List Entry) (takes : T → Type 0) (old mid new : Pass O Event) (taker at now : T) (told : Result A NoMemory) (more : Result B NoMemory)
    → HasFollowed taken takes old mid taker at told → HasFollowed taken takes mid new at now more → HasFollowed taken takes old new taker now more
followed_more taken takes old mid new taker at now told more first second = record {
  pass = record {
    same = record {
      lock = second.pass.same.lock ∙ first.pass.same.lock;
      opened = second.pass.same.opened ∙ first.pass.same.opened;
      number = second.pass.same.number ∙ first.pass.same.number;
    };
    added = second.pass.added ∙ first.pass.added;
  };
  behind = second.behind;
  longer = omega (arith, first.longer, second.longer);
  able = second.able;
}

-- the same of an answer with another value
pub followed_so : {O T A B : Type 0} (taken : T → List Entry) (takes : T → Type 0) (old new : Pass O Event) (taker now : T) (told : Result A NoMemory) (also : Result B NoMemory)
    → HasFollowed taken takes old new taker now told → OnOk also (takes now) → HasFollowed taken takes old new taker now also
followed_so taken takes old new taker now told also did able = record { pass = did.pass; behind = did.behind; longer = did.longer; able = able }

module _ {X : Type 0} where
  -- the last of two lists that are one
  snoc_same : (xs ys : List X) (x y : X) → xs ++ x ∷ [] ≡ ys ++ y ∷ [] → (xs ≡ ys) × (x ≡ y)
  snoc_same [] [] x y e = (refl, cc e)
  snoc_same [] (b ∷ ys) x y e = absurd (omega (arith, ap (length {A = X}) e, length-append ys (y ∷ [])))
  snoc_same (a ∷ xs) [] x y e = absurd (omega (arith, ap (length {A = X}) e, length-append xs (x ∷ [])))
  snoc_same (a ∷ xs) (b ∷ ys) x y e =
      let heads : a ≡ b = cc e in
      let rest = snoc_same xs ys x y (cc e) in
      (cc (heads, rest.0), rest.1)

-- the last of a lock's first passes, and those before it
pub last_of : {O : Type 0} (lock : Lock O) (brought : List Event) (count : ℕ) (passes held left back : List (Pass O Event)) (last : Pass O Event)
    → held ≡ passes → held ≡ left ++ last ∷ [] → back ≡ left → passes ≡ first_passes lock brought (count + 1)
    → (back ≡ first_passes lock brought count) × (last ≡ extra_pass lock brought count)
last_of lock brought count passes held left back last same popped is_back are =
    let split : left ++ last ∷ [] ≡ first_passes lock brought count ++ extra_pass lock brought count ∷ [] =
    sym popped ∙ (same ∙ (are ∙ map-range_with_len_more (extra_pass lock brought) 0 count count (omega arith))) in
    let both = snoc_same left (first_passes lock brought count) last (extra_pass lock brought count) split in
    (is_back ∙ both.0, both.1)

-- the passes of a new lock are its first ones
pub new_first : {O : Type 0} (lock : Lock O) (brought : List Event) (passes : List (Pass O Event)) (count : ℕ) → passes ≡ new_passes lock brought → lock.callers ≡ count
    → passes ≡ first_passes lock brought count
new_first lock brought passes count is callers = is ∙ ap (first_passes lock brought) callers

-- a list that is another is a front of it
pub same_begins : (xs ys : List Entry) → xs ≡ ys → IsPrefix xs ys
same_begins xs ys same = ([], append-nil xs ∙ same)
