-- What stands next in an export, and what then is left to come.
use Rattle.std.proofs.Common.{◌≡◌, ◌≢◌, ◌∙◌, ◌⊎◌, inl, inr, ℕ, Bool, true, false, ◌&&◌, true≢false, List, [], ◌∷◌, ◌++◌, Some, None, refl, sym, ap, subst, append_assoc}
use Rattle.std.specs.Prelude.{All, if◌then◌else◌}
use Rattle.std.specs.Option.{is_none}
use Rattle.std.proofs.lemmas.List.Elements.{All-head}
use Rattle.marc_types.specs.declared.refusal.Refusal.{Refusal}
use Rattle.marc_stream.specs.Pieces.{Item}
use Rattle.marc_stream.specs.Next.{GivesPiece, GivesRefusal}
use Rattle.marc_stream.specs.Stream.{Stream, Ends}
use Rattle.parts_commands.specs.Exports.{CanFollow, IsPlaceIn, AtStart, AtItem, IsRecordItem, authorities_of, behind_authorities, bytes_of, is_authority, is_authority_item, pieces_of}
use Rattle.parts_commands.specs.Taking.{ArePassed, GoesOn, HaveSameNext, IsAtRecord, IsNextAuthority, IsNextRecord, IsRefusedTaken, IsTaken, IsUnlike}

-- ---- by the first item

pub is_true : (item : Item) → item.refusal ≡ None → is_authority item.bytes ≡ true → is_authority_item item ≡ true
is_true item sound is = ap (λ r. is_none r && is_authority item.bytes) sound ∙ is

pub is_false : (item : Item) → is_authority item.bytes ≡ false → is_authority_item item ≡ false
is_false item is = ap (λ b. is_none item.refusal && b) is ∙ never (is_none item.refusal)
  where
    never : (b : Bool) → (b && false) ≡ false
    never true = refl
    never false = refl

refused_false : (item : Item) (why : Refusal) → item.refusal ≡ Some why → is_authority_item item ≡ false
refused_false item why is = ap (λ r. is_none r && is_authority item.bytes) is

module _ (item : Item) (rest : List Item) where
  pub authorities_first : is_authority_item item ≡ true → authorities_of (item ∷ rest) ≡ item.bytes ∷ authorities_of rest
  authorities_first is = by (is_authority_item item) is
    where
      by : (b : Bool) → b ≡ true → (if b then item.bytes ∷ authorities_of rest else []) ≡ item.bytes ∷ authorities_of rest
      by true e = refl
      by false e = absurd (true≢false (sym e))

  pub no_authorities_first : is_authority_item item ≡ false → authorities_of (item ∷ rest) ≡ []
  no_authorities_first is = by (is_authority_item item) is
    where
      by : (b : Bool) → b ≡ false → (if b then item.bytes ∷ authorities_of rest else []) ≡ []
      by true e = absurd (true≢false e)
      by false e = refl

  pub behind_first : is_authority_item item ≡ true → behind_authorities (item ∷ rest) ≡ behind_authorities rest
  behind_first is = by (is_authority_item item) is
    where
      by : (b : Bool) → b ≡ true → (if b then behind_authorities rest else item ∷ rest) ≡ behind_authorities rest
      by true e = refl
      by false e = absurd (true≢false (sym e))

  pub behind_itself : is_authority_item item ≡ false → behind_authorities (item ∷ rest) ≡ item ∷ rest
  behind_itself is = by (is_authority_item item) is
    where
      by : (b : Bool) → b ≡ false → (if b then behind_authorities rest else item ∷ rest) ≡ item ∷ rest
      by true e = absurd (true≢false e)
      by false e = refl

-- ---- what an answer says of the items

module _ (old new : Stream) (place : ℕ) (piece : List ℕ) (tells : old.tells ≡ true) where
  pub next_authority : IsTaken old new place piece None → is_authority piece ≡ true → IsNextAuthority old.coming true piece new.coming
  next_authority taken is =
      (record { ordinal = taken.ordinal; offset = place; bytes = piece; refusal = None }, taken.answers.coming tells, is, refl)

  pub next_is_none : IsTaken old new place piece None → is_authority piece ≡ false → IsNextAuthority old.coming false piece new.coming
  next_is_none taken is =
      let item : Item = record { ordinal = taken.ordinal; offset = place; bytes = piece; refusal = None } in
      ap authorities_of (taken.answers.coming tells) ∙ no_authorities_first item new.coming is

  pub next_is_refused : IsRefusedTaken old new place → IsNextAuthority old.coming false piece new.coming
  next_is_refused refused =
      let item : Item = record { ordinal = refused.taken.ordinal; offset = place; bytes = refused.bytes; refusal = Some refused.refusal } in
      ap authorities_of (refused.taken.answers.coming tells) ∙ no_authorities_first item new.coming refl

  pub next_is_end : Ends old new → IsNextAuthority old.coming false piece new.coming
  next_is_end ends = ap authorities_of (ends.coming tells)

  pub next_record : IsTaken old new place piece None → is_authority piece ≡ false → IsNextRecord old.coming place piece new.coming
  next_record taken is = record {
    item = record { ordinal = taken.ordinal; offset = place; bytes = piece; refusal = None };
    next = taken.answers.coming tells;
    is_record = (refl, is);
    bytes = refl;
    place_is = refl;
  }

-- what the cutting of an export gave
module _ (old new : Stream) (ordinal place : ℕ) where
  pub piece_taken : (bytes piece : List ℕ) → GivesPiece old new ordinal place bytes → piece ≡ bytes → IsTaken old new place piece None
  piece_taken bytes piece given is =
      subst (λ p. IsTaken old new place p None) (sym is) (record { ordinal = ordinal; answers = given.answers })

  pub refusal_taken : (refusal : Refusal) → GivesRefusal old new ordinal place refusal → IsRefusedTaken old new place
  refusal_taken refusal given = record { bytes = given.bytes; refusal = refusal; taken = record { ordinal = ordinal; answers = given.answers } }

pub next_taken : (old new : Stream) (place : ℕ) (piece : List ℕ) (is : Bool) → old.tells ≡ true → IsTaken old new place piece None → is ≡ is_authority piece
    → IsNextAuthority old.coming is piece new.coming
next_taken old new place piece true tells taken is = next_authority old new place piece tells taken (sym is)
next_taken old new place piece false tells taken is = next_is_none old new place piece tells taken (sym is)

pub goes_on : (old new : Stream) (place : ℕ) (piece : List ℕ) → IsTaken old new place piece None → GoesOn old new
goes_on old new place piece taken = record { over = taken.answers.over; tells = taken.answers.reads.tells; falls = taken.answers.falls }

-- the bytes of the authorities, by the next of them
pub bytes_next : (its coming : List Item) (piece : List ℕ) → IsNextAuthority its true piece coming
    → bytes_of (authorities_of its) ≡ piece ++ bytes_of (authorities_of coming)
bytes_next its coming piece next =
    ap bytes_of (ap authorities_of next.1 ∙ authorities_first next.0 coming next.2) ∙ ap (λ p. p ++ bytes_of (authorities_of coming)) next.3

pub bytes_none : (its coming : List Item) (piece : List ℕ) → IsNextAuthority its false piece coming → bytes_of (authorities_of its) ≡ []
bytes_none its coming piece none = ap bytes_of none

-- ---- an export beside the first

pub same_next : (old new : Stream) (others others_coming : List Item) (place : ℕ) (piece beside : List ℕ) → old.tells ≡ true
    → IsNextAuthority others true beside others_coming → IsTaken old new place piece None → is_authority piece ≡ true → piece ≡ beside
    → HaveSameNext others old.coming place others_coming new.coming
same_next old new others others_coming place piece beside tells other taken is same = record {
  other = other.0;
  item = record { ordinal = taken.ordinal; offset = place; bytes = piece; refusal = None };
  other_next = other.1;
  next = taken.answers.coming tells;
  other_is = other.2;
  is = is;
  bytes = same ∙ sym other.3;
  place_is = refl;
}

-- the authorities differ at the first item
module _ (others items rest : List Item) (item : Item) (is : items ≡ item ∷ rest) where
  here : IsPlaceIn items item.offset
  here = AtItem [] rest item is refl

  differ_here : (authorities_of items ≡ authorities_of others → ⊥) → IsUnlike others items item.offset
  differ_here denied = record { no_part = λ before part. denied part.same; place_is = here }

  pub an_authority_more : is_authority_item item ≡ true → authorities_of others ≡ [] → IsUnlike others items item.offset
  an_authority_more first none = differ_here (λ same.
      let both : item.bytes ∷ authorities_of rest ≡ [] = sym (ap authorities_of is ∙ authorities_first item rest first) ∙ same ∙ none in cc)

  pub an_authority_less : (piece : List ℕ) (coming : List Item) → is_authority_item item ≡ false → IsNextAuthority others true piece coming
      → IsUnlike others items item.offset
  an_authority_less piece coming first other = differ_here (λ same.
      let both : [] ≡ other.0.bytes ∷ authorities_of coming = sym (ap authorities_of is ∙ no_authorities_first item rest first) ∙ same
      ∙ ap authorities_of other.1 ∙ authorities_first other.0 coming other.2 in cc)

  pub another_authority : (piece : List ℕ) (coming : List Item) → is_authority_item item ≡ true → IsNextAuthority others true piece coming → item.bytes ≢ piece
      → IsUnlike others items item.offset
  another_authority piece coming first other differs = differ_here (λ same.
      let both : item.bytes ∷ authorities_of rest ≡ other.0.bytes ∷ authorities_of coming = sym (ap authorities_of is ∙ authorities_first item rest first) ∙ same
      ∙ ap authorities_of other.1 ∙ authorities_first other.0 coming other.2 in
      let heads : item.bytes ≡ other.0.bytes = cc in
      differs (heads ∙ other.3))

  pub a_refused_item : (why : Refusal) → item.refusal ≡ Some why → IsUnlike others items item.offset
  a_refused_item why refused = record {
    no_part = λ before part.
        let first = refused_false item why refused in
        let head : IsRecordItem item = All-head IsRecordItem item rest (subst (All IsRecordItem) (ap behind_authorities is ∙ behind_itself item rest first) part.records) in
        let both : Some why ≡ None = sym refused ∙ head.0 in cc;
    place_is = here;
  }

-- one of two is so
pub one_of : (is_next due : Bool) → (is_next ≡ true) ⊎ ((is_next ≡ false) × (due ≡ true)) → is_next ≡ false → due ≡ false → ⊥
one_of is_next due (inl next) not_next not_due = true≢false (sym next ∙ not_next)
one_of is_next due (inr found) not_next not_due = true≢false (sym found.1 ∙ not_due)

-- a piece that isn't the first's next, or is no authority's where that is one
unlike_item : (others its rest : List Item) (item : Item) (others_coming : List Item) (beside : List ℕ) (due is_next : Bool) → its ≡ item ∷ rest
    → item.refusal ≡ None → IsNextAuthority others due beside others_coming → is_next ≡ is_authority item.bytes
    → (is_next ≡ true → due ≡ true → item.bytes ≡ beside → ⊥) → (is_next ≡ false → due ≡ false → ⊥) → IsUnlike others its item.offset
unlike_item others its rest item others_coming beside true true begun sound other is differ some =
    another_authority others its rest item begun beside others_coming (is_true item sound (sym is)) other (λ same. differ refl refl same)
unlike_item others its rest item others_coming beside false true begun sound other is differ some =
    an_authority_more others its rest item begun (is_true item sound (sym is)) other
unlike_item others its rest item others_coming beside true false begun sound other is differ some =
    an_authority_less others its rest item begun beside others_coming (is_false item (sym is)) other
unlike_item others its rest item others_coming beside false false begun sound other is differ some = absurd (some refl refl)

module _ (old new : Stream) (others others_coming : List Item) (place : ℕ) (beside : List ℕ) (due : Bool) (tells : old.tells ≡ true)
    (other : IsNextAuthority others due beside others_coming) where
  pub compared_same : (piece : List ℕ) → due ≡ true → IsTaken old new place piece None → is_authority piece ≡ true → piece ≡ beside
      → HaveSameNext others old.coming place others_coming new.coming
  compared_same piece is_due taken is same =
      same_next old new others others_coming place piece beside tells (subst (λ b. IsNextAuthority others b beside others_coming) is_due other) taken is same

  pub unlike_taken : (piece : List ℕ) (is_next : Bool) → IsTaken old new place piece None → is_next ≡ is_authority piece
      → (is_next ≡ true → due ≡ true → piece ≡ beside → ⊥) → (is_next ≡ false → due ≡ false → ⊥) → IsUnlike others old.coming place
  unlike_taken piece is_next taken is differ some =
      unlike_item others old.coming new.coming (record { ordinal = taken.ordinal; offset = place; bytes = piece; refusal = None }) others_coming beside due is_next
      (taken.answers.coming tells) refl other is differ some

  pub unlike_refused : IsRefusedTaken old new place → IsUnlike others old.coming place
  unlike_refused refused =
      a_refused_item others old.coming new.coming
      (record { ordinal = refused.taken.ordinal; offset = place; bytes = refused.bytes; refusal = Some refused.refusal })
      (refused.taken.answers.coming tells) refused.refusal refl

  pub none_due : due ≡ false → authorities_of others ≡ []
  none_due is = subst (λ b. IsNextAuthority others b beside others_coming) is other

  pub some_due : due ≡ true → authorities_of others ≢ []
  some_due is none =
      let next : IsNextAuthority others true beside others_coming = subst (λ b. IsNextAuthority others b beside others_coming) is other in
      let both : [] ≡ next.0.bytes ∷ authorities_of others_coming = sym none ∙ ap authorities_of next.1 ∙ authorities_first next.0 others_coming next.2 in
      cc

-- ---- the authorities that were passed

-- so many items of both were passed: what is left has the same authorities where all have, and the same records
pub record AreBeside (others items others_now items_now : List Item) : Type 0 where
  pub done : List Item
  pub split : items ≡ done ++ items_now
  pub all : authorities_of items_now ≡ authorities_of others_now → authorities_of items ≡ authorities_of others
  pub rest : authorities_of items ≡ authorities_of others → authorities_of items_now ≡ authorities_of others_now
  pub behind : behind_authorities items ≡ behind_authorities items_now

pub beside_begun : (others items : List Item) → AreBeside others items others items
beside_begun others items = record { done = []; split = refl; all = λ same. same; rest = λ same. same; behind = refl }

pub beside_more : (others items others_now items_now : List Item) (place : ℕ) (others_coming coming : List Item) → AreBeside others items others_now items_now
    → HaveSameNext others_now items_now place others_coming coming → AreBeside others items others_coming coming
beside_more others items others_now items_now place others_coming coming so next =
    let own : authorities_of items_now ≡ next.item.bytes ∷ authorities_of coming = ap authorities_of next.next ∙ authorities_first next.item coming next.is in
    let theirs : authorities_of others_now ≡ next.other.bytes ∷ authorities_of others_coming =
    ap authorities_of next.other_next ∙ authorities_first next.other others_coming next.other_is in
    record {
      done = so.done ++ next.item ∷ [];
      split = so.split ∙ ap (λ l. so.done ++ l) next.next ∙ sym (append_assoc so.done (next.item ∷ []) coming);
      all = λ same. so.all (own ∙ ap (λ p. p ∷ authorities_of coming) next.bytes ∙ ap (λ l. next.other.bytes ∷ l) same ∙ sym theirs);
      rest = λ same. let both : next.item.bytes ∷ authorities_of coming ≡ next.other.bytes ∷ authorities_of others_coming = sym own ∙ so.rest same ∙ theirs in cc;
      behind = so.behind ∙ ap behind_authorities next.next ∙ behind_first next.item coming next.is;
    }

-- a place of what is left is one of the whole
pub place_behind : (items done coming : List Item) (place : ℕ) → items ≡ done ++ coming → IsPlaceIn coming place → IsPlaceIn items place
place_behind items done coming place is (AtStart start) = AtStart start
place_behind items done coming place is (AtItem before rest item here at) =
    AtItem (done ++ before) rest item (is ∙ ap (λ l. done ++ l) here ∙ sym (append_assoc done before (item ∷ rest))) at

pub place_next : (others items others_now items_now : List Item) (place : ℕ) (others_coming coming : List Item) → AreBeside others items others_now items_now
    → HaveSameNext others_now items_now place others_coming coming → IsPlaceIn items place
place_next others items others_now items_now place others_coming coming so next =
    AtItem so.done coming next.item (so.split ∙ ap (λ l. so.done ++ l) next.next) (sym next.place_is)

module _ (others items others_now items_now : List Item) (so : AreBeside others items others_now items_now) where
  pub at_record : (place : ℕ) (piece : List ℕ) (coming : List Item) → IsNextRecord items_now place piece coming → authorities_of others_now ≡ []
      → IsAtRecord others items place piece coming
  at_record place piece coming next none =
      let first = is_false next.item next.is_record.1 in
      let own : authorities_of items_now ≡ [] = ap authorities_of next.next ∙ no_authorities_first next.item coming first in
      let here : items ≡ so.done ++ next.item ∷ coming = so.split ∙ ap (λ l. so.done ++ l) next.next in
      record {
        same = so.all (own ∙ sym none);
        next = record {
          item = next.item;
          next = so.behind ∙ ap behind_authorities next.next ∙ behind_itself next.item coming first;
          is_record = next.is_record;
          bytes = next.bytes;
          place_is = next.place_is;
        };
        within = λ at within. place_behind items (so.done ++ next.item ∷ []) coming at (here ∙ sym (append_assoc so.done (next.item ∷ []) coming)) within;
        here = AtItem so.done coming next.item here (sym next.place_is);
      }

  pub no_record : (piece : List ℕ) (coming : List Item) → items_now ≡ [] → authorities_of others_now ≡ [] → ArePassed others items None piece coming
  no_record piece coming end none = (so.all (ap authorities_of end ∙ sym none), so.behind ∙ ap behind_authorities end)

  pub fewer : (place : ℕ) → items_now ≡ [] → authorities_of others_now ≢ [] → IsPlaceIn items place → IsUnlike others items place
  fewer place end some at = record {
    no_part = λ before part. some (sym (so.rest part.same) ∙ ap authorities_of end);
    place_is = at;
  }

  pub unlike_behind : (place : ℕ) → IsUnlike others_now items_now place → IsUnlike others items place
  unlike_behind place unlike = record {
    no_part = λ before part. unlike.no_part before (record {
      same = so.rest part.same;
      records = subst (All IsRecordItem) so.behind part.records;
      follows = subst (λ (l : List Item). CanFollow before (pieces_of l)) so.behind part.follows;
    });
    place_is = place_behind items so.done items_now place so.split unlike.place_is;
  }
