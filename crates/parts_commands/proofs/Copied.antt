-- Records that are written one after the other, and the last of them.
use Rattle.std.proofs.Common.{◌≡◌, ◌∙◌, ◌⊎◌, inl, inr, ℕ, true, false, List, [], ◌∷◌, ◌++◌, Option, Some, None, refl, sym, ap, subst, append_assoc, append-nil}
use Rattle.std.specs.Prelude.{All, IsErrOf, Err}
use Rattle.std.specs.Io.KnownBytes.{Appends}
use Rattle.std.proofs.KnownBytes.{Appends-nil}
use Rattle.std.proofs.lemmas.Grind.{flat_map-append}
use Rattle.std.proofs.lemmas.List.{map-append}
use Rattle.std.proofs.lemmas.List.Elements.{All-nil, All-cons, All-head, All-tail, All-push}
use Rattle.outside.proofs.Fronts.{appends_then}
use Rattle.marc_stream.specs.Pieces.{Item}
use Rattle.marc_stream.specs.Stream.{Stream}
use Rattle.parts_commands.specs.Exports.{CanFollow, IsPlaceIn, AtItem, IsRecordItem, MayFollow, bytes_of, is_authority, last_piece, pieces_of, records_of}
use Rattle.parts_commands.specs.Taking.{AreAllCopied, AreCopied, AreNotAllCopied, AreNotCopied, ArePassed, IsAppended, IsAtRecord, IsNextCopied, IsNotAppended, IsRecordCopied, IsRefusedTaken, IsTaken, IsUnlike}
use Rattle.parts_commands.specs.declared.stop.Stop.{Stop}
use Rattle.parts_commands.specs.declared.stop.Stop.TheVariants.{Unlike}
use Rattle.parts_commands.proofs.Items.{place_behind}

pub stop_of : {T : Type 0} (why other : Stop) → IsErrOf {T = T} (Err why) other → why ≡ other
stop_of why other is = cc

-- one stop is at one place
pub same_place : (place other : ℕ) {T : Type 0} → IsErrOf {T = T} (Err (Unlike place)) (Unlike other) → place ≡ other
same_place place other is = cc

-- ---- the next

module _ (old new : Stream) (place : ℕ) (tells : old.tells ≡ true) where
  pub record_copied : (piece last_now : List ℕ) (out out_now : Option (List ℕ)) → IsTaken old new place piece None → is_authority piece ≡ false
      → last_now ≡ piece → Appends out out_now piece → IsRecordCopied old.coming last_now new.coming out out_now
  record_copied piece last_now out out_now taken is last wrote = record {
    item = record { ordinal = taken.ordinal; offset = place; bytes = piece; refusal = None };
    next = taken.answers.coming tells;
    is_record = (refl, is);
    last_is = last;
    wrote = wrote;
  }

  pub authority_not_copied : (piece : List ℕ) → IsTaken old new place piece None → is_authority piece ≡ true → AreNotCopied old.coming place
  authority_not_copied piece taken is =
      let item : Item = record { ordinal = taken.ordinal; offset = place; bytes = piece; refusal = None } in
      let here : old.coming ≡ item ∷ new.coming = taken.answers.coming tells in
      record {
        no_records = λ all.
            let head : IsRecordItem item = All-head IsRecordItem item new.coming (subst (All IsRecordItem) here all) in
            let both : true ≡ false = sym is ∙ head.1 in cc;
        place_is = AtItem [] new.coming item here refl;
      }

  pub refused_not_copied : IsRefusedTaken old new place → AreNotCopied old.coming place
  refused_not_copied refused =
      let item : Item = record { ordinal = refused.taken.ordinal; offset = place; bytes = refused.bytes; refusal = Some refused.refusal } in
      let here : old.coming ≡ item ∷ new.coming = refused.taken.answers.coming tells in
      record {
        no_records = λ all.
            let head : IsRecordItem item = All-head IsRecordItem item new.coming (subst (All IsRecordItem) here all) in
            let both : Some refused.refusal ≡ None = head.0 in cc;
        place_is = AtItem [] new.coming item here refl;
      }

-- ---- those so far

pub record AreCopiedSoFar (items items_now : List Item) (last last_now : List ℕ) (old new : Option (List ℕ)) : Type 0 where
  pub done : List Item
  pub split : items ≡ done ++ items_now
  pub records : All IsRecordItem done
  pub last_is : last_now ≡ last_piece last (pieces_of done)
  pub wrote : Appends old new (bytes_of (pieces_of done))

pub copying_begun : (items : List Item) (last : List ℕ) (out : Option (List ℕ)) → AreCopiedSoFar items items last last out out
copying_begun items last out =
    record { done = []; split = refl; records = All-nil IsRecordItem; last_is = refl; wrote = Appends-nil out }

last_pushed : (last piece : List ℕ) (pieces : List (List ℕ)) → last_piece last (pieces ++ piece ∷ []) ≡ piece
last_pushed last piece [] = refl
last_pushed last piece (p ∷ pieces) = last_pushed p piece pieces

bytes_more : (pieces more : List (List ℕ)) → bytes_of (pieces ++ more) ≡ bytes_of pieces ++ bytes_of more
bytes_more pieces more = flat_map-append (λ piece. piece) pieces more

bytes_pushed : (items : List Item) (item : Item) → bytes_of (pieces_of (items ++ item ∷ [])) ≡ bytes_of (pieces_of items) ++ item.bytes
bytes_pushed items item =
    ap bytes_of (map-append (λ i. i.bytes) items (item ∷ [])) ∙ bytes_more (pieces_of items) (item.bytes ∷ [])
    ∙ ap (λ l. bytes_of (pieces_of items) ++ l) (append-nil item.bytes)

pub copying_more : (items items_now coming : List Item) (last last_now last_then : List ℕ) (old now new : Option (List ℕ))
    → AreCopiedSoFar items items_now last last_now old now → IsNextCopied items_now true last_now last_then coming now new
    → AreCopiedSoFar items coming last last_then old new
copying_more items items_now coming last last_now last_then old now new so next = record {
  done = so.done ++ next.item ∷ [];
  split = so.split ∙ ap (λ l. so.done ++ l) next.next ∙ sym (append_assoc so.done (next.item ∷ []) coming);
  records = All-push IsRecordItem so.done next.item so.records next.is_record;
  last_is = next.last_is ∙ sym (last_pushed last next.item.bytes (pieces_of so.done))
      ∙ ap (last_piece last) (sym (map-append (λ i. i.bytes) so.done (next.item ∷ [])));
  wrote = subst (Appends old new) (sym (bytes_pushed so.done next.item)) (appends_then old now new (bytes_of (pieces_of so.done)) next.item.bytes so.wrote next.wrote);
}

pub copying_done : (items items_now coming : List Item) (last last_now last_then : List ℕ) (old now new : Option (List ℕ))
    → AreCopiedSoFar items items_now last last_now old now → IsNextCopied items_now false last_now last_then coming now new
    → AreCopied items last last_then old new
copying_done items items_now coming last last_now last_then old now new so next =
    let all : so.done ≡ items = sym (append-nil so.done) ∙ ap (λ l. so.done ++ l) (sym next.0) ∙ sym so.split in
    record {
      records = subst (All IsRecordItem) all so.records;
      last_is = next.1 ∙ so.last_is ∙ ap (λ l. last_piece last (pieces_of l)) all;
      wrote = subst (λ out. Appends old out (bytes_of (pieces_of items))) (sym next.2)
          (subst (λ (l : List Item). Appends old now (bytes_of (pieces_of l))) all so.wrote);
    }

all_behind : (done rest : List Item) → All IsRecordItem (done ++ rest) → All IsRecordItem rest
all_behind [] rest all = all
all_behind (item ∷ done) rest all = all_behind done rest (All-tail IsRecordItem item (done ++ rest) all)

pub copying_stopped : (items items_now : List Item) (last last_now : List ℕ) (old now : Option (List ℕ)) (place : ℕ)
    → AreCopiedSoFar items items_now last last_now old now → AreNotCopied items_now place → AreNotCopied items place
copying_stopped items items_now last last_now old now place so not = record {
  no_records = λ all. not.no_records (all_behind so.done items_now (subst (All IsRecordItem) so.split all));
  place_is = place_behind items so.done items_now place so.split not.place_is;
}

-- ---- behind a first record

pub all_copied : (piece last last_mid last_now : List ℕ) (items : List Item) (old now new : Option (List ℕ)) → MayFollow last piece → last_mid ≡ piece
    → Appends old now piece → AreCopied items last_mid last_now now new → AreAllCopied piece items last last_now old new
all_copied piece last last_mid last_now items old now new follows swapped wrote rest = record {
  follows = follows;
  records = rest.records;
  last_is = rest.last_is ∙ ap (λ l. last_piece l (pieces_of items)) swapped;
  wrote = appends_then old now new piece (bytes_of (pieces_of items)) wrote rest.wrote;
}

pub not_following : (piece last : List ℕ) (first : ℕ) (items : List Item) → (MayFollow last piece → ⊥) → AreNotAllCopied piece last first items first
not_following piece last first items denied = record { no = λ may all. denied may; place_is = inl refl }

pub not_copied : (piece last : List ℕ) (first : ℕ) (items : List Item) (place : ℕ) → AreNotCopied items place → AreNotAllCopied piece last first items place
not_copied piece last first items place not = record { no = λ may all. not.no_records all; place_is = inr not.place_is }

-- ---- one export

module _ (others items : List Item) (last : List ℕ) where
  pub appended : (place : ℕ) (piece last_now : List ℕ) (coming : List Item) (old new : Option (List ℕ)) → IsAtRecord others items place piece coming
      → AreAllCopied piece coming last last_now old new → IsAppended others items last last_now old new
  appended place piece last_now coming old new at copied =
      let pieces : records_of items ≡ piece ∷ pieces_of coming = ap pieces_of at.next.next ∙ ap (λ p. p ∷ pieces_of coming) at.next.bytes in
      record {
        part = record {
          same = at.same;
          records = subst (All IsRecordItem) (sym at.next.next) (All-cons IsRecordItem at.next.item coming at.next.is_record copied.records);
          follows = subst (CanFollow last) (sym pieces) copied.follows;
        };
        last_is = copied.last_is ∙ ap (last_piece last) (sym pieces);
        wrote = subst (λ l. Appends old new (bytes_of l)) (sym pieces) copied.wrote;
      }

  pub not_appended : (first place : ℕ) (piece : List ℕ) (coming : List Item) → IsAtRecord others items first piece coming
      → AreNotAllCopied piece last first coming place → IsNotAppended others items last place
  not_appended first place piece coming at not =
      let pieces : records_of items ≡ piece ∷ pieces_of coming = ap pieces_of at.next.next ∙ ap (λ p. p ∷ pieces_of coming) at.next.bytes in
      record {
        no_part = λ part. not.no (subst (CanFollow last) pieces part.follows)
            (All-tail IsRecordItem at.next.item coming (subst (All IsRecordItem) at.next.next part.records));
        place_is = by not.place_is;
      }
    where
      by : (place ≡ first) ⊎ IsPlaceIn coming place → IsPlaceIn items place
      by (inl first_is) = subst (IsPlaceIn items) (sym first_is) at.here
      by (inr within) = at.within place within

  pub none_appended : (piece : List ℕ) (coming : List Item) (out : Option (List ℕ)) → ArePassed others items None piece coming
      → IsAppended others items last last out out
  none_appended piece coming out passed =
      let pieces : records_of items ≡ [] = ap pieces_of passed.1 in
      record {
        part = record {
          same = passed.0;
          records = subst (All IsRecordItem) (sym passed.1) (All-nil IsRecordItem);
          follows = subst (CanFollow last) (sym pieces) tt;
        };
        last_is = ap (last_piece last) (sym pieces);
        wrote = subst (λ l. Appends out out (bytes_of l)) (sym pieces) (Appends-nil out);
      }

  pub unlike_appended : (place : ℕ) → IsUnlike others items place → IsNotAppended others items last place
  unlike_appended place unlike = record { no_part = unlike.no_part last; place_is = unlike.place_is }
