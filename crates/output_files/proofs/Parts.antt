-- What is left of an output that was ended.
use Rattle.std.proofs.Common.{◌≡◌, ◌∙◌, ℕ, ◌≤◌, max, Bool, true, List, [], ◌++◌, length, Option, Some, Result, OnOk, OnErr, sym, ap, subst, append-nil, arith}
use Rattle.std.specs.Io.KnownBytes.{Appends}
use Rattle.std.proofs.lemmas.List.{length-append}
use Rattle.marc_types.specs.declared.key.Key.{Key}
use Rattle.outside.specs.Sink.{WritesFront}
use Rattle.outside.specs.Room.{RoomView, IsNoneOf, SameBut, IsUntouched, IsPut, IsPutOrNot, Untouched, Put, bytes_or_none}
use Rattle.outside.proofs.Fronts.{appends_told}
use Rattle.outside.proofs.Rooms.{untouched_then, put_or_not}
use Rattle.catalogue_rules.specs.State.{State}
use Rattle.catalogue_rules.specs.Settle.{state_of}
use Rattle.catalogue_rules.specs.Output.{export_of}
use Rattle.catalogue_core.specs.Catalogues.{Catalogued, all_entries}
use Rattle.output_files.specs.Outputs.{IsOldOrWhole, AsItWas, Whole, IsOutputLeft}

-- no more was written than is due
written_most : (empty written : Option (List ℕ)) (due : List ℕ) → empty ≡ Some [] → WritesFront empty written due → length (bytes_or_none written) ≤ length due
written_most empty written due none w =
    let is : written ≡ Some w.front = appends_told empty written [] w.front none w.wrote in
    let len = ap (λ o. length (bytes_or_none o)) is in
    let all = ap length w.split in
    let lengths = length-append w.front w.rest in
    omega (arith, len, all, lengths)

old_or_whole : (old mid new : RoomView) (out due : List ℕ) (empty written : Option (List ℕ)) → IsUntouched old mid out → mid.tells ≡ true → empty ≡ Some []
    → Appends empty written due → IsPutOrNot mid new out written → IsOldOrWhole (old.file out) (new.file out) due
old_or_whole old mid new out due empty written before tells none all (Untouched after) = AsItWas (untouched_then old mid new out before after).file
old_or_whole old mid new out due empty written before tells none all (Put put) = Whole (put.file tells ∙ appends_told empty written [] due none all)

-- an output that was begun, of which all was written, and that was closed
pub left_of_closed : {T E : Type 0} (result : Result T E) (old mid new : RoomView) (out due : List ℕ) (empty written : Option (List ℕ))
    → IsUntouched old mid out → mid.tells ≡ old.tells → mid.failed_at out ≡ old.failed_at out
    → (old.tells ≡ true → empty ≡ Some []) → Appends empty written due → WritesFront empty written due
    → OnOk result (IsPut mid new out written) → OnErr result (IsPutOrNot mid new out written)
    → new.failed_at out ≤ max (mid.failed_at out) (length (bytes_or_none written)) → old.tells ≡ true → IsOutputLeft old new out due
left_of_closed result old mid new out due empty written before tells same none all front put or_not most told =
    let fewer = written_most empty written due (none told) front in
    record {
      file = old_or_whole old mid new out due empty written before (tells ∙ told) (none told) all (put_or_not result mid new out written put or_not);
      failed_at = omega (arith, same, most, fewer);
    }

-- one that was begun, and given up
pub left_of_given_up : (old mid new : RoomView) (out due : List ℕ) (empty written : Option (List ℕ))
    → IsUntouched old mid out → mid.failed_at out ≡ old.failed_at out → (old.tells ≡ true → empty ≡ Some []) → WritesFront empty written due
    → IsUntouched mid new out → new.failed_at out ≤ max (mid.failed_at out) (length (bytes_or_none written)) → old.tells ≡ true
    → IsOutputLeft old new out due
left_of_given_up old mid new out due empty written before same none front after most told =
    let fewer = written_most empty written due (none told) front in
    record { file = AsItWas (untouched_then old mid new out before after).file; failed_at = omega (arith, same, most, fewer) }

-- one that wasn't begun
pub left_unbegun : (old new : RoomView) (out due : List ℕ) → new.file out ≡ old.file out → new.failed_at out ≡ old.failed_at out → IsOutputLeft old new out due
left_unbegun old new out due file same = record { file = AsItWas file; failed_at = omega (arith, same) }

-- an output seen from an earlier moment, between which and its beginning nothing changed but under other names
pub left_since : (old mid new : RoomView) (out due : List ℕ) (names : List (List ℕ)) → IsNoneOf out names → SameBut old mid names
    → IsOutputLeft mid new out due → IsOutputLeft old new out due
left_since old mid new out due names other apart left =
    let same = apart.failed_ats out other in
    let most = left.failed_at in
    record {
      file = subst (λ f. IsOldOrWhole f (new.file out) due) (apart.files out other) left.file;
      failed_at = omega (arith, same, most);
    }

-- and at a later one
pub left_until : (old mid new : RoomView) (out due : List ℕ) (names : List (List ℕ)) → IsNoneOf out names → SameBut mid new names
    → IsOutputLeft old mid out due → IsOutputLeft old new out due
left_until old mid new out due names other apart left =
    let same = apart.failed_ats out other in
    let most = left.failed_at in
    record {
      file = subst (λ f. IsOldOrWhole (old.file out) f due) (sym (apart.files out other)) left.file;
      failed_at = omega (arith, same, most);
    }

-- of an export, where nothing is staged
pub left_of_history : (kept : Key → Bool) (s : State) (core : Catalogued) (old new : RoomView) (out : List ℕ)
    → core.staged ≡ [] → s ≡ state_of (all_entries core) → IsOutputLeft old new out (export_of kept s)
    → IsOutputLeft old new out (export_of kept (state_of core.history))
left_of_history kept s core old new out settled is left =
    let history : s ≡ state_of core.history = is ∙ ap state_of (ap (λ es. core.history ++ es) settled ∙ append-nil core.history) in
    subst (λ state. IsOutputLeft old new out (export_of kept state)) history left
