-- What several calls on a room leave the same.
use Rattle.std.proofs.Common.{◌≡◌, ℕ, List, [], ◌∷◌, Option, Result, Ok, Err, OnOk, OnErr, refl, ◌∙◌, arith}
use Rattle.outside.proofs.Disks.{same_disk, same_disk_then}
use Rattle.outside.specs.Room.{RoomView, IsNoneOf, SameBut, IsUntouched, IsPut, IsPutOrNot, Untouched, Put}

-- before the first call
pub same_but_itself : (a : RoomView) (names : List (List ℕ)) → SameBut a a names
same_but_itself a names = record {
  tells = refl;
  files = λ n _. refl;
  open_names = λ n _. refl;
  log_names = λ n _. refl;
  logs = λ n _ _. same_disk (a.log n);
  ins = λ n. omega arith;
  outs = λ n. omega arith;
  log_counts = λ n. omega arith;
  failed_ats = λ n _. refl;
  promises = λ n. refl;
  sizes = refl;
}

-- one call after the other
pub same_but_then : (a b c : RoomView) (names : List (List ℕ)) → SameBut a b names → SameBut b c names → SameBut a c names
same_but_then a b c names first second = record {
  tells = second.tells ∙ first.tells;
  files = λ n other. second.files n other ∙ first.files n other;
  open_names = λ n other. second.open_names n other ∙ first.open_names n other;
  log_names = λ n other. second.log_names n other ∙ first.log_names n other;
  logs = λ n other is. same_disk_then (a.log n) (b.log n) (c.log n) (first.logs n other is) (second.logs n other (first.log_names n other ∙ is));
  ins = λ n. omega (arith, first.ins n, second.ins n);
  outs = λ n. omega (arith, first.outs n, second.outs n);
  log_counts = λ n. omega (arith, first.log_counts n, second.log_counts n);
  failed_ats = λ n other. second.failed_ats n other ∙ first.failed_ats n other;
  promises = λ n. second.promises n ∙ first.promises n;
  sizes = second.sizes ∙ first.sizes;
}

-- the same but for names that are all among these
pub same_but_more : (a b : RoomView) (names more : List (List ℕ)) → ((n : List ℕ) → IsNoneOf n more → IsNoneOf n names)
    → SameBut a b names → SameBut a b more
same_but_more a b names more fewer same = record {
  tells = same.tells;
  files = λ n other. same.files n (fewer n other);
  open_names = λ n other. same.open_names n (fewer n other);
  log_names = λ n other. same.log_names n (fewer n other);
  logs = λ n other. same.logs n (fewer n other);
  ins = same.ins;
  outs = same.outs;
  log_counts = same.log_counts;
  failed_ats = λ n other. same.failed_ats n (fewer n other);
  promises = same.promises;
  sizes = same.sizes;
}

-- where nothing changed
pub same_but_none : (a b : RoomView) (names : List (List ℕ)) → SameBut a b [] → SameBut a b names
same_but_none a b names same = same_but_more a b [] names (λ n other. tt) same

-- the same but for the first of these names
pub same_but_first : (a b : RoomView) (name : List ℕ) (names : List (List ℕ)) → SameBut a b (name ∷ []) → SameBut a b (name ∷ names)
same_but_first a b name names same = same_but_more a b (name ∷ []) (name ∷ names) (λ n other. (other.0, tt)) same

-- a name before the first call
pub untouched_itself : (a : RoomView) (name : List ℕ) → IsUntouched a a name
untouched_itself a name = record { file = refl; is_log = refl; log = λ _. same_disk (a.log name) }

-- a name under which nothing changed
pub untouched_same : (a b : RoomView) (name : List ℕ) → SameBut a b [] → IsUntouched a b name
untouched_same a b name same = record { file = same.files name tt; is_log = same.log_names name tt; log = same.logs name tt }

-- one call after the other
pub untouched_then : (a b c : RoomView) (name : List ℕ) → IsUntouched a b name → IsUntouched b c name → IsUntouched a c name
untouched_then a b c name first second = record {
  file = second.file ∙ first.file;
  is_log = second.is_log ∙ first.is_log;
  log = λ is. same_disk_then (a.log name) (b.log name) (c.log name) (first.log is) (second.log (first.is_log ∙ is));
}

put_then : (a b c : RoomView) (name : List ℕ) (bytes : Option (List ℕ)) → b.tells ≡ a.tells → IsPut b c name bytes → IsPut a c name bytes
put_then a b c name bytes tells put = record { file = λ told. put.file (tells ∙ told); no_log = put.no_log }

-- an output that was begun, and then closed
pub put_or_not_then : (a b c : RoomView) (name : List ℕ) (bytes : Option (List ℕ)) → b.tells ≡ a.tells → IsUntouched a b name
    → IsPutOrNot b c name bytes → IsPutOrNot a c name bytes
put_or_not_then a b c name bytes tells first (Untouched second) = Untouched (untouched_then a b c name first second)
put_or_not_then a b c name bytes tells first (Put put) = Put (put_then a b c name bytes tells put)

-- however a close ended
pub put_or_not : {T E : Type 0} (result : Result T E) (a b : RoomView) (name : List ℕ) (bytes : Option (List ℕ)) → OnOk result (IsPut a b name bytes)
    → OnErr result (IsPutOrNot a b name bytes) → IsPutOrNot a b name bytes
put_or_not (Ok value) a b name bytes put or_not = Put put
put_or_not (Err fault) a b name bytes put or_not = or_not
