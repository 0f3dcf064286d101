-- The frame of a batch: a front of the batch, in the origin's run.
use Rattle.std.proofs.Common.{◌≡◌, ◌∙◌, ℕ, ◌+◌, ◌≤◌, Bool, true, false, List, [], ◌∷◌, ◌++◌, length, ◌⊎◌, inl, inr, append_assoc, append-nil, refl, sym, ap, subst, arith, length-append}
use Rattle.std.specs.Prelude.{nat_lt}
use Rattle.std.proofs.lemmas.Bool.{or_parts, ltb-false}
use Rattle.marc_types.specs.declared.entry.Entry.{Entry}
use Rattle.marc_types.specs.declared.entry.Limits.{Limits}
use Rattle.entry_record.specs.History.{in_run, with_run, entry_size, entries_size, passes_limits}
use Rattle.entry_history.specs.Commits.{fitting}

fitting_none : (limits : Limits) (before : List Entry) → fitting limits before [] ≡ []
unfolding fitting
fitting_none limits before = refl

fitting_full : (limits : Limits) (before : List Entry) (e : Entry) (es : List Entry) → passes_limits limits before e ≡ true → fitting limits before (e ∷ es) ≡ []
unfolding fitting
fitting_full limits before e es full = rw full refl

fitting_on : (limits : Limits) (before : List Entry) (e : Entry) (es : List Entry) → passes_limits limits before e ≡ false
    → fitting limits before (e ∷ es) ≡ e ∷ fitting limits (before ++ e ∷ []) es
unfolding fitting
fitting_on limits before e es room = rw room refl

-- the next of the entries that are left passes a limit
pub record Stops (limits : Limits) (run : ℕ) (before rest : List Entry) : Type 0 where
  pub next : Entry
  pub more : List Entry
  pub rest_is : rest ≡ next ∷ more
  pub passes : passes_limits limits before (in_run run next) ≡ true

pub record Fits (limits : Limits) (run : ℕ) (before batch : List Entry) : Type 0 where
  pub front : List Entry
  pub rest : List Entry
  pub split : batch ≡ front ++ rest
  pub frame : fitting limits before (with_run run batch) ≡ with_run run front
  pub stops : (rest ≡ []) ⊎ Stops limits run (before ++ with_run run front) rest

pub fits : (limits : Limits) (run : ℕ) (before batch : List Entry) → Fits limits run before batch
fits limits run before [] = record { front = []; rest = []; split = refl; frame = fitting_none limits before; stops = inl refl }
fits limits run before (e ∷ es) = decided (passes_limits limits before (in_run run e)) refl (fits limits run (before ++ in_run run e ∷ []) es)
  where
    decided : (full : Bool) → passes_limits limits before (in_run run e) ≡ full → Fits limits run (before ++ in_run run e ∷ []) es → Fits limits run before (e ∷ es)
    decided true full f = record {
      front = [];
      rest = e ∷ es;
      split = refl;
      frame = fitting_full limits before (in_run run e) (with_run run es) full;
      stops = inr (record { next = e; more = es; rest_is = refl; passes = subst (λ b. passes_limits limits b (in_run run e) ≡ true) (sym (append-nil before)) full });
    }
    decided false room f = record {
      front = e ∷ f.front;
      rest = f.rest;
      split = ap (λ l. e ∷ l) f.split;
      frame = fitting_on limits before (in_run run e) (with_run run es) room ∙ ap (λ l. in_run run e ∷ l) f.frame;
      stops = subst (λ b. (f.rest ≡ []) ⊎ Stops limits run b f.rest) (append_assoc before (in_run run e ∷ []) (with_run run f.front)) f.stops;
    }

-- a frame with an entry is within the limits
pub data IsWithin (most : ℕ) (before frame : List Entry) : Type 0 where
  NoEntry : frame ≡ [] → IsWithin most before frame
  Within : length before + length frame ≤ most → IsWithin most before frame

pub frame_within : (limits : Limits) (before es : List Entry) → IsWithin limits.entries before (fitting limits before es)
frame_within limits before [] = NoEntry (fitting_none limits before)
frame_within limits before (e ∷ es) = decided (passes_limits limits before e) refl (frame_within limits (before ++ e ∷ []) es)
  where
    room_for_one : passes_limits limits before e ≡ false → length before + 1 ≤ limits.entries
    room_for_one room =
        let parts = or_parts (nat_lt limits.entries (length before + 1)) (nat_lt limits.bytes (entries_size before + entry_size e)) room in
        ltb-false limits.entries (length before + 1) parts.0

    one_on : (frame : List Entry) → length before + 1 ≤ limits.entries → IsWithin limits.entries (before ++ e ∷ []) frame → IsWithin limits.entries before (e ∷ frame)
    one_on frame room (NoEntry none) = Within (omega (arith, room, ap (length {A = Entry}) none))
    one_on frame room (Within within) = Within (omega (arith, within, length-append before (e ∷ [])))

    decided : (full : Bool) → passes_limits limits before e ≡ full → IsWithin limits.entries (before ++ e ∷ []) (fitting limits (before ++ e ∷ []) es) → IsWithin limits.entries before (fitting limits before (e ∷ es))
    decided true full w = NoEntry (fitting_full limits before e es full)
    decided false room w = subst (IsWithin limits.entries before) (sym (fitting_on limits before e es room)) (one_on (fitting limits (before ++ e ∷ []) es) (room_for_one room) w)
