-- Why a sure room keeps what it promises.
use Rattle.std.specs.Prelude.{◌≡◌, ◌⊎◌, ℕ, zero, suc, ◌≤◌, false, ◌&&◌, nat_eq, if◌then◌else◌, List, length, Option, Some, None}
use Rattle.std.proofs.Common.{inl, inr, refl, ap, arith}
use Rattle.outside.specs.Room.{IsPromiseKept, bytes_or_none}
use Rattle.outside_sure.specs.SureKept.{told_kept, told_stored, faults_in, faults_out, faults_log, kept_failed_at, kept_promise, IsDrawerWell, IsKeptWell}
use Rattle.outside_sure.specs.SureRoom.{kept_under, sure_room_view}
use Rattle.outside_sure.specs.declared.drawer.Drawer.{Drawer}
use Rattle.outside_sure.specs.declared.kept.Kept.{Kept}
use Rattle.outside_sure.specs.declared.kept.Kept.TheVariants.{Input, InDrawer}
use Rattle.outside_sure.specs.declared.sure_room.SureRoom.{SureRoom}

-- where a count isn't 0, another with it isn't
outs_held : (room outs logs : ℕ) → (outs ≡ 0) ⊎ (room ≤ (if nat_eq outs 0 && nat_eq logs 0 then 0 else room))
outs_held room zero logs = inl refl
outs_held room (suc outs) logs = let some : nat_eq (suc outs) 0 ≡ false = grind arith in inr (rw some (omega arith))

logs_held : {room : ℕ} (drawer : Drawer room) (logs : ℕ) → drawer.log_faults ≡ logs → IsDrawerWell drawer
    → (drawer.log_faults ≡ 0) ⊎ (room ≤ length (bytes_or_none (told_stored drawer.stored)))
logs_held drawer zero is well = inl is
logs_held drawer (suc logs) is well = inr (omega (arith, well.full (λ none. absurd (omega (arith, none, is)))))

-- an input has no fault; an output with one filled the room, and a drawer whose log had one has a file that fills it
pub keeps_promise : {room : ℕ} (sure : SureRoom room) (name : List ℕ) (kept : Option (Kept room)) → kept_under sure name ≡ kept → IsKeptWell kept
    → IsPromiseKept (sure_room_view sure) name (kept_promise kept)
keeps_promise sure name None is well = tt
keeps_promise sure name (Some (Input source)) is well = ap (λ k. faults_in k sure.in_faults) is
keeps_promise {room} sure name (Some (InDrawer drawer)) is well =
    let outs : (faults_out (kept_under sure name) sure.out_faults ≡ 0) ⊎ (room ≤ kept_failed_at (kept_under sure name)) =
    rw is (outs_held room drawer.out_faults drawer.log_faults) in
    let logs : (faults_log (kept_under sure name) sure.log_faults ≡ 0) ⊎ (room ≤ length (bytes_or_none (told_kept (kept_under sure name)))) =
    rw is (logs_held drawer drawer.log_faults refl well) in
    record { outs = outs; logs = logs }
