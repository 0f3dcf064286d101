-- Rows of one seat that go out of the tables, and come back.
use Rattle.std.proofs.Common.{◌≡◌, ◌∙◌, sym, ap, refl, subst, ℕ, ◌+◌, arith, Bool, true, false, cond, Option, Some, None, IfSome, IfNone}
use Rattle.std.specs.Prelude.{◌-◌}
use Rattle.numbering.specs.Seats.{same_seat, seat_Decides}
use Rattle.numbering.specs.declared.seat.Seat.{Seat}
use Rattle.link_table.specs.Links.{Links, row_of, with_key}
use Rattle.link_table.specs.declared.link.Link.{Link}
use Rattle.wait_table.specs.Waits.{Waits, row_of as wait_row_of, with_waiting}
use Rattle.wait_table.specs.declared.waiting.Waiting.{Waiting}
use Rattle.wait_table.specs.declared.waiting.WaitRow.{WaitRow}
use Rattle.catalogue_tables.specs.Told.{TakesLink}
use Rattle.catalogue_tables.specs.Waiting.{TakesWait}
use Rattle.linked_store.specs.Contents.{at_seat}
use Rattle.linked_store.specs.Rooms.{link_out, wait_out}

-- nothing taken out of a seat that has nothing
pub none_at : {V : Type 0} (seat : Seat) (things : Seat → Option V) → things seat ≡ None → (s : Seat) → things s ≡ at_seat seat None things s
none_at {V} seat things free s = by (same_seat seat s) refl
  where
    by : (b : Bool) → same_seat seat s ≡ b → things s ≡ cond b None (things s)
    by true e = ap things (sym ((seat_Decides seat s).0 e)) ∙ free
    by false e = refl

plus_none : (n : ℕ) → n ≡ n + 0
plus_none n = omega arith

there_and_back : (n m : ℕ) → (n + m) - m ≡ n
there_and_back n m = omega arith

-- ---- links

-- nothing goes out of a seat that is linked to none
pub link_none_out : (seat : Seat) (l : Links) → l.key_of seat ≡ None → link_out seat None l ≡ l
link_none_out seat l free =
    sym (λ i. record {
      key_of = λ s. none_at seat l.key_of free s i;
      taken = λ s. plus_none (l.taken s) i;
      taken_from = λ n s. plus_none (l.taken_from n s) i;
    })

took_by : (seat : Seat) (old new : Links) (number : Option ℕ) → old.key_of seat ≡ number → IfSome (row_of seat number) (λ link. TakesLink link old new)
    → IfNone (row_of seat number) (new ≡ old) → new ≡ link_out seat number old
took_by seat old new None is some none = none ∙ sym (link_none_out seat old is)
took_by seat old new (Some number) is some none = some.is

pub took_link : (seat : Seat) (old new : Links) (row : Option Link) → row ≡ row_of seat (old.key_of seat) → IfSome row (λ link. TakesLink link old new) → IfNone row (new ≡ old)
    → new ≡ link_out seat (old.key_of seat) old
took_link seat old new row is some none =
    took_by seat old new (old.key_of seat) refl (subst (λ r. IfSome r (λ link. TakesLink link old new)) is some) (subst (λ r. IfNone r (new ≡ old)) is none)

pub nothing_out : (seat : Seat) (number : Option ℕ) → None ≡ row_of seat number → None ≡ number
nothing_out seat None e = refl
nothing_out seat (Some number) e = cc

pub link_stays_out : (seat : Seat) (old new : Links) → None ≡ row_of seat (old.key_of seat) → new ≡ old → new ≡ with_key seat None old
link_stays_out seat old new e same =
    let free : old.key_of seat ≡ None = sym (nothing_out seat (old.key_of seat) e) in
    same ∙ (λ i. record { key_of = λ s. none_at seat old.key_of free s i; taken = old.taken; taken_from = old.taken_from })

-- ---- what seats wait for

-- nothing goes out of a seat that waits for nothing
pub wait_none_out : (seat : Seat) (w : Waits) → w.waiting seat ≡ None → wait_out seat None w ≡ w
wait_none_out seat w free =
    sym (λ i. record {
      waiting = λ s. none_at seat w.waiting free s i;
      taken = λ s. plus_none (w.taken s) i;
      taken_forms = λ n s. plus_none (w.taken_forms n s) i;
      taken_keys = λ n s. plus_none (w.taken_keys n s) i;
    })

waited_by : (seat : Seat) (old new : Waits) (waiting : Option Waiting) → old.waiting seat ≡ waiting → IfSome (wait_row_of seat waiting) (λ row. TakesWait row old new)
    → IfNone (wait_row_of seat waiting) (new ≡ old) → new ≡ wait_out seat waiting old
waited_by seat old new None is some none = none ∙ sym (wait_none_out seat old is)
waited_by seat old new (Some waiting) is some none = some.is

pub took_waiting : (seat : Seat) (old new : Waits) (row : Option WaitRow) → row ≡ wait_row_of seat (old.waiting seat) → IfSome row (λ r. TakesWait r old new) → IfNone row (new ≡ old)
    → new ≡ wait_out seat (old.waiting seat) old
took_waiting seat old new row is some none =
    waited_by seat old new (old.waiting seat) refl (subst (λ r. IfSome r (λ w. TakesWait w old new)) is some) (subst (λ r. IfNone r (new ≡ old)) is none)

pub nothing_waits : (seat : Seat) (waiting : Option Waiting) → None ≡ wait_row_of seat waiting → None ≡ waiting
nothing_waits seat None e = refl
nothing_waits seat (Some waiting) e = cc

pub waiting_stays_out : (seat : Seat) (old new : Waits) → None ≡ wait_row_of seat (old.waiting seat) → new ≡ old → new ≡ with_waiting seat None old
waiting_stays_out seat old new e same =
    let free : old.waiting seat ≡ None = sym (nothing_waits seat (old.waiting seat) e) in
    same ∙ (λ i. record { waiting = λ s. none_at seat old.waiting free s i; taken = old.taken; taken_forms = old.taken_forms; taken_keys = old.taken_keys })

-- ---- no row to go

-- what now stands at a seat
pub gone_at : {V : Type 0} (seat : Seat) (now : Option V) (things : Seat → Option V) → at_seat seat now things seat ≡ now
gone_at seat now things = ap (λ b. cond b now (things seat)) ((seat_Decides seat seat).1 refl)

pub link_unmoved : (seat : Seat) (old new : Links) (row : Option Link) → ((link : Link) → row ≡ Some link → ⊥) → row ≡ row_of seat (old.key_of seat) → IfNone row (new ≡ old) → new ≡ with_key seat None old
link_unmoved seat old new None none is same = link_stays_out seat old new is same
link_unmoved seat old new (Some row) none is same = absurd (none row refl)

pub waiting_unmoved : (seat : Seat) (old new : Waits) (row : Option WaitRow) → ((r : WaitRow) → row ≡ Some r → ⊥) → row ≡ wait_row_of seat (old.waiting seat) → IfNone row (new ≡ old) → new ≡ with_waiting seat None old
waiting_unmoved seat old new None none is same = waiting_stays_out seat old new is same
waiting_unmoved seat old new (Some row) none is same = absurd (none row refl)
