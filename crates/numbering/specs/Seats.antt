-- Seats: when two are the same, their order, and what a hash table reads of one.
use Rattle.std.specs.Prelude.{◌≡◌, Bool, true, ◌&&◌, ◌==◌, ◌++◌, refl}
use Rattle.std.specs.Bool.{Decides}
use Rattle.std.specs.declared.cmp.Ordering.{Ordering}
use Rattle.std.specs.Ordering.{nat_cmp, on, then_cmp, is_eq, eq_by_cmp}
use Rattle.std.specs.Cmp.{IsTotalOrder, then_total, on_total, nat_cmp_total, tied_then, first_so, second_so, unsigned_Decides, unsigned_ties}
use Rattle.std.specs.Hash.{HashWrites}
use Rattle.std.specs.Hash as fed
use Rattle.std.proofs.Common.{ap, subst, ◌∙◌}
use Rattle.marc_types.specs.declared.key.Class.{Class}
use Rattle.marc_types.specs.declared.key.Class.TheVariants.{Authority, Bibliographic}
use Rattle.marc_types.specs.Order.{class_rank}
use Rattle.numbering.specs.declared.seat.Seat.{Seat}

class_rank_same : (x y : Class) → class_rank x ≡ class_rank y → x ≡ y
class_rank_same Authority Authority e = refl
class_rank_same Authority Bibliographic e = cc
class_rank_same Bibliographic Authority e = cc
class_rank_same Bibliographic Bibliographic e = refl

-- the same field of the same record
unfoldable pub same_seat : Seat → Seat → Bool
same_seat x y = (class_rank x.class == class_rank y.class) && ((x.number == y.number) && (x.field == y.field))

pub seat_Decides : (x y : Seat) → Decides (same_seat x y) (x ≡ y)
unfolding same_seat
seat_Decides x y =
    let to : same_seat x y ≡ true → x ≡ y = λ h.
    let ranks : (class_rank x.class == class_rank y.class) ≡ true =
    first_so (class_rank x.class == class_rank y.class) ((x.number == y.number) && (x.field == y.field)) h in
    let class : x.class ≡ y.class =
    class_rank_same x.class y.class ((unsigned_Decides (class_rank x.class) (class_rank y.class)).0 ranks) in
    let numbers : ((x.number == y.number) && (x.field == y.field)) ≡ true =
    second_so (class_rank x.class == class_rank y.class) ((x.number == y.number) && (x.field == y.field)) h in
    let number : x.number ≡ y.number = (unsigned_Decides x.number y.number).0 (first_so (x.number == y.number) (x.field == y.field) numbers) in
    let field : x.field ≡ y.field = (unsigned_Decides x.field y.field).0 (second_so (x.number == y.number) (x.field == y.field) numbers) in
    λ i. record { class = class i; number = number i; field = field i } in
    let itself : same_seat x x ≡ true =
    ap (λ b. b && ((x.number == x.number) && (x.field == x.field))) ((unsigned_Decides (class_rank x.class) (class_rank x.class)).1 refl)
    ∙ ap (λ b. b && (x.field == x.field)) ((unsigned_Decides x.number x.number).1 refl)
    ∙ (unsigned_Decides x.field x.field).1 refl in
    (to, λ e. subst (λ z. same_seat x z ≡ true) e itself)

-- by the class, then by the number, then by the field
unfoldable pub seat_cmp : Seat → Seat → Ordering
seat_cmp = then_cmp (on (λ s. class_rank s.class) nat_cmp) (then_cmp (on (λ s. s.number) nat_cmp) (on (λ s. s.field) nat_cmp))

pub seat_cmp_total : IsTotalOrder seat_cmp
unfolding seat_cmp
seat_cmp_total =
    then_total (on_total (λ s. class_rank s.class) nat_cmp_total) (then_total (on_total (λ s. s.number) nat_cmp_total) (on_total (λ s. s.field) nat_cmp_total))

-- the order ties the same seats
pub seat_ties : (x y : Seat) → same_seat x y ≡ eq_by_cmp seat_cmp x y
unfolding same_seat seat_cmp
seat_ties x y =
    (λ i. unsigned_ties (class_rank x.class) (class_rank y.class) i && (unsigned_ties x.number y.number i && unsigned_ties x.field y.field i))
    ∙ ap (λ b. is_eq (nat_cmp (class_rank x.class) (class_rank y.class)) && b) (tied_then (nat_cmp x.number y.number) (nat_cmp x.field y.field))
    ∙ tied_then (nat_cmp (class_rank x.class) (class_rank y.class)) (then_cmp (on (λ s. s.number) nat_cmp) (on (λ s. s.field) nat_cmp) x y)

-- what a hash table reads of a seat
unfoldable pub seat_writes : Seat → HashWrites
seat_writes seat = fed.u32 seat.number ++ fed.u32 seat.field

pub seat_writes_alike : (x y : Seat) → same_seat x y ≡ true → seat_writes x ≡ seat_writes y
seat_writes_alike x y h = ap seat_writes ((seat_Decides x y).0 h)
