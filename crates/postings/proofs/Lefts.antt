-- What is left of a count beside what stands: the count is of all rows, standing or taken, so what is left is of those that are taken.
use Rattle.std.proofs.Common.{◌≡◌, refl, ℕ, ◌+◌, ◌-◌, ◌≤◌, arith, Bool, true, false}
use Rattle.std.specs.Prelude.{if◌then◌else◌}

pub take_left : (here : Bool) (count stand it : ℕ) → stand ≤ count → (here ≡ true → stand ≡ it) → count - (if here then 0 else stand) ≡ count - stand + (if here then it else 0)
take_left true count stand it sound was = let e = was refl in omega arith
take_left false count stand it sound was = omega arith

pub take_sound : (here : Bool) (count stand : ℕ) → stand ≤ count → (if here then 0 else stand) ≤ count
take_sound true count stand sound = omega arith
take_sound false count stand sound = sound

pub put_left : (here : Bool) (count stand it : ℕ) → (here ≡ true → stand ≡ 0) → count - (if here then it else stand) ≡ count - stand - (if here then it else 0)
put_left true count stand it free = let e = free refl in omega arith
put_left false count stand it free = omega arith

pub put_sound : (here : Bool) (count stand it : ℕ) → stand ≤ count → (here ≡ true → stand ≡ 0) → (here ≡ true → it ≤ count - stand) → (if here then it else stand) ≤ count
put_sound true count stand it sound free taken = let e = free refl in let t = taken refl in omega arith
put_sound false count stand it sound free taken = sound

pub room_left : (here : Bool) (count stand it : ℕ) → stand ≤ count → count + (if here then it else 0) - stand ≡ count - stand + (if here then it else 0)
room_left true count stand it sound = omega arith
room_left false count stand it sound = omega arith

pub gone_left : (here : Bool) (count stand it : ℕ) → count - (if here then it else 0) - stand ≡ count - stand - (if here then it else 0)
gone_left true count stand it = omega arith
gone_left false count stand it = omega arith

pub gone_sound : (here : Bool) (count stand it : ℕ) → stand ≤ count → (here ≡ true → it ≤ count - stand) → stand ≤ count - (if here then it else 0)
gone_sound true count stand it sound taken = let t = taken refl in omega arith
gone_sound false count stand it sound taken = omega arith
