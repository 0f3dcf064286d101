-- What a writer gained, from one write to the next.
use Rattle.std.proofs.Common.{◌≡◌, ◌≤◌, ◌+◌, ◌-◌, ℕ, List, Option, length, take, drop, sym, arith, length-drop, take_all, take-add, take-append-drop}
use Rattle.std.specs.Io.KnownBytes.{Appends, Keeps}
use Rattle.std.proofs.KnownBytes.{Appends-kept, Appends-trans}
use Rattle.outside.specs.Sink.{WritesFront}

-- the first bytes are a front
pub front_taken : (a b : Option (List ℕ)) (n : ℕ) (bytes : List ℕ) → Appends a b (take n bytes) → WritesFront a b bytes
front_taken a b n bytes wrote = record { front = take n bytes; rest = drop n bytes; split = sym (take-append-drop n bytes); wrote = wrote }

-- all bytes are taken
pub all_taken : (a b : Option (List ℕ)) (n : ℕ) (bytes : List ℕ) → length bytes ≤ n → Appends a b (take n bytes) → Appends a b bytes
all_taken a b n bytes all wrote = rw (take_all n bytes all) at wrote

-- what was gained stays where the writer keeps what it has
pub appends_kept : (a b c : Option (List ℕ)) (bytes : List ℕ) → Appends a b bytes → Keeps b c → Appends a c bytes
appends_kept a b c bytes wrote kept = Appends-kept a b c bytes wrote kept

-- a front stays where the writer keeps what it has
pub front_kept : (a b c : Option (List ℕ)) (bytes : List ℕ) → WritesFront a b bytes → Keeps b c → WritesFront a c bytes
front_kept a b c bytes w kept = record { front = w.front; rest = w.rest; split = w.split; wrote = Appends-kept a b c w.front w.wrote kept }

-- a slice from a place to the end
slice_end : (bytes : List ℕ) (s : ℕ) → take (length bytes - s) (drop s bytes) ≡ drop s bytes
slice_end bytes s = take_all (length bytes - s) (drop s bytes) (let e = length-drop s bytes in omega (arith, e))

-- the next write took so many of the bytes that were left
pub more_taken : (a b c : Option (List ℕ)) (s n : ℕ) (bytes : List ℕ) → Appends a b (take s bytes)
    → Appends b c (take n (take (length bytes - s) (drop s bytes))) → Appends a c (take (s + n) bytes)
more_taken a b c s n bytes before next =
    let taken : Appends b c (take n (drop s bytes)) = rw (slice_end bytes s) at next in
    rw (take-add s n bytes) (Appends-trans a b c (take s bytes) (take n (drop s bytes)) before taken)

-- and no more than there are
pub within_taken : (s n : ℕ) (bytes : List ℕ) → s ≤ length bytes → n ≤ length (take (length bytes - s) (drop s bytes)) → s + n ≤ length bytes
within_taken s n bytes within bound =
    let e = length-drop s bytes in
    let short : n ≤ length (drop s bytes) = rw (slice_end bytes s) at bound in
    omega (arith, e, short)
