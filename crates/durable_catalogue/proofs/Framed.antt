-- How many bytes frames have.
use Rattle.std.proofs.Common.{◌≡◌, ℕ, ◌+◌, ◌≤◌, List, [], ◌∷◌, ◌++◌, length, subst, ap, arith, length-append}
use Rattle.std.specs.List.{All, flat_map}
use Rattle.marc_types.specs.declared.entry.Entry.{Entry}
use Rattle.commit_journal.specs.declared.format.TheConstants.{LENGTH_BYTES}
use Rattle.entry_history.specs.Format.{entry_bytes, payload_bytes}
use Rattle.entry_history.specs.Payloads.{IsOf, Holds, Newer, Older}
use Rattle.entry_history.proofs.Batches.{front, length-front, payload-front}
use Rattle.durable_catalogue.specs.Images.{framed_length, framed_lengths}

pub framed_append : (entries more : List Entry) → framed_lengths (entries ++ more) ≡ framed_lengths entries + framed_lengths more
framed_append [] more = omega arith
framed_append (e ∷ es) more = let rest = framed_append es more in omega (arith, rest)

-- the head of a payload, and its entries
length-payload : (run loader : ℕ) (library : List ℕ) (entries : List Entry)
    → length (payload_bytes run loader library entries) ≡ 14 + length library + length (flat_map entry_bytes entries)
length-payload run loader library entries =
    rw (payload-front run loader library entries)
    (omega (arith, length-append (front run loader library) (length entries ∷ flat_map entry_bytes entries), length-front run loader library))

alone : (e : Entry) → framed_length e ≡ LENGTH_BYTES + 15 + length e.library + length (entry_bytes e)
alone e = omega (arith, length-payload e.run e.loader e.library (e ∷ []), length-append (entry_bytes e) [])

each_alone : (entries : List Entry) → length (flat_map entry_bytes entries) ≤ framed_lengths entries
each_alone [] = omega arith
each_alone (e ∷ es) = omega (arith, length-append (entry_bytes e) (flat_map entry_bytes es), alone e, each_alone es)

-- one frame of several entries has one head, so it is no longer than a frame for each of them
together : (run loader : ℕ) (library : List ℕ) (entries : List Entry) → 1 ≤ length entries → All (IsOf run loader library) entries
    → LENGTH_BYTES + length (payload_bytes run loader library entries) + 1 ≤ framed_lengths entries
together run loader library [] some shared = absurd (omega (arith, some))
together run loader library (e ∷ es) some shared =
    let same = ap length (shared 0 e (omega arith)).library_is in
    omega (
      arith,
      same,
      length-payload run loader library (e ∷ es),
      length-append (entry_bytes e) (flat_map entry_bytes es),
      alone e,
      each_alone es,
    )

pub held_together : (before entries : List Entry) (payload : List ℕ) → Holds 2 before entries payload
    → LENGTH_BYTES + length payload + 1 ≤ framed_lengths entries
held_together before entries payload (Newer newest now) =
    subst (λ p. LENGTH_BYTES + length p + 1 ≤ framed_lengths entries) now.written
    (together now.run now.loader now.library entries now.count.some now.shared)
held_together before entries payload (Older old held) = cc
