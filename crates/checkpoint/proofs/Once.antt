-- What is written so is spelled once: its bytes, whatever stands behind them, are those of nothing else.
use mathlib.Core.HLevel.{is_prop→PathP}
use Rattle.std.proofs.Common.{◌≡◌, ◌∙◌, ℕ, suc, ◌+◌, ◌^◌, ◌<◌, ◌≤◌, Bool, true, false, List, [], ◌∷◌, ◌++◌, length, Option, Some, None, is_some, refl, sym, ap, arith, append_assoc}
use native.Mathlib.Nat.{ℕ_set}
use Rattle.std.specs.Prelude.{◌==◌, ◌%◌, ◌/◌}
use Rattle.std.specs.Int.{w32, to_be_bytes}
use Rattle.std.specs.List.{All, flat_map}
use Rattle.marc_types.specs.declared.key.Class.{Class}
use Rattle.marc_types.specs.declared.key.Class.TheVariants.{Authority, Bibliographic}
use Rattle.marc_types.specs.declared.key.Key.{Key}
use Rattle.marc_types.specs.declared.entry.Tie.{Tie}
use Rattle.marc_types.specs.declared.record.Record.{Record}
use Rattle.iso2709_record.specs.Written.{record_bytes}
use Rattle.iso2709_record.proofs.Spelled.{parts_same, record_spelled_once}
use Rattle.iso2709_record.proofs.Lengths.{length-record_bytes}
use Rattle.entry_record.proofs.Spelled.{short_once, record_is}
use Rattle.entry_record.proofs.Written.{fitting_length}
use Rattle.entry_record.specs.Identity.{control_number_of}
use Rattle.kept_rows.specs.declared.row.KeptRow.{KeptRow}
use Rattle.checkpoint.specs.Format.{coded, sized, key_bytes, optional_key_bytes, flag, tie_flags, tie_bytes, class_byte, head_bytes, row_bytes}
use Rattle.checkpoint.specs.Parts.{IsProperTie, IsWritable, IsKeptRow}
use Rattle.checkpoint.proofs.Kept.{row_written}

-- a value that can stand there is told by its bytes
pub record IsSpelledOnce {X : Type 0} (written : X → List ℕ) (Can : X → Type 0) : Type 0 where
  pub once : (x y : X) (r s : List ℕ) → Can x → Can y → written x ++ r ≡ written y ++ s → (x ≡ y) × (r ≡ s)

pub cons_first : {X : Type 0} (a b : X) (x y : List X) → a ∷ x ≡ b ∷ y → a ≡ b
cons_first a b x y e = cc

pub cons_others : {X : Type 0} (a b : X) (x y : List X) → a ∷ x ≡ b ∷ y → x ≡ y
cons_others a b x y e = cc

pub coded_once : (a b r s : List ℕ) → coded a ++ r ≡ coded b ++ s → (a ≡ b) × (r ≡ s)
unfolding coded
coded_once a b r s e = parts_same a b r s (cons_first _ _ _ _ e) (cons_others _ _ _ _ e)

pub sized_parts : (a r : List ℕ) → sized a ++ r ≡ to_be_bytes w32 (length a) ++ (a ++ r)
unfolding sized
sized_parts a r = append_assoc (to_be_bytes w32 (length a)) a r

pub sized_once : (a b r s : List ℕ) → length a < 2 ^ 32 → length b < 2 ^ 32 → sized a ++ r ≡ sized b ++ s → (a ≡ b) × (r ≡ s)
sized_once a b r s p q e =
    let lengths = short_once (length a) (length b) (a ++ r) (b ++ s) p q (sym (sized_parts a r) ∙ e ∙ sized_parts b s) in
    parts_same a b r s lengths.0 lengths.1

-- a key is its code and its number
pub key_is : (x y : Key) → x.code ≡ y.code → x.number ≡ y.number → x ≡ y
key_is x y code number = λ i. record { code = code i; number = number i }

pub key_parts : (x : Key) (r : List ℕ) → key_bytes x ++ r ≡ coded x.code ++ (coded x.number ++ r)
unfolding key_bytes
key_parts x r = append_assoc (coded x.code) (coded x.number) r

pub key_once : (x y : Key) (r s : List ℕ) → key_bytes x ++ r ≡ key_bytes y ++ s → (x ≡ y) × (r ≡ s)
key_once x y r s e =
    let codes = coded_once x.code y.code _ _ (sym (key_parts x r) ∙ e ∙ key_parts y s) in
    let numbers = coded_once x.number y.number r s codes.1 in
    (key_is x y codes.0 numbers.0, numbers.1)

pub optional_once : (x y : Option Key) (r s : List ℕ) → is_some x ≡ is_some y → optional_key_bytes x ++ r ≡ optional_key_bytes y ++ s → (x ≡ y) × (r ≡ s)
optional_once None None r s there e = (refl, e)
optional_once None (Some y) r s there e = cc
optional_once (Some x) None r s there e = cc
optional_once (Some x) (Some y) r s there e = let same = key_once x y r s e in (ap (λ k. Some k) same.0, same.1)

-- each flag can be told from their sum
first_flag : ℕ → Bool
first_flag n = n % 2 == 1

second_flag : ℕ → Bool
second_flag n = n / 2 % 2 == 1

third_flag : ℕ → Bool
third_flag n = n / 4 == 1

first_is : (a b c : Bool) → first_flag (flag 1 a + flag 2 b + flag 4 c) ≡ a
unfolding first_flag
first_is true true true = refl
first_is true true false = refl
first_is true false true = refl
first_is true false false = refl
first_is false true true = refl
first_is false true false = refl
first_is false false true = refl
first_is false false false = refl

second_is : (a b c : Bool) → second_flag (flag 1 a + flag 2 b + flag 4 c) ≡ b
unfolding second_flag
second_is true true true = refl
second_is true true false = refl
second_is true false true = refl
second_is true false false = refl
second_is false true true = refl
second_is false true false = refl
second_is false false true = refl
second_is false false false = refl

third_is : (a b c : Bool) → third_flag (flag 1 a + flag 2 b + flag 4 c) ≡ c
unfolding third_flag
third_is true true true = refl
third_is true true false = refl
third_is true false true = refl
third_is true false false = refl
third_is false true true = refl
third_is false true false = refl
third_is false false true = refl
third_is false false false = refl

pub flags_once : (a b c d e f : Bool) → flag 1 a + flag 2 b + flag 4 c ≡ flag 1 d + flag 2 e + flag 4 f → (a ≡ d) × (b ≡ e) × (c ≡ f)
flags_once a b c d e f same = (
  sym (first_is a b c) ∙ ap first_flag same ∙ first_is d e f,
  sym (second_is a b c) ∙ ap second_flag same ∙ second_is d e f,
  sym (third_is a b c) ∙ ap third_flag same ∙ third_is d e f,
)

pub flags_small : (a b c : Bool) → flag 1 a + flag 2 b + flag 4 c ≤ 7
flags_small true true true = omega arith
flags_small true true false = omega arith
flags_small true false true = omega arith
flags_small true false false = omega arith
flags_small false true true = omega arith
flags_small false true false = omega arith
flags_small false false true = omega arith
flags_small false false false = omega arith

pub tie_parts : (t : Tie) (r : List ℕ) → tie_bytes t ++ r ≡ tie_flags t ∷ (optional_key_bytes t.key ++ (optional_key_bytes t.awaits ++ r))
unfolding tie_bytes
tie_parts t r = ap (λ xs. tie_flags t ∷ xs) (append_assoc (optional_key_bytes t.key) (optional_key_bytes t.awaits) r)

tie_is : (x y : Tie) → x.key ≡ y.key → x.whole ≡ y.whole → x.awaits ≡ y.awaits → x ≡ y
tie_is x y key whole awaits = λ i. record { key = key i; whole = whole i; awaits = awaits i }

pub tie_once : (x y : Tie) (r s : List ℕ) → tie_bytes x ++ r ≡ tie_bytes y ++ s → (x ≡ y) × (r ≡ s)
tie_once x y r s e =
    let same = sym (tie_parts x r) ∙ e ∙ tie_parts y s in
    let flags = flags_once (is_some x.key) x.whole (is_some x.awaits) (is_some y.key) y.whole (is_some y.awaits) (cons_first _ _ _ _ same) in
    let keys = optional_once x.key y.key _ _ flags.0 (cons_others _ _ _ _ same) in
    let awaited = optional_once x.awaits y.awaits r s flags.2 keys.1 in
    (tie_is x y keys.0 flags.1 awaited.0, awaited.1)

-- lists of one length, of what is spelled once
pub counted_once : {X : Type 0} (written : X → List ℕ) (Can : X → Type 0) → IsSpelledOnce written Can → (xs ys : List X) (r s : List ℕ)
    → All Can xs → All Can ys → length xs ≡ length ys → flat_map written xs ++ r ≡ flat_map written ys ++ s → (xs ≡ ys) × (r ≡ s)
counted_once written Can spelled [] [] r s p q len e = (refl, e)
counted_once written Can spelled [] (y ∷ ys) r s p q len e = absurd (omega arith)
counted_once written Can spelled (x ∷ xs) [] r s p q len e = absurd (omega arith)
counted_once written Can spelled (x ∷ xs) (y ∷ ys) r s p q len e =
    let front = sym (append_assoc (written x) (flat_map written xs) r) ∙ e ∙ append_assoc (written y) (flat_map written ys) s in
    let first = spelled.once x y (flat_map written xs ++ r) (flat_map written ys ++ s) (p 0 x (omega arith)) (q 0 y (omega arith)) front in
    let others = counted_once written Can spelled xs ys r s (λ k d within. p (suc k) d (omega arith)) (λ k d within. q (suc k) d (omega arith)) (omega arith) first.1 in
    (λ i. first.0 i ∷ others.0 i, others.1)

pub tie_spelled : IsSpelledOnce tie_bytes IsProperTie
tie_spelled = record { once = λ x y r s p q e. tie_once x y r s e }

class_once : (c d : Class) → class_byte c ≡ class_byte d → c ≡ d
class_once Authority Authority e = refl
class_once Authority Bibliographic e = absurd (omega (arith, e))
class_once Bibliographic Authority e = absurd (omega (arith, e))
class_once Bibliographic Bibliographic e = refl

pub head_parts : (class : Class) (code written r : List ℕ) → head_bytes class code written ++ r ≡ class_byte class ∷ (coded code ++ (sized written ++ r))
unfolding head_bytes
head_parts class code written r = ap (λ xs. class_byte class ∷ xs) (append_assoc (coded code) (sized written) r)

pub head_once : (class other : Class) (code written r other_code other_written s : List ℕ) → length written < 2 ^ 32 → length other_written < 2 ^ 32
    → head_bytes class code written ++ r ≡ head_bytes other other_code other_written ++ s
    → (class ≡ other) × (code ≡ other_code) × (written ≡ other_written) × (r ≡ s)
head_once class other code written r other_code other_written s p q e =
    let same = sym (head_parts class code written r) ∙ e ∙ head_parts other other_code other_written s in
    let codes = coded_once code other_code _ _ (cons_others _ _ _ _ same) in
    let records = sized_once written other_written r s p q codes.1 in
    (class_once class other (cons_first _ _ _ _ same), codes.0, records.0, records.1)

-- a kept record is its class, its key, a record and its ties
row_is : (r s : KeptRow) → r.class ≡ s.class → r.key ≡ s.key → r.rec ≡ s.rec → r.ties ≡ s.ties → r ≡ s
row_is r s class key rec ties =
    let counted = is_prop→PathP (λ i. length (ties i) ≡ length (rec i).fields) (λ i. ℕ_set (length (ties i)) (length (rec i).fields)) r.tied s.tied in
    λ i. record { class = class i; key = key i; rec = rec i; ties = ties i; tied = counted i }

pub written_small : (rec : Record) → IsWritable rec → length (record_bytes rec.leader rec.fields) < 2 ^ 32
written_small rec h = omega (arith, length-record_bytes rec.leader rec.fields, fitting_length rec.fields h.fitting)

pub written_once : (r s : Record) → IsWritable r → IsWritable s → record_bytes r.leader r.fields ≡ record_bytes s.leader s.fields → r ≡ s
written_once r s p q e =
    let once = record_spelled_once r.leader s.leader r.fields s.fields [] [] r.valid s.valid p.fitting q.fitting (ap (λ xs. xs ++ []) e) in
    record_is r s once.0 once.1

pub row_parts : (r : KeptRow) (rest : List ℕ)
    → row_bytes r ++ rest ≡ head_bytes r.class r.key.code (record_bytes r.rec.leader r.rec.fields) ++ (flat_map tie_bytes r.ties ++ rest)
row_parts r rest =
    ap (λ xs. xs ++ rest) (row_written r)
    ∙ append_assoc (head_bytes r.class r.key.code (record_bytes r.rec.leader r.rec.fields)) (flat_map tie_bytes r.ties) rest

pub row_once : (x y : KeptRow) (r s : List ℕ) → IsKeptRow x → IsKeptRow y → row_bytes x ++ r ≡ row_bytes y ++ s → (x ≡ y) × (r ≡ s)
row_once x y r s p q e =
    let heads = head_once x.class y.class x.key.code _ _ y.key.code _ _ (written_small x.rec p.writable) (written_small y.rec q.writable)
    (sym (row_parts x r) ∙ e ∙ row_parts y s) in
    let rec = written_once x.rec y.rec p.writable q.writable heads.2 in
    let fields = ap (λ (rec : Record). rec.fields) rec in
    let ties = counted_once tie_bytes IsProperTie tie_spelled x.ties y.ties r s p.ties q.ties
    (x.tied ∙ ap length fields ∙ sym y.tied) heads.3 in
    let key = key_is x.key y.key heads.1 (p.number ∙ ap control_number_of fields ∙ sym q.number) in
    (row_is x y heads.0 key rec ties.0, ties.1)

pub row_spelled : IsSpelledOnce row_bytes IsKeptRow
row_spelled = record { once = row_once }

pub row_some : (r : KeptRow) (rest : List ℕ) → 1 ≤ length (row_bytes r ++ rest)
row_some r rest = omega (arith, ap length (row_parts r rest), ap length (head_parts r.class r.key.code (record_bytes r.rec.leader r.rec.fields) (flat_map tie_bytes r.ties ++ rest)))
