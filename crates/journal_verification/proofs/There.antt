-- A file that is there.
use Rattle.std.proofs.Common.{◌≡◌, Option, Some, None, IsSome, refl}
use Rattle.std.specs.Prelude.{IsSomeAnd}

pub there_and : {A : Type 0} {P : A → Type 0} (o : Option A) → IsSome o → ((x : A) → o ≡ Some x → P x) → IsSomeAnd o P
there_and None some is = cc
there_and (Some x) some is = is x refl

pub there_both : {A : Type 0} (P Q : A → Type 0) (o : Option A) → IsSomeAnd o P → IsSomeAnd o Q → IsSomeAnd o (λ x. (P x) × (Q x))
there_both P Q None one other = one
there_both P Q (Some x) one other = (one, other)

pub there_more : {A : Type 0} {P Q : A → Type 0} (o : Option A) → ((x : A) → P x → Q x) → IsSomeAnd o P → IsSomeAnd o Q
there_more None more is = is
there_more (Some x) more is = more x is
