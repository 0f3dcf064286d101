-- A file that is there.
use Rattle.std.proofs.Common.{◌≡◌, Option, Some, None, IsSome, refl, sym, subst}
use Rattle.std.specs.Prelude.{IsSomeAnd}

pub there_and : {A : Type 0} {P : A → Type 0} (o : Option A) → IsSome o → ((x : A) → o ≡ Some x → P x) → IsSomeAnd o P
there_and None some is = cc
there_and (Some x) some is = is x refl

pub there_more : {A : Type 0} {P Q : A → Type 0} (o : Option A) → ((x : A) → P x → Q x) → IsSomeAnd o P → IsSomeAnd o Q
there_more None more is = is
there_more (Some x) more is = more x is

pub there_of : {A : Type 0} (P : A → Type 0) (o : Option A) (x : A) → o ≡ Some x → P x → IsSomeAnd o P
there_of P o x at is = subst (λ f. IsSomeAnd f P) (sym at) is
