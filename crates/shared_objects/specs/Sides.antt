-- A machine of one of two kinds.
use Rattle.shared_objects.specs.declared.either.Either.{Either}
use Rattle.shared_objects.specs.declared.either.Either.TheVariants.{Left, Right}

-- The charter is that of the machine's kind.
abbrev pub charter_of : {M N C D : Type 0} → (M → C) → (N → D) → Either M N → Either C D
charter_of charter other (Left m) = Left (charter m)
charter_of charter other (Right n) = Right (other n)

-- The machine takes what its kind takes.
abbrev pub TakesOn : {C D Q R : Type 0} → (C → Q → Type 0) → (D → R → Type 0) → Either C D → Either Q R → Type 0
TakesOn takes other (Left c) (Left q) = takes c q
TakesOn takes other (Right d) (Right r) = other d r
TakesOn takes other _ _ = ⊥

-- The machine's turns are those of its kind.
abbrev pub TurnsOn : {M N Q R A B : Type 0} → (M → Q → A → M → Type 0) → (N → R → B → N → Type 0) → Either M N → Either Q R → Either A B → Either M N → Type 0
TurnsOn turns other (Left m) (Left q) (Left a) (Left n) = turns m q a n
TurnsOn turns other (Right m) (Right r) (Right b) (Right n) = other m r b n
TurnsOn turns other _ _ _ _ = ⊥
