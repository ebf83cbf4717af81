-- What is known of the parts of an expression that gives a value, where the expression is a chain of options or a test.
use Rattle.std.proofs.Common.{◌≡◌, Bool, true, false, Option, Some, None, refl, ap}
use Rattle.std.specs.Prelude.{if◌then◌else◌, unwrap_or}
use Rattle.scenario_text.specs.Words.{◌>>=◌}

pub same_some : {A : Type 0} (x y : A) → Some x ≡ Some y → x ≡ y
same_some {A = A} x y e = ap (λ (o : Option A). unwrap_or o x) e

-- If a chain of two options gives a value, both options do.
pub bound : {A B : Type 0} (o : Option A) (f : A → Option B) (y : B) → (o >>= f) ≡ Some y → (x : A) × (o ≡ Some x) × (f x ≡ Some y)
bound None f y e = absurd cc
bound (Some x) f y e = (x, refl, e)

pub asserted : {A : Type 0} (b : Bool) (o : Option A) (y : A) → (if b then o else None) ≡ Some y → (b ≡ true) × (o ≡ Some y)
asserted true o y e = (refl, e)
asserted false o y e = absurd cc

pub guarded : {A : Type 0} (b : Bool) (x y : A) → (if b then Some x else None) ≡ Some y → (b ≡ true) × (x ≡ y)
guarded true x y e = (refl, same_some x y e)
guarded false x y e = absurd cc

pub excluded : {A : Type 0} (b : Bool) (o : Option A) (y : A) → (if b then None else o) ≡ Some y → (b ≡ false) × (o ≡ Some y)
excluded true o y e = absurd cc
excluded false o y e = (refl, e)

-- A test selects one of two options. What follows from a value of either option follows from a value of the selected one.
pub by_test : {A : Type 0} (P : Type 0) (b : Bool) (o p : Option A) (y : A) → (b ≡ true → o ≡ Some y → P) → (b ≡ false → p ≡ Some y → P) → (if b then o else p) ≡ Some y → P
by_test P true o p y first other e = first refl e
by_test P false o p y first other e = other refl e
