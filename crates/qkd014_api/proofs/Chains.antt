-- What follows if a chain of optional values gives a value.
use Rattle.std.proofs.Common.{◌≡◌, Bool, true, false, Option, Some, None, Result, Ok, Err, refl, ap}
use Rattle.std.specs.Prelude.{if◌then◌else◌, unwrap_or, ok_or}
use Rattle.std.specs.Option.{option_and_then, option_map}
use Rattle.std.specs.Result.{result_unwrap_or}
use Rattle.qkd014_api.specs.Calls.{◌>>=◌}
use Rattle.qkd014_api.specs.declared.fault.CallFault.{CallFault}

pub same_some : {A : Type 0} (x y : A) → Some x ≡ Some y → x ≡ y
same_some {A = A} x y e = ap (λ (o : Option A). unwrap_or o x) e

pub same_ok : {A : Type 0} (x y : A) → ◌≡◌ {A = Result A CallFault} (Ok x) (Ok y) → x ≡ y
same_ok {A = A} x y e = ap (λ (r : Result A CallFault). result_unwrap_or r x) e

pub gives : {A B : Type 0} (r : Result A CallFault) (f : A → Result B CallFault) (y : B) → (r >>= f) ≡ Ok y → (x : A) × (r ≡ Ok x) × (f x ≡ Ok y)
gives (Ok x) f y e = (x, refl, e)
gives (Err fault) f y e = absurd cc

pub is_told : {A : Type 0} (o : Option A) (fault : CallFault) (x : A) → ok_or o fault ≡ Ok x → o ≡ Some x
is_told (Some y) fault x e = ap Some (same_ok y x e)
is_told None fault x e = absurd cc

pub then_some : {A B : Type 0} (f : A → Option B) (o : Option A) (y : B) → option_and_then f o ≡ Some y → (x : A) × (o ≡ Some x) × (f x ≡ Some y)
then_some f (Some x) y e = (x, refl, e)
then_some f None y e = absurd cc

pub mapped : {A B : Type 0} (f : A → B) (o : Option A) (y : B) → option_map f o ≡ Some y → (x : A) × (o ≡ Some x) × (f x ≡ y)
mapped f (Some x) y e = (x, refl, same_some (f x) y e)
mapped f None y e = absurd cc

pub guarded : {A : Type 0} (b : Bool) (x y : A) → (if b then Some x else None) ≡ Some y → (b ≡ true) × (x ≡ y)
guarded true x y e = (refl, same_some x y e)
guarded false x y e = absurd cc

pub excluded : {A : Type 0} (b : Bool) (x y : A) → (if b then None else Some x) ≡ Some y → (b ≡ false) × (x ≡ y)
excluded true x y e = absurd cc
excluded false x y e = (refl, same_some x y e)

pub tested : {A : Type 0} (b : Bool) (fault : CallFault) (r : Result A CallFault) (y : A) → (if b then r else Err fault) ≡ Ok y → r ≡ Ok y
tested true fault r y e = e
tested false fault r y e = absurd cc
