-- What a call returns for octets: what they mean, or their fault, unless memory ran out.
use Rattle.std.specs.Prelude.{◌≡◌, Result, Ok, Err}
use Rattle.qkd014_api.specs.declared.fault.CallFault.{CallFault}
use Rattle.qkd014_api.specs.declared.fault.CallFault.TheVariants as faults

abbrev pub FailsAs : {X : Type 0} → Result X CallFault → CallFault → Type 0
FailsAs means faults.Memory = Unit {0}
FailsAs means e = means ≡ Err e

abbrev pub Gives : {X : Type 0} → Result X CallFault → Result X CallFault → Type 0
Gives means (Ok given) = means ≡ Ok given
Gives means (Err e) = FailsAs means e
