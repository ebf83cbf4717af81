-- What a refusal of a device, an entropy or a wire says.
use Rattle.std.specs.Prelude.{ℕ, List, codes}
use Rattle.source_devices.specs.declared.shortage.Shortage.{Shortage}
use Rattle.source_devices.specs.declared.shortage.Shortage.TheVariants as shortages
use Rattle.source_devices.specs.declared.wire.WireFailed.{WireFailed}
use Rattle.source_devices.specs.declared.wire.WireFailed.TheVariants as failures

abbrev pub shortage_said : Shortage → List ℕ
shortage_said shortages.Failed = codes "the call failed"
shortage_said shortages.End = codes "the list is at its end"

abbrev pub failure_said : WireFailed → List ℕ
failure_said failures.Fault = codes "the call failed"
failure_said failures.Memory = codes "out of memory"
