-- The program's call: that of `network` over a bench of the program's own.
use Rattle.std.specs.Prelude.{◌≡◌, ◌⊎◌, ℕ, List, Option, Some}
use Rattle.disk_model.specs.MemForm.{MemForm}
use Rattle.source_devices.specs.Forms.{WireForm}
use Rattle.source_devices.specs.KeyStream.{StreamForm, told_from, device_told, entropy_told}
use Rattle.kme_serve.specs.Door.{Door}
use Rattle.kme_serve.specs.Doors.{Queues}
use Rattle.net_world.specs.New.{Outside}
use Rattle.net_world.specs.declared.bench.Bench.{Bench}
use Rattle.qkd_network.specs.Call.{IsCalled}
use Rattle.qkd_network.specs.declared.status.Status.{Status}
use Rattle.qkd_network.specs.declared.status.Status.TheVariants.{Memory}
use Rattle.qkd_network.specs.Fresh.{AreBlank, AreNumbered, AreSilent}

-- disks and wires in memory, generated devices and entropies
abbrev pub OwnBench : Type 0
OwnBench = Bench MemForm ℕ StreamForm WireForm

-- Disks and wires are empty, and no disk was ever armed. Each link has the generated device of its number, and each node the generated entropy of its number.
pub record IsOwn (b : OwnBench) : Type 0 where
  pub disks : AreBlank 16 b.disks.items
  pub entropies : AreNumbered (λ s. Some (told_from s)) entropy_told 16 b.entropies.items
  pub devices : AreNumbered (λ link. Some (device_told link)) device_told 32 b.devices.items
  pub wires : AreSilent 64 b.wires.items

-- Either memory ran out before the bench was made, and nothing was touched; or the call was done over such a bench.
abbrev pub IsProgram : {S W P D : Type 0} → (S → Option (List ℕ)) → (W → Option (List ℕ)) → (W → Option (List (List ℕ))) → Outside MemForm ℕ StreamForm WireForm →
    (tell : D → Door) → (failed : D → ℕ) → (asked : P → Option (List ℕ)) → (back : P → Option (List D)) → (queues : P → ℕ → Queues) →
    Status → (words : List (List ℕ)) → (old new : S) → (before after : W) → (ports ports' : P) → Type 0
IsProgram left taken pieces outside tell failed asked back queues status words old new before after ports ports' =
    ((status ≡ Memory) × (new ≡ old) × (after ≡ before) × (ports' ≡ ports)) ⊎
    ((bench : OwnBench) × (bench' : OwnBench) × IsOwn bench ×
    IsCalled left taken pieces outside tell failed asked back queues status words old new before after bench bench' ports ports')
