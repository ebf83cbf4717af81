-- A new bench, and the network that is made of its parts.
use Rattle.std.specs.Prelude.{◌≡◌, ℕ, IsTrue, List, [], slice_get, unwrap_or, Option, Some, None}
use Rattle.std.specs.List.{All}
use Rattle.net_model.specs.OctetSequence.{OctetSequence, sequence_of}
use Rattle.net_model.specs.Premises.{IsOctetSequence}
use Rattle.net_model.specs.World.{Network}
use Rattle.declared_site.specs.SiteOf.{site_of}
use Rattle.declared_site.specs.declared.site.Site.{Site as Declared}
use Rattle.disk_model.specs.Images.{Only}
use Rattle.hop_frames.specs.Sealing.{hop_sealing}
use Rattle.net_world.specs.Laid.{IsWhole}
use Rattle.net_world.specs.declared.bench.Bench.{Bench}
use Rattle.source_devices.specs.declared.device.Device as Device
use Rattle.source_devices.specs.declared.entropy.Entropy as Entropy
pub use Rattle.world_state.specs.Outside.{Outside, outside}

-- a part tells octets
abbrev pub TellsOctets : Option OctetSequence → Type 0
TellsOctets None = ⊥
TellsOctets (Some t) = IsOctetSequence t

-- Disks are honest and empty, no wire has taken a frame, and entropies and devices tell octets.
pub record IsNew {K Q E X : Type 0} (outside : Outside K Q E X) (b : Bench K Q E X) : Type 0 where
  pub whole : IsWhole b
  pub honest : All (λ k. IsTrue (outside.disk.is_honest k)) b.disks.items
  pub empty : All (λ k. Only [] (outside.disk.image k (outside.disk.moment k))) b.disks.items
  pub entropies : All (λ e. TellsOctets (outside.entropy.left e)) b.entropies.items
  pub devices : All (λ q. TellsOctets (outside.device.told q)) b.devices.items
  pub wires : All (λ x. outside.wire.frames x ≡ Some []) b.wires.items

-- a number without a part tells zeros
abbrev pub zeros : OctetSequence
zeros = record { octet = λ i. 0; end = None }

abbrev pub octets_of : {T : Type 0} → (T → Option OctetSequence) → Option T → OctetSequence
octets_of told None = zeros
octets_of told (Some part) = unwrap_or (told part) zeros

-- the network of a site over a bench: its links and nodes are given what the bench's devices and entropies tell
abbrev pub network_on : {K Q E X : Type 0} → Device.Ghosts Q → Entropy.Ghosts E → Bench K Q E X → Declared → Network
network_on device_says entropy_says b site =
    record {
      site = site_of site;
      sealing = hop_sealing;
      device = λ link. octets_of device_says.told (slice_get b.devices.items link);
      entropy = λ v. octets_of entropy_says.left (slice_get b.entropies.items v);
    }

-- if a list of octets is known for a number, the part of that number tells exactly these
abbrev pub AreKnown : {T : Type 0} → (T → Option OctetSequence) → List T → (ℕ → Option (List ℕ)) → Type 0
AreKnown {T} told parts known = (n : ℕ) (octets : List ℕ) → known n ≡ Some octets → (part : T) × (slice_get parts n ≡ Some part) × (told part ≡ Some (sequence_of octets))
