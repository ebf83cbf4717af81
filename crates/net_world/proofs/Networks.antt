-- The network of a site over a bench is a network of the scenario.
use Rattle.std.proofs.Common.{◌≡◌, ℕ, List, refl, sym, ap, ◌∙◌, arith, Option, Some, None}
use Rattle.std.specs.Prelude.{slice_get, unwrap_or}
use Rattle.std.specs.List.{All}
use Rattle.net_model.specs.OctetSequence.{OctetSequence}
use Rattle.net_model.specs.Premises.{IsOctetSequence, IsNetwork}
use Rattle.net_model.specs.Sealing.{IsSealing}
use Rattle.declared_site.specs.SiteOf.{IsDeclared}
use Rattle.declared_site.specs.declared.site.Site.{Site as Declared}
use Rattle.declared_site.proofs.Sites.{is_site}
use Rattle.hop_frames.specs.Sealing.{hop_sealing}
use Rattle.run_types.specs.declared.scenario.Scenario.{Scenario}
use Rattle.law_run.specs.Benched.{IsBenched}
use Rattle.net_world.specs.New.{TellsOctets, IsNew, zeros, octets_of, network_on}
use Rattle.net_world.specs.declared.bench.Bench.{Bench}
use Rattle.net_world.proofs.Lists.{all_at}
use Rattle.world_state.specs.Outside.{Outside}

zeros_are : IsOctetSequence zeros
zeros_are i = omega arith

tells_octets : (o : Option OctetSequence) → TellsOctets o → IsOctetSequence (unwrap_or o zeros)
tells_octets None h = absurd h
tells_octets (Some t) h = h

-- a part that tells octets tells exactly those that the network is given
pub tells_just : (o : Option OctetSequence) → TellsOctets o → o ≡ Some (unwrap_or o zeros)
tells_just None h = absurd h
tells_just (Some t) h = refl

pub told_by : {T : Type 0} (told : T → Option OctetSequence) (parts : List T) (n : ℕ) (part : T) → All (λ p. TellsOctets (told p)) parts → slice_get parts n ≡ Some part →
    told part ≡ Some (octets_of told (slice_get parts n))
told_by told parts n part all at = tells_just (told part) (all_at (λ p. TellsOctets (told p)) parts n part all at) ∙ ap (λ o. Some (octets_of told o)) (sym at)

are_octets : {T : Type 0} (told : T → Option OctetSequence) (parts : List T) → All (λ p. TellsOctets (told p)) parts → (n : ℕ) → IsOctetSequence (octets_of told (slice_get parts n))
are_octets {T} told parts all n = of (slice_get parts n) (λ part at. all_at (λ p. TellsOctets (told p)) parts n part all at)
  where
    of : (o : Option T) → ((part : T) → o ≡ Some part → TellsOctets (told part)) → IsOctetSequence (octets_of told o)
    of None h = zeros_are
    of (Some part) h = tells_octets (told part) (h part refl)

module _ {K Q E X : Type 0} (outside : Outside K Q E X) (b : Bench K Q E X) (new : IsNew outside b) where
  pub is_network : (site : Declared) → IsDeclared site → IsSealing hop_sealing → IsNetwork (network_on outside.device outside.entropy b site)
  is_network site declared sealing = record {
    site = is_site site declared;
    sealing = sealing;
    devices = λ link. are_octets outside.device.told b.devices.items new.devices link;
    entropies = λ v. are_octets outside.entropy.left b.entropies.items new.entropies v;
  }

  pub is_benched : (scenario : Scenario) → IsDeclared scenario.site → IsSealing hop_sealing → IsBenched scenario (network_on outside.device outside.entropy b scenario.site)
  is_benched scenario declared sealing = record { network = is_network scenario.site declared sealing; site = refl }
