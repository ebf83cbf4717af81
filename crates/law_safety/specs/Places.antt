-- The places of keys, chunks and group keys in the entropies of their origins.
use Rattle.std.specs.Prelude.{◌≡◌, ◌≢◌, ℕ, ◌+◌, ◌≤◌, true, length, Some}
use Rattle.qkd_base.specs.Name.{Name}
use Rattle.net_model.specs.declared.fact.Fact.{Fact}
use Rattle.net_model.specs.Table.{bytes_of, origin, fact_at, is_secret}
use Rattle.net_model.specs.OctetSequence.{octets_from}
use Rattle.net_model.specs.World.{Network, World}
use Rattle.law_invariant.specs.HandedName.{handed_name, AreApart}

-- The fact's bytes are the octets from the place of its name on, and all of them were drawn.
pub record IsAtPlace (net : Network) (drawn : ℕ → ℕ) (place : Name → ℕ) (f : Fact) : Type 0 where
  pub bytes : bytes_of f ≡ octets_from (net.entropy (origin f)).octet (place (handed_name f)) (length (bytes_of f))
  pub within : place (handed_name f) + length (bytes_of f) ≤ drawn (origin f)

-- Each key, chunk and part has such a place, and bytes of different names don't overlap.
pub record ArePlaced (net : Network) (w : World) : Type 0 where
  pub place : Name → ℕ
  pub each : (n : Name) (f : Fact) → fact_at w.durable.facts n ≡ Some f → is_secret f ≡ true → IsAtPlace net w.drawn place f
  pub apart : (n m : Name) (f g : Fact) → fact_at w.durable.facts n ≡ Some f → fact_at w.durable.facts m ≡ Some g → is_secret f ≡ true → is_secret g ≡ true →
      origin f ≡ origin g → handed_name f ≢ handed_name g → AreApart place f g
