-- Where bytes come from: the bytes of each key, chunk and part are octets that the entropy of its origin gave.
use Rattle.std.specs.Prelude.{◌≡◌, ℕ, ◌+◌, ◌≤◌, true, length, slice_get, Some}
use Rattle.qkd_base.specs.Name.{Name}
use Rattle.net_model.specs.declared.fact.Fact.{Fact}
use Rattle.net_model.specs.declared.record.Record.TheVariants.{Learned}
use Rattle.net_model.specs.Table.{bytes_of, origin, fact_at, is_secret}
use Rattle.net_model.specs.OctetSequence.{octets_from}
use Rattle.net_model.specs.World.{Network, World}

-- the bytes are consecutive octets of those drawn so far, from some place on
pub record IsDrawn (net : Network) (w : World) (f : Fact) : Type 0 where
  pub place : ℕ
  pub bytes : bytes_of f ≡ octets_from (net.entropy (origin f)).octet place (length (bytes_of f))
  pub within : place + length (bytes_of f) ≤ w.drawn (origin f)

-- the bytes of all facts of the table, and of all facts in batches in doubt, were drawn from entropies
pub record AreDrawn (net : Network) (w : World) : Type 0 where
  pub table : (n : Name) (f : Fact) → fact_at w.durable.facts n ≡ Some f → is_secret f ≡ true → IsDrawn net w f
  pub doubts : (v n : ℕ) (f : Fact) → slice_get (w.in_doubt v).batch n ≡ Some (Learned f) → is_secret f ≡ true → IsDrawn net w f
