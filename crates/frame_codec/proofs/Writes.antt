-- Octets that are written in order, and the length of a spelling.
use Rattle.std.proofs.Common.{◌≡◌, ℕ, ◌≤◌, true, List, ◌++◌, length, take, ap, ◌∙◌, append_assoc, length-append, arith, refl}
use Rattle.qkd_base.specs.Route.{is_route}
use Rattle.qkd_base.proofs.Routes.{nine_of}
use Rattle.net_model.specs.declared.fact.Fact.{Fact}
use Rattle.net_model.specs.declared.fact.Fact.TheVariants.{Key, Chunk, Stored, Open, Joined, Part}
use Rattle.net_model.specs.declared.payload.Payload.{Payload}
use Rattle.net_model.specs.declared.payload.Payload.TheVariants.{Data, Ack}
use Rattle.net_model.specs.Facts.{fact_len, payload_len, IsWellFormed}
use Rattle.frame_codec.specs.Payload.{IsPayload, fact_octets, payload_octets}
use Rattle.frame_codec.specs.Writing.{Puts}

pub then_puts : {a b c : List ℕ} {x y z : ℕ} {s t : List ℕ} → Puts a b x y s → Puts b c y z t → Puts a c x z (s ++ t)
then_puts {a} {b} {c} {x} {y} {z} {s} {t} p q = record {
  end_is = omega (arith, p.end_is, q.end_is, length-append s t);
  prefix = q.prefix ∙ ap (λ (l : List ℕ). l ++ t) p.prefix ∙ append_assoc (take x a) s t;
}

pub fact_length : (f : Fact) → length (fact_octets f) ≡ fact_len f
fact_length (Key name master slave route bytes) = omega (arith, length-append route bytes)
fact_length (Chunk name stream index route bytes) = omega (arith, length-append route bytes)
fact_length (Stored note about route) = omega arith
fact_length (Open stream source peer size route) = omega arith
fact_length (Joined note about route) = omega arith
fact_length (Part name key master slave route bytes) = omega (arith, length-append route bytes)

pub payload_length : (p : Payload) → length (payload_octets p) ≡ payload_len p
unfolding payload_octets
payload_length (Data f) = fact_length f
payload_length (Ack n) = refl

pub payload_range : (p : Payload) → IsPayload p → (17 ≤ payload_len p) × (payload_len p ≤ 561)
payload_range (Data (Key name master slave route bytes)) h = let n = nine_of route h.3.0 in (omega arith, omega (arith, n, h.4.0.1))
payload_range (Data (Chunk name stream index route bytes)) h = let n = nine_of route h.3.0 in (omega arith, omega (arith, n, h.4.0.1))
payload_range (Data (Stored note about route)) h = let n = nine_of route h.2.0 in (omega arith, omega (arith, n))
payload_range (Data (Open stream source peer size route)) h = let n = nine_of route h.4.0 in (omega arith, omega (arith, n))
payload_range (Data (Joined note about route)) h = let n = nine_of route h.2.0 in (omega arith, omega (arith, n))
payload_range (Data (Part name key master slave route bytes)) h = let n = nine_of route h.4.0 in (omega arith, omega (arith, n, h.5.0.1))
payload_range (Ack n) h = (omega arith, omega arith)

pub is_formed : (p : Payload) → IsPayload p → IsWellFormed p
is_formed (Data (Key name master slave route bytes)) h = (h.0.1, h.4.0)
is_formed (Data (Chunk name stream index route bytes)) h = (h.0.1, h.1.1, h.4.0)
is_formed (Data (Stored note about route)) h = (h.0.1, h.1.1)
is_formed (Data (Open stream source peer size route)) h = (h.0.1, h.3)
is_formed (Data (Joined note about route)) h = (h.0.1, h.1.1)
is_formed (Data (Part name key master slave route bytes)) h = (h.0.1, h.1.1, h.5.0)
is_formed (Ack n) h = tt
