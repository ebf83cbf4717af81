-- Deliveries: which key a reply hands out, to whom, with which bytes.
use Rattle.std.specs.Prelude.{◌≡◌, ℕ, List, [], ◌∷◌, ◌++◌, ◌&&◌, ◌||◌, Bool, true, map, find, slice_get, Option, Some, None}
use Rattle.qkd_base.specs.Name.{Name, name_eq}
use Rattle.net_model.specs.declared.event.Event.{Event}
use Rattle.net_model.specs.declared.event.Event.TheVariants.{Enc, Dec, Get, EncGroup}
use Rattle.net_model.specs.declared.fact.Fact.{Fact}
use Rattle.net_model.specs.declared.reply.Reply.{Reply}
use Rattle.net_model.specs.declared.reply.Reply.TheVariants.{Handed, Stream}
use Rattle.net_model.specs.Table.{name_of, bytes_of, fact_at, is_part_of}
use Rattle.net_model.specs.Streams.{is_chunk_at}
use Rattle.net_model.specs.Handings.{PairsDiffer, is_single}
use Rattle.net_model.specs.Needed.{view_of}
use Rattle.net_model.specs.World.{Network, World}
use Rattle.net_model.specs.Action.{Action, Ask, Outcome, Replies}
use Rattle.net_model.specs.Step.{step}

-- a key's name, the application that got it, and the bytes in the reply
pub record Delivery : Type 0 where
  pub name : Name
  pub sae : ℕ
  pub bytes : List ℕ

abbrev pub to_one : ℕ → Name × List ℕ → Delivery
to_one sae key = record { name = key.0; sae = sae; bytes = key.1 }

abbrev pub chunk_delivery : ℕ → List ℕ → Option Fact → List Delivery
chunk_delivery sae bytes None = []
chunk_delivery sae bytes (Some f) = record { name = name_of f; sae = sae; bytes = bytes } ∷ []

-- What the reply to an event hands out, from the facts that the manager knows. A chunk is identified by its stream and
-- its index.
abbrev pub delivered : List Fact → Event → Reply → List Delivery
delivered facts (Enc m s n bits) (Handed keys) = map (to_one m) keys
delivered facts (Dec s m names) (Handed keys) = map (to_one s) keys
delivered facts (EncGroup m slaves n bits) (Handed keys) = map (to_one m) keys
delivered facts (Get caller stream index) (Stream status named place (b ∷ bytes)) = chunk_delivery caller (b ∷ bytes) (find (is_chunk_at stream index) facts)
delivered facts event reply = []

abbrev pub of_step : Network → World → Action → Outcome → List Delivery
of_step net w (Ask v event environment) (Replies reply) = delivered (view_of net w v).facts event reply
of_step net w action outcome = []

-- what the replies of a run hand out, in order
unfoldable pub deliveries : Network → World → List Action → List Delivery
deliveries net w [] = []
deliveries net w (a ∷ rest) = let out = step net w a in of_step net w a out.1 ++ deliveries net out.0 rest

-- the fact is the key or chunk of this name, or a part of its group key
abbrev pub is_of_name : Name → Fact → Bool
is_of_name n f = (is_single f && name_eq (name_of f) n) || is_part_of n f

-- there is a fact of the delivery's name, and each such fact has the delivery's bytes
pub record IsTrueDelivery (facts : List Fact) (d : Delivery) : Type 0 where
  pub name : Name
  pub fact : Fact
  pub there : fact_at facts name ≡ Some fact
  pub is : is_of_name d.name fact ≡ true
  pub bytes : (m : Name) (f : Fact) → fact_at facts m ≡ Some f → is_of_name d.name f ≡ true → d.bytes ≡ bytes_of f

-- the pairs of a name and an application that were handed out
abbrev pub pairs_of : List Delivery → List (Name × ℕ)
pairs_of ds = map (λ (d : Delivery). (d.name, d.sae)) ds

-- the first list is a subsequence of the second
pub data IsWithin {A : Type 0} : List A → List A → Type 0 where
  Empty : (ys : List A) → IsWithin [] ys
  Next : (x : A) (xs ys : List A) → IsWithin xs ys → IsWithin (x ∷ xs) (x ∷ ys)
  Skip : (y : A) (xs ys : List A) → IsWithin xs ys → IsWithin xs (y ∷ ys)

-- all that replies handed out so far was marked, each pair at most once, and had the bytes of its name
pub record AreTrueDeliveries (w : World) (ds : List Delivery) : Type 0 where
  pub marked : IsWithin (pairs_of ds) w.durable.handed
  pub once : PairsDiffer (pairs_of ds)
  pub bytes : (n : ℕ) (d : Delivery) → slice_get ds n ≡ Some d → IsTrueDelivery w.durable.facts d
