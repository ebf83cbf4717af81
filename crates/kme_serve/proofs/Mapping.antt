-- Serving over one kind of pass is also serving over another kind, if each turn over the first is a turn over the second.
use Rattle.std.proofs.Common.{◌≡◌, ℕ, ◌≤◌, List, [], ◌∷◌, Option, Some, None, Result, sym, ap, subst, ◌∙◌}
use Rattle.edge_io.specs.declared.ended.Ended.{Ended}
use Rattle.sae_entitlements.specs.Grants.{Grants}
use Rattle.kme_serve.specs.declared.turn.Turn.{Turn}
use Rattle.kme_serve.specs.Exchange.{Exchange}
use Rattle.kme_serve.specs.Turns.{Takes, TakesAll}
use Rattle.kme_serve.specs.Connection.{Moment, IsServed}
use Rattle.kme_serve.specs.Door.{Visit, Door, ServesAll, IsDoorServed, first_moment, last_moment}

-- the same moment with another pass
abbrev pub moment_at : {P Q : Type 0} → (P → Q) → Moment P → Moment Q
moment_at f m = record { left = m.left; taken = m.taken; read_faults = m.read_faults; write_faults = m.write_faults; pass = f m.pass }

module _ {P Q : Type 0} (Answers : P → Turn → P → Type 0) (seen : P → ℕ) (Others : Q → Turn → Q → Type 0) (seen_there : Q → ℕ) (f : P → Q)
    (turns : (p : P) (turn : Turn) (q : P) → Answers p turn q → Others (f p) turn (f q)) (same : (p : P) → seen p ≡ seen_there (f p)) where
  takes_map : (p : P) (turn : Option Turn) (q : P) → Takes Answers seen p turn q → Takes Others seen_there (f p) turn (f q)
  takes_map p None q is = ap f is
  takes_map p (Some turn) q did = (turns p turn q did.0, subst (λ (n : ℕ). n ≤ turn.place) (same p) did.1, sym (same q) ∙ did.2)

  pub takes_all_map : (p : P) (xs : List Exchange) (q : P) → TakesAll Answers seen p xs q → TakesAll Others seen_there (f p) xs (f q)
  takes_all_map p [] q is = ap f is
  takes_all_map p (x ∷ xs) q did = (f did.0, takes_map p x.turn did.0 did.1, takes_all_map did.0 xs q did.2)

  module _ (nodes : List (List ℕ)) (g : Grants) (node : ℕ) where
    pub served_maps : (count : ℕ) (kept owed : List ℕ) (before after : Moment P) (ended : Ended) → IsServed nodes g node Answers seen count kept owed before after ended
        → IsServed nodes g node Others seen_there count kept owed (moment_at f before) (moment_at f after) ended
    served_maps count kept owed before after ended did = record {
      octets = did.octets;
      consumed = did.consumed;
      answered = did.answered;
      last = did.last;
      rest = did.rest;
      means = did.means;
      stays_open = did.stays_open;
      few = did.few;
      events = did.events;
      turns = takes_all_map before.pass _ after.pass did.turns;
      text = did.text;
      written = did.written;
      ends = did.ends;
      read_faults = did.read_faults;
      write_faults = did.write_faults;
    }

    pub serves_all_maps : (p : P) (visits : List Visit) (q : P) → ServesAll nodes g node Answers seen p visits q → ServesAll nodes g node Others seen_there (f p) visits (f q)
    serves_all_maps p [] q is = ap f is
    serves_all_maps p (visit ∷ visits) q did = (
      f did.0,
      served_maps 0 [] [] (first_moment visit p) (last_moment visit did.0) visit.finished.ended did.1,
      serves_all_maps did.0 visits q did.2,
    )

    -- the connections of a listener
    pub door_maps : {T E : Type 0} (connections : ℕ) (before after : Door) (p q : P) (result : Result T E) → IsDoorServed nodes g node Answers seen connections before after p q result
        → IsDoorServed nodes g node Others seen_there connections before after (f p) (f q) result
    door_maps connections before after p q result did = record {
      visits = did.visits;
      served = serves_all_maps p did.visits q did.served;
      came = did.came;
      done = did.done;
      accepted = did.accepted;
      finished = did.finished;
      port = did.port;
      count = did.count;
    }
