-- A relation of passes that each turn keeps is kept by all that is served.
use Rattle.std.proofs.Common.{◌≡◌, ℕ, List, [], ◌∷◌, Option, Some, None, Result, sym, subst}
use Rattle.edge_io.specs.declared.ended.Ended.{Ended}
use Rattle.sae_entitlements.specs.Grants.{Grants}
use Rattle.kme_serve.specs.declared.turn.Turn.{Turn}
use Rattle.kme_serve.specs.Exchange.{Exchange}
use Rattle.kme_serve.specs.Turns.{Takes, TakesAll}
use Rattle.kme_serve.specs.Connection.{Moment, IsServed}
use Rattle.kme_serve.specs.Door.{Visit, Door, ServesAll, IsDoorServed, first_moment, last_moment}

module _ {P : Type 0} (Answers : P → Turn → P → Type 0) (seen : P → ℕ) (Keeps : P → P → Type 0) (same : (p : P) → Keeps p p)
    (both : (p q r : P) → Keeps p q → Keeps q r → Keeps p r) (turns : (p : P) (turn : Turn) (q : P) → Answers p turn q → Keeps p q) where
  unmoved : (p q : P) → q ≡ p → Keeps p q
  unmoved p q is = subst (λ (r : P). Keeps p r) (sym is) (same p)

  takes_keep : (p : P) (turn : Option Turn) (q : P) → Takes Answers seen p turn q → Keeps p q
  takes_keep p None q is = unmoved p q is
  takes_keep p (Some turn) q did = turns p turn q did.0

  pub takes_all_keep : (p : P) (xs : List Exchange) (q : P) → TakesAll Answers seen p xs q → Keeps p q
  takes_all_keep p [] q is = unmoved p q is
  takes_all_keep p (x ∷ xs) q did = both p did.0 q (takes_keep p x.turn did.0 did.1) (takes_all_keep did.0 xs q did.2)

  module _ (nodes : List (List ℕ)) (g : Grants) (node : ℕ) where
    pub served_keeps : (count : ℕ) (kept owed : List ℕ) (before after : Moment P) (ended : Ended) → IsServed nodes g node Answers seen count kept owed before after ended
        → Keeps before.pass after.pass
    served_keeps count kept owed before after ended did = takes_all_keep before.pass _ after.pass did.turns

    pub serves_all_keep : (p : P) (visits : List Visit) (q : P) → ServesAll nodes g node Answers seen p visits q → Keeps p q
    serves_all_keep p [] q is = unmoved p q is
    serves_all_keep p (visit ∷ visits) q did =
        both p did.0 q (served_keeps 0 [] [] (first_moment visit p) (last_moment visit did.0) visit.finished.ended did.1) (serves_all_keep did.0 visits q did.2)

    -- the connections of a listener
    pub door_keeps : {T E : Type 0} (connections : ℕ) (before after : Door) (p q : P) (result : Result T E) → IsDoorServed nodes g node Answers seen connections before after p q result
        → Keeps p q
    door_keeps connections before after p q result did = serves_all_keep p did.visits q did.served
