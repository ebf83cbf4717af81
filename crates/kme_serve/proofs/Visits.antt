-- The connections of a listener, and then the next ones.
use Rattle.std.proofs.Common.{◌≡◌, ℕ, ◌+◌, ◌<◌, List, [], ◌∷◌, ◌++◌, length, map, Option, Some, None, Result, Ok, Err, refl, sym, ap, subst, ◌∙◌, arith, add-zero, append_assoc, append-nil, length-append}
use Rattle.std.specs.Prelude.{MatchResult}
use Rattle.edge_io.specs.Writes.{Adds}
use Rattle.edge_io.specs.Connections.{Finished, IsNext}
use Rattle.kme_serve.specs.Connection.{IsServed}
use Rattle.sae_entitlements.specs.Grants.{Grants}
use Rattle.kme_serve.specs.declared.turn.Turn.{Turn}
use Rattle.kme_serve.specs.Door.{Visit, finished_of, last_moment, Come, ServesAll, Door, IsDoorServed}

come_trans : (waiting between later : Option (List (List ℕ))) (xs ys : List Visit) → Come waiting xs between → Come between ys later → Come waiting (xs ++ ys) later
come_trans waiting between later [] ys first second = subst (λ (w : Option (List (List ℕ))). Come w ys later) first second
come_trans waiting between later (x ∷ xs) ys first second = (first.0, first.1, come_trans first.0 between later xs ys first.2 second)

adds_trans : {A : Type 0} (before between after : Option (List A)) (xs ys : List A) → Adds before between xs → Adds between after ys → Adds before after (xs ++ ys)
adds_trans None between after xs ys first second = tt
adds_trans {A} (Some all) between after xs ys first second =
    let more : after ≡ Some ((all ++ xs) ++ ys) = subst (λ (known : Option (List A)). Adds known after ys) first second in
    more ∙ ap (λ (t : List A). Some t) (append_assoc all xs ys)

finished-append : (xs ys : List Visit) → map finished_of (xs ++ ys) ≡ map finished_of xs ++ map finished_of ys
finished-append [] ys = refl
finished-append (x ∷ xs) ys = ap (λ (t : List Finished). x.finished ∷ t) (finished-append xs ys)

adds_none : {A : Type 0} (known : Option (List A)) → Adds known known []
adds_none None = tt
adds_none (Some xs) = ap (λ (t : List _). Some t) (sym (append-nil xs))

module _ (nodes : List (List ℕ)) (g : Grants) (node : ℕ) {P : Type 0} (Answers : P → Turn → P → Type 0) (seen : P → ℕ) where
  serves_trans : (pass between next : P) (xs ys : List Visit) → ServesAll nodes g node Answers seen pass xs between → ServesAll nodes g node Answers seen between ys next
      → ServesAll nodes g node Answers seen pass (xs ++ ys) next
  serves_trans pass between next [] ys first second = subst (λ (p : P). ServesAll nodes g node Answers seen p ys next) first second
  serves_trans pass between next (x ∷ xs) ys first second = (first.0, first.1, serves_trans first.0 between next xs ys first.2 second)

  -- No connection was accepted yet.
  pub none_served : {T E : Type 0} (door : Door) (pass : P) (done : T) → IsDoorServed nodes g node Answers seen {E = E} 0 door door pass pass (Ok done)
  none_served door pass done = record {
    visits = [];
    served = refl;
    came = refl;
    done = adds_none door.done;
    accepted = sym (add-zero door.accepted);
    finished = sym (add-zero door.finished);
    port = refl;
    count = refl;
  }

  -- One connection was accepted, served and finished.
  pub one_served : {T E : Type 0} (before between after : Door) (visit : Visit) (read_faults write_faults : ℕ) (pass next : P) (done : T) → read_faults ≡ 0 → write_faults ≡ 0
      → IsNext before.waiting between.waiting visit.left visit.taken
      → IsServed nodes g node Answers seen 0 [] [] (record { left = visit.left; taken = visit.taken; read_faults = read_faults; write_faults = write_faults; pass = pass }) (last_moment visit next)
      visit.finished.ended
      → between.accepted ≡ before.accepted + 1 → between.finished ≡ before.finished → between.done ≡ before.done → between.port ≡ before.port
      → after.finished ≡ between.finished + 1 → Adds between.done after.done (visit.finished ∷ []) → after.port ≡ between.port → after.accepted ≡ between.accepted → after.waiting ≡ between.waiting
      → IsDoorServed nodes g node Answers seen {E = E} 1 before after pass next (Ok done)
  one_served before between after visit read_faults write_faults pass next done read write came served accepted finished was port more added same_port same_accepted same_waiting = record {
    visits = visit ∷ [];
    served = (
      next,
      subst (λ (n : ℕ). IsServed nodes g node Answers seen 0 [] [] (record { left = visit.left; taken = visit.taken; read_faults = n; write_faults = 0; pass = pass }) (last_moment visit next) visit.finished.ended) read
          (subst (λ (n : ℕ). IsServed nodes g node Answers seen 0 [] [] (record { left = visit.left; taken = visit.taken; read_faults = read_faults; write_faults = n; pass = pass }) (last_moment visit next) visit.finished.ended) write served),
      refl,
    );
    came = (between.waiting, came, same_waiting);
    done = subst (λ (known : Option (List Finished)). Adds known after.done (visit.finished ∷ [])) was added;
    accepted = omega arith;
    finished = omega arith;
    port = same_port ∙ port;
    count = refl;
  }

  -- `count` connections, and then one more or none
  module _ (count : ℕ) (before between after : Door) (pass middle next : P) where
    joined : {T U E F : Type 0} (more : ℕ) (done : T) (result : Result U F) (connections : ℕ) (first : IsDoorServed nodes g node Answers seen {E = E} count before between pass middle (Ok done))
        (second : IsDoorServed nodes g node Answers seen more between after middle next result)
        → MatchResult result (λ _. length (first.visits ++ second.visits) ≡ connections) (λ _. length (first.visits ++ second.visits) < connections)
        → IsDoorServed nodes g node Answers seen connections before after pass next result
    joined more done result connections first second counted =
        let sum : length (first.visits ++ second.visits) ≡ length first.visits + length second.visits = length-append first.visits second.visits in
        let accepted_first : between.accepted ≡ before.accepted + length first.visits = first.accepted in
        let accepted_second : after.accepted ≡ between.accepted + length second.visits = second.accepted in
        let finished_first : between.finished ≡ before.finished + length first.visits = first.finished in
        let finished_second : after.finished ≡ between.finished + length second.visits = second.finished in
        record {
          visits = first.visits ++ second.visits;
          served = serves_trans pass middle next first.visits second.visits first.served second.served;
          came = come_trans before.waiting between.waiting after.waiting first.visits second.visits first.came second.came;
          done = subst (Adds before.done after.done) (sym (finished-append first.visits second.visits))
              (adds_trans before.done between.done after.done (map finished_of first.visits) (map finished_of second.visits) first.done second.done);
          accepted = omega arith;
          finished = omega arith;
          port = second.port ∙ first.port;
          count = counted;
        }

    pub next_served : {T U E F : Type 0} (done : T) (last : U) → IsDoorServed nodes g node Answers seen {E = E} count before between pass middle (Ok done)
        → IsDoorServed nodes g node Answers seen {E = F} 1 between after middle next (Ok last) → IsDoorServed nodes g node Answers seen {E = F} (count + 1) before after pass next (Ok last)
    next_served done last first second =
        let sum : length (first.visits ++ second.visits) ≡ length first.visits + length second.visits = length-append first.visits second.visits in
        let some : length first.visits ≡ count = first.count in
        let one : length second.visits ≡ 1 = second.count in
        joined 1 done (Ok last) (count + 1) first second (omega arith)

    pub next_failed : {T U E F : Type 0} (done : T) (failed : F) (connections : ℕ) → count < connections
        → IsDoorServed nodes g node Answers seen {E = E} count before between pass middle (Ok done)
        → IsDoorServed nodes g node Answers seen {T = U} 1 between after middle next (Err failed) → IsDoorServed nodes g node Answers seen {T = U} connections before after pass next (Err failed)
    next_failed done failed connections below first second =
        let sum : length (first.visits ++ second.visits) ≡ length first.visits + length second.visits = length-append first.visits second.visits in
        let some : length first.visits ≡ count = first.count in
        let none : length second.visits < 1 = second.count in
        joined 1 done (Err failed) connections first second (omega arith)
