-- A worker that is ready for its next entry.
use Rattle.std.proofs.Common.{◌≡◌, ◌⊎◌, ℕ, zero, suc, ◌+◌, ◌<◌, ◌≤◌, true, false, List, [], ◌∷◌, ◌++◌, map, length, set, slice_get, Option, Some, None, All, IfSome, eqb, refl, sym, ap, subst, arith, inl, inr}
use Rattle.std.proofs.lemmas.List.{length-set}
use Rattle.std.proofs.lemmas.Option.{slice_get_within}
use Rattle.std.proofs.lemmas.Bool.Decides.{eqb_tells}
use mathlib.Core.List.{IsPrefix}
use Rattle.turnstile.specs.declared.machine.Machine.{Ghosts}
use Rattle.turnstile.specs.declared.turnstile.Turnstile.{Turnstile}
use Rattle.turnstile.specs.Names.{opening, knows, Fits}
use Rattle.turnstile.specs.Views.{Stands}
use Rattle.shared_objects.specs.Rising.{Rises}
use Rattle.shared_objects.proofs.Rising.{rises_on}
use Rattle.shared_objects.specs.declared.pass.Post.{Post}
use Rattle.shared_objects.specs.declared.call.Call.{Call}
use Rattle.shared_objects.specs.Asked.{IsTaken}
use Rattle.shared_objects.specs.Seats.{budget_at, Sits}
use Rattle.shared_objects.specs.Shares.{IsReady, HasGone}
use Rattle.shared_objects.proofs.Zips.{zip_at, zip_same, was_at, new_at, other_at, same_item}
use Rattle.shared_objects.proofs.Going.{gone_call}

taken_next : {X : Type 0} (P : X → Type 0) (x : X) (xs : List X) → All P (x ∷ xs) → P x
taken_next P x xs h = h 0 x (omega arith)

taken_rest : {X : Type 0} (P : X → Type 0) (x : X) (xs : List X) → All P (x ∷ xs) → All P xs
taken_rest P x xs h = λ k d lt. h (suc k) d (omega arith)

-- An item of a mapped list is the image of an item.
pub made_of : {X Y : Type 0} (f : X → Y) (xs : List X) (k : ℕ) (y : Y) → slice_get (map f xs) k ≡ Some y → (x : X) × (slice_get xs k ≡ Some x) × (f x ≡ y)
made_of f [] k y e = cc
made_of f (x ∷ xs) zero y e = let p : f x ≡ y = cc in (x, refl, p)
made_of f (x ∷ xs) (suc k) y e = made_of f xs k y e

module _ {M Q A C : Type 0} {g : Ghosts M Q A C} where
  -- what a call did to a seat
  pub record Called (t : Turnstile M Q A C) (p p' : Post M Q A C g) (q : Q) (place : ℕ) (reply : A) : Type 0 where
    pub fits : Fits t p'.seat
    pub history : (before : List (Q × A)) × IsPrefix (knows p.seat).seen before × (length before ≡ place)
    pub own : (knows p'.seat).mine ≡ (knows p.seat).mine ++ (place, (q, reply)) ∷ []
    pub stands : Stands (knows p'.seat).mine (knows p'.seat).seen
    pub budget : (knows p'.seat).budget + 1 ≡ (knows p.seat).budget

  pub called_sits : (t : Turnstile M Q A C) (p p' : Post M Q A C g) (q : Q) (place : ℕ) (reply : A) → Called t p p' q place reply → Sits t p → Sits t p'
  called_sits t p p' q place reply did sat = record {
    fits = did.fits;
    stands = did.stands;
    rises = subst (λ (calls : List (ℕ × (Q × A))). Rises calls) (sym did.own) (rises_on (knows p.seat).mine (knows p.seat).seen did.history.0 place (q, reply) sat.rises sat.stands did.history.1 did.history.2);
  }

  module _ (takes : C → Q → Type 0) (charter : M → C) (ts : List (Turnstile M Q A C)) (posts : List (Post M Q A C g)) (shift : List (Option (Call Q))) (n : ℕ) (ready : IsReady takes charter ts posts shift n) where
    -- Where a job is left, an entry is left.
    pub none_left : (job : ℕ) → n ≡ job + 1 → shift ≡ [] → ⊥
    none_left job e is = let l = ap length is in let k = ready.entries in absurd (omega (arith, e, l, k))

    -- An entry without a call is done.
    pub ready_past : (m : ℕ) (rest : List (Option (Call Q))) → n ≡ m + 1 → shift ≡ None ∷ rest → IsReady takes charter ts posts rest m
    ready_past m rest e is = record {
      sits = ready.sits;
      entries = omega (arith, e, ap length is, ready.entries);
      budget = λ i lt. omega (arith, ready.budget i lt, e);
      taken = taken_rest (λ entry. IfSome entry (IsTaken charter takes (map opening ts))) None rest (subst (λ (s : List (Option (Call Q))). All (λ entry. IfSome entry (IsTaken charter takes (map opening ts))) s) is ready.taken);
    }

    module _ (call : Call Q) (rest : List (Option (Call Q))) (is : shift ≡ Some call ∷ rest) where
      taken : IsTaken charter takes (map opening ts) call
      taken = taken_next (λ entry. IfSome entry (IsTaken charter takes (map opening ts))) (Some call) rest (subst (λ (s : List (Option (Call Q))). All (λ entry. IfSome entry (IsTaken charter takes (map opening ts))) s) is ready.taken)

      pub in_turnstiles : call.machine < length ts
      in_turnstiles = let t = made_of opening ts call.machine taken.0 taken.1 in slice_get_within ts call.machine t.0 t.1

      pub in_posts : call.machine < length posts
      in_posts = let e = zip_same Sits ts posts ready.sits in let l = in_turnstiles in omega (arith, e, l)

      module _ (t : Turnstile M Q A C) (p : Post M Q A C g) (et : slice_get ts call.machine ≡ Some t) (ep : slice_get posts call.machine ≡ Some p) where
        pub may_sit : Sits t p
        may_sit = zip_at Sits ts posts call.machine t p ready.sits et ep

        pub may_call : 0 < n → 0 < (knows p.seat).budget
        may_call some = let b = ready.budget call.machine in_posts in let w = was_at (λ (s : Post M Q A C g). (knows s.seat).budget) 0 posts call.machine p ep in omega (arith, b, w, some)

        pub may_ask : takes (charter (opening t)) call.request
        may_ask =
            let o = made_of opening ts call.machine taken.0 taken.1 in
            let e = same_item (slice_get ts call.machine) o.0 t o.1 et in
            subst (λ (u : Turnstile M Q A C). takes (charter (opening u)) call.request) e (subst (λ (m : M). takes (charter m) call.request) (sym o.2) taken.2)

        module _ (p' : Post M Q A C g) (place : ℕ) (reply : A) (did : Called t p p' call.request place reply) where
          keeps : (u : Turnstile M Q A C) → slice_get ts call.machine ≡ Some u → Sits u p → Sits u p'
          keeps u e sat = subst (λ (v : Turnstile M Q A C). Sits v p') (same_item (slice_get ts call.machine) t u et e) (called_sits t p p' call.request place reply did may_sit)

          pub goes : HasGone ts 1 posts shift (set posts call.machine p') rest
          goes = subst (λ (s : List (Option (Call Q))). HasGone ts 1 posts s (set posts call.machine p') rest) (sym is) (gone_call ts call posts p p' place reply rest ep did.own did.budget keeps)

          budget_case : (m i : ℕ) → n ≡ m + 1 → i < length posts → ((eqb call.machine i ≡ true) × (call.machine ≡ i)) ⊎ ((eqb call.machine i ≡ false) × (call.machine ≡ i → ⊥)) → m ≤ budget_at i (set posts call.machine p')
          budget_case m i e lt (inl (b, same)) =
              subst (λ (j : ℕ). m ≤ budget_at j (set posts call.machine p')) same
              (let b = ready.budget call.machine in_posts in
              let w = was_at (λ (s : Post M Q A C g). (knows s.seat).budget) 0 posts call.machine p ep in
              let v = new_at (λ (s : Post M Q A C g). (knows s.seat).budget) 0 posts call.machine p p' ep in
              omega (arith, b, w, v, did.budget, e))
          budget_case m i e lt (inr (b, other)) =
              let v = other_at (λ (s : Post M Q A C g). (knows s.seat).budget) 0 posts call.machine i p' other in
              let w = ready.budget i lt in
              omega (arith, v, w, e)

          pub ready_on : (m : ℕ) → n ≡ m + 1 → IsReady takes charter ts (set posts call.machine p') rest m
          ready_on m e = record {
            sits = goes.sits ready.sits;
            entries = omega (arith, e, ap length is, ready.entries);
            budget = λ i lt. budget_case m i e (subst (λ (l : ℕ). i < l) (length-set posts call.machine p') lt) (eqb_tells call.machine i);
            taken = taken_rest (λ entry. IfSome entry (IsTaken charter takes (map opening ts))) (Some call) rest (subst (λ (s : List (Option (Call Q))). All (λ entry. IfSome entry (IsTaken charter takes (map opening ts))) s) is ready.taken);
          }
