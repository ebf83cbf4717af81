-- A worker goes through its entries one by one.
use Rattle.std.proofs.Common.{◌≡◌, ◌⊎◌, ℕ, ◌+◌, Bool, true, false, List, [], ◌∷◌, ◌++◌, map, length, set, slice_get, Option, Some, None, eqb, if◌then◌else◌, refl, sym, ap, subst, ◌∙◌, arith, inl, inr}
use Rattle.std.proofs.lemmas.List.{append-nil, nil_from_length}
use Rattle.std.proofs.lemmas.Bool.Decides.{eqb_tells}
use Rattle.std.specs.List.{AllZip}
use Rattle.block_run.specs.Jobs.{Chains}
use Rattle.turnstile.specs.declared.machine.Machine.{Ghosts}
use Rattle.turnstile.specs.declared.turnstile.Turnstile.{Turnstile}
use Rattle.turnstile.specs.Names.{knows}
use Rattle.shared_objects.specs.declared.pass.Post.{Post}
use Rattle.shared_objects.specs.declared.call.Call.{Call}
use Rattle.shared_objects.specs.Asked.{requests_on}
use Rattle.shared_objects.specs.Seats.{calls_at, Sits}
use Rattle.shared_objects.specs.Shares.{asked_on, share_of, HasGone, HasWorked}
use Rattle.shared_objects.proofs.Zips.{zip_set, zip_at, was_at, new_at, other_at}

pub moved_over : {E Q : Type 0} (r : E → Q) (xs : List E) (c : E) (ys : List Q) → map r (xs ++ c ∷ []) ++ ys ≡ map r xs ++ r c ∷ ys
moved_over r [] c ys = refl
moved_over r (x ∷ xs) c ys = ap (λ (u : List _). r x ∷ u) (moved_over r xs c ys)

longer_by_one : {E : Type 0} (xs : List E) (c : E) → length (xs ++ c ∷ []) ≡ length xs + 1
longer_by_one [] c = omega arith
longer_by_one (x ∷ xs) c = let e = longer_by_one xs c in omega arith

module _ {M Q A C : Type 0} {g : Ghosts M Q A C} (ts : List (Turnstile M Q A C)) where
  pub gone_none : (posts : List (Post M Q A C g)) (shift : List (Option (Call Q))) → HasGone ts 0 posts shift posts shift
  gone_none posts shift = record { entries = omega arith; asked = λ i. refl; shares = λ i. refl; sits = λ h. h }

  pub gone_more : (n m : ℕ) (p q r : List (Post M Q A C g)) (a b c : List (Option (Call Q))) → HasGone ts n p a q b → HasGone ts m q b r c → HasGone ts (n + m) p a r c
  gone_more n m p q r a b c h k = record {
    entries = omega (arith, h.entries, k.entries);
    asked = λ i. k.asked i ∙ h.asked i;
    shares = λ i. k.shares i ∙ h.shares i;
    sits = λ s. k.sits (h.sits s);
  }

  -- An entry without a call is passed over.
  pub gone_past : (posts : List (Post M Q A C g)) (shift : List (Option (Call Q))) → HasGone ts 1 posts (None ∷ shift) posts shift
  gone_past posts shift = record { entries = omega arith; asked = λ i. refl; shares = λ i. refl; sits = λ h. h }

  -- a call from the seat in a place
  module _ (call : Call Q) (posts : List (Post M Q A C g)) (p p' : Post M Q A C g) (place : ℕ) (reply : A) (shift : List (Option (Call Q))) (there : slice_get posts call.machine ≡ Some p)
      (own : (knows p'.seat).mine ≡ (knows p.seat).mine ++ (place, (call.request, reply)) ∷ []) (budget : (knows p'.seat).budget + 1 ≡ (knows p.seat).budget) where
    asked_case : (i : ℕ) → ((eqb call.machine i ≡ true) × (call.machine ≡ i)) ⊎ ((eqb call.machine i ≡ false) × (call.machine ≡ i → ⊥)) →
        asked_on i (set posts call.machine p') shift ≡ map (λ c. c.1.0) (calls_at i posts) ++ (if eqb call.machine i then call.request ∷ requests_on i shift else requests_on i shift)
    asked_case i (inl (t, e)) =
        subst (λ (b : Bool). asked_on i (set posts call.machine p') shift ≡ map (λ c. c.1.0) (calls_at i posts) ++ (if b then call.request ∷ requests_on i shift else requests_on i shift)) (sym t)
        (subst (λ (j : ℕ). asked_on j (set posts call.machine p') shift ≡ map (λ c. c.1.0) (calls_at j posts) ++ call.request ∷ requests_on j shift) e
        (ap (λ (u : List (ℕ × (Q × A))). map (λ c. c.1.0) u ++ requests_on call.machine shift) (new_at (λ (s : Post M Q A C g). (knows s.seat).mine) [] posts call.machine p p' there ∙ own)
        ∙ moved_over (λ (c : ℕ × (Q × A)). c.1.0) (knows p.seat).mine (place, (call.request, reply)) (requests_on call.machine shift)
        ∙ ap (λ (u : List (ℕ × (Q × A))). map (λ c. c.1.0) u ++ call.request ∷ requests_on call.machine shift) (sym (was_at (λ (s : Post M Q A C g). (knows s.seat).mine) [] posts call.machine p there))))
    asked_case i (inr (t, e)) =
        subst (λ (b : Bool). asked_on i (set posts call.machine p') shift ≡ map (λ c. c.1.0) (calls_at i posts) ++ (if b then call.request ∷ requests_on i shift else requests_on i shift)) (sym t)
        (ap (λ (u : List (ℕ × (Q × A))). map (λ c. c.1.0) u ++ requests_on i shift) (other_at (λ (s : Post M Q A C g). (knows s.seat).mine) [] posts call.machine i p' e))

    share_case : (i : ℕ) → ((eqb call.machine i ≡ true) × (call.machine ≡ i)) ⊎ ((eqb call.machine i ≡ false) × (call.machine ≡ i → ⊥)) → share_of i (set posts call.machine p') ≡ share_of i posts
    share_case i (inl (t, e)) =
        subst (λ (j : ℕ). share_of j (set posts call.machine p') ≡ share_of j posts) e
        (let a = new_at (λ (s : Post M Q A C g). (knows s.seat).budget) 0 posts call.machine p p' there in
        let b = new_at (λ (s : Post M Q A C g). (knows s.seat).mine) [] posts call.machine p p' there in
        let u = was_at (λ (s : Post M Q A C g). (knows s.seat).budget) 0 posts call.machine p there in
        let v = was_at (λ (s : Post M Q A C g). (knows s.seat).mine) [] posts call.machine p there in
        omega (arith, a, u, ap length b, ap length v, ap length own, longer_by_one (knows p.seat).mine (place, (call.request, reply)), budget))
    share_case i (inr (t, e)) =
        let a = other_at (λ (s : Post M Q A C g). (knows s.seat).budget) 0 posts call.machine i p' e in
        let b = other_at (λ (s : Post M Q A C g). (knows s.seat).mine) [] posts call.machine i p' e in
        omega (arith, a, ap length b)

    pub gone_call : ((t : Turnstile M Q A C) → slice_get ts call.machine ≡ Some t → Sits t p → Sits t p') → HasGone ts 1 posts (Some call ∷ shift) (set posts call.machine p') shift
    gone_call keeps = record {
      entries = omega arith;
      asked = λ i. asked_case i (eqb_tells call.machine i);
      shares = λ i. share_case i (eqb_tells call.machine i);
      sits = λ h. zip_set Sits ts posts call.machine p' h (λ t e. keeps t e (zip_at Sits ts posts call.machine t p h e there));
    }

  -- all entries of a worker
  module _ {P : Type 0} (posts : P → List (Post M Q A C g)) (shift : P → List (Option (Call Q))) where
    pub chained : (jobs : List ℕ) (p q : P) (answers : List (ℕ × Unit {0})) → Chains (λ job before answer next. HasGone ts 1 (posts before) (shift before) (posts next) (shift next)) jobs p answers q →
        HasGone ts (length jobs) (posts p) (shift p) (posts q) (shift q)
    chained [] p q answers h = subst (λ (r : P). HasGone ts 0 (posts p) (shift p) (posts r) (shift r)) (sym h.1) (gone_none (posts p) (shift p))
    chained (job ∷ jobs) p q answers (answer, next, rest, one, is, more) =
        let all = gone_more 1 (length jobs) (posts p) (posts next) (posts q) (shift p) (shift next) (shift q) one (chained jobs next q rest more) in
        subst (λ (n : ℕ). HasGone ts n (posts p) (shift p) (posts q) (shift q)) (omega arith) all

  pub worked : (n : ℕ) (p q : List (Post M Q A C g)) (a b : List (Option (Call Q))) → HasGone ts n p a q b → length a ≡ n → AllZip Sits ts p → HasWorked ts true p a q
  worked n p q a b h long sits =
      let none : b ≡ [] = nil_from_length b (omega (arith, h.entries)) in record {
        sits = h.sits sits;
        asked = λ i. sym (append-nil (map (λ c. c.1.0) (calls_at i q))) ∙ ap (λ (s : List (Option (Call Q))). asked_on i q s) (sym none) ∙ h.asked i;
        shares = h.shares;
      }

  pub idle : (p : List (Post M Q A C g)) (a : List (Option (Call Q))) → AllZip Sits ts p → HasWorked ts false p a p
  idle p a sits = record { sits = sits; asked = λ i. sym (append-nil (map (λ c. c.1.0) (calls_at i p))); shares = λ i. refl }
