-- What one call does to a row of seats.
use Rattle.std.proofs.Common.{◌≡◌, ◌⊎◌, ℕ, ◌+◌, ◌<◌, Bool, true, false, List, [], ◌∷◌, ◌++◌, map, length, set, slice_get, Some, eqb, if◌then◌else◌, refl, sym, ap, subst, ◌∙◌, arith, inl, inr}
use Rattle.std.specs.List.{AllZip}
use Rattle.std.proofs.lemmas.List.{append-nil}
use Rattle.std.proofs.lemmas.Option.{slice_get_within}
use Rattle.std.proofs.lemmas.Bool.Decides.{eqb_tells}
use mathlib.Core.List.{IsPrefix}
use Rattle.turnstile.specs.declared.machine.Machine.{Ghosts}
use Rattle.turnstile.specs.declared.turnstile.Turnstile.{Turnstile}
use Rattle.turnstile.specs.Names.{opening, knows}
use Rattle.turnstile.specs.Turns.{Leads, IsLegal}
use Rattle.shared_objects.specs.declared.pass.Post.{Post}
use Rattle.shared_objects.specs.declared.call.Call.{Call}
use Rattle.shared_objects.specs.Asked.{IsTaken}
use Rattle.shared_objects.specs.Seats.{calls_at, budget_at, Sits}
use Rattle.shared_objects.proofs.Zips.{zip_at, zip_set, zip_same, was_at, new_at, other_at, same_item}
use Rattle.shared_objects.proofs.Ready.{Called, called_sits, made_of}
use Rattle.shared_objects.specs.Said.{Said}
use Rattle.shared_objects.proofs.Gathering.{at_map}
use Rattle.shared_objects.specs.ScriptCalling.{seen_at, HasSaid, IsAnswered}

-- the last turn of a chain
pub last_turn : {M Q A : Type 0} (turn : M → Q → A → M → Type 0) (m n : M) (xs : List (Q × A)) (e : Q × A) → Leads turn m (xs ++ e ∷ []) n → (k : M) × Leads turn m xs k × turn k e.0 e.1 n
last_turn {M} turn m n [] e (k, t, l) = (m, refl, subst (λ (o : M). turn m e.0 e.1 o) l t)
last_turn turn m n (x ∷ xs) e (k, t, l) = let r = last_turn turn k n xs e l in (r.0, (k, t, r.1), r.2)

module _ {M Q A C : Type 0} {g : Ghosts M Q A C} where
  module _ (takes : C → Q → Type 0) (charter : M → C) (ts : List (Turnstile M Q A C)) (posts : List (Post M Q A C g)) (call : Call Q) (sits : AllZip Sits ts posts) (taken : IsTaken charter takes (map opening ts) call) where
    pub in_turnstiles : call.machine < length ts
    in_turnstiles = let t = made_of opening ts call.machine taken.0 taken.1 in slice_get_within ts call.machine t.0 t.1

    pub in_posts : call.machine < length posts
    in_posts = let e = zip_same Sits ts posts sits in let l = in_turnstiles in omega (arith, e, l)

    module _ (t : Turnstile M Q A C) (p : Post M Q A C g) (et : slice_get ts call.machine ≡ Some t) (ep : slice_get posts call.machine ≡ Some p) where
      pub may_sit : Sits t p
      may_sit = zip_at Sits ts posts call.machine t p sits et ep

      pub may_call : 0 < budget_at call.machine posts → 0 < (knows p.seat).budget
      may_call some = let w = was_at (λ (s : Post M Q A C g). (knows s.seat).budget) 0 posts call.machine p ep in omega (arith, w, some)

      pub may_ask : takes (charter (opening t)) call.request
      may_ask =
          let o = made_of opening ts call.machine taken.0 taken.1 in
          let e = same_item (slice_get ts call.machine) o.0 t o.1 et in
          subst (λ (u : Turnstile M Q A C). takes (charter (opening u)) call.request) e (subst (λ (m : M). takes (charter m) call.request) (sym o.2) taken.2)

  -- a call from the seat in a place
  module _ (ts : List (Turnstile M Q A C)) (posts : List (Post M Q A C g)) (said : Said Q A) (t : Turnstile M Q A C) (p p' : Post M Q A C g) (et : slice_get ts said.machine ≡ Some t) (ep : slice_get posts said.machine ≡ Some p)
      (did : Called t p p' said.request said.place said.reply) where
    pub sits_on : AllZip Sits ts posts → AllZip Sits ts (set posts said.machine p')
    sits_on sits =
        zip_set Sits ts posts said.machine p' sits
        (λ u e. subst (λ (v : Turnstile M Q A C). Sits v p') (same_item (slice_get ts said.machine) t u et e) (called_sits t p p' said.request said.place said.reply did (zip_at Sits ts posts said.machine t p sits et ep)))

    entries_case : (i : ℕ) → ((eqb said.machine i ≡ true) × (said.machine ≡ i)) ⊎ ((eqb said.machine i ≡ false) × (said.machine ≡ i → ⊥)) →
        calls_at i (set posts said.machine p') ≡ calls_at i posts ++ (if eqb said.machine i then (said.place, (said.request, said.reply)) ∷ [] else [])
    entries_case i (inl (b, e)) =
        subst (λ (b : Bool). calls_at i (set posts said.machine p') ≡ calls_at i posts ++ (if b then (said.place, (said.request, said.reply)) ∷ [] else [])) (sym b)
        (subst (λ (j : ℕ). calls_at j (set posts said.machine p') ≡ calls_at j posts ++ (said.place, (said.request, said.reply)) ∷ []) e
        (new_at (λ (s : Post M Q A C g). (knows s.seat).mine) [] posts said.machine p p' ep ∙ did.own
        ∙ ap (λ (own : List (ℕ × (Q × A))). own ++ (said.place, (said.request, said.reply)) ∷ []) (sym (was_at (λ (s : Post M Q A C g). (knows s.seat).mine) [] posts said.machine p ep))))
    entries_case i (inr (b, e)) =
        subst (λ (b : Bool). calls_at i (set posts said.machine p') ≡ calls_at i posts ++ (if b then (said.place, (said.request, said.reply)) ∷ [] else [])) (sym b)
        (other_at (λ (s : Post M Q A C g). (knows s.seat).mine) [] posts said.machine i p' e ∙ sym (append-nil (calls_at i posts)))

    budget_case : (i : ℕ) → ((eqb said.machine i ≡ true) × (said.machine ≡ i)) ⊎ ((eqb said.machine i ≡ false) × (said.machine ≡ i → ⊥)) →
        budget_at i (set posts said.machine p') + length {A = ℕ × (Q × A)} (if eqb said.machine i then (said.place, (said.request, said.reply)) ∷ [] else []) ≡ budget_at i posts
    budget_case i (inl (b, e)) =
        subst (λ (b : Bool). budget_at i (set posts said.machine p') + length {A = ℕ × (Q × A)} (if b then (said.place, (said.request, said.reply)) ∷ [] else []) ≡ budget_at i posts) (sym b)
        (subst (λ (j : ℕ). budget_at j (set posts said.machine p') + 1 ≡ budget_at j posts) e
        (let v = new_at (λ (s : Post M Q A C g). (knows s.seat).budget) 0 posts said.machine p p' ep in
        let w = was_at (λ (s : Post M Q A C g). (knows s.seat).budget) 0 posts said.machine p ep in
        omega (arith, v, w, did.budget)))
    budget_case i (inr (b, e)) =
        subst (λ (b : Bool). budget_at i (set posts said.machine p') + length {A = ℕ × (Q × A)} (if b then (said.place, (said.request, said.reply)) ∷ [] else []) ≡ budget_at i posts) (sym b)
        (let v = other_at (λ (s : Post M Q A C g). (knows s.seat).budget) 0 posts said.machine i p' e in omega (arith, v))

    pub said_one : HasSaid (said ∷ []) posts (set posts said.machine p')
    said_one = record { calls = λ i. entries_case i (eqb_tells said.machine i); budget = λ i. budget_case i (eqb_tells said.machine i) }

    pub answered : (turn : M → Q → A → M → Type 0) (before : List (Q × A)) → length before ≡ said.place → IsPrefix (knows p.seat).seen before → (knows p'.seat).seen ≡ before ++ (said.request, said.reply) ∷ [] → IsLegal turn (opening t) (knows p'.seat).seen →
        IsAnswered turn (map opening ts) said (seen_at said.machine posts) (seen_at said.machine (set posts said.machine p'))
    answered turn before long prefix sees legal =
        let chain = last_turn turn (opening t) legal.0 before (said.request, said.reply) (subst (λ (log : List (Q × A)). Leads turn (opening t) log legal.0) sees legal.1) in record {
          opening = opening t;
          there = at_map opening ts said.machine t et;
          earlier = before;
          before = chain.0;
          after = legal.0;
          leads = chain.1;
          turned = chain.2;
          place = long;
          prefix = subst (λ (log : List (Q × A)). IsPrefix log before) (sym (was_at (λ (s : Post M Q A C g). (knows s.seat).seen) [] posts said.machine p ep)) prefix;
          now_seen = new_at (λ (s : Post M Q A C g). (knows s.seat).seen) [] posts said.machine p p' ep ∙ sees;
        }

    pub others_unseen : (i : ℕ) → (i ≡ said.machine → ⊥) → seen_at i (set posts said.machine p') ≡ seen_at i posts
    others_unseen i h = other_at (λ (s : Post M Q A C g). (knows s.seat).seen) [] posts said.machine i p' (λ e. h (sym e))
