-- A seat is split off the kept seat of a node, and later joined into it again.
use Rattle.std.proofs.Common.{◌≡◌, ◌⊎◌, ℕ, ◌+◌, ◌-◌, ◌*◌, ◌<◌, ◌≤◌, Bool, true, false, List, [], ◌∷◌, ◌++◌, length, set, slice_get, Some, eqb, if◌then◌else◌, sym, ap, subst, ◌∙◌, arith, inl, inr, append-nil}
use Rattle.std.specs.List.{AllZip, AllByRecursion}
use Rattle.std.proofs.lemmas.Option.{slice_get_within}
use Rattle.std.proofs.lemmas.Bool.Decides.{eqb_tells}
use Rattle.net_model.specs.declared.event.Event.{Event}
use Rattle.declared_site.specs.declared.site.Site.{Site}
use Rattle.turnstile.specs.declared.machine.Machine.{Ghosts}
use Rattle.turnstile.specs.declared.turnstile.Turnstile.{Turnstile}
use Rattle.turnstile.specs.declared.seat.Seat.{Seat}
use Rattle.turnstile.specs.Names.{opening, knows, Fits}
use Rattle.turnstile.specs.Views.{keeping, newcomer, Stands}
use Rattle.shared_objects.specs.Rising.{Rises}
use Rattle.shared_objects.specs.declared.pass.Post.{Post as Kept}
use Rattle.shared_objects.specs.Seats.{calls_at, budget_at, Belongs}
use Rattle.shared_objects.proofs.Places.{same_on}
use Rattle.shared_objects.proofs.Zips.{zip_at, zip_same, zip_set, same_item, was_at, new_at, other_at}
use Rattle.net_serve.specs.declared.answered.Answered.{Answered}
use Rattle.net_serve.specs.Passes.{IsSeated}
use Rattle.net_serve.specs.Seats.{calls_if, budget_if, HasSeat}

module _ {M Q A C : Type 0} {g : Ghosts M Q A C} (ts : List (Turnstile M Q A C)) (kept : List (Kept M Q A C g)) (k : ℕ) (t : Turnstile M Q A C) (p p' : Kept M Q A C g)
    (there : slice_get ts k ≡ Some t) (at : slice_get kept k ≡ Some p) (belong : AllZip Belongs ts kept) where
  pub fits_there : Fits t p.seat
  fits_there = zip_at Belongs ts kept k t p belong there at

  pub still_belong : Fits t p'.seat → AllZip Belongs ts (set kept k p')
  still_belong fits = zip_set Belongs ts kept k p' belong (λ u e. subst (λ (x : Turnstile M Q A C). Belongs x p') (same_item (slice_get ts k) t u there e) fits)

  -- the new seat takes `calls` calls of the kept one

  module _ (calls : ℕ) (seat : Seat M Q A C g) (was : knows p'.seat ≡ keeping (knows p.seat) ((knows p.seat).budget - calls)) (is : knows seat ≡ newcomer (knows p.seat) calls)
      (enough : calls ≤ budget_at k kept) where
    pub split_own : (v : ℕ) → calls_at v (set kept k p') ≡ calls_at v kept
    split_own v = same_on (λ (x : Kept M Q A C g). (knows x.seat).mine) [] kept k p p' at (ap (λ x. x.mine) was) v

    split_case : (v : ℕ) → ((eqb k v ≡ true) × (k ≡ v)) ⊎ ((eqb k v ≡ false) × (k ≡ v → ⊥)) → budget_at v (set kept k p') + budget_if v k seat ≡ budget_at v kept
    split_case v (inl (b, e)) =
        ap (λ (x : Bool). budget_at v (set kept k p') + (if x then (knows seat).budget else 0)) b
        ∙ subst (λ (j : ℕ). budget_at j (set kept k p') + (knows seat).budget ≡ budget_at j kept) e
        (let new = new_at (λ (x : Kept M Q A C g). (knows x.seat).budget) 0 kept k p p' at in
        let old = was_at (λ (x : Kept M Q A C g). (knows x.seat).budget) 0 kept k p at in
        let left : (knows p'.seat).budget ≡ (knows p.seat).budget - calls = ap (λ x. x.budget) was in
        let took : (knows seat).budget ≡ calls = ap (λ x. x.budget) is in
        omega (arith, new, old, left, took, enough))
    split_case v (inr (b, other)) =
        ap (λ (x : Bool). budget_at v (set kept k p') + (if x then (knows seat).budget else 0)) b
        ∙ (let same = other_at (λ (x : Kept M Q A C g). (knows x.seat).budget) 0 kept k v p' other in omega (arith, same))

    pub split_share : (v : ℕ) → budget_at v (set kept k p') + budget_if v k seat ≡ budget_at v kept
    split_share v = split_case v (eqb_tells k v)

    took_all : (v : ℕ) (x : Bool) → (if x then (knows seat).budget else 0) ≤ calls
    took_all v true = let took : (knows seat).budget ≡ calls = ap (λ x. x.budget) is in omega (arith, took)
    took_all v false = omega arith

    -- the calls left suffice for `n` more seats
    pub split_left : (n v : ℕ) → (n + 1) * calls ≤ budget_at v kept → n * calls ≤ budget_at v (set kept k p')
    split_left n v h = let share = split_share v in let few = took_all v (eqb k v) in omega (arith, h, share, few)

  -- a seat of the same node is joined into the kept one

  module _ (seat : Seat M Q A C g) where
    join_calls_case : (knows p'.seat).mine ≡ (knows p.seat).mine ++ (knows seat).mine → (v : ℕ) → ((eqb k v ≡ true) × (k ≡ v)) ⊎ ((eqb k v ≡ false) × (k ≡ v → ⊥)) →
        calls_at v (set kept k p') ≡ calls_at v kept ++ calls_if v k seat
    join_calls_case own v (inl (b, e)) =
        subst (λ (j : ℕ). calls_at j (set kept k p') ≡ calls_at j kept ++ (knows seat).mine) e
        (new_at (λ (x : Kept M Q A C g). (knows x.seat).mine) [] kept k p p' at ∙ own
        ∙ ap (λ (u : List (ℕ × (Q × A))). u ++ (knows seat).mine) (sym (was_at (λ (x : Kept M Q A C g). (knows x.seat).mine) [] kept k p at)))
        ∙ ap (λ (x : Bool). calls_at v kept ++ (if x then (knows seat).mine else [])) (sym b)
    join_calls_case own v (inr (b, other)) =
        other_at (λ (x : Kept M Q A C g). (knows x.seat).mine) [] kept k v p' other ∙ sym (append-nil (calls_at v kept))
        ∙ ap (λ (x : Bool). calls_at v kept ++ (if x then (knows seat).mine else [])) (sym b)

    pub join_calls : (knows p'.seat).mine ≡ (knows p.seat).mine ++ (knows seat).mine → (v : ℕ) → calls_at v (set kept k p') ≡ calls_at v kept ++ calls_if v k seat
    join_calls own v = join_calls_case own v (eqb_tells k v)

    join_budget_case : (knows p'.seat).budget ≡ (knows p.seat).budget + (knows seat).budget → (v : ℕ) → ((eqb k v ≡ true) × (k ≡ v)) ⊎ ((eqb k v ≡ false) × (k ≡ v → ⊥)) →
        budget_at v (set kept k p') ≡ budget_at v kept + budget_if v k seat
    join_budget_case budget v (inl (b, e)) =
        subst (λ (j : ℕ). budget_at j (set kept k p') ≡ budget_at j kept + (knows seat).budget) e
        (new_at (λ (x : Kept M Q A C g). (knows x.seat).budget) 0 kept k p p' at ∙ budget
        ∙ ap (λ (n : ℕ). n + (knows seat).budget) (sym (was_at (λ (x : Kept M Q A C g). (knows x.seat).budget) 0 kept k p at)))
        ∙ ap (λ (x : Bool). budget_at v kept + (if x then (knows seat).budget else 0)) (sym b)
    join_budget_case budget v (inr (b, other)) =
        (let same = other_at (λ (x : Kept M Q A C g). (knows x.seat).budget) 0 kept k v p' other in none_more same)
        ∙ ap (λ (x : Bool). budget_at v kept + (if x then (knows seat).budget else 0)) (sym b)
      where
        none_more : {a b : ℕ} → a ≡ b → a ≡ b + 0
        none_more h = omega (arith, h)

    pub join_budget : (knows p'.seat).budget ≡ (knows p.seat).budget + (knows seat).budget → (v : ℕ) → budget_at v (set kept k p') ≡ budget_at v kept + budget_if v k seat
    join_budget budget v = join_budget_case budget v (eqb_tells k v)

-- a seat that was just split off at a node
pub new_seat : {M : Type 0} {g : Ghosts M Event Answered (Site × ℕ)} (charter : M → Site × ℕ) (site : Site) (ts : List (Turnstile M Event Answered (Site × ℕ))) (k node calls : ℕ)
    (t : Turnstile M Event Answered (Site × ℕ)) (p : Kept M Event Answered (Site × ℕ) g) (seat : Seat M Event Answered (Site × ℕ) g) → slice_get ts k ≡ Some t → charter (opening t) ≡ (site, k) →
    node ≡ k → Fits t seat → knows seat ≡ newcomer (knows p.seat) calls → HasSeat charter site ts calls k node seat
new_seat {M} {g} charter site ts k node calls t p seat there of at fits is =
    let none : (knows seat).mine ≡ [] = ap (λ x. x.mine) is in
    record {
      at = at;
      none = none;
      budget = ap (λ x. x.budget) is;
      seated = subst (λ (n : ℕ). IsSeated {g = g} charter site ts n seat) (sym at) (record {
        turnstile = t;
        there = there;
        of = of;
        fits = fits;
        stands = subst (λ (calls : List (ℕ × (Event × Answered))). Stands calls (knows seat).seen) (sym none) tt;
        rises = subst (λ (calls : List (ℕ × (Event × Answered))). Rises calls) (sym none) tt;
      });
    }

-- there are as many kept seats as turnstiles
pub as_long : {M Q A C : Type 0} {g : Ghosts M Q A C} (ts : List (Turnstile M Q A C)) (kept : List (Kept M Q A C g)) → AllZip Belongs ts kept → length kept ≡ length ts
as_long ts kept h = zip_same Belongs ts kept h

-- a seat belongs to the turnstile at its index

module _ {M : Type 0} {g : Ghosts M Event Answered (Site × ℕ)} (charter : M → Site × ℕ) (site : Site) (ts : List (Turnstile M Event Answered (Site × ℕ))) (k node : ℕ) (seat : Seat M Event Answered (Site × ℕ) g)
    (seated : IsSeated charter site ts node seat) (same : k ≡ node) where
  pub seated_within : k < length ts
  seated_within = let within = slice_get_within ts node seated.turnstile seated.there in omega (arith, within, same)

  pub seated_fits : (t : Turnstile M Event Answered (Site × ℕ)) → slice_get ts k ≡ Some t → Fits t seat
  seated_fits t at =
      subst (λ (x : Turnstile M Event Answered (Site × ℕ)). Fits x seat)
      (same_item (slice_get ts node) seated.turnstile t seated.there (ap (λ (n : ℕ). slice_get ts n) (sym same) ∙ at)) seated.fits

pub uncons : {A : Type 0} (P : A → Type 0) (xs rest : List A) (x : A) → xs ≡ x ∷ rest → AllByRecursion P xs → P x × AllByRecursion P rest
uncons P xs rest x is h = subst (AllByRecursion P) is h
