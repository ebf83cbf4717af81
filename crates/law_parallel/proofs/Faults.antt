-- The outside fails as often in a block as in the sequence: apart from claims, both have the same actions in the same
-- order.
use Rattle.std.proofs.Common.{◌≡◌, ℕ, ◌+◌, Bool, true, false, List, [], ◌∷◌, ◌++◌, map, refl, sym, ◌∙◌, ap, arith, append-nil, Option, None}
use Rattle.std.specs.Prelude.{filter, filter_map, count_by, if◌then◌else◌}
use Rattle.std.specs.List.{cons_option}
use Rattle.std.proofs.lemmas.List.Elements.{filter-append}
use Rattle.qkd_base.specs.declared.lane.Lane.{Lane}
use Rattle.net_model.specs.World.{Network, World}
use Rattle.net_model.specs.declared.order.Order.{Order}
use Rattle.net_model.specs.Site.{Site}
use Rattle.net_model.specs.Tick.{Again, New}
use Rattle.net_model.specs.Action.{Action, Allocate, Transmit}
use Rattle.net_model.specs.Faults.{disk_faults, entropy_faults, device_faults, wire_faults, armings}
use Rattle.law_locality.proofs.Counting.{one_if, count_more}
use Rattle.law_locality.specs.Sending.{orders_in}
use Rattle.run_model.specs.Works.{Work, actions_in}
use Rattle.law_parallel.specs.Putting.{Putting, lane_of, emission_works, one_by_one, claims_of}
use Rattle.law_parallel.proofs.Claims.{claim, emissions, claims_are}
use Rattle.law_parallel.proofs.Puts.{frame_for, put_work, after, put_first, no_puts, puts}

abbrev is_other : Action → Bool
is_other (Allocate t) = false
is_other _ = true

abbrev pub others : List Action → List Action
others xs = filter is_other xs

same_counted : (p : Action → Bool) → ((t : _) → p (Allocate t) ≡ false) → (xs : List Action) → count_by p xs ≡ count_by p (others xs)
same_counted p h [] = refl
same_counted p h (Allocate t ∷ xs) =
    let more = count_more p (Allocate t) xs in
    let none : one_if (p (Allocate t)) ≡ 0 = ap one_if (h t) in
    let rest = same_counted p h xs in
    omega (arith, more, none, rest)
same_counted p h (x ∷ xs) =
    count_more p x xs ∙ ap (λ (n : ℕ). (if p x then 1 else 0) + n) (same_counted p h xs) ∙ sym (count_more p x (others xs))

same_listed : {A : Type 0} (f : Action → Option A) → ((t : _) → f (Allocate t) ≡ None) → (xs : List Action) → filter_map f xs ≡ filter_map f (others xs)
same_listed f h [] = refl
same_listed {A} f h (Allocate t ∷ xs) = ap (λ (o : Option A). cons_option o (filter_map f xs)) (h t) ∙ same_listed f h xs
same_listed {A} f h (x ∷ xs) = ap (λ (ys : List A). cons_option (f x) ys) (same_listed f h xs)

module _ (xs ys : List Action) (same : others xs ≡ others ys) where
  pub disks_same : (s : Site) (v : ℕ) → disk_faults s v xs ≡ disk_faults s v ys
  unfolding disk_faults
  disks_same s v = same_counted _ (λ t. refl) xs ∙ ap (count_by _) same ∙ sym (same_counted _ (λ t. refl) ys)

  pub entropies_same : (v : ℕ) → entropy_faults v xs ≡ entropy_faults v ys
  unfolding entropy_faults
  entropies_same v = same_counted _ (λ t. refl) xs ∙ ap (count_by _) same ∙ sym (same_counted _ (λ t. refl) ys)

  pub devices_same : (link : ℕ) → device_faults link xs ≡ device_faults link ys
  unfolding device_faults
  devices_same link = same_counted _ (λ t. refl) xs ∙ ap (count_by _) same ∙ sym (same_counted _ (λ t. refl) ys)

  pub wires_same : (l : Lane) → wire_faults l xs ≡ wire_faults l ys
  unfolding wire_faults
  wires_same l = same_counted _ (λ t. refl) xs ∙ ap (count_by _) same ∙ sym (same_counted _ (λ t. refl) ys)

  pub armed_same : (v : ℕ) → armings v xs ≡ armings v ys
  unfolding armings
  armed_same v = same_listed _ (λ t. refl) xs ∙ ap (filter_map _) same ∙ sym (same_listed _ (λ t. refl) ys)

-- All claims are left out, and all puts are kept.

no_claims : (os : List Order) → others (map claim os) ≡ []
no_claims [] = refl
no_claims (o ∷ os) = no_claims os

module _ (net : Network) where
  pub claims_aside : (ps : List Putting) → others (claims_of ps) ≡ []
  claims_aside ps = ap others (claims_are ps) ∙ no_claims (orders_in (emissions ps))

  put_apart : (u : World) (p : Putting) (ps : List Putting) → puts net u (p ∷ ps) ≡ (put_work u p).action ∷ puts net (after net u p) ps
  put_apart u p ps = ap actions_in (put_first net u p ps)

  pub puts_aside : (ps : List Putting) (u : World) → others (puts net u ps) ≡ puts net u ps
  puts_aside [] u = ap (λ (xs : List Work). others (actions_in xs)) (no_puts net u) ∙ ap actions_in (sym (no_puts net u))
  puts_aside (p ∷ ps) u =
      ap others (put_apart u p ps) ∙ ap (λ (xs : List Action). (put_work u p).action ∷ xs) (puts_aside ps (after net u p)) ∙ sym (put_apart u p ps)

  one_more_put : (u : World) (p : Putting) (ps : List Putting) →
      others (actions_in (one_by_one net u (p ∷ ps))) ≡ (put_work u p).action ∷ others (actions_in (one_by_one net (after net u p) ps))
  unfolding one_by_one
  one_more_put u p ps =
      elim p.emission as (λ e. others (actions_in (emission_works u p.place p.answer e ++ one_by_one net (after net u (record p { emission = e })) ps)) ≡
      Transmit (lane_of e) (frame_for u e) p.answer ∷ others (actions_in (one_by_one net (after net u (record p { emission = e })) ps))) [
        | Again r ↦ refl
        | New o ↦ refl
      ]

  no_ones : (u : World) → others (actions_in (one_by_one net u [])) ≡ []
  unfolding one_by_one
  no_ones u = refl

  pub ones_aside : (ps : List Putting) (u : World) → others (actions_in (one_by_one net u ps)) ≡ puts net u ps
  ones_aside [] u = no_ones u ∙ ap actions_in (sym (no_puts net u))
  ones_aside (p ∷ ps) u = one_more_put u p ps ∙ ap (λ (xs : List Action). (put_work u p).action ∷ xs) (ones_aside ps (after net u p)) ∙ sym (put_apart u p ps)

  others-append : (xs ys : List Action) → others (xs ++ ys) ≡ others xs ++ others ys
  others-append xs ys = filter-append is_other xs ys

  -- Claims after turns don't change the other actions.
  turns_alone : (turns : List Action) (ps : List Putting) → others (turns ++ claims_of ps) ≡ others turns
  turns_alone turns ps = others-append turns (claims_of ps) ∙ ap (λ (xs : List Action). others turns ++ xs) (claims_aside ps) ∙ append-nil (others turns)

  pub same_others : (turns ends : List Action) (ps : List Putting) (u : World) →
      others (turns ++ claims_of ps ++ puts net u ps ++ ends) ≡ others (turns ++ actions_in (one_by_one net u ps) ++ ends)
  same_others turns ends ps u =
      let ones : List Action = actions_in (one_by_one net u ps) in
      let put : others (turns ++ claims_of ps ++ puts net u ps) ≡ others (turns ++ ones) =
      others-append (turns ++ claims_of ps) (puts net u ps) ∙ ap (λ (xs : List Action). xs ++ others (puts net u ps)) (turns_alone turns ps)
      ∙ ap (λ (xs : List Action). others turns ++ xs) (puts_aside ps u ∙ sym (ones_aside ps u)) ∙ sym (others-append turns ones) in
      others-append (turns ++ claims_of ps ++ puts net u ps) ends ∙ ap (λ (xs : List Action). xs ++ others ends) put ∙ sym (others-append (turns ++ ones) ends)
