-- The first part of a script, and its rest.
use Rattle.std.proofs.Common.{◌≡◌, ℕ, Bool, true, false, List, [], ◌∷◌, ◌++◌, refl, sym, ap, subst, ◌∙◌}
use Rattle.std.specs.Prelude.{if◌then◌else◌}
use Rattle.std.proofs.lemmas.List.{append_assoc, append-nil}
use Rattle.net_model.specs.World.{Network, World}
use Rattle.net_model.specs.Action.{Action, Outcome}
use Rattle.net_model.specs.Step.{step, IsStep}
use Rattle.run_types.specs.declared.item.Item.{Item}
use Rattle.run_types.specs.declared.item.NumberedItem.{NumberedItem}
use Rattle.run_model.specs.Script.{Script, Ends, Reports, Looks, Asks, GivesUp, then_comes}
use Rattle.run_model.specs.Play.{Whole, ForgedAt, Played, plain, numbered, is_forged, reporting, stopped_at, play, OneOf, IsPlay}
use Rattle.run_model.specs.Report.{is_whole}
use Rattle.run_ops.proofs.Plays.{reported, follows, stays_cut}
use Rattle.run_lines.specs.Going.{Leads}
use Rattle.run_lines.proofs.Taking.{numbered_on}

-- ---- no action

pub nothing : (net : Network) (w : World) (s : Script) → IsPlay net w s []
nothing net w Ends = refl
nothing net w (Reports items next) = nothing net w next
nothing net w (Looks next) = nothing net w (next w)
nothing net w (Asks action next) = tt
nothing net w GivesUp = refl

pub stays_put : (net : Network) (number : ℕ) (w : World) (s : Script) → (play net number w s []).world ≡ w
unfolding play
stays_put net number w Ends = refl
stays_put net number w (Reports items next) = stays_put net number w next
stays_put net number w (Looks next) = stays_put net number w (next w)
stays_put net number w (Asks action next) = refl
stays_put net number w GivesUp = refl

-- ---- the world doesn't depend on the line's number

world_of_choice : (w : World) (m n : ℕ) (p q : Played) (forged : Bool) → p.world ≡ q.world →
    (if forged then stopped_at w (ForgedAt m) else p).world ≡ (if forged then stopped_at w (ForgedAt n) else q).world
world_of_choice w m n p q true same = refl
world_of_choice w m n p q false same = same

pub same_world : (net : Network) (m n : ℕ) (w : World) (s : Script) (actions : List Action) → (play net m w s actions).world ≡ (play net n w s actions).world
unfolding play
same_world net m n w Ends actions = refl
same_world net m n w (Reports items next) actions = same_world net m n w next actions
same_world net m n w (Looks next) actions = same_world net m n w (next w) actions
same_world net m n w (Asks action next) [] = refl
same_world net m n w (Asks action next) (a ∷ rest) =
    let out = step net w a in
    world_of_choice out.0 m n _ _ (is_forged out.1) (same_world net m n out.0 (next out.1) rest)
same_world net m n w GivesUp actions = refl

-- ---- the first part of a script

pub leads_none : (net : Network) (w : World) (s : Script) → Leads net w s [] [] w s
leads_none net w s = record { is = λ more h. h; said = λ number more h. refl }

pub leads_told : (net : Network) (w : World) (items : List Item) (next : Script) → Leads net w (Reports items next) [] items w next
unfolding play
leads_told net w items next = record { is = λ more h. h; said = λ number more h. refl }

pub leads_looks : (net : Network) (w : World) (next : World → Script) → Leads net w (Looks next) [] [] w (next w)
unfolding play
leads_looks net w next = record { is = λ more h. h; said = λ number more h. refl }

pub leads_asked : (net : Network) (w : World) (a action : Action) (next : Outcome → Script) → plain a ≡ action → IsStep net w a → is_forged (step net w a).1 ≡ false →
    Leads net w (Asks action next) (a ∷ []) [] (step net w a).0 (next (step net w a).1)
unfolding play
leads_asked net w a action next is may calm = record {
  is = λ more h. (is, may, subst (λ (b : Bool). OneOf b (more ≡ []) (IsPlay net (step net w a).0 (next (step net w a).1) more)) (sym calm) h);
  said = λ number more h.
      ap (λ (b : Bool). if b then stopped_at (step net w a).0 (ForgedAt number) else play net number (step net w a).0 (next (step net w a).1) more) calm;
}

pub leads_on : (net : Network) (w m after : World) (s mid rest : Script) (first second : List Action) (told more_told : List Item) → Leads net w s first told m mid →
    Leads net m mid second more_told after rest → Leads net w s (first ++ second) (told ++ more_told) after rest
leads_on net w m after s mid rest first second told more_told p q = record {
  is = λ more h. subst (IsPlay net w s) (sym (append_assoc first second more)) (p.is (second ++ more) (q.is more h));
  said = λ number more h.
      ap (play net number w s) (append_assoc first second more) ∙ p.said number (second ++ more) (q.is more h)
      ∙ reported (numbered number told) (numbered number more_told) (play net number after rest more) _ (q.said number more h)
      ∙ ap (λ (xs : List NumberedItem). reporting xs (play net number after rest more)) (sym (numbered_on number told more_told));
}

-- a script that was run to its end leads to the script after it
pub leads_after : (net : Network) (w after : World) (s last : Script) (actions : List Action) (items : List Item) → IsPlay net w s actions →
    ((number : ℕ) → play net number w s actions ≡ record { items = numbered number items; world = after; ending = Whole }) →
    Leads net w (then_comes s last) actions items after last
leads_after net w after s last actions items is said =
    let both : (number : ℕ) (more : List Action) → IsPlay net after last more →
    IsPlay net w (then_comes s last) (actions ++ more)
    × (play net number w (then_comes s last) (actions ++ more) ≡ reporting (numbered number items) (play net number after last more)) =
    λ number more h.
    let all = follows net number last w s actions more is (ap (λ (p : Played). is_whole p.ending) (said number))
    (subst (λ (p : Played). IsPlay net p.world last more) (sym (said number)) h) in
    (all.0, all.1 ∙ ap (λ (p : Played). reporting p.items (play net number p.world last more)) (said number)) in
    record { is = λ more h. (both 0 more h).0; said = λ number more h. (both number more h).1 }

-- ---- a script that was cut short, before another one

-- If the first script didn't end, nothing else was done. If it did end, the other one reports what comes before its first action.
pub record GoesBeyond (net : Network) (number : ℕ) (w : World) (s last : Script) (actions : List Action) : Type 0 where
  pub is : IsPlay net w (then_comes s last) actions
  pub world : (play net number w (then_comes s last) actions).world ≡ (play net number w s actions).world
  pub more : List NumberedItem
  pub items : (play net number w (then_comes s last) actions).items ≡ (play net number w s actions).items ++ more
  pub cut : is_whole (play net number w s actions).ending ≡ false → play net number w (then_comes s last) actions ≡ play net number w s actions

beyond : (net : Network) (number : ℕ) (w : World) (s last : Script) (actions : List Action) → IsPlay net w s actions → (whole : Bool) →
    is_whole (play net number w s actions).ending ≡ whole → GoesBeyond net number w s last actions
beyond net number w s last actions is true whole =
    let p = play net number w s actions in
    let all = follows net number last w s actions [] is whole (nothing net p.world last) in
    let said : play net number w (then_comes s last) actions ≡ reporting p.items (play net number p.world last []) =
    subst (λ (xs : List Action). play net number w (then_comes s last) xs ≡ reporting p.items (play net number p.world last [])) (append-nil actions) all.1 in
    record {
      is = subst (IsPlay net w (then_comes s last)) (append-nil actions) all.0;
      world = ap (λ (q : Played). q.world) said ∙ stays_put net number p.world last;
      more = (play net number p.world last []).items;
      items = ap (λ (q : Played). q.items) said;
      cut = λ no. absurd (let e : true ≡ false = sym whole ∙ no in cc);
    }
beyond net number w s last actions is false whole =
    let all = stays_cut net number last w s actions is whole in
    record {
      is = all.0;
      world = ap (λ (q : Played). q.world) all.1;
      more = [];
      items = ap (λ (q : Played). q.items) all.1 ∙ sym (append-nil (play net number w s actions).items);
      cut = λ no. all.1;
    }

pub goes_beyond : (net : Network) (number : ℕ) (w : World) (s last : Script) (actions : List Action) → IsPlay net w s actions → GoesBeyond net number w s last actions
goes_beyond net number w s last actions is = beyond net number w s last actions is (is_whole (play net number w s actions).ending) refl
