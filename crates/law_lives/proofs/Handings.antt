-- What a run hands out wasn't marked when it began, is marked at its end, and has the bytes of its name there.
use Rattle.std.proofs.Common.{◌≡◌, ℕ, zero, suc, ◌<◌, true, false, ◌&&◌, List, [], ◌∷◌, ◌++◌, refl, sym, ◌∙◌, ap, Some, inl, inr}
use Rattle.std.specs.Prelude.{◌==◌, nat_lt, slice_get}
use Rattle.std.proofs.lemmas.Bool.{ltb-true}
use Rattle.qkd_base.specs.Name.{Name, name_eq}
use Rattle.net_model.specs.Table.{was_handed}
use Rattle.net_model.specs.Premises.{IsNetwork}
use Rattle.net_model.specs.World.{Network, World}
use Rattle.net_model.specs.Events.{is_valid_event}
use Rattle.net_model.specs.Handings.{PairsDiffer}
use Rattle.net_model.specs.Handle.{handle}
use Rattle.net_model.specs.Invariant.{Conserved}
use Rattle.net_model.specs.Action.{Action, Start, Crash, Arm, SetLink, TakeBlock, Ask, Allocate, Transmit, Complete, Deliver, Flip, Forge, is_shown, environment_of}
use Rattle.net_model.specs.Step.{step, is_node, is_asked, is_enabled, is_step, run, is_run, IsRun}
use Rattle.net_model.specs.Deliveries.{Delivery, of_step, deliveries, pairs_of, IsTrueDelivery}
use Rattle.law_base.proofs.Base.{and_left, and_right, get_cases, name_eq_same, eq_same, and_both, name_eq_from, eq_from, not_false, not_both, or_left, or_right, or_cases}
use Rattle.law_invariant.proofs.Steps.{step_keeps}
use Rattle.law_safety.specs.Truth.{IsTrueReply}
use Rattle.law_safety.proofs.Bytes.{true_grows}
use Rattle.law_safety.proofs.Replies.{handled_true}
use Rattle.law_lives.specs.Lasting.{Lasts}
use Rattle.law_lives.proofs.Runs.{step_lasts, run_lasts}

pair_same : (n : Name) (sae : ℕ) → (name_eq n n && (sae == sae)) ≡ true
pair_same n sae = and_both (name_eq n n) (sae == sae) (name_eq_same n) (eq_same sae)

listed : (ds : List Delivery) (k : ℕ) (d : Delivery) → slice_get ds k ≡ Some d → was_handed (pairs_of ds) d.name d.sae ≡ true
listed [] k d at = absurd (cc)
listed (x ∷ ds) zero d at =
    let is : x ≡ d = cc in
    or_left (name_eq x.name d.name && (x.sae == d.sae)) (was_handed (pairs_of ds) d.name d.sae)
    (ap (λ (y : Delivery). name_eq y.name d.name && (y.sae == d.sae)) is ∙ pair_same d.name d.sae)
listed (x ∷ ds) (suc k) d at = or_right (name_eq x.name d.name && (x.sae == d.sae)) (was_handed (pairs_of ds) d.name d.sae) (listed ds k d at)

in_second : (hs ps : List (Name × ℕ)) (n : Name) (sae : ℕ) → was_handed ps n sae ≡ true → was_handed (hs ++ ps) n sae ≡ true
in_second [] ps n sae h = h
in_second (x ∷ hs) ps n sae h = or_right (name_eq x.0 n && (x.1 == sae)) (was_handed (hs ++ ps) n sae) (in_second hs ps n sae h)

same_pair : (hs : List (Name × ℕ)) (m n : Name) (t sae : ℕ) → (name_eq m n && (t == sae)) ≡ true → was_handed hs m t ≡ was_handed hs n sae
same_pair hs m n t sae e =
    let name = name_eq_from m n (and_left (name_eq m n) (t == sae) e) in
    let number = eq_from t sae (and_right (name_eq m n) (t == sae) e) in
    λ i. was_handed hs (name i) (number i)

-- If all pairs differ, those behind aren't among the first.
not_in_first : (hs ps : List (Name × ℕ)) → PairsDiffer (hs ++ ps) → (n : Name) (sae : ℕ) → was_handed ps n sae ≡ true → was_handed hs n sae ≡ false
not_in_first [] ps d n sae h = refl
not_in_first (x ∷ hs) ps d n sae h = not_false (was_handed (x ∷ hs) n sae) (λ e. elim (or_cases (name_eq x.0 n && (x.1 == sae)) (was_handed hs n sae) e) [
  | inl one ↦ not_both (was_handed (hs ++ ps) n sae) (in_second hs ps n sae h) (sym (same_pair (hs ++ ps) x.0 n x.1 sae one) ∙ d.0)
  | inr old ↦ not_both (was_handed hs n sae) old (not_in_first hs ps d.1 n sae h)
])

-- The delivery is new in a run between two worlds.
pub record IsNewHanding (w end : World) (d : Delivery) : Type 0 where
  pub fresh : was_handed w.durable.handed d.name d.sae ≡ false
  pub marked : was_handed end.durable.handed d.name d.sae ≡ true
  pub bytes : IsTrueDelivery end.durable.facts d

replied : (w new : World) (net : Network) (v : ℕ) (ds : List Delivery) → IsTrueReply net w new v ds → Conserved net new → Lasts w.durable new.durable → (k : ℕ) (d : Delivery) →
    slice_get ds k ≡ Some d → IsNewHanding w new d
replied w new net v ds h c grown k d at =
    let pair = listed ds k d at in
    record {
      fresh = not_in_first w.durable.handed (pairs_of ds) (subst' h.marked c.now.handings.differ) d.name d.sae pair;
      marked = ap (λ (hs : List (Name × ℕ)). was_handed hs d.name d.sae) h.marked ∙ in_second w.durable.handed (pairs_of ds) d.name d.sae pair;
      bytes = true_grows w.durable.facts new.durable.facts d c.now.groups grown.facts (h.bytes k d at);
    }
  where
    subst' : {xs ys : List (Name × ℕ)} → xs ≡ ys → PairsDiffer xs → PairsDiffer ys
    subst' e p = rw e at p

below : (a b : ℕ) → nat_lt a b ≡ true → a < b
below a b h = ltb-true a b h

step_new : (net : Network) (w : World) (a : Action) → IsNetwork net → Conserved net w → Conserved net (step net w a).0 → is_enabled net w a ≡ true → (k : ℕ) (d : Delivery) →
    slice_get (of_step net w a (step net w a).1) k ≡ Some d → IsNewHanding w (step net w a).0 d
unfolding step is_enabled
step_new net w (Ask v event environment) network c c' enabled k d at =
    let prefix = and_left (is_node net v && is_asked event) (is_valid_event net.site v event) enabled in
    let node : v < net.site.nodes = below v net.site.nodes (and_left (is_node net v) (is_asked event) prefix) in
    replied w (handle net w v event environment).0 net v _
    (handled_true net w v event environment network c node (and_right (is_node net v) (is_asked event) prefix)
    (and_right (is_node net v && is_asked event) (is_valid_event net.site v event) enabled)) c' (step_lasts net w (Ask v event environment)) k d at
step_new net w (Start v recovery) network c c' enabled k d at = absurd (cc)
step_new net w (Crash v) network c c' enabled k d at = absurd (cc)
step_new net w (Arm v fault) network c c' enabled k d at = absurd (cc)
step_new net w (SetLink link up) network c c' enabled k d at = absurd (cc)
step_new net w (TakeBlock v link environment) network c c' enabled k d at = absurd (cc)
step_new net w (Allocate t) network c c' enabled k d at = absurd (cc)
step_new net w (Transmit l j environment) network c c' enabled k d at = absurd (cc)
step_new net w (Complete v) network c c' enabled k d at = absurd (cc)
step_new net w (Deliver l number environment) network c c' enabled k d at = absurd (cc)
step_new net w (Flip l number bit environment) network c c' enabled k d at = absurd (cc)
step_new net w (Forge l octets environment) network c c' enabled k d at = absurd (cc)

pub run_new : (net : Network) → IsNetwork net → (actions : List Action) (w : World) → Conserved net w → Conserved net (run net w actions) → IsRun net w actions →
    (k : ℕ) (d : Delivery) → slice_get (deliveries net w actions) k ≡ Some d → IsNewHanding w (run net w actions) d
unfolding run is_run deliveries
run_new net network [] w c end r k d at = absurd (cc)
run_new net network (a ∷ actions) w c end r k d at =
    let new : World = (step net w a).0 in
    let one = and_left (is_step net w a) (is_run net new actions) r in
    let later = and_right (is_step net w a) (is_run net new actions) r in
    let c' : Conserved net new = step_keeps net w a network one c in
    let enabled = and_left (is_enabled net w a) (is_shown (environment_of a) (step net w a).1) one in
    let grown = run_lasts net actions new in
    let first = step_lasts net w a in
    elim (get_cases (of_step net w a (step net w a).1) (deliveries net new actions) k) [
      | inl (less, is) ↦
          let h = step_new net w a network c c' enabled k d (sym is ∙ at) in
          record {
            fresh = h.fresh;
            marked = grown.handed d.name d.sae h.marked;
            bytes = true_grows new.durable.facts (run net new actions).durable.facts d end.now.groups grown.facts h.bytes;
          }
      | inr (j, place, is) ↦
          let h = run_new net network actions new c' end later j d (sym is ∙ at) in
          record {
            fresh = not_false (was_handed w.durable.handed d.name d.sae) (λ e. not_both (was_handed new.durable.handed d.name d.sae) (first.handed d.name d.sae e) h.fresh);
            marked = h.marked;
            bytes = h.bytes;
          }
    ]
