-- No two facts of a table have the same name, whatever is done.
use Rattle.std.proofs.Common.{◌≡◌, ℕ, Bool, true, false, ◌∙◌, List, [], ◌∷◌, ◌++◌, refl, sym, ap, subst, Some}
use Rattle.std.specs.Prelude.{is_some, if◌then◌else◌}
use Rattle.qkd_base.specs.Name.{Name, name_eq}
use Rattle.net_model.specs.declared.fact.Fact.{Fact}
use Rattle.net_model.specs.declared.record.Record.{Record}
use Rattle.net_model.specs.declared.record.Record.TheVariants.{Block, Lease, Learned, Acked, Handed, Closed, Bare}
use Rattle.net_model.specs.Table.{name_of, fact_at, has_fact, learned}
use Rattle.net_model.specs.Site.{Site, outgoing_lane}
use Rattle.net_model.specs.World.{Network, World, Durable}
use Rattle.net_model.specs.Records.{apply_record, replay}
use Rattle.net_model.specs.Action.{Action}
use Rattle.net_model.specs.Step.{step, run}
use Rattle.law_base.proofs.Base.{name_eq_from, name_eq_same, not_false, not_both, by_test}
use Rattle.law_base.proofs.Tables.{is_some_of_some}
use Rattle.law_base.proofs.Growing.{taken_facts}
use Rattle.law_base.proofs.Grow.{Grows}
use Rattle.law_safety.proofs.HandingSteps.{keeps_step}
use Rattle.law_safety.proofs.Worlds.{grows_step}

abbrev pub NamesDiffer : List Fact → Type 0
NamesDiffer [] = Unit {0}
NamesDiffer (f ∷ fs) = (has_fact fs (name_of f) ≡ false) × NamesDiffer fs

-- The fact and the facts of the list all have names other than n.

pub record Misses (f : Fact) (fs : List Fact) (n : Name) : Type 0 where
  pub first : name_eq (name_of f) n ≡ false
  pub rest : has_fact fs n ≡ false

misses : (f : Fact) (fs : List Fact) (n : Name) → has_fact (f ∷ fs) n ≡ false → Misses f fs n
misses f fs n h = elim (name_eq (name_of f) n) as (λ t. name_eq (name_of f) n ≡ t → is_some (if t then Some f else fact_at fs n) ≡ false → Misses f fs n) [
  | true ↦ λ e k. cc
  | false ↦ λ e k. record { first = e; rest = k }
] refl h

misses_more : (f : Fact) (fs : List Fact) (n : Name) → Misses f fs n → has_fact (f ∷ fs) n ≡ false
misses_more f fs n h = ap (λ (t : Bool). is_some (if t then Some f else fact_at fs n)) h.first ∙ h.rest

other_way : (a b : Name) → name_eq a b ≡ false → name_eq b a ≡ false
other_way a b h = not_false (name_eq b a) (λ e. not_both (name_eq a b) (ap (λ (x : Name). name_eq a x) (name_eq_from b a e) ∙ name_eq_same a) h)

misses_last : (fs : List Fact) (f : Fact) (n : Name) → has_fact fs n ≡ false → name_eq (name_of f) n ≡ false → has_fact (fs ++ f ∷ []) n ≡ false
misses_last [] f n h e = misses_more f [] n (record { first = e; rest = refl })
misses_last (g ∷ fs) f n h e = let k = misses g fs n h in misses_more g (fs ++ f ∷ []) n (record { first = k.first; rest = misses_last fs f n k.rest e })

differ_push : (fs : List Fact) (f : Fact) → has_fact fs (name_of f) ≡ false → NamesDiffer fs → NamesDiffer (fs ++ f ∷ [])
differ_push [] f h d = (refl, tt)
differ_push (g ∷ fs) f h d = let k = misses g fs (name_of f) h in (misses_last fs f (name_of g) d.0 (other_way (name_of g) (name_of f) k.first), differ_push fs f k.rest d.1)

differ_learned : (fs : List Fact) (f : Fact) → NamesDiffer fs → NamesDiffer (learned fs f)
differ_learned fs f d = by_test NamesDiffer (has_fact fs (name_of f)) fs (fs ++ f ∷ []) (λ e. d) (λ e. differ_push fs f e d)

-- The names differ in every run.

differ_apply : (s : Site) (v : ℕ) (r : Record) (d : Durable) → NamesDiffer d.facts → NamesDiffer (apply_record s v r d).facts
unfolding apply_record
differ_apply s v (Block link number bytes) d h = subst NamesDiffer (sym (taken_facts (outgoing_lane s v link) d)) h
differ_apply s v (Lease l end) d h = h
differ_apply s v (Learned f) d h = differ_learned d.facts f h
differ_apply s v (Acked n) d h = h
differ_apply s v (Handed n sae) d h = h
differ_apply s v (Closed n sae) d h = h
differ_apply s v (Bare f) d h = differ_learned d.facts f h

differ_replay : (s : Site) (v : ℕ) (rs : List Record) (d : Durable) → NamesDiffer d.facts → NamesDiffer (replay s v rs d).facts
unfolding replay
differ_replay s v [] d h = h
differ_replay s v (r ∷ rs) d h = differ_replay s v rs (apply_record s v r d) (differ_apply s v r d h)

pub differ_step : (net : Network) (w : World) (action : Action) → NamesDiffer w.durable.facts → NamesDiffer (step net w action).0.durable.facts
differ_step net w action h = keeps_step (λ facts handed. NamesDiffer facts) (λ s v rs d k. differ_replay s v rs d k) net w action h

pub differ_run : (net : Network) (w : World) (actions : List Action) → NamesDiffer w.durable.facts → NamesDiffer (run net w actions).durable.facts
unfolding run
differ_run net w [] h = h
differ_run net w (a ∷ rest) h = differ_run net (step net w a).0 rest (differ_step net w a h)

-- Facts stay in the table.
pub grows_run : (net : Network) (w : World) (actions : List Action) → Grows w.durable.facts (run net w actions).durable.facts
unfolding run
grows_run net w [] n f h = h
grows_run net w (a ∷ rest) n f h = grows_run net (step net w a).0 rest n f (grows_step net w a n f h)

-- Each fact is found by its name.

pub found_here : (f : Fact) (fs : List Fact) → fact_at (f ∷ fs) (name_of f) ≡ Some f
found_here f fs = ap (λ (t : Bool). if t then Some f else fact_at fs (name_of f)) (name_eq_same (name_of f))

pub found_later : (f g : Fact) (fs : List Fact) → has_fact fs (name_of f) ≡ false → fact_at fs (name_of g) ≡ Some g → fact_at (f ∷ fs) (name_of g) ≡ Some g
found_later f g fs new found = elim (name_eq (name_of f) (name_of g)) as (λ t. name_eq (name_of f) (name_of g) ≡ t → (if t then Some f else fact_at fs (name_of g)) ≡ Some g) [
  | true ↦ λ e. absurd (not_both (has_fact fs (name_of f)) (ap (has_fact fs) (name_eq_from (name_of f) (name_of g) e) ∙ is_some_of_some (fact_at fs (name_of g)) g found) new)
  | false ↦ λ e. found
] refl
