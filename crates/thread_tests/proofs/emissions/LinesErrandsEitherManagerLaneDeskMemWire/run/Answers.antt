use Rattle.std.proofs.Common.{◌≡◌, ℕ, zero, suc, ◌+◌, ◌≤◌, ◌<◌, List, [], ◌∷◌, ◌++◌, length, map, sym, ap, subst, ◌∙◌, arith}
use Rattle.net_model.specs.declared.order.Order.{Order}
use Rattle.net_model.specs.Tick.{Emission, New}
use Rattle.shared_objects.specs.declared.either.Either.{Either}
use Rattle.shared_objects.specs.Said.{Said, said_on}
use Rattle.lane_shares.specs.declared.shares.Shares.{Shares}
use Rattle.lane_shares.specs.declared.share.Share.{Share}
use Rattle.lane_sender.specs.Lane.{LaneForm}
use Rattle.par_lanes.specs.declared.ask.LaneAsk.{LaneAsk}
use Rattle.par_lanes.specs.declared.ask.LaneAnswer.{LaneAnswer}
use Rattle.par_lanes.specs.declared.emitted.Emitted.{Emitted}
use Rattle.par_lanes.specs.Wants.{wanted, turns_at}
use Rattle.par_lanes.specs.Saying.{SayAllBy}
use Rattle.par_lanes.specs.Emitting.{MayEmit}
use Rattle.par_lanes.proofs.Wanting.{few_turns}
use Rattle.par_lanes.proofs.Saying.{others_unsaid, counted_all}
use Rattle.thread_tests.proofs.emissions.LinesErrandsEitherManagerLaneDeskMemWire.run.Goals as goal

module _ {M D X Q A : Type 0} (machines : List (Either M D)) (side : D → LaneForm X) where
  -- no machine is called more often than twice
  few : (outs : List (Emission × Emitted)) (said : List (Said (Either Q LaneAsk) (Either A LaneAnswer))) (o : Order) → map (λ x. x.0) outs ≡ New o ∷ [] → SayAllBy machines side 1 outs said → (j : ℕ) → length (said_on j said) ≤ 2
  few outs said o all says zero = let none = ap length (others_unsaid machines side 1 zero (omega arith) outs said says) in omega (arith, none)
  few outs said o all says (suc i) =
      let here : 1 + i ≡ suc i = omega arith in
      let many = counted_all machines side 1 i outs said says in
      let turns = ap (turns_at i) all in
      let two = few_turns i o in
      subst (λ (n : ℕ). length (said_on n said) ≤ 2) here (omega (arith, many, turns, two))

-- what two calls of each machine are enough for
module _ {M D X : Type 0} (machines : List (Either M D)) (side : D → LaneForm X) where
  enough : (budget : ℕ → ℕ) (shares_of : D → Shares) (shares : List Shares) (granted : List Share) (wants : List Emission) → ((i : ℕ) → i < length machines → 2 ≤ budget i) →
      MayEmit machines side 1 (λ i. 2) shares_of shares granted wants → MayEmit machines side 1 budget shares_of shares granted wants
  enough budget shares_of shares granted wants has m = record {
    few = m.few;
    shared = m.shared;
    fits = m.fits;
    each = m.each;
    turns = λ i lt. let a = m.turns i lt in let b = has (1 + i) lt in omega (arith, a, b);
    bytes = m.bytes;
  }

pub emit_plan-requires-clause-may : goal.emit_plan-requires-clause-may
emit_plan-requires-clause-may g c =
    let machines = g.C.Calls.openings c.args.caller.now in
    let kept = c.args.keep.now.granted.items in
    let may = enough machines (λ d. d.side) (λ i. g.C.Calls.budget c.args.caller.now i) (λ d. d.shares.now) (c.args.self.now.shares.now ∷ []) kept (New c.args.self.now.order.now ∷ []) c.requires.budget (c.requires.may.1.1 (omega arith)) in (
      [],
      subst (λ (granted : List Share). MayEmit machines (λ d. d.side) 1 (λ i. g.C.Calls.budget c.args.caller.now i) (λ d. d.shares.now) c.from_ref.result.now granted (wanted [] c.from_ref-2.result.now ++ [])) (sym c.deref_mut.ensures.value)
          (subst (λ (shares : List Shares). MayEmit machines (λ d. d.side) 1 (λ i. g.C.Calls.budget c.args.caller.now i) (λ d. d.shares.now) shares kept (wanted [] c.from_ref-2.result.now ++ [])) (sym c.from_ref.ensures.value)
          (subst (λ (orders : List Order). MayEmit machines (λ d. d.side) 1 (λ i. g.C.Calls.budget c.args.caller.now i) (λ d. d.shares.now) (c.args.self.now.shares.now ∷ []) kept (wanted [] orders ++ [])) (sym c.from_ref-2.ensures.value) may)),
    )

pub returns-clause-does : goal.returns-clause-does
returns-clause-does g c =
    let e = c.emit_plan.ensures.emitted in
    (e.said, tt, e.went, few (g.C.Calls.openings c.args.caller.now) (λ d. d.side) e.outs e.said c.args.self.now.order.now (e.all ∙ ap (λ (orders : List Order). wanted [] orders) c.from_ref-2.ensures.value) e.says)

pub returns-clause-rest : goal.returns-clause-rest
returns-clause-rest g c = λ rest may. let one = may.0 in (omega (arith, one), λ some. absurd (omega (arith, one, some)))
