use Rattle.std.proofs.Common.{◌≡◌, ℕ, false, List, drop, Option, Some, None, ap, sym, ◌∙◌, subst}
use Rattle.std.specs.Prelude.{MatchOption}
use Rattle.run_types.specs.declared.entry.Entry.{Entry}
use Rattle.run_types.specs.declared.scenario.Scenario.{Scenario}
use Rattle.whole_audit.specs.declared.order.Walk.{Walk}
use Rattle.whole_audit.specs.Order.{left_behind, declares_node}
use Rattle.whole_audit.specs.Kept.{has_number}
use Rattle.whole_audit.proofs.Walking.{line_stands}
use Rattle.whole_audit.proofs.order.Walk.place_of.Goals as goal

pub returns-else-declares_node : goal.returns-else-declares_node
returns-else-declares_node c told before same walk =
    let s : Scenario = c.args.scenario.now in
    let w : Walk = c.args.self.now in
    let d : declares_node s told.number ≡ false = ap (declares_node s) same ∙ sym c.declares_node.ensures ∙ c.if-declares_node.false in
    subst (λ (o : Option (List Entry)). MatchOption c.taker.result (o ≡ None) (λ place. o ≡ Some (drop place s.entries))) (sym (line_stands s w told before walk d))
    (subst (λ (n : ℕ). MatchOption c.taker.result (left_behind (has_number w.came) (has_number w.owing) n (drop w.place s.entries) ≡ None) (λ place. left_behind (has_number w.came) (has_number w.owing) n (drop w.place s.entries) ≡ Some (drop place s.entries))) (sym same)
    (subst (λ (es : List Entry). MatchOption c.taker.result (left_behind (has_number w.came) (has_number w.owing) c.args.number (drop w.place es) ≡ None) (λ place. left_behind (has_number w.came) (has_number w.owing) c.args.number (drop w.place es) ≡ Some (drop place es))) c.as_slice.ensures c.taker.ensures))
