use Rattle.std.proofs.Common.{◌≡◌, ℕ, ◌||◌, List, ◌∷◌, drop, Option, Some, None, refl, ap, sym, ◌∙◌, subst}
use Rattle.std.specs.Prelude.{is_some, nat_le}
use Rattle.std.specs.Str.{bytes_eq}
use Rattle.ordered_set.specs.Entries.{has_entry}
use Rattle.run_types.specs.declared.entry.Entry.{Entry}
use Rattle.run_types.specs.declared.scenario.Scenario.{Scenario}
use Rattle.run_types.specs.declared.item.NumberedItem.{NumberedItem}
use Rattle.whole_audit.specs.declared.order.Walk.{Walk}
use Rattle.whole_audit.specs.Order.{left, is_above}
use Rattle.whole_audit.specs.Kept.{number_entry, IsWalkOf}
use Rattle.whole_audit.proofs.Walking.{came_more, owing_more, next_more, none_from, some_from}
use Rattle.whole_audit.proofs.order.Walk.take.Goals as goal

pub returns-in-None : goal.returns-in-None
returns-in-None c before owes walk =
    let none : left c.args.scenario.now (c.args.told.now ∷ before) ≡ None = none_from _ _ c.place_of.result (c.place_of.ensures c.args.told.now before refl walk) c.in-None.is in
    (ap (λ (o : Option (List Entry)). is_some o) (sym none), λ e. absurd (let u : ⊥ = cc in u))

pub returns-in_ok-set-in-Some : goal.returns-in_ok-set-in-Some
returns-in_ok-set-in-Some c before owes walk =
    let s : Scenario = c.args.scenario.now in
    let t : NumberedItem = c.args.told.now in
    let w : Walk = c.args.self.now in
    let place : ℕ = c.in-Some.place in
    let stands : left s (t ∷ before) ≡ Some (drop place s.entries) = some_from _ _ c.place_of.result place (c.place_of.ensures t before refl walk) c.in-Some.is in
    let put : (e : List ℕ) → has_entry c.insert.new.self e ≡ (bytes_eq (number_entry t.number) e || has_entry w.came e) = λ e. subst (λ (entry : List ℕ). has_entry c.insert.new.self e ≡ (bytes_eq entry e || has_entry w.came e)) c.number_entry.ensures ((c.in_ok-insert-in-Some.ensures {u = tt}).ok e) in
    let next : (n : ℕ) → nat_le c.above-self.result n ≡ is_above n (t ∷ before) = λ n. ap (λ (k : ℕ). nat_le k n) c.above-self.ensures ∙ next_more s w t before walk n in
    let new : Walk = record { place = place; came = c.insert.new.self; owing = c.set.new.numbers; next = c.above-self.result } in
    let walks : IsWalkOf s new (t ∷ before) = record { left = stands; came = came_more s w t before walk c.insert.new.self put; owing = owing_more s w t before walk c.set.new.numbers c.args.owes owes (c.in_ok-set-in-Some.ensures {u = tt}); next = next } in
    (ap (λ (o : Option (List Entry)). is_some o) (sym stands), λ e. walks)
