use Rattle.std.proofs.Common.{ℕ, ◌||◌, List, ap, sym, ◌∙◌}
use Rattle.std.specs.Str.{bytes_eq}
use Rattle.ordered_set.specs.Entries.{has_entry}
use Rattle.run_audit.proofs.Recording.{on_ok_map}
use Rattle.whole_audit.specs.declared.arrivals.Arrivals.{Arrivals}
use Rattle.whole_audit.specs.Arrivals.{arrival_of}
use Rattle.whole_audit.specs.Kept.{key_entry}
use Rattle.whole_audit.proofs.Arriving.{none_arrived, some_arrived}
use Rattle.whole_audit.proofs.arrivals.Arrivals.learn.Goals as goal

pub returns-in-Some : goal.returns-in-Some
returns-in-Some c told before item arrived =
    let new : Arrivals = record { came = c.insert.new.self } in
    on_ok_map c.insert.result
    (λ put. some_arrived c.args.self.now told before arrived new c.in-Some.arrival (ap arrival_of item ∙ sym c.arrival_of.ensures ∙ c.in-Some.is)
    (λ e. put e ∙ ap (λ (n : List ℕ). bytes_eq n e || has_entry c.args.self.now.came e) (c.key_entry.ensures ∙ ap (λ (p : ℕ). key_entry c.in-Some.arrival.name p) c.lane_place.ensures)))
    c.insert.ensures.ok

pub returns-in-None : goal.returns-in-None
returns-in-None c told before item arrived = none_arrived c.args.self.now told before arrived (ap arrival_of item ∙ sym c.arrival_of.ensures ∙ c.in-None.is)
