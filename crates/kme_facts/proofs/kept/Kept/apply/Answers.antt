use Rattle.std.proofs.Common.{ℕ, ◌+◌, List, length, ◌∙◌, sym, ap, subst}
use Rattle.qkd_base.specs.Name.{Name}
use Rattle.end_store.specs.Waiting.{Ends}
use Rattle.relay_core.specs.Knowledge.{Knowledge}
use Rattle.stream_core.specs.Kept.{StreamEnds, Sees}
use Rattle.kme_facts.specs.Taken.{HasRoom}
use Rattle.kme_facts.proofs.Seen.{was_masked, batch_masked, batch_seen, room_same}
use Rattle.kme_facts.proofs.kept.Kept.apply.Goals as goal

pub let_go-requires : goal.let_go-requires
let_go-requires c =
    was_masked c.self.inside.streams c.take_all.new.streams c.args.records c.len-facts.result (length c.acked-acked.result.now) (length c.handed-handed.result.now) c.self.invariant c.take_all.ensures.view
    (c.len-facts.ensures.length ∙ ap (λ (k : Knowledge). length k.facts) (c.known.ensures ∙ ap (λ (e : Ends). e.known) c.ends.ensures))
    (ap (λ (ns : List Name). length ns) (c.acked-acked.ensures ∙ ap (λ (k : Knowledge). k.acked) (c.known-2.ensures ∙ ap (λ (e : Ends). e.known) c.ends-2.ensures)))
    (ap (λ (hs : List (Name × ℕ)). length hs) (c.handed-handed.ensures ∙ ap (λ (e : Ends). e.handed) c.ends-3.ensures))

pub invariant_of-self : goal.invariant_of-self
invariant_of-self c = batch_masked c.take_all.new.streams c.let_go.new.streams c.let_go.ensures.view

pub returns-clause-seen : goal.returns-clause-seen
returns-clause-seen c v sees =
    batch_seen c.self.inside.streams c.take_all.new.streams c.let_go.new.streams c.args.records c.take_all.ensures.view c.let_go.ensures.view v
    (subst (Sees v) (sym c.self.view_is) sees)

pub returns-clause-left : goal.returns-clause-left
returns-clause-left c n room =
    let e = c.let_go.ensures.spare in
    room_same c.take_all.new.streams c.let_go.new.streams e.0 e.1 e.2 e.3 n
    (c.take_all.ensures.left n (subst (λ (s : StreamEnds). HasRoom s (n + length c.args.records)) (sym c.self.view_is) room))
