use Rattle.std.proofs.Common.{Bool, not, ◌||◌, sym, ◌∙◌, ap}
use Rattle.std.specs.List.{list_all}
use Rattle.net_model.specs.Table.{parts_of}
use Rattle.net_model.specs.Groups.{is_group_ready}
use Rattle.relay_core.specs.Knowledge.{Knowledge}
use Rattle.end_store.specs.Pooled.{ends_view}
use Rattle.kme_keys.specs.Candidates.{are_parts_to, is_fact_confirmed}
use Rattle.kme_keys.proofs.Tested.{wrong_parts, taken, waits}
use Rattle.kme_keys.proofs.candidates.is_candidate.Goals as goal

pub returns-then-not-are_parts_to : goal.returns-then-not-are_parts_to
returns-then-not-are_parts_to c =
    let p = c.args.pool.now in
    let parts = ap (λ (k : Knowledge). are_parts_to p.master p.bits (parts_of k.facts c.args.key) p.slaves.now) (sym c.known-known.ensures) ∙ sym c.are_parts_to.ensures in
    sym (wrong_parts (ends_view c.args.store.now) p.master p.slaves.now p.bits c.args.ready c.args.key (parts ∙ cc))

pub returns-then-was_handed : goal.returns-then-was_handed
returns-then-was_handed c =
    let p = c.args.pool.now in
    let parts = ap (λ (k : Knowledge). are_parts_to p.master p.bits (parts_of k.facts c.args.key) p.slaves.now) (sym c.known-known.ensures) ∙ sym c.are_parts_to.ensures in
    sym (taken (ends_view c.args.store.now) p.master p.slaves.now p.bits c.args.ready c.args.key (parts ∙ cc) (sym c.was_handed.ensures ∙ c.if-was_handed.true))

pub returns-then-ready : goal.returns-then-ready
returns-then-ready c =
    let p = c.args.pool.now in
    let v = ends_view c.args.store.now in
    let parts = ap (λ (k : Knowledge). are_parts_to p.master p.bits (parts_of k.facts c.args.key) p.slaves.now) (sym c.known-known.ensures) ∙ sym c.are_parts_to.ensures in
    let all = c.are_confirmed.ensures ∙ ap (λ (k : Knowledge). list_all (is_fact_confirmed k.facts) (parts_of k.facts c.args.key)) c.known-known.ensures in
    all ∙ ap (λ (b : Bool). not b || is_group_ready v c.args.key) (sym c.if-ready.true) ∙ sym (waits v p.master p.slaves.now p.bits c.args.ready c.args.key (parts ∙ cc) (sym c.was_handed.ensures ∙ c.if-was_handed.false))

pub returns-else-ready : goal.returns-else-ready
returns-else-ready c =
    let p = c.args.pool.now in
    let v = ends_view c.args.store.now in
    let parts = ap (λ (k : Knowledge). are_parts_to p.master p.bits (parts_of k.facts c.args.key) p.slaves.now) (sym c.known-known.ensures) ∙ sym c.are_parts_to.ensures in
    ap (λ (b : Bool). not b || is_group_ready v c.args.key) (sym c.if-ready.false) ∙ sym (waits v p.master p.slaves.now p.bits c.args.ready c.args.key (parts ∙ cc) (sym c.was_handed.ensures ∙ c.if-was_handed.false))
