use Rattle.std.proofs.Common.{◌≡◌, sym, ◌∙◌, ap, arith}
use Rattle.net_model.specs.Decision.{last_count}
use Rattle.relay_core.specs.Knowledge.{Knowledge}
use Rattle.end_store.specs.Pooled.{ends_view}
use Rattle.end_store.proofs.Gathered.{named_as}
use Rattle.kme_keys.specs.Candidates.{is_candidate}
use Rattle.kme_keys.proofs.Searched.{no_name}
use Rattle.kme_keys.proofs.group_ready.candidate_at.Goals as goal

pub returns-in-None : goal.returns-in-None
returns-in-None c =
    let e = c.args.store.now in
    let last : c.last_count-holds.result ≡ last_count e.known.me e.known.facts = c.last_count-holds.ensures.count ∙ ap (λ (k : Knowledge). last_count k.me k.facts) c.known-known.ensures in
    let bound = c.last_count-holds.ensures.bound in
    let within = c.requires.within in
    absurd (no_name c.me.result c.args.count c.requires.positive (omega arith) c.in-None.ensures)

pub returns-then-is_candidate : goal.returns-then-is_candidate
returns-then-is_candidate c =
    let e = c.args.store.now in
    let p = c.args.pool.now in
    let named = named_as e.known.me c.me.result c.args.count c.in-Some.name (c.me.ensures ∙ ap (λ (k : Knowledge). k.me) c.known-known.ensures) c.in-Some.ensures in
    record { some = (named, ap (is_candidate (ends_view e) p.master p.slaves.now p.bits c.args.ready) (sym named) ∙ sym c.is_candidate.ensures ∙ c.if-is_candidate.true); none = tt }

pub returns-else-is_candidate : goal.returns-else-is_candidate
returns-else-is_candidate c =
    let e = c.args.store.now in
    let p = c.args.pool.now in
    let named = named_as e.known.me c.me.result c.args.count c.in-Some.name (c.me.ensures ∙ ap (λ (k : Knowledge). k.me) c.known-known.ensures) c.in-Some.ensures in
    record { some = tt; none = ap (is_candidate (ends_view e) p.master p.slaves.now p.bits c.args.ready) (sym named) ∙ sym c.is_candidate.ensures ∙ c.if-is_candidate.false }
