use Rattle.std.proofs.Common.{true, false, ℕ, List, ◌+◌, Err, Some, refl, ◌∙◌, sym, ap}
use Rattle.std.specs.Prelude.{nat_lt, count_by}
use Rattle.qkd_base.specs.Name.{Name}
use Rattle.qkd_base.specs.declared.key_name.NameKind.TheVariants.{Key as KeyKind}
use Rattle.net_model.specs.declared.fact.Fact.{Fact}
use Rattle.net_model.specs.declared.reply.Reply.TheVariants.{MadeKeys, Memory, PoolFull}
use Rattle.net_model.specs.Decision.{Refuses, makes, fresh_name}
use Rattle.net_model.specs.Streams.{is_chunk_of, new_chunks, fed}
use Rattle.kme_streams.proofs.Series.{stepped, waiting_seen, fed_shown}
use Rattle.kme_streams.proofs.chunk_feed.fed.Goals as goal

pub returns-then-is_full : goal.returns-then-is_full
returns-then-is_full c v seen =
    stepped v (fed v c.args.opened.now.stream c.args.opened.now.source c.args.opened.now.octets c.args.count c.args.random.now (Some c.args.route)) (Refuses PoolFull) (Err PoolFull)
    (fed_shown v c.args.opened.now.stream c.args.opened.now.source c.args.opened.now.octets c.args.count c.args.random.now c.args.route true (count_by (is_chunk_of c.args.opened.now.stream) v.facts)
    (sym c.if-is_full.true ∙ c.is_full.ensures ∙ ap (λ (w : ℕ). nat_lt 4096 (w + c.args.count)) (c.feed_place-place.ensures.waiting ∙ waiting_seen v c.args.kept.now seen c.args.opened.now.stream c.args.opened.now.source)) refl)
    refl

pub returns-in_default : goal.returns-in_default
returns-in_default c v seen =
    stepped v (fed v c.args.opened.now.stream c.args.opened.now.source c.args.opened.now.octets c.args.count c.args.random.now (Some c.args.route))
    (makes v (new_chunks v c.args.opened.now.stream c.args.route c.args.opened.now.octets (count_by (is_chunk_of c.args.opened.now.stream) v.facts) c.args.random.now 0 c.args.count) (MadeKeys c.args.count (fresh_name v KeyKind 0)))
    (Err Memory)
    (fed_shown v c.args.opened.now.stream c.args.opened.now.source c.args.opened.now.octets c.args.count c.args.random.now c.args.route false (count_by (is_chunk_of c.args.opened.now.stream) v.facts)
    (sym c.if-is_full.false ∙ c.is_full.ensures ∙ ap (λ (w : ℕ). nat_lt 4096 (w + c.args.count)) (c.feed_place-place.ensures.waiting ∙ waiting_seen v c.args.kept.now seen c.args.opened.now.stream c.args.opened.now.source)) refl)
    refl

pub returns-in_default-fresh_name : goal.returns-in_default-fresh_name
returns-in_default-fresh_name c v seen =
    stepped v (fed v c.args.opened.now.stream c.args.opened.now.source c.args.opened.now.octets c.args.count c.args.random.now (Some c.args.route))
    (makes v (new_chunks v c.args.opened.now.stream c.args.route c.args.opened.now.octets (count_by (is_chunk_of c.args.opened.now.stream) v.facts) c.args.random.now 0 c.args.count) (MadeKeys c.args.count (fresh_name v KeyKind 0)))
    (Err Memory)
    (fed_shown v c.args.opened.now.stream c.args.opened.now.source c.args.opened.now.octets c.args.count c.args.random.now c.args.route false (count_by (is_chunk_of c.args.opened.now.stream) v.facts)
    (sym c.if-is_full.false ∙ c.is_full.ensures ∙ ap (λ (w : ℕ). nat_lt 4096 (w + c.args.count)) (c.feed_place-place.ensures.waiting ∙ waiting_seen v c.args.kept.now seen c.args.opened.now.stream c.args.opened.now.source)) refl)
    refl

pub returns-in-Err : goal.returns-in-Err
returns-in-Err c v seen =
    stepped v (fed v c.args.opened.now.stream c.args.opened.now.source c.args.opened.now.octets c.args.count c.args.random.now (Some c.args.route))
    (makes v (new_chunks v c.args.opened.now.stream c.args.route c.args.opened.now.octets (count_by (is_chunk_of c.args.opened.now.stream) v.facts) c.args.random.now 0 c.args.count) (MadeKeys c.args.count (fresh_name v KeyKind 0)))
    (Err Memory)
    (fed_shown v c.args.opened.now.stream c.args.opened.now.source c.args.opened.now.octets c.args.count c.args.random.now c.args.route false (count_by (is_chunk_of c.args.opened.now.stream) v.facts)
    (sym c.if-is_full.false ∙ c.is_full.ensures ∙ ap (λ (w : ℕ). nat_lt 4096 (w + c.args.count)) (c.feed_place-place.ensures.waiting ∙ waiting_seen v c.args.kept.now seen c.args.opened.now.stream c.args.opened.now.source)) refl)
    refl

pub returns-in-Ok : goal.returns-in-Ok
returns-in-Ok c v seen =
    stepped v (fed v c.args.opened.now.stream c.args.opened.now.source c.args.opened.now.octets c.args.count c.args.random.now (Some c.args.route))
    (makes v (new_chunks v c.args.opened.now.stream c.args.route c.args.opened.now.octets c.in-Some.next c.args.random.now 0 c.args.count) (MadeKeys c.args.count (fresh_name v KeyKind 0))) _
    (fed_shown v c.args.opened.now.stream c.args.opened.now.source c.args.opened.now.octets c.args.count c.args.random.now c.args.route false c.in-Some.next
    (sym c.if-is_full.false ∙ c.is_full.ensures ∙ ap (λ (w : ℕ). nat_lt 4096 (w + c.args.count)) (c.feed_place-place.ensures.waiting ∙ waiting_seen v c.args.kept.now seen c.args.opened.now.stream c.args.opened.now.source))
    (c.in-Some.ensures.0 ∙ c.feed_place-place.ensures.next ∙ ap (λ (fs : List Fact). count_by (is_chunk_of c.args.opened.now.stream) fs) (sym seen.ends.facts)))
    (record { batch = c.in-Ok.ensures v seen; reply = ap (λ (n : Name). MadeKeys c.args.count n) (c.in-Some-fresh_name.ensures v seen); orders = refl; volatile = refl })
