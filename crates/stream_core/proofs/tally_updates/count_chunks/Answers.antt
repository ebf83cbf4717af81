use Rattle.std.proofs.Common.{Bool, length, ◌≡◌, ◌∙◌, ap, subst, arith, cond}
use Rattle.net_model.specs.Streams.{is_chunk_of}
use Rattle.relay_core.specs.Firsts.{IsFirstFrom, IsNoneFrom}
use Rattle.relay_core.specs.Knowledge.{Knowledge}
use Rattle.stream_core.proofs.Chunks.{chunks_few, chunks_all, chunks_end, chunks_place, chunks_one, one_or_none}
use Rattle.stream_core.proofs.tally_updates.count_chunks.Goals as goal

pub returns-in-None-clause-tally : goal.returns-in-None-clause-tally
returns-in-None-clause-tally c =
    chunks_all c.args.ends.now.known.facts c.args.ends.now.handed c.args.stream c.args.source c.loop-from.from c.loop-from.chunks c.loop-from.given c.loop-from.invariant
    (subst (λ (k : Knowledge). IsNoneFrom (is_chunk_of c.args.stream) k.facts c.loop-from.from) c.known-known.ensures c.in-None.ensures.none)

pub overflow_add-chunks : goal.overflow_add-chunks
overflow_add-chunks c =
    let few = chunks_few c.args.ends.now.known.facts c.args.ends.now.handed c.args.stream c.args.source c.loop-from.from c.loop-from.chunks c.loop-from.given c.loop-from.invariant in
    let a = few.0 in
    let t = c.loop-from-test.true in
    let b = c.len.type_inv in
    omega arith

pub overflow_add-given : goal.overflow_add-given
overflow_add-given c =
    let few = chunks_few c.args.ends.now.known.facts c.args.ends.now.handed c.args.stream c.args.source c.loop-from.from c.loop-from.chunks c.loop-from.given c.loop-from.invariant in
    let a = few.1 in
    let t = c.loop-from-test.true in
    let b = c.len.type_inv in
    let one = one_or_none c.was_given.result c.one_if-given.result c.one_if-given.ensures in
    omega arith

pub overflow_add-from : goal.overflow_add-from
overflow_add-from c =
    let first = subst (λ (k : Knowledge). IsFirstFrom (is_chunk_of c.args.stream) k.facts c.loop-from.from c.in-Some.place) c.known-known.ensures c.in-Some.ensures.first in
    let lt = chunks_place c.args.ends.now.known.facts c.args.ends.now.handed c.args.stream c.args.source c.loop-from.from c.loop-from.chunks c.loop-from.given c.loop-from.invariant c.in-Some.place first in
    let size : c.len.result ≡ length c.args.ends.now.known.facts = c.len.ensures.length ∙ ap (λ (k : Knowledge). length k.facts) c.known-known.ensures in
    let b = c.len.type_inv in
    omega arith

pub loop-from-preserved : goal.loop-from-preserved
loop-from-preserved c =
    let first = subst (λ (k : Knowledge). IsFirstFrom (is_chunk_of c.args.stream) k.facts c.loop-from.from c.in-Some.place) c.known-known.ensures c.in-Some.ensures.first in
    chunks_one c.args.ends.now.known.facts c.args.ends.now.handed c.args.stream c.args.source c.loop-from.from c.loop-from.chunks c.loop-from.given c.loop-from.invariant c.in-Some.place first
    c.one_if-given.result (c.one_if-given.ensures ∙ ap (λ (b : Bool). cond b 1 0) c.was_given.ensures)

pub returns-clause-tally : goal.returns-clause-tally
returns-clause-tally c =
    let size : c.len.result ≡ length c.args.ends.now.known.facts = c.len.ensures.length ∙ ap (λ (k : Knowledge). length k.facts) c.known-known.ensures in
    let t = c.loop-from-test.false in
    chunks_end c.args.ends.now.known.facts c.args.ends.now.handed c.args.stream c.args.source c.loop-from.from c.loop-from.chunks c.loop-from.given c.loop-from.invariant (omega arith)
