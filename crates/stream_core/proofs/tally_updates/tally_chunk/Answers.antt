use Rattle.std.proofs.Common.{◌+◌, ◌∙◌, sym, ap, cond, Bool, ℕ, refl}
use Rattle.qkd_base.specs.Name.{Name}
use Rattle.net_model.specs.Table.{was_handed}
use Rattle.stream_core.specs.declared.tallies.Tally.{Tally}
use Rattle.stream_core.proofs.Tallying.{more_tally, tallies_put, tallies_stay, other_stream, absent_stream}
use Rattle.stream_core.proofs.tally_updates.tally_chunk.Goals as goal

pub returns-in-Some : goal.returns-in-Some
returns-in-Some c =
    let u : Tally = record { source = c.in-Some.tally.source; chunks = c.in-Some.tally.chunks + 1; given = c.in-Some.tally.given + c.one_if.result } in
    tallies_put c.args.ends.now.known.facts c.args.fact.now c.requires.last c.args.ends.now.handed c.args.tallies.now c.put.new.self c.args.stream u c.requires.tallies c.put.ensures
    (more_tally c.args.ends.now.known.facts c.args.fact.now c.requires.last c.args.ends.now.handed c.args.stream c.in-Some.tally u c.requires.chunk
    (c.requires.tallies.right c.args.stream c.in-Some.tally (sym c.find.ensures ∙ c.in-Some.is)) refl refl
    (ap (λ (k : ℕ). c.in-Some.tally.given + k) (c.one_if.ensures ∙ ap (λ (b : Bool). cond b 1 0) (c.was_handed-given.ensures ∙ ap (λ (n : Name). was_handed c.args.ends.now.handed n c.in-Some.tally.source) c.fact_name.ensures.name))))
    (λ s miss. other_stream c.args.stream s c.args.fact.now c.requires.chunk miss)

pub returns-in-None-source_of : goal.returns-in-None-source_of
returns-in-None-source_of c =
    tallies_stay c.args.ends.now.known.facts c.args.fact.now c.requires.last c.args.ends.now.handed c.args.tallies.now c.requires.tallies
    (λ s t h. other_stream c.args.stream s c.args.fact.now c.requires.chunk (absent_stream c.args.tallies.now c.args.stream s t (sym c.find.ensures ∙ c.in-None.is) h))

pub returns-in-Some-source_of : goal.returns-in-Some-source_of
returns-in-Some-source_of c =
    tallies_put c.args.ends.now.known.facts c.args.fact.now c.requires.last c.args.ends.now.handed c.args.tallies.now c.put-in-Some-source_of.new.self c.args.stream c.count_chunks.result c.requires.tallies
    c.put-in-Some-source_of.ensures c.count_chunks.ensures.tally (λ s miss. other_stream c.args.stream s c.args.fact.now c.requires.chunk miss)
