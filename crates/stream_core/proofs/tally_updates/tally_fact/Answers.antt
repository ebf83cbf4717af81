use Rattle.std.proofs.Common.{ap}
use Rattle.net_model.specs.Streams.{is_chunk_of}
use Rattle.stream_core.proofs.Tallying.{tallies_put, tallies_stay, not_chunk}
use Rattle.stream_core.proofs.tally_updates.tally_fact.Goals as goal

pub returns-in-Open : goal.returns-in-Open
returns-in-Open c =
    tallies_put c.args.ends.now.known.facts c.args.fact.now c.requires.last c.args.ends.now.handed c.args.tallies.now c.put.new.self c.in-Open.stream c.count_chunks.result c.requires.tallies
    c.put.ensures c.count_chunks.ensures.tally (λ s miss. ap (is_chunk_of s) c.in-Open.is)

pub returns-in_default : goal.returns-in_default
returns-in_default c =
    tallies_stay c.args.ends.now.known.facts c.args.fact.now c.requires.last c.args.ends.now.handed c.args.tallies.now c.requires.tallies
    (λ s t h. not_chunk s c.args.fact.now c.in_default.not-Chunk)
