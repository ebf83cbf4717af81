use Rattle.std.proofs.Common.{[], ◌∷◌, None}
use Rattle.net_model.specs.declared.record.Record.TheVariants.{Handed}
use Rattle.net_model.specs.declared.reply.Reply.TheVariants.{Stream}
use Rattle.net_model.specs.Table.{name_of, bytes_of}
use Rattle.net_model.specs.Decision.{makes}
use Rattle.kme_streams.proofs.Deciding.{decided, handed_made}
use Rattle.kme_streams.proofs.chunk_handout.hand.Goals as goal

pub returns-in-Ok : goal.returns-in-Ok
returns-in-Ok c v =
    decided v (makes v (Handed (name_of c.args.fact.now) c.args.caller ∷ []) (Stream 0 None c.args.index (bytes_of c.args.fact.now)))
    (makes v (Handed c.fact_name.result c.args.caller ∷ []) (Stream 0 None c.args.index c.in-Ok.bytes)) c.make.result
    (handed_made v c.args.caller c.args.index c.args.fact.now c.fact_name.result c.in-Ok.bytes c.fact_name.ensures.name c.in-Ok.ensures) (c.make.ensures v)
