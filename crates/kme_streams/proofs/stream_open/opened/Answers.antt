use Rattle.std.proofs.Common.{[], ◌∷◌, ◌/◌, Some}
use Rattle.qkd_base.specs.declared.key_name.NameKind.TheVariants.{Stream as StreamKind}
use Rattle.net_model.specs.declared.fact.Fact.TheVariants.{Open}
use Rattle.net_model.specs.declared.record.Record.TheVariants.{Learned}
use Rattle.net_model.specs.declared.reply.Reply.TheVariants.{Stream}
use Rattle.net_model.specs.Decision.{makes, fresh_name}
use Rattle.kme_streams.proofs.Deciding.{decided, opened_made}
use Rattle.kme_streams.proofs.stream_open.opened.Goals as goal

pub returns-in-Some : goal.returns-in-Some
returns-in-Some c v seen =
    decided v (makes v (Learned (Open (fresh_name v StreamKind 0) c.args.source c.args.peer (c.args.bits / 8) c.args.route) ∷ []) (Stream 1 (Some (fresh_name v StreamKind 0)) 0 []))
    (makes v (Learned (Open c.in-Some.stream c.args.source c.args.peer (c.args.bits / 8) c.args.route) ∷ []) (Stream 1 (Some c.in-Some.stream) 0 c.new.result)) c.make.result
    (opened_made v c.args.source c.args.peer (c.args.bits / 8) c.args.route c.in-Some.stream c.new.result (c.in-Some.ensures v seen) c.new.ensures) (c.make.ensures v)
