use Rattle.net_serve.proofs.Turns.{valid_for, took, may_go_on}
use Rattle.net_serve.proofs.machine.ServedPostMachine.turn.Goals as goal

pub ask_if_up-reply-requires : goal.ask_if_up-reply-requires
ask_if_up-reply-requires g c = record {
  valid = valid_for g.K.Disk g.E.Entropy c.args.self.now.site.value c.args.self.now.node c.args.self.now.post c.args.self.now.up c.args.request c.requires
      c.args.self.now.servable;
}

pub invariant_of-self : goal.invariant_of-self
invariant_of-self g c = record {
  servable = may_go_on g.K.Disk g.E.Entropy c.args.self.now.site.value c.args.self.now.node c.args.self.now.post c.args.self.now.up c.args.request c.requires
      c.ask_if_up-reply.new.post c.ask_if_up-reply.result c.ask_if_up-reply.ensures c.args.self.now.servable;
}

pub returns-clause-turns : goal.returns-clause-turns
returns-clause-turns g c =
    took g.K.Disk g.E.Entropy c.args.self.now.site.value c.args.self.now.node c.args.self.now.post c.args.self.now.up c.args.request c.requires
    c.ask_if_up-reply.new.post c.ask_if_up-reply.result c.ask_if_up-reply.ensures
