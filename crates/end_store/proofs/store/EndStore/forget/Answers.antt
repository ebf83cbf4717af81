use Rattle.std.proofs.Common.{ℕ, subst, sym}
use Rattle.end_store.specs.Waiting.{AreWaiting}
use Rattle.end_store.specs.Readied.{AreReady}
use Rattle.end_store.proofs.Forgotten.{waiting_forgotten}
use Rattle.end_store.proofs.Stocked.{stocks_forgotten}
use Rattle.end_store.proofs.Readied.{ready_forgotten}
use Rattle.end_store.proofs.store.EndStore.forget.Goals as goal

pub invariant_of-self : goal.invariant_of-self
invariant_of-self c = let i = c.self.invariant in let e = c.forget.ensures in record {
  waiting = subst (λ (me : ℕ). AreWaiting me c.forget.new.self.facts c.self.inside.handed.pairs c.self.inside.waiting c.self.inside.listed) (sym e.kept.0)
      (waiting_forgotten c.self.inside.known.me c.self.inside.known.facts c.forget.new.self.facts c.self.inside.handed.pairs c.self.inside.waiting c.self.inside.listed c.args.place i.waiting e.facts);
  counted = stocks_forgotten c.self.inside.known.facts c.forget.new.self.facts c.self.inside.handed.pairs c.self.inside.stocks c.args.place i.counted e.facts;
  ready = subst (λ (me : ℕ). AreReady me c.forget.new.self.facts c.self.inside.handed.pairs c.self.inside.readies) (sym e.kept.0)
      (ready_forgotten c.self.inside.known.me c.self.inside.known.facts c.forget.new.self.facts c.self.inside.handed.pairs c.self.inside.readies c.args.place i.ready e.facts);
}
