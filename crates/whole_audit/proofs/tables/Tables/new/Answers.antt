use Rattle.std.proofs.Common.{List, ℕ, ap}
use Rattle.whole_audit.specs.Kept.{has_number}
use Rattle.whole_audit.proofs.tables.Tables.new.Goals as goal

pub returns : goal.returns
returns c = record {
  spots = c.in_ok-new.ensures {u = tt};
  counts = c.new-2.ensures;
  down = λ link. ap (λ (es : List (List ℕ)). has_number es link) c.new-3.ensures;
  managers = λ node. ap (λ (es : List (List ℕ)). has_number es node) c.new-4.ensures;
  started = λ node. ap (λ (es : List (List ℕ)). has_number es node) c.new-5.ensures;
  stopped = λ node. ap (λ (es : List (List ℕ)). has_number es node) c.new-6.ensures;
  names = c.new-7.ensures c.args.scenario.now;
  rests = c.new-8.ensures c.args.scenario.now;
  tracks = c.new-9.ensures;
  knowledge = c.new-10.ensures c.args.scenario.now;
  frames = c.new-11.ensures;
  pools = c.new-12.ensures c.args.scenario.now;
  handings = c.new-13.ensures c.args.scenario.now;
  arrivals = c.new-14.ensures;
}
