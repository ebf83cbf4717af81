use Rattle.std.proofs.Common.{arith}
use Rattle.kme_serve.proofs.Going.{few_more, go_on}
use Rattle.kme_serve.proofs.connection.serve_connection.Goals as goal

pub exchanges-preserved : goal.exchanges-preserved
exchanges-preserved g c =
    let before = c.exchanges.invariant in
    let stays = c.in-Ok.ensures.goes in
    record {
      fits = c.in-Ok.ensures.fits;
      budget = omega (arith, c.in-Ok.ensures.budget, before.budget);
      few = few_more c.exchanges.count stays.exchange.read before.few stays.stays;
      owed = λ some. omega arith;
      goes_on = λ after ended later. before.goes_on after ended (go_on _ _ _ _ _ c.exchanges.count c.exchanges.buffers.kept c.exchange.new.buffers.kept c.exchanges.buffers.owed c.exchange.new.buffers.owed _ _ after ended stays later);
    }
