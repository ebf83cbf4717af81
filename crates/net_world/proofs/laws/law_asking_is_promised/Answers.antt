use Rattle.run_model.specs.Course.{Run}
use Rattle.net_world.specs.Asking.{asking}
use Rattle.net_world.proofs.laws.law_asking_is_promised.Goals as goal

pub returns : goal.returns
returns g c old new before after stop h honest =
    let all = c.law_headline_stands.ensures.honest old new (Run 1) asking before after stop h honest in
    let asks = c.law_requests_ask.ensures asking.site.nodes all.0 all.1 in
    (all.0, asks.0, asks.1, all.2, all.3, all.4, all.4.keys)
