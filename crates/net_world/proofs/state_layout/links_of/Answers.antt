use Rattle.std.proofs.Common.{sym, ◌∙◌}
use Rattle.net_world.proofs.Numbers.{all_links, first_free}
use Rattle.net_world.proofs.state_layout.links_of.Goals as goal

pub returns-in-None : goal.returns-in-None
returns-in-None c = all_links c.args.site.now c.requires (sym c.in-None.ensures.link)

pub returns-in-Some : goal.returns-in-Some
returns-in-Some c = c.get.ensures.number ∙ first_free c.args.site.now c.requires c.in-Some.link (sym c.in-Some.ensures.link) c.in-Some.ensures.free
