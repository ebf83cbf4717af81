use Rattle.std.proofs.Common.{◌≡◌, ◌*◌, ◌++◌, take, drop, refl, ap, ◌∙◌, arith}
use Rattle.declared_site.specs.SiteOf.{links_in}
use Rattle.net_world.specs.Laid.{unstarted}
use Rattle.net_world.proofs.Numbers.{few}
use Rattle.net_world.proofs.state_layout.lay_out.Goals as goal

pub lay_lanes-requires-clause-links : goal.lay_lanes-requires-clause-links
lay_lanes-requires-clause-links g c = let most = few c.args.site c.requires.declared in omega (arith, c.links_of-links.ensures, most)

pub lay_lanes-requires-clause-wires : goal.lay_lanes-requires-clause-wires
lay_lanes-requires-clause-wires g c =
    let most = few c.args.site c.requires.declared in omega (arith, c.links_of-links.ensures, most, c.requires.whole.wires, c.args.bench.now.wires.ok.0)

pub take_some-requires-clause-there : goal.take_some-requires-clause-there
take_some-requires-clause-there g c =
    let most = few c.args.site c.requires.declared in omega (arith, c.from-3.ensures, c.links_of-links.ensures, most, c.requires.whole.devices, c.args.bench.now.devices.ok.0)

pub returns-clause-laid : goal.returns-clause-laid
returns-clause-laid g c =
    let disks = c.args.bench.now.disks.items in
    let entropies = c.args.bench.now.entropies.items in
    let devices = c.args.bench.now.devices.items in
    let wires = c.args.bench.now.wires.items in
    let nodes = c.len-nodes.ensures in
    let links : c.links_of-links.result ≡ links_in c.args.site.routes = c.links_of-links.ensures in
    let count : c.from-3.result ≡ links_in c.args.site.routes = c.from-3.ensures ∙ links in
    record {
      sited = refl;
      posts = c.lay_posts.ensures.posts ∙ ap (λ n. unstarted (take n disks) (take n entropies)) nodes;
      sides = c.lay_lanes.ensures.sides ∙ ap (λ n. 2 * n) links;
      lanes = λ l below. c.lay_lanes.ensures.lanes l (omega (arith, below, links));
      devices = c.take_some.ensures.items ∙ ap (λ xs. xs ++ take c.from-3.result devices) c.in_ok-devices.ensures.items ∙ ap (λ n. take n devices) count;
      up = refl;
      other_disks = c.lay_posts.ensures.disks ∙ ap (λ n. drop n disks) nodes;
      other_entropies = c.lay_posts.ensures.entropies ∙ ap (λ n. drop n entropies) nodes;
      other_wires = c.lay_lanes.ensures.wires ∙ ap (λ n. drop (2 * n) wires) links;
      other_devices = c.take_some.ensures.rest ∙ ap (λ n. drop n devices) count;
    }

pub returns-clause-room : goal.returns-clause-room
returns-clause-room g c = record {
  disks = omega (arith, c.lay_posts.new.posts.ok.0, c.lay_posts.new.disks.ok.0, c.lay_posts.ensures.nodes, c.lay_posts.ensures.disks_left, c.lay_posts.ensures.disk_room, c.args.bench.now.disks.ok.1);
  entropies = omega (arith, c.lay_posts.new.posts.ok.0, c.lay_posts.new.entropies.ok.0, c.lay_posts.ensures.nodes, c.lay_posts.ensures.entropies_left, c.lay_posts.ensures.entropy_room, c.args.bench.now.entropies.ok.1);
  devices = omega (arith, c.take_some.new.into.ok.0, c.take_some.new.from.ok.0, c.take_some.ensures.len, c.take_some.ensures.left, c.take_some.ensures.room, c.in_ok-devices.ensures.len, c.args.bench.now.devices.ok.1);
  wires = omega (arith, c.lay_lanes.ensures.sides, c.lay_lanes.new.wires.ok.0, c.lay_lanes.ensures.left, c.lay_lanes.ensures.room, c.args.bench.now.wires.ok.1);
}
