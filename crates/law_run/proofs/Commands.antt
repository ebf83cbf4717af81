-- Each form of line that is read names only what the site declares.
use Rattle.std.proofs.Common.{◌≡◌, ◌<◌, ◌==◌, true, not, ◌&&◌, List, length, Some, refl, ap}
use Rattle.std.specs.Prelude.{nat_lt, nat_le}
use Rattle.std.specs.List.{list_all}
use Rattle.std.proofs.lemmas.Bool.{and_from, eq-eqb, lt-ltb, leb-false, not-true}
use Rattle.qkd_base.specs.declared.lane.Lane.{Lane}
use Rattle.net_model.specs.declared.event.Event.TheVariants as events
use Rattle.net_model.specs.Site.{sender}
use Rattle.net_model.specs.Events.{is_valid_event, is_lane, is_count, is_name, are_slaves}
use Rattle.net_model.specs.Streams.{is_size}
use Rattle.declared_site.specs.declared.site.Site.{Site}
use Rattle.declared_site.specs.SiteOf.{IsDeclared, home_or_none}
use Rattle.run_types.specs.declared.command.Command.{Command}
use Rattle.run_types.specs.declared.end.End.TheVariants.{Low, High}
use Rattle.scenario_text.specs.Words.{Word, first_of, one_of, two_of, three_of, four_of, five_of, number_of, number_in}
use Rattle.scenario_text.specs.Fields.{node_of, sae_of, link_of, lane_of, name_of, size_of, ends_named, image_named, octets_of_hex}
use Rattle.scenario_text.specs.Commanding as forms
use Rattle.scenario_text.specs.Commanding.{names_of, few_names_of, group_of}
use Rattle.run_model.specs.Turn.{turn_of, in_order}
use Rattle.run_ops.specs.Fitting.{fits_a_frame}
use Rattle.run_ops.specs.Runnable.{IsCommandFor}
use Rattle.law_run.proofs.FitGiven.{bound, guarded}
use Rattle.law_run.proofs.Fields.{node_below, number_within, link_there, lane_there, name_right, size_right, octets_right}
use Rattle.law_run.proofs.Slaves.{group_right}
use Rattle.run_types.specs.declared.command.Command.TheVariants as commands
use Rattle.law_run.proofs.Sites.{made, few_right, net, node_fits, home_fits, link_fits, lane_fits, ends_fit, ask_fits, take_fits, sender_fits}

module _ (d : Site) (k : IsDeclared d) where
  pub bits_fits : (ws : List Word) (c : Command) → forms.bits_at d ws ≡ Some c → IsCommandFor d c
  unfolding forms.bits_at
  bits_fits ws c e =
      let w = bound (three_of ws) _ c e in
      let link = bound (link_of d w.0.0) _ c w.2 in
      let ends = bound (ends_named w.0.1) _ c link.2 in
      let count = bound (number_in 1 1024 w.0.2) _ c ends.2 in
      let nodes = ends_fit d k link.0 (link_there d w.0.0 link.0 link.1) in
      let there = link_fits d k w.0.0 link.0 link.1 in
      made d (commands.Bits link.0 ends.0 count.0) c count.2 (take_fits d k Low link.0 nodes there, take_fits d k High link.0 nodes there)

  pub fill_fits : (ws : List Word) (c : Command) → forms.fill_at d ws ≡ Some c → IsCommandFor d c
  unfolding forms.fill_at turn_of is_valid_event
  fill_fits ws c e =
      let w = bound (four_of ws) _ c e in
      let master = bound (sae_of d w.0.0) _ c w.2 in
      let slave = bound (sae_of d w.0.1) _ c master.2 in
      let bits = bound (size_of w.0.2) _ c slave.2 in
      let count = bound (number_in 1 128 w.0.3) _ c bits.2 in
      let valid = and_from (is_size bits.0) (is_count count.0) (size_right w.0.2 bits.0 bits.1) (number_within 1 128 w.0.3 count.0 count.1) in
      made d (commands.Fill master.0 slave.0 bits.0 count.0) c count.2
      (λ http. ask_fits d k (home_or_none d.entitlements master.0) (events.Fill master.0 slave.0 bits.0 count.0) (home_fits d k w.0.0 master.0 master.1) (refl {a = true}) (refl {a = true}) valid)

  pub tick_fits : (ws : List Word) (c : Command) → forms.tick_at d ws ≡ Some c → IsCommandFor d c
  unfolding forms.tick_at
  tick_fits ws c e =
      let w = bound (one_of ws) _ c e in
      let node = bound (node_of d w.0) _ c w.2 in
      made d (commands.Tick node.0) c node.2 (node_below d w.0 node.0 node.1)

  pub settle_fits : (ws : List Word) (c : Command) → forms.settle_at ws ≡ Some c → IsCommandFor d c
  unfolding forms.settle_at
  settle_fits ws c e =
      let w = bound (one_of ws) _ c e in
      let rounds = bound (number_in 1 1000 w.0) _ c w.2 in
      made d (commands.Settle rounds.0) c rounds.2 tt

  pub pass_fits : (ws : List Word) (c : Command) → forms.pass_at d ws ≡ Some c → IsCommandFor d c
  unfolding forms.pass_at turn_of
  pass_fits ws c e =
      let w = bound (three_of ws) _ c e in
      let lane = bound (lane_of d w.0.0 w.0.1) _ c w.2 in
      let number = bound (number_of w.0.2) _ c lane.2 in
      made d (commands.Pass lane.0 number.0) c number.2 (λ http. lane_fits d k w.0.0 w.0.1 lane.0 lane.1)

  pub flip_fits : (ws : List Word) (c : Command) → forms.flip_at d ws ≡ Some c → IsCommandFor d c
  unfolding forms.flip_at turn_of
  flip_fits ws c e =
      let w = bound (four_of ws) _ c e in
      let lane = bound (lane_of d w.0.0 w.0.1) _ c w.2 in
      let number = bound (number_of w.0.2) _ c lane.2 in
      let bit = bound (number_of w.0.3) _ c number.2 in
      made d (commands.Flip lane.0 number.0 bit.0) c bit.2 (λ http. lane_fits d k w.0.0 w.0.1 lane.0 lane.1)

  pub forge_fits : (ws : List Word) (c : Command) → forms.forge_at d ws ≡ Some c → IsCommandFor d c
  unfolding forms.forge_at turn_of
  forge_fits ws c e =
      let w = bound (three_of ws) _ c e in
      let lane = bound (lane_of d w.0.0 w.0.1) _ c w.2 in
      let octets = bound (octets_of_hex 600 w.0.2) _ c lane.2 in
      let right = octets_right 600 w.0.2 octets.0 octets.1 in
      made d (commands.Forge lane.0 octets.0) c octets.2
      (λ http. and_from (is_lane (net d k) lane.0 && fits_a_frame (length octets.0)) (list_all (λ b. nat_lt b 256) octets.0)
      (and_from (is_lane (net d k) lane.0) (fits_a_frame (length octets.0)) (lane_fits d k w.0.0 w.0.1 lane.0 lane.1) right.0) right.1)

  pub crash_fits : (ws : List Word) (c : Command) → forms.crash_at d ws ≡ Some c → IsCommandFor d c
  unfolding forms.crash_at turn_of
  crash_fits ws c e =
      let w = bound (one_of ws) _ c e in
      let node = bound (node_of d w.0) _ c w.2 in
      made d (commands.Crash node.0) c node.2 (λ http. node_fits d k w.0 node.0 node.1)

  pub start_fits : (ws : List Word) (c : Command) → forms.start_at d ws ≡ Some c → IsCommandFor d c
  unfolding forms.start_at turn_of
  start_fits ws c e =
      let w = bound (one_of ws) _ c e in
      let node = bound (node_of d w.0) _ c w.2 in
      made d (commands.Start node.0) c node.2 (λ http. node_fits d k w.0 node.0 node.1)

  pub cut_fits : (ws : List Word) (c : Command) → forms.cut_at d ws ≡ Some c → IsCommandFor d c
  unfolding forms.cut_at turn_of
  cut_fits ws c e =
      let w = bound (three_of ws) _ c e in
      let node = bound (node_of d w.0.0) _ c w.2 in
      let call = bound (number_in 1 1000000 w.0.1) _ c node.2 in
      let image = bound (image_named w.0.2) _ c call.2 in
      made d (commands.Cut node.0 call.0 image.0) c image.2 (λ http. node_fits d k w.0.0 node.0 node.1)

  pub fail_fits : (ws : List Word) (c : Command) → forms.fail_at d ws ≡ Some c → IsCommandFor d c
  unfolding forms.fail_at turn_of
  fail_fits ws c e =
      let w = bound (two_of ws) _ c e in
      let node = bound (node_of d w.0.0) _ c w.2 in
      let call = bound (number_in 1 1000000 w.0.1) _ c node.2 in
      made d (commands.Fail node.0 call.0) c call.2 (λ http. node_fits d k w.0.0 node.0 node.1)

  pub link_up_fits : (ws : List Word) (c : Command) → forms.link_up_at d ws ≡ Some c → IsCommandFor d c
  unfolding forms.link_up_at turn_of
  link_up_fits ws c e =
      let w = bound (one_of ws) _ c e in
      let link = bound (link_of d w.0) _ c w.2 in
      made d (commands.LinkUp link.0) c link.2 (λ http. link_fits d k w.0 link.0 link.1)

  pub link_down_fits : (ws : List Word) (c : Command) → forms.link_down_at d ws ≡ Some c → IsCommandFor d c
  unfolding forms.link_down_at turn_of
  link_down_fits ws c e =
      let w = bound (one_of ws) _ c e in
      let link = bound (link_of d w.0) _ c w.2 in
      made d (commands.LinkDown link.0) c link.2 (λ http. link_fits d k w.0 link.0 link.1)

  pub enc_fits : (ws : List Word) (c : Command) → forms.enc_at d ws ≡ Some c → IsCommandFor d c
  unfolding forms.enc_at turn_of is_valid_event
  enc_fits ws c e =
      let w = bound (five_of ws) _ c e in
      let node = bound (node_of d w.0.0) _ c w.2 in
      let master = bound (sae_of d w.0.1) _ c node.2 in
      let slave = bound (sae_of d w.0.2) _ c master.2 in
      let count = bound (number_in 1 128 w.0.3) _ c slave.2 in
      let bits = bound (size_of w.0.4) _ c count.2 in
      let valid = and_from (is_count count.0) (is_size bits.0) (number_within 1 128 w.0.3 count.0 count.1) (size_right w.0.4 bits.0 bits.1) in
      made d (commands.Enc node.0 master.0 slave.0 count.0 bits.0) c bits.2 (λ http. ask_fits d k node.0 (events.Enc master.0 slave.0 count.0 bits.0) (node_fits d k w.0.0 node.0 node.1) (refl {a = true}) (refl {a = true}) valid)

  pub dec_fits : (ws : List Word) (c : Command) → forms.dec_at d ws ≡ Some c → IsCommandFor d c
  unfolding forms.dec_at turn_of is_valid_event
  dec_fits ws c e =
      let first = bound (first_of ws) _ c e in
      let second = bound (first_of first.0.1) _ c first.2 in
      let third = bound (first_of second.0.1) _ c second.2 in
      let node = bound (node_of d first.0.0) _ c third.2 in
      let slave = bound (sae_of d second.0.0) _ c node.2 in
      let master = bound (sae_of d third.0.0) _ c slave.2 in
      let names = bound (few_names_of third.0.1) _ c master.2 in
      made d (commands.Dec node.0 slave.0 master.0 names.0) c names.2
      (λ http. ask_fits d k node.0 (events.Dec slave.0 master.0 names.0) (node_fits d k first.0.0 node.0 node.1) (refl {a = true}) (refl {a = true}) (few_right third.0.1 names.0 names.1))

  pub status_fits : (ws : List Word) (c : Command) → forms.status_at d ws ≡ Some c → IsCommandFor d c
  unfolding forms.status_at turn_of is_valid_event
  status_fits ws c e =
      let w = bound (three_of ws) _ c e in
      let node = bound (node_of d w.0.0) _ c w.2 in
      let master = bound (sae_of d w.0.1) _ c node.2 in
      let slave = bound (sae_of d w.0.2) _ c master.2 in
      made d (commands.Status node.0 master.0 slave.0) c slave.2 (λ http. ask_fits d k node.0 (events.Status master.0 slave.0) (node_fits d k w.0.0 node.0 node.1) (refl {a = true}) (refl {a = true}) (refl {a = true}))

  pub http_fits : (ws : List Word) (c : Command) → forms.http_at d ws ≡ Some c → IsCommandFor d c
  unfolding forms.http_at
  http_fits ws c e =
      let w = bound (two_of ws) _ c e in
      let node = bound (node_of d w.0.0) _ c w.2 in
      let octets = bound (octets_of_hex 73728 w.0.1) _ c node.2 in
      made d (commands.Http node.0 octets.0) c octets.2 (node_below d w.0.0 node.0 node.1)

  pub show_fits : (ws : List Word) (c : Command) → forms.show_at d ws ≡ Some c → IsCommandFor d c
  unfolding forms.show_at turn_of is_valid_event
  show_fits ws c e =
      let w = bound (two_of ws) _ c e in
      let node = bound (node_of d w.0.0) _ c w.2 in
      let name = bound (name_of w.0.1) _ c node.2 in
      made d (commands.Show node.0 name.0) c name.2 (λ http. ask_fits d k node.0 (events.Show name.0) (node_fits d k w.0.0 node.0 node.1) (refl {a = true}) (refl {a = true}) (name_right w.0.1 name.0 name.1))

  pub feed_fits : (ws : List Word) (c : Command) → forms.feed_at d ws ≡ Some c → IsCommandFor d c
  unfolding forms.feed_at turn_of is_valid_event
  feed_fits ws c e =
      let w = bound (two_of ws) _ c e in
      let name = bound (name_of w.0.0) _ c w.2 in
      let count = bound (number_in 1 128 w.0.1) _ c name.2 in
      let kept = guarded (not (nat_le (length d.nodes) name.0.node)) (commands.Feed name.0 count.0) c count.2 in
      let below : name.0.node < length d.nodes = leb-false (length d.nodes) name.0.node (not-true (nat_le (length d.nodes) name.0.node) kept.0) in
      let valid = and_from (is_name name.0) (is_count count.0) (name_right w.0.0 name.0 name.1) (number_within 1 128 w.0.1 count.0 count.1) in
      made d (commands.Feed name.0 count.0) c (ap Some kept.1) (λ http. ask_fits d k name.0.node (events.Feed name.0 count.0) (lt-ltb name.0.node (length d.nodes) below) (refl {a = true}) (refl {a = true}) valid)

  pub ledger_fits : (ws : List Word) (c : Command) → forms.ledger_at d ws ≡ Some c → IsCommandFor d c
  unfolding forms.ledger_at is_valid_event
  ledger_fits ws c e =
      let w = bound (two_of ws) _ c e in
      let lane = bound (lane_of d w.0.0 w.0.1) _ c w.2 in
      let l : Lane = lane.0 in
      let here = lane_fits d k w.0.0 w.0.1 l lane.1 in
      let ends = ends_fit d k l.link (lane_there d w.0.0 w.0.1 l lane.1) in
      let valid = and_from (is_lane (net d k) l) (sender (net d k) l == sender (net d k) l) here (eq-eqb (sender (net d k) l) (sender (net d k) l) refl) in
      made d (commands.Ledger l) c lane.2 (here, ask_fits d k (sender (net d k) l) (events.Ledger l) (sender_fits d k l.way l.link ends) (refl {a = true}) (refl {a = true}) valid)

  pub fill_group_fits : (ws : List Word) (c : Command) → forms.fill_group_at d ws ≡ Some c → IsCommandFor d c
  unfolding forms.fill_group_at turn_of is_valid_event
  fill_group_fits ws c e =
      let first = bound (first_of ws) _ c e in
      let second = bound (first_of first.0.1) _ c first.2 in
      let third = bound (first_of second.0.1) _ c second.2 in
      let master = bound (sae_of d first.0.0) _ c third.2 in
      let bits = bound (size_of second.0.0) _ c master.2 in
      let count = bound (number_in 1 128 third.0.0) _ c bits.2 in
      let slaves = bound (group_of d third.0.1) _ c count.2 in
      let group = group_right d third.0.1 slaves.0 slaves.1 in
      let sized = and_from (are_slaves (in_order slaves.0)) (is_size bits.0) group (size_right second.0.0 bits.0 bits.1) in
      let valid = and_from (are_slaves (in_order slaves.0) && is_size bits.0) (is_count count.0) sized (number_within 1 128 third.0.0 count.0 count.1) in
      made d (commands.FillGroup master.0 bits.0 count.0 slaves.0) c slaves.2
      (λ http. ask_fits d k (home_or_none d.entitlements master.0) (events.FillGroup master.0 (in_order slaves.0) bits.0 count.0) (home_fits d k first.0.0 master.0 master.1) (refl {a = true}) (refl {a = true}) valid)

  pub enc_group_fits : (ws : List Word) (c : Command) → forms.enc_group_at d ws ≡ Some c → IsCommandFor d c
  unfolding forms.enc_group_at turn_of is_valid_event
  enc_group_fits ws c e =
      let first = bound (first_of ws) _ c e in
      let second = bound (first_of first.0.1) _ c first.2 in
      let third = bound (first_of second.0.1) _ c second.2 in
      let fourth = bound (first_of third.0.1) _ c third.2 in
      let node = bound (node_of d first.0.0) _ c fourth.2 in
      let master = bound (sae_of d second.0.0) _ c node.2 in
      let count = bound (number_in 1 128 third.0.0) _ c master.2 in
      let bits = bound (size_of fourth.0.0) _ c count.2 in
      let slaves = bound (group_of d fourth.0.1) _ c bits.2 in
      let group = group_right d fourth.0.1 slaves.0 slaves.1 in
      let counted = and_from (are_slaves (in_order slaves.0)) (is_count count.0) group (number_within 1 128 third.0.0 count.0 count.1) in
      let valid = and_from (are_slaves (in_order slaves.0) && is_count count.0) (is_size bits.0) counted (size_right fourth.0.0 bits.0 bits.1) in
      made d (commands.EncGroup node.0 master.0 count.0 bits.0 slaves.0) c slaves.2
      (λ http. ask_fits d k node.0 (events.EncGroup master.0 (in_order slaves.0) count.0 bits.0) (node_fits d k first.0.0 node.0 node.1) (refl {a = true}) (refl {a = true}) valid)
