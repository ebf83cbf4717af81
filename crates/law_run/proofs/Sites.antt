-- The parts of a declared site are in range: its nodes, homes, links and lanes, and the events of its managers.
use Rattle.std.proofs.Common.{◌≡◌, ◌∙◌, ℕ, zero, suc, ◌<◌, ◌==◌, true, not, ◌&&◌, List, [], ◌∷◌, length, Option, Some, None, refl, sym, ap, subst, arith}
use Rattle.std.specs.Prelude.{nat_lt, nat_le, is_some, slice_get, unwrap_or, option_map}
use Rattle.std.specs.List.{list_all}
use Rattle.std.proofs.lemmas.Bool.{and_from, or_left, or_right, eq-eqb, lt-ltb}
use Rattle.qkd_base.specs.Name.{Name}
use Rattle.qkd_base.specs.declared.lane.Lane.{Lane}
use Rattle.qkd_base.specs.declared.lane.Way.{Way}
use Rattle.qkd_base.specs.declared.lane.Way.TheVariants.{Up, Down}
use Rattle.net_model.specs.declared.event.Event.{Event}
use Rattle.net_model.specs.Action.{Ok, Ask, TakeBlock}
use Rattle.net_model.specs.Site.{Site as NetworkSite, of_way, is_incident}
use Rattle.net_model.specs.Events.{is_valid_event, is_lane, is_count, is_name}
use Rattle.net_model.specs.Step.{is_asked}
use Rattle.route_table.specs.Table.{ends_of}
use Rattle.sae_entitlements.specs.Grants.{Sae}
use Rattle.declared_site.specs.declared.site.Site.{Site}
use Rattle.declared_site.specs.SiteOf.{IsDeclared, site_of, links_in, home_or_none}
use Rattle.run_types.specs.declared.command.Command.{Command}
use Rattle.run_types.specs.declared.end.End.{End}
use Rattle.run_types.specs.declared.end.End.TheVariants.{Low, High}
use Rattle.scenario_text.specs.Words.{Word}
use Rattle.scenario_text.specs.Fields.{node_of, sae_of, link_of, lane_of, name_of}
use Rattle.scenario_text.specs.Commanding.{names_of, few_names_of}
use Rattle.run_model.specs.Lines.{node_at}
use Rattle.run_ops.specs.Fitting.{is_plan}
use Rattle.run_ops.specs.Runnable.{IsFit, IsCommandFor}
use Rattle.law_run.proofs.FitGiven.{same_some, bound, asserted}
use Rattle.law_run.proofs.Fields.{node_below, sae_below, link_there, lane_there, name_right}

home_at : (saes : List Sae) (n nodes : ℕ) → n < length saes → ((k : ℕ) (s : Sae) → slice_get saes k ≡ Some s → s.home < nodes) →
    unwrap_or (option_map (λ (s : Sae). s.home) (slice_get saes n)) 0 < nodes
home_at [] n nodes below homes = absurd (omega (arith, below))
home_at (s ∷ saes) zero nodes below homes = homes zero s refl
home_at (s ∷ saes) (suc n) nodes below homes = home_at saes n nodes (omega (arith, below)) (λ k x. homes (suc k) x)

names_right : (ws : List Word) (ns : List Name) → names_of ws ≡ Some ns → (length ns ≡ length ws) × (list_all is_name ns ≡ true)
names_right [] ns e =
    let same = same_some [] ns e in
    (sym (ap length same), subst (λ (ms : List Name). list_all is_name ms ≡ true) same refl)
names_right (w ∷ ws) ns e =
    let name = bound (name_of w) _ ns e in
    let names = bound (names_of ws) _ ns name.2 in
    let same = same_some (name.0 ∷ names.0) ns names.2 in
    let rest = names_right ws names.0 names.1 in (
      sym (ap length same) ∙ ap suc rest.0,
      subst (λ (ms : List Name). list_all is_name ms ≡ true) same (and_from (is_name name.0) (list_all is_name names.0) (name_right w name.0 name.1) rest.1),
    )

pub few_right : (ws : List Word) (ns : List Name) → few_names_of ws ≡ Some ns → (is_count (length ns) && list_all is_name ns) ≡ true
unfolding few_names_of
few_right ws ns e =
    let few = asserted (nat_le 1 (length ws) && nat_le (length ws) 128) (names_of ws) ns e in
    let names = names_right ws ns few.1 in
    and_from (is_count (length ns)) (list_all is_name ns) (subst (λ (n : ℕ). is_count n ≡ true) (sym names.0) few.0) names.1

pub made : (d : Site) (x c : Command) → Some x ≡ Some c → IsCommandFor d x → IsCommandFor d c
made d x c e h = subst (IsCommandFor d) (same_some x c e) h

module _ (d : Site) (k : IsDeclared d) where
  -- The site of the network.
  abbrev pub net : NetworkSite
  net = site_of d

  pub node_fits : (w : Word) (v : ℕ) → node_of d w ≡ Some v → nat_lt v (length d.nodes) ≡ true
  node_fits w v e = lt-ltb v (length d.nodes) (node_below d w v e)

  pub home_fits : (w : Word) (n : ℕ) → sae_of d w ≡ Some n → nat_lt (home_or_none d.entitlements n) (length d.nodes) ≡ true
  home_fits w n e = lt-ltb (home_or_none d.entitlements n) (length d.nodes) (home_at d.entitlements.saes n (length d.nodes) (sae_below d w n e) k.homes)

  pub link_fits : (w : Word) (l : ℕ) → link_of d w ≡ Some l → nat_lt l (links_in d.routes) ≡ true
  link_fits w l e = sym (k.numbers l) ∙ link_there d w l e

  pub lane_fits : (link way : Word) (l : Lane) → lane_of d link way ≡ Some l → is_lane net l ≡ true
  lane_fits link way l e = sym (k.numbers l.link) ∙ lane_there d link way l e

  -- Both ends of a link are declared nodes.
  pub record Ends (link : ℕ) : Type 0 where
    pub low : nat_lt (net.low link) (length d.nodes) ≡ true
    pub high : nat_lt (net.high link) (length d.nodes) ≡ true

  ends_by : (o : Option (ℕ × ℕ)) → is_some o ≡ true → ((low high : ℕ) → o ≡ Some (low, high) → (low < high) × (high < length d.nodes)) →
      ((unwrap_or o (0, 0)).0 < length d.nodes) × ((unwrap_or o (0, 0)).1 < length d.nodes)
  ends_by None there h = absurd cc
  ends_by (Some (low, high)) there h =
      let order = (h low high refl).0 in
      let within = (h low high refl).1 in
      (omega (arith, order, within), within)

  pub ends_fit : (link : ℕ) → is_some (ends_of d.routes link) ≡ true → Ends link
  ends_fit link there =
      let both = ends_by (ends_of d.routes link) there (λ low high e. (k.table.lower_first link low high e, k.ends link low high e)) in
      record { low = lt-ltb (net.low link) (length d.nodes) both.0; high = lt-ltb (net.high link) (length d.nodes) both.1 }

  -- Lemmas on events asked of a manager.
  pub ask_fits : (v : ℕ) (event : Event) → nat_lt v (length d.nodes) ≡ true → is_asked event ≡ true → not (is_plan event) ≡ true → is_valid_event net v event ≡ true → IsFit d (Ask v event Ok)
  ask_fits v event node asked other valid =
      and_from (nat_lt v (length d.nodes) && is_asked event && not (is_plan event)) (is_valid_event net v event)
      (and_from (nat_lt v (length d.nodes) && is_asked event) (not (is_plan event)) (and_from (nat_lt v (length d.nodes)) (is_asked event) node asked) other) valid

  incident_by : (end : End) (link : ℕ) → is_incident net (node_at net link end) link ≡ true
  incident_by Low link = or_left (net.low link == net.low link) (net.high link == net.low link) (eq-eqb (net.low link) (net.low link) refl)
  incident_by High link = or_right (net.low link == net.high link) (net.high link == net.high link) (eq-eqb (net.high link) (net.high link) refl)

  node_at_fits : (end : End) (link : ℕ) → Ends link → nat_lt (node_at net link end) (length d.nodes) ≡ true
  node_at_fits Low link ends = ends.low
  node_at_fits High link ends = ends.high

  pub take_fits : (end : End) (link : ℕ) → Ends link → nat_lt link (links_in d.routes) ≡ true → IsFit d (TakeBlock (node_at net link end) link Ok)
  take_fits end link ends there =
      and_from (nat_lt (node_at net link end) (length d.nodes) && nat_lt link (links_in d.routes)) (is_incident net (node_at net link end) link)
      (and_from (nat_lt (node_at net link end) (length d.nodes)) (nat_lt link (links_in d.routes)) (node_at_fits end link ends) there) (incident_by end link)

  -- The sender of a lane is a declared node.
  pub sender_fits : (way : Way) (link : ℕ) → Ends link → nat_lt (of_way way (net.low link) (net.high link)) (length d.nodes) ≡ true
  sender_fits Up link ends = ends.low
  sender_fits Down link ends = ends.high
