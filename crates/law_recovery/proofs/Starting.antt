-- After a start a manager sees what it saw, with each lane at its leased end, and with the batch in doubt if that was
-- committed.
use Rattle.std.proofs.Common.{◌≡◌, ℕ, zero, suc, ◌+◌, ◌-◌, ◌<◌, ◌≤◌, Bool, true, false, cond, ◌&&◌, List, [], ◌∷◌, ◌++◌, length, length-append, replicate, refl, sym, ◌∙◌, ap, subst, arith, map, Some}
use Rattle.std.specs.Prelude.{◌==◌, nat_lt, filter, if◌then◌else◌}
use Rattle.std.specs.List.{list_all}
use Rattle.std.proofs.lemmas.List.{map-append, length-replicate}
use Rattle.std.proofs.lemmas.List.Elements.{filter-append}
use Rattle.std.proofs.lemmas.Bool.Decides.{nat_tests}
use Rattle.qkd_base.specs.declared.lane.Lane.{Lane}
use Rattle.net_model.specs.declared.fact.Fact.{Fact}
use Rattle.net_model.specs.Site.{Site, sender, count_up, outgoing_lane, outgoing_lanes, is_incident}
use Rattle.net_model.specs.World.{Network, World, Owner, Burnt, Transmission, needs, no_volatile}
use Rattle.net_model.specs.Records.{replay}
use Rattle.net_model.specs.Journal.{is_nil}
use Rattle.net_model.specs.Doubt.{MayReplay}
use Rattle.net_model.specs.Events.{is_lane}
use Rattle.net_model.specs.Invariant.{Invariant, Conserved}
use Rattle.net_model.specs.View.{View, Port}
use Rattle.net_model.specs.Needed.{is_needed, masked, view_of, port_at}
use Rattle.net_model.specs.Start.{resolved, burnt_to, leaves, restarted, interrupted_start, recovers, start, may_recover, is_plain}
use Rattle.net_model.specs.Action.{Recovery, Start, Recovers, Resumes, Started, WasUp, Outcome}
use Rattle.net_model.specs.Step.{step, is_sent, is_quiet, is_node, is_enabled}
use Rattle.net_model.specs.Fold.{view_records, view_batch, view_restarted}
use Rattle.law_base.proofs.Base.{eq_same, and_left, and_right, and_both, number_set_same, when_false}
use Rattle.law_base.proofs.Lists.{burnt_length}
use Rattle.law_base.proofs.Extending.{end_of}
use Rattle.law_base.proofs.Keeping.{replay_keeps}
use Rattle.law_base.proofs.Resuming.{resumed_view}
use Rattle.law_recovery.specs.Fitting.{AllFit}
use Rattle.law_recovery.proofs.Shapes.{masked_like}
use Rattle.law_recovery.proofs.Following.{Follows, follows_like, seen}
use Rattle.law_recovery.proofs.Batches.{batch_follows, view_follows}

-- The lanes of a node's ports leave the node.

one_leaves : (s : Site) (v link : ℕ) → link < s.links → is_incident s v link ≡ true → leaves s v (outgoing_lane s v link) ≡ true
one_leaves s v link less at =
    let low : nat_lt link s.links ≡ true = grind (arith, nat_tests) in
    and_both (is_lane s (outgoing_lane s v link)) (sender s (outgoing_lane s v link) == v) low (ap (λ (u : ℕ). u == v) (end_of s v link at) ∙ eq_same v)

abbrev pub AllLeave : Site → ℕ → List Lane → Type 0
AllLeave s v [] = Unit {0}
AllLeave s v (l ∷ ls) = (leaves s v l ≡ true) × AllLeave s v ls

both_leave : (s : Site) (v : ℕ) (ls ks : List Lane) → AllLeave s v ls → AllLeave s v ks → AllLeave s v (ls ++ ks)
both_leave s v [] ks h k = k
both_leave s v (l ∷ ls) ks h k = (h.0, both_leave s v ls ks h.1 k)

lanes_leave : (s : Site) (v n : ℕ) → n ≤ s.links → AllLeave s v (map (outgoing_lane s v) (filter (is_incident s v) (count_up n)))
lanes_leave s v zero h = tt
lanes_leave s v (suc n) h =
    let split = ap (map (outgoing_lane s v)) (filter-append (is_incident s v) (count_up n) (n ∷ [])) ∙
    map-append (outgoing_lane s v) (filter (is_incident s v) (count_up n)) (filter (is_incident s v) (n ∷ [])) in
    let last : AllLeave s v (map (outgoing_lane s v) (filter (is_incident s v) (n ∷ []))) =
    elim (is_incident s v n) as (λ t. is_incident s v n ≡ t → AllLeave s v (map (outgoing_lane s v) (cond t (n ∷ []) []))) [
      | true ↦ λ e. (one_leaves s v n (omega (arith, h)) e, tt)
      | false ↦ λ e. tt
    ] refl in
    subst (AllLeave s v) (sym split)
    (both_leave s v (map (outgoing_lane s v) (filter (is_incident s v) (count_up n))) (map (outgoing_lane s v) (filter (is_incident s v) (n ∷ []))) (lanes_leave s v n (omega (arith, h))) last)

pub outgoing_leave : (s : Site) (v : ℕ) → AllLeave s v (outgoing_lanes s v)
unfolding outgoing_lanes
outgoing_leave s v = lanes_leave s v s.links (omega arith)

nothing_needed : (facts : List Fact) (ts : List Transmission) → is_nil ts ≡ true → needs facts ts ≡ 0
nothing_needed facts [] h = refl
nothing_needed facts (t ∷ ts) h = cc

abbrev pub at_lease : Port → Port
at_lease p = record p { planned = p.lease; recovered = p.lease }

module _ (net : Network) (w : World) (v : ℕ) (inv : Invariant net.site w.durable w.frames w.unclaimed) where
  port_restarts : (l : Lane) → leaves net.site v l ≡ true → is_nil (w.unclaimed l) ≡ true → port_at net (restarted net w v) l ≡ at_lease (port_at net w l)
  unfolding restarted
  port_restarts l away none =
      let room = inv.room l in
      let fits : length (w.durable.own l) ≤ w.durable.lease l = omega (arith, room.planned) in
      let all : length (burnt_to (w.durable.lease l) (w.durable.own l)) + needs w.durable.facts (w.unclaimed l) ≡ w.durable.lease l =
      omega (arith, burnt_length (w.durable.lease l) (w.durable.own l) fits, nothing_needed w.durable.facts (w.unclaimed l) none) in
      (λ i. record (port_at net w l) {
        planned = length (if away i then burnt_to (w.durable.lease l) (w.durable.own l) else w.durable.own l) + needs w.durable.facts (w.unclaimed l);
        recovered = if away i then w.durable.lease l else w.recovered l;
      }) ∙
      (λ i. record (port_at net w l) { planned = all i; recovered = w.durable.lease l })

  ports_restart : (ls : List Lane) → AllLeave net.site v ls → list_all (λ l. is_nil (w.unclaimed l) && is_nil (w.outgoing l)) ls ≡ true →
      map (port_at net (restarted net w v)) ls ≡ map at_lease (map (port_at net w) ls)
  ports_restart [] h k = refl
  ports_restart (l ∷ ls) h k =
      let sent = and_left (is_nil (w.unclaimed l) && is_nil (w.outgoing l)) (list_all (λ x. is_nil (w.unclaimed x) && is_nil (w.outgoing x)) ls) k in
      let one = port_restarts l h.0 (and_left (is_nil (w.unclaimed l)) (is_nil (w.outgoing l)) sent) in
      let rest = ports_restart ls h.1 (and_right (is_nil (w.unclaimed l) && is_nil (w.outgoing l)) (list_all (λ x. is_nil (w.unclaimed x) && is_nil (w.outgoing x)) ls) k) in
      λ i. one i ∷ rest i

  restarts : map (port_at net (restarted net w v)) (outgoing_lanes net.site v) ≡ map at_lease (map (port_at net w) (outgoing_lanes net.site v)) →
      view_of net (restarted net w v) v ≡ view_restarted (view_of net w v)
  unfolding view_of masked restarted view_restarted is_needed
  restarts all =
      let volatile = number_set_same w.volatile v no_volatile in
      λ i. record (view_of net w v) { ports = all i; volatile = volatile i }

  pub restart_goes : is_sent net w v ≡ true → view_of net (restarted net w v) v ≡ view_restarted (view_of net w v)
  restart_goes sent = restarts (ports_restart (outgoing_lanes net.site v) (outgoing_leave net.site v) sent)

-- A view that follows another one restarts as that one does.
restart_same : (a b : View) → Follows a b → view_restarted (masked a) ≡ view_restarted (masked b)
unfolding masked view_restarted
restart_same a b h =
    let me = h.me in
    let facts = masked_like a b (follows_like a b h) a.facts ∙ h.facts in
    let acked = h.acked in
    let handed = h.handed in
    let closed = h.closed in
    let ports = ap (map at_lease) h.ports in
    λ i. record { me = me i; facts = facts i; acked = acked i; handed = handed i; closed = closed i; ports = ports i; volatile = no_volatile }

module _ (net : Network) (w : World) (v : ℕ) (c : Conserved net w) (sent : is_sent net w v ≡ true) where
  resolved_restarts : (committed : Bool) → view_of net (restarted net (resolved net.site w v committed) v) v ≡ view_restarted (view_of net (resolved net.site w v committed) v)
  resolved_restarts false = restart_goes net (resolved net.site w v false) v c.now sent
  resolved_restarts true =
      let inv : Invariant net.site (replay net.site v (w.in_doubt v).batch w.durable) w.frames w.unclaimed =
      replay_keeps net.site w.durable w.frames w.unclaimed c.now v (w.in_doubt v).batch (c.doubts v) in
      restart_goes net (resolved net.site w v true) v inv sent

  resolved_goes : (committed : Bool) → (committed ≡ true → AllFit net (view_of net w v) (w.in_doubt v).batch) →
      view_of net (restarted net (resolved net.site w v committed) v) v ≡
      view_restarted (if committed then view_batch (view_of net w v) (w.in_doubt v).batch else view_of net w v)
  unfolding view_of
  resolved_goes false fits = resolved_restarts false
  resolved_goes true fits =
      let may : MayReplay net.site w.durable v (w.in_doubt v).batch = c.doubts v in
      let h = batch_follows net w v (w.in_doubt v).batch w.durable c.now (view_of net w v) may (fits refl) (view_follows net w v) in
      resolved_restarts true ∙ sym (restart_same (view_records (w.in_doubt v).batch (view_of net w v)) (seen net w v (replay net.site v (w.in_doubt v).batch w.durable)) h)

-- At a start, no order of the node waits.
module _ (net : Network) (w : World) (v : ℕ) (recovery : Recovery) (down : w.up v ≡ false) (enabled : is_enabled net w (Start v recovery) ≡ true) where
  sent_before : is_sent net w v ≡ true
  unfolding is_enabled
  sent_before =
      let asked : Bool = is_quiet net w v && may_recover net w v recovery in
      let may : asked ≡ true =
      sym (when_false (w.up v) (is_plain recovery) asked down) ∙ and_right (is_node net v) (if w.up v then is_plain recovery else asked) enabled in
      and_left (is_sent net w v) (is_nil (w.placings v)) (and_left (is_quiet net w v) (may_recover net w v recovery) may)

module _ (net : Network) (w : World) (v : ℕ) (committed : Bool) (down : w.up v ≡ false) (enabled : is_enabled net w (Start v (Recovers committed)) ≡ true) where
  pub started_is : (step net w (Start v (Recovers committed))).0 ≡ restarted net (resolved net.site w v committed) v
  unfolding step start
  started_is = ap (λ (r : World × Outcome). r.0) (when_false (w.up v) (w, WasUp) (restarted net (resolved net.site w v committed) v, Started) down)

  pub start_goes : Conserved net w → (committed ≡ true → AllFit net (view_of net w v) (w.in_doubt v).batch) →
      view_of net (step net w (Start v (Recovers committed))).0 v ≡
      view_restarted (if committed then view_batch (view_of net w v) (w.in_doubt v).batch else view_of net w v)
  start_goes c fits = ap (λ (x : World). view_of net x v) started_is ∙ resolved_goes net w v c (sent_before net w v (Recovers committed) down enabled) committed fits

  -- The view after the start is that of the settled state, restarted.
  pub start_restarts : Conserved net w → view_of net (step net w (Start v (Recovers committed))).0 v ≡ view_restarted (view_of net (resolved net.site w v committed) v)
  start_restarts c = ap (λ (x : World). view_of net x v) started_is ∙ resolved_restarts net w v c (sent_before net w v (Recovers committed) down enabled) committed

-- A start that finds the checkpoint of an interrupted one goes on in the same way.
module _ (net : Network) (w : World) (v : ℕ) (committed : Bool) (down : w.up v ≡ false) (enabled : is_enabled net w (Start v (Resumes committed)) ≡ true) where
  pub resumed_is : (step net w (Start v (Resumes committed))).0 ≡ restarted net (resolved net.site (interrupted_start net w v (Some committed)) v committed) v
  unfolding step start
  resumed_is = ap (λ (r : World × Outcome). r.0) (when_false (w.up v) (w, WasUp) (recovers net w v (Resumes committed)) down)

  seen_as : view_of net (step net w (Start v (Resumes committed))).0 v ≡ view_of net (restarted net (resolved net.site w v committed) v) v
  seen_as = ap (λ (x : World). view_of net x v) resumed_is ∙ resumed_view net w v committed v

  pub resume_goes : Conserved net w → (committed ≡ true → AllFit net (view_of net w v) (w.in_doubt v).batch) →
      view_of net (step net w (Start v (Resumes committed))).0 v ≡
      view_restarted (if committed then view_batch (view_of net w v) (w.in_doubt v).batch else view_of net w v)
  resume_goes c fits = seen_as ∙ resolved_goes net w v c (sent_before net w v (Resumes committed) down enabled) committed fits

  pub resume_restarts : Conserved net w → view_of net (step net w (Start v (Resumes committed))).0 v ≡ view_restarted (view_of net (resolved net.site w v committed) v)
  resume_restarts c = seen_as ∙ resolved_restarts net w v c (sent_before net w v (Resumes committed) down enabled) committed
