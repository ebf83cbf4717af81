-- A block of bytes taken at a node's end of a link is appended to the blocks of its port.
use Rattle.std.proofs.Common.{◌≡◌, ℕ, ◌+◌, ◌<◌, ◌≤◌, true, false, ◌&&◌, List, [], ◌∷◌, ◌++◌, length, suc, replicate, refl, sym, ◌∙◌, ap, subst, arith, map}
use Rattle.std.specs.Prelude.{◌==◌, nat_lt, if◌then◌else◌, filter}
use Rattle.std.proofs.lemmas.Bool.Decides.{nat_tests}
use Rattle.qkd_base.specs.Lane.{way_eq}
use Rattle.qkd_base.specs.LaneBytes.{lane_len}
use Rattle.qkd_base.specs.declared.lane.Way.{Way}
use Rattle.qkd_base.specs.declared.lane.Lane.{Lane}
use Rattle.net_model.specs.declared.record.Record.TheVariants.{Block}
use Rattle.net_model.specs.OctetSequence.{OctetSequence, block_at, first_blocks}
use Rattle.net_model.specs.Site.{outgoing_way, outgoing_lane, lane_of, outgoing_lanes, is_incident, count_up}
use Rattle.net_model.specs.World.{Network, World, Durable, Owner, HashKey, needs, received}
use Rattle.net_model.specs.Records.{keyed_own, keyed_lease, block_taken, apply_record}
use Rattle.net_model.specs.Invariant.{Invariant}
use Rattle.net_model.specs.View.{View, Port, received_of}
use Rattle.net_model.specs.Needed.{is_needed, port_at}
use Rattle.net_model.specs.Fold.{with_block, view_record}
use Rattle.law_base.proofs.Base.{eq_from, eq_same, lane_same, and_both, when_true}
use Rattle.law_base.proofs.LaneBlocks.{count_blocks}
use Rattle.law_recovery.proofs.Following.{Follows, seen}

one_more : (t : OctetSequence) (n : ℕ) → first_blocks t (n + 1) ≡ first_blocks t n ++ block_at t n ∷ []
unfolding first_blocks
one_more t n = let e : n + 1 ≡ suc n = omega arith in ap (first_blocks t) e

-- The first block brings the hash key, both in the owned bytes and in the planned end.
key_planned : (before after more : ℕ) (own : List Owner) → length own + more ≤ before →
    length (keyed_own before after own) + more ≡ keyed_lease before after (length own + more)
key_planned before after more own room =
    elim (before == 0) as (λ t. (before == 0) ≡ t → length (if t && nat_lt 0 after then replicate 8 HashKey else own) + more ≡ (if t && nat_lt 0 after then 8 else length own + more)) [
      | false ↦ λ e. refl
      | true ↦ λ e. elim (nat_lt 0 after) as (λ t. length (if t then replicate 8 HashKey else own) + more ≡ (if t then 8 else length own + more)) [
        | false ↦ refl
        | true ↦ let none : before ≡ 0 = eq_from before 0 e in omega (arith, room, none)
      ]
    ] refl

module _ (net : Network) (w : World) (v : ℕ) (d : Durable) (inv : Invariant net.site d w.frames w.unclaimed) (link number : ℕ) (few : number < 1024) where
  abbrev bytes : List ℕ
  bytes = block_at (net.device link) number

  abbrev at : Durable → Lane → Port
  at d' l = port_at net (record w { durable = d' }) l

  abbrev port_with : Lane → List (List ℕ) → ℕ → ℕ → Port
  port_with l blocks lease end = record { lane = l; blocks = blocks; lease = lease; planned = end; recovered = w.recovered l }

  -- The port of the link.
  this_port : (way : Way) (n : ℕ) → number ≡ n → d.blocks (lane_of link way) ≡ n →
      with_block link number bytes (at d (lane_of link way)) ≡
      port_with (lane_of link way) (first_blocks (net.device link) (n + 1)) (keyed_lease (lane_len way n) (lane_len way (n + 1)) (d.lease (lane_of link way)))
      (length (keyed_own (lane_len way n) (lane_len way (n + 1)) (d.own (lane_of link way))) + needs d.facts (w.unclaimed (lane_of link way)))
  this_port way n is here =
      let l : Lane = lane_of link way in
      let t : OctetSequence = net.device link in
      let old : ℕ = d.blocks l in
      let own : List Owner = d.own l in
      let more : ℕ = needs d.facts (w.unclaimed l) in
      let room = inv.room l in
      let came : received d l ≡ lane_len way n = ap (lane_len way) here in
      let count : length (first_blocks t old) ≡ n = count_blocks t old ∙ here in
      let fits : length own + more ≤ lane_len way n = omega (arith, room.planned, room.leased, came) in
      let next : (number == length (first_blocks t old)) ≡ true = ap (λ (m : ℕ). number == m) (count ∙ sym is) ∙ eq_same number in
      let low : nat_lt number 1024 ≡ true = grind (arith, nat_tests) in
      let test : ((link == link) && (number == length (first_blocks t old)) && nat_lt number 1024) ≡ true =
      and_both ((link == link) && (number == length (first_blocks t old))) (nat_lt number 1024) (and_both (link == link) (number == length (first_blocks t old)) (eq_same link) next) low in
      let blocks : first_blocks t old ++ block_at t number ∷ [] ≡ first_blocks t (n + 1) = (λ i. first_blocks t (here i) ++ block_at t (is i) ∷ []) ∙ sym (one_more t n) in
      let end = key_planned (lane_len way n) (lane_len way (n + 1)) more own fits in
      when_true ((link == link) && (number == length (first_blocks t old)) && nat_lt number 1024)
      (port_with l (first_blocks t old ++ block_at t number ∷ []) (keyed_lease (lane_len way (length (first_blocks t old))) (lane_len way (number + 1)) (d.lease l))
      (keyed_lease (lane_len way (length (first_blocks t old))) (lane_len way (number + 1)) (length own + more))) (at d l) test ∙
      (λ i. port_with l (blocks i) (keyed_lease (lane_len way (count i)) (lane_len way (is i + 1)) (d.lease l))
      (keyed_lease (lane_len way (count i)) (lane_len way (is i + 1)) (length own + more))) ∙
      (λ i. port_with l (first_blocks t (n + 1)) (keyed_lease (lane_len way n) (lane_len way (n + 1)) (d.lease l)) (sym end i))

  -- The world's state of the port after the block.
  taken_port : (way : Way) (n : ℕ) → d.blocks (lane_of link way) ≡ n → at (block_taken (lane_of link way) d) (lane_of link way) ≡
      port_with (lane_of link way) (first_blocks (net.device link) (n + 1)) (keyed_lease (lane_len way n) (lane_len way (n + 1)) (d.lease (lane_of link way)))
      (length (keyed_own (lane_len way n) (lane_len way (n + 1)) (d.own (lane_of link way))) + needs d.facts (w.unclaimed (lane_of link way)))
  unfolding block_taken
  taken_port way n here =
      let l : Lane = lane_of link way in
      let same = lane_same l in
      (λ i. port_with l (first_blocks (net.device link) (if same i then d.blocks l + 1 else d.blocks l))
      (if same i then keyed_lease (lane_len way (d.blocks l)) (lane_len way (d.blocks l + 1)) (d.lease l) else d.lease l)
      (length (if same i then keyed_own (lane_len way (d.blocks l)) (lane_len way (d.blocks l + 1)) (d.own l) else d.own l) + needs d.facts (w.unclaimed l))) ∙
      (λ i. port_with l (first_blocks (net.device link) (here i + 1)) (keyed_lease (lane_len way (here i)) (lane_len way (here i + 1)) (d.lease l))
      (length (keyed_own (lane_len way (here i)) (lane_len way (here i + 1)) (d.own l)) + needs d.facts (w.unclaimed l)))

  -- The ports of other links stay the same.
  other_port : (way other : Way) (k : ℕ) → (k == link) ≡ false → with_block link number bytes (at d (lane_of k other)) ≡ at (block_taken (lane_of link way) d) (lane_of k other)
  unfolding block_taken
  other_port way other k apart =
      let l : Lane = lane_of k other in
      let m : Lane = lane_of link way in
      let t : OctetSequence = net.device k in
      (λ i. if (apart i) && (number == length (at d l).blocks) && nat_lt number 1024 then
      record (at d l) {
        blocks = (at d l).blocks ++ bytes ∷ [];
        lease = keyed_lease (received_of (at d l)) (lane_len other (number + 1)) (d.lease l);
        planned = keyed_lease (received_of (at d l)) (lane_len other (number + 1)) (at d l).planned;
      } else at d l) ∙
      (λ i. port_with l (first_blocks t (if sym apart i && way_eq other way then d.blocks m + 1 else d.blocks l))
      (if sym apart i && way_eq other way then keyed_lease (lane_len way (d.blocks m)) (lane_len way (d.blocks m + 1)) (d.lease m) else d.lease l)
      (length (if sym apart i && way_eq other way then keyed_own (lane_len way (d.blocks m)) (lane_len way (d.blocks m + 1)) (d.own m) else d.own l) +
      needs d.facts (w.unclaimed l)))

  each_port : number ≡ d.blocks (outgoing_lane net.site v link) → (k : ℕ) →
      with_block link number bytes (at d (outgoing_lane net.site v k)) ≡ at (block_taken (outgoing_lane net.site v link) d) (outgoing_lane net.site v k)
  each_port is k =
      elim (k == link) as (λ t. (k == link) ≡ t →
      with_block link number bytes (at d (outgoing_lane net.site v k)) ≡ at (block_taken (outgoing_lane net.site v link) d) (outgoing_lane net.site v k)) [
        | true ↦ λ e. subst (λ (x : ℕ). with_block link number bytes (at d (outgoing_lane net.site v x)) ≡
            at (block_taken (outgoing_lane net.site v link) d) (outgoing_lane net.site v x)) (sym (eq_from k link e))
            (this_port (outgoing_way net.site v link) number refl (sym is) ∙ sym (taken_port (outgoing_way net.site v link) number (sym is)))
        | false ↦ λ e. other_port (outgoing_way net.site v link) (outgoing_way net.site v k) k e
      ] refl

  all_ports : number ≡ d.blocks (outgoing_lane net.site v link) → (ks : List ℕ) →
      map (with_block link number bytes) (map (at d) (map (outgoing_lane net.site v) ks)) ≡
      map (at (block_taken (outgoing_lane net.site v link) d)) (map (outgoing_lane net.site v) ks)
  all_ports is [] = refl
  all_ports is (k ∷ ks) = let one = each_port is k in let rest = all_ports is ks in λ i. one i ∷ rest i

  outgoing_ports : number ≡ d.blocks (outgoing_lane net.site v link) →
      map (with_block link number bytes) (map (at d) (outgoing_lanes net.site v)) ≡ map (at (block_taken (outgoing_lane net.site v link) d)) (outgoing_lanes net.site v)
  unfolding outgoing_lanes
  outgoing_ports is = all_ports is (filter (is_incident net.site v) (count_up net.site.links))

  taken_with : (l : Lane) (a : View) → Follows a (seen net w v d) →
      map (with_block link number bytes) a.ports ≡ map (at (block_taken l d)) (outgoing_lanes net.site v) →
      Follows (view_record (Block link number bytes) a) (seen net w v (block_taken l d))
  unfolding view_record block_taken is_needed
  taken_with l a h ports = record { me = h.me; acked = h.acked; handed = h.handed; closed = h.closed; ports = ports; facts = h.facts }

  pub taken_follows : number ≡ d.blocks (outgoing_lane net.site v link) → (a : View) → Follows a (seen net w v d) →
      Follows (view_record (Block link number bytes) a) (seen net w v (apply_record net.site v (Block link number bytes) d))
  unfolding apply_record
  taken_follows is a h = taken_with (outgoing_lane net.site v link) a h (ap (map (with_block link number bytes)) h.ports ∙ outgoing_ports is)
