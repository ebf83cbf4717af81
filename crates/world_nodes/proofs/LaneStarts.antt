-- A lane at the beginning of a run, and after a new start of its sender.
use Rattle.std.proofs.Common.{◌≡◌, ℕ, ◌-◌, ◌≤◌, Bool, true, false, List, [], ◌∷◌, length, replicate, refl, sym, ◌∙◌, ap, subst, arith, Option, Some, None}
use Rattle.std.specs.Prelude.{◌==◌, count_by, is_some, IfSome}
use Rattle.qkd_base.specs.LaneBytes.{lane_octets, lane_len}
use Rattle.qkd_base.specs.declared.lane.Way.{Way}
use Rattle.qkd_base.specs.declared.lane.Way.TheVariants.{Up, Down}
use Rattle.qkd_base.specs.declared.lane.Lane.{Lane}
use Rattle.net_model.specs.Ledger.{is_burnt}
use Rattle.net_model.specs.Site.{sender}
use Rattle.net_model.specs.OctetSequence.{first_blocks}
use Rattle.net_model.specs.World.{Network, World, Burnt, first, received}
use Rattle.net_model.specs.Ownership.{HasRoom}
use Rattle.net_model.specs.Records.{replay}
use Rattle.net_model.specs.Start.{resolved, restarted, burnt_to, leaves}
use Rattle.net_model.specs.Events.{is_lane}
use Rattle.lane_sender.specs.Lane.{LaneForm, burnt_to as ledger_burnt_to}
use Rattle.law_base.proofs.Base.{and_both, eq_same, when_true}
use Rattle.law_base.proofs.Keeping.{replay_keeps}
use Rattle.law_base.proofs.LaneBlocks.{lane_length}
use Rattle.law_base.proofs.Lists.{burnt_length}
use Rattle.world_nodes.specs.LaneStands.{IsRunning, spelled_wire, LaneStands}
use Rattle.world_nodes.specs.Going.{IsReplayed, made, MayRestart}
use Rattle.world_nodes.proofs.Wires.{burnt-both, all_burnt}
use Rattle.source_devices.specs.declared.wire.Wire as Wire

-- the beginning

none_sent : (way : Way) → lane_octets way [] ≡ []
unfolding lane_octets
none_sent Up = refl
none_sent Down = refl

none_received : (way : Way) → lane_len way 0 ≡ 0
none_received Up = refl
none_received Down = refl

no_frames : (all : List (List ℕ)) → length all ≡ 0 → all ≡ []
no_frames [] h = refl
no_frames (x ∷ xs) h = absurd (omega arith)

told_none : (told : Option (List (List ℕ))) (n : ℕ) → IfSome told (λ all. length all ≡ n) → n ≡ 0 → IfSome told (λ all. all ≡ [])
told_none None n counted nothing = tt
told_none (Some all) n counted nothing = no_frames all (counted ∙ nothing)

pub begins : {X : Type 0} (wire_says : Wire.Ghosts X) (net : Network) (lane : Lane) (wire : X) → IfSome (wire_says.frames wire) (λ all. length all ≡ wire_says.counted wire) → wire_says.counted wire ≡ 0 → is_some (wire_says.frames wire) ≡ true →
    (side : LaneForm X) → side ≡ record { lane = lane; bytes = []; ledger = record { used = 0; end = 0; received = 0; burnt = 0 }; wire = wire } → LaneStands wire_says net first lane side
unfolding first first_blocks
begins wire_says net lane wire all none tells side is =
    subst (LaneStands wire_says net first lane) (sym is)
    (record {
      lane = refl;
      bytes = sym (none_sent lane.way);
      received = sym (none_received lane.way);
      used = refl;
      burnt = refl;
      end = omega arith;
      wire = record { count = none; tells = tells; told = told_none (wire_says.frames wire) (wire_says.counted wire) all none };
    })

-- before a start

pub resolved_made : (net : Network) (w : World) (v : ℕ) (committed : Bool) → IsRunning net w → IsReplayed net w (resolved net.site w v committed) v (made w v committed)
unfolding replay
resolved_made net w v true r = record { may = r.conserved.doubts v; durable = refl; frames = refl; wire = refl }
resolved_made net w v false r = record { may = tt; durable = refl; frames = refl; wire = refl }

room_as : (net : Network) (w : World) (v : ℕ) (committed : Bool) → IsRunning net w → (l : Lane) →
    HasRoom (resolved net.site w v committed).durable.facts ((resolved net.site w v committed).durable.own l) (w.unclaimed l) ((resolved net.site w v committed).durable.lease l) (received (resolved net.site w v committed).durable l)
room_as net w v true r l = (replay_keeps net.site w.durable w.frames w.unclaimed r.conserved.now v (w.in_doubt v).batch (r.conserved.doubts v)).room l
room_as net w v false r l = r.conserved.now.room l

module _ {X : Type 0} (wire_says : Wire.Ghosts X) (net : Network) (w : World) (committed : Bool) (side : LaneForm X) (lease : ℕ) (m : MayRestart wire_says net w committed side lease) where
  abbrev l : Lane
  l = side.lane

  abbrev v : ℕ
  v = sender net.site l

  abbrev here : World
  here = resolved net.site w v committed

  room : HasRoom here.durable.facts (here.durable.own l) (w.unclaimed l) (here.durable.lease l) (received here.durable l)
  room = room_as net w v committed m.running l

  pub may_raise : side.ledger.end ≤ lease
  may_raise = omega (arith, m.stands.end, m.leased)

  pub within : lease ≤ length side.bytes
  within = omega (arith, m.leased, room.leased, ap length m.stands.bytes, lane_length l.way (net.device l.link) (here.durable.blocks l))

  own : (restarted net here v).durable.own l ≡ burnt_to (here.durable.lease l) (here.durable.own l)
  unfolding restarted
  own = when_true (leaves net.site v l) _ _ (and_both (is_lane net.site l) (v == v) m.at (eq_same v))

  fits : length (here.durable.own l) ≤ here.durable.lease l
  fits = omega (arith, room.planned)

  same_octets : (l : Lane) → spelled_wire net (restarted net here v) l ≡ spelled_wire net here l
  unfolding restarted
  same_octets l = refl

  pub stands_again : (new : LaneForm X) → new ≡ record side { ledger = ledger_burnt_to lease side.ledger } → LaneStands wire_says net (restarted net here v) l new
  unfolding restarted
  stands_again new is =
      subst (LaneStands wire_says net (restarted net here v) l) (sym is)
      (record {
        lane = m.stands.lane;
        bytes = m.stands.bytes;
        received = m.stands.received;
        used = m.leased ∙ sym (burnt_length (here.durable.lease l) (here.durable.own l) fits) ∙ ap length (sym own);
        burnt = omega (arith, m.stands.burnt, m.stands.used, m.leased, burnt-both (here.durable.own l) (replicate (here.durable.lease l - length (here.durable.own l)) Burnt), all_burnt (here.durable.lease l - length (here.durable.own l)))
            ∙ ap (count_by is_burnt) (sym own);
        end = omega (arith, m.leased);
        wire = record { count = m.stands.wire.count; tells = m.stands.wire.tells; told = m.stands.wire.told };
      })
