-- Reading a lane's ledger and frames.
use Rattle.std.proofs.Common.{◌≡◌, ℕ, ◌-◌, ◌<◌, ◌≤◌, List, take, drop, sym, ◌∙◌, ap, subst, arith, Option, Some, None}
use Rattle.std.specs.Prelude.{slice_get, count_by, IfSome, MatchOption}
use Rattle.std.proofs.lemmas.Option.{slice_get_past}
use Rattle.net_model.specs.Ledger.{is_spent, ledger}
use Rattle.net_model.specs.World.{Network, World}
use Rattle.qkd_base.specs.declared.lane.Lane.{Lane}
use Rattle.qkd_base.specs.declared.frame_octets.FrameOctets.{FrameOctets}
use Rattle.source_devices.specs.Frames.{IsFrame}
use Rattle.lane_sender.specs.Lane.{LaneForm, counts_of}
use Rattle.world_nodes.specs.LaneStands.{spelled_wire, LaneStands}
use Rattle.world_nodes.specs.Seeing.{IsTold, IsSeen}
use Rattle.world_nodes.proofs.Wires.{get-map, spent_or_burnt, octets_at}
use Rattle.world_nodes.proofs.LaneGoing.{get_within}
use Rattle.source_devices.specs.declared.wire.Wire as Wire

module _ {X : Type 0} (wire_says : Wire.Ghosts X) (net : Network) (w : World) (l : Lane) (side : LaneForm X) (s : LaneStands wire_says net w l side) where
  spent : side.ledger.used - side.ledger.burnt ≡ count_by is_spent (w.durable.own l)
  spent = omega (arith, s.used, s.burnt, spent_or_burnt (w.durable.own l))

  pub counts_are : counts_of side.ledger ≡ ledger w l
  unfolding ledger
  counts_are = λ i. record { received = s.received i; unused = s.received i - s.used i; spent = spent i; burnt = s.burnt i }

  told_as : (told : Option (List (List ℕ))) (number n frame : ℕ) (octets : List ℕ) → IfSome told (λ all. all ≡ spelled_wire net w l) → slice_get (w.wire l) number ≡ Some frame →
      IsFrame told number n octets → IsTold told (take n octets) (octets_at net w l frame)
  told_as None number n frame octets told at is = tt
  told_as (Some all) number n frame octets told at is =
      let both : ◌≡◌ {A = Option (List ℕ)} (Some (take n octets)) (Some (octets_at net w l frame)) =
      sym is ∙ ap (λ (xs : List (List ℕ)). slice_get xs number) told ∙ get-map (octets_at net w l) (w.wire l) number frame at in
      cc

  pub none_there : (number : ℕ) → wire_says.counted side.wire ≤ number → slice_get (w.wire l) number ≡ None
  none_there number past = slice_get_past (w.wire l) number (omega (arith, past, s.wire.count))

  pub is_seen : (number n : ℕ) (octets : List ℕ) → number < wire_says.counted side.wire → IsFrame (wire_says.frames side.wire) number n octets → IsSeen (wire_says.frames side.wire) net w l number n octets
  is_seen number n octets below is =
      let r = get_within (w.wire l) number (omega (arith, below, s.wire.count)) in
      record { frame = r.0; stands = r.1; told = told_as (wire_says.frames side.wire) number n r.0 octets s.wire.told r.1 is }

  abbrev Given : X → ℕ → FrameOctets → FrameOctets → Option ℕ → Type 0
  Given wire number before after r =
      MatchOption r ((wire_says.counted wire ≤ number) × (after ≡ before))
      (λ n. (number < wire_says.counted wire) × (n ≤ 600) × IsFrame (wire_says.frames wire) number n after.octets × (drop n after.octets ≡ drop n before.octets))

  abbrev Seen : ℕ → FrameOctets → FrameOctets → Option ℕ → Type 0
  Seen number before after r =
      MatchOption r ((slice_get (w.wire l) number ≡ None) × (after ≡ before))
      (λ n. (n ≤ 600) × IsSeen (wire_says.frames side.wire) net w l number n after.octets × (drop n after.octets ≡ drop n before.octets))

  seen_as : (number : ℕ) (before after : FrameOctets) (r : Option ℕ) → Given side.wire number before after r → Seen number before after r
  seen_as number before after None h = (none_there number h.0, h.1)
  seen_as number before after (Some n) h = (h.1, is_seen number n after.octets h.0 h.2, h.3)

  pub seen_by : (wire : X) → wire ≡ side.wire → (number : ℕ) (before after : FrameOctets) (r : Option ℕ) → Given wire number before after r → Seen number before after r
  seen_by wire is number before after r h = seen_as number before after r (subst (λ (x : X). Given x number before after r) is h)
