-- A frame that is put has the size of a frame.
use Rattle.std.proofs.Common.{◌≡◌, ℕ, ◌-◌, ◌≤◌, true, ◌||◌, List, [], ◌∷◌, ◌++◌, length, take, replicate, refl, sym, ap, subst, ◌∙◌, arith, Option, Some, None}
use Rattle.std.specs.Prelude.{slice_get, nat_le, is_some}
use Rattle.std.proofs.lemmas.Bool.Decides.{nat_tests}
use Rattle.qkd_base.specs.Family.{number_set}
use Rattle.qkd_base.specs.declared.lane.Lane.{Lane}
use Rattle.qkd_base.specs.Name.{IsName}
use Rattle.net_model.specs.declared.payload.Payload.{Payload}
use Rattle.net_model.specs.declared.payload.Payload.TheVariants.{Data, Ack}
use Rattle.net_model.specs.declared.placing.Placing.{Placing}
use Rattle.net_model.specs.Facts.{IsWellFormed}
use Rattle.net_model.specs.Ranges.{IsRanged}
use Rattle.net_model.specs.Site.{sender, receiver}
use Rattle.net_model.specs.Item.{Item, DataItem, AckItem, payload}
use Rattle.net_model.specs.World.{Network, World, Allocation, Outgoing}
use Rattle.net_model.specs.Knowledge.{IsFactOf, MayCarry}
use Rattle.net_model.specs.Action.{Environment, Transmit, Outcome, is_no_memory, is_io_fault}
use Rattle.net_model.specs.Frames.{frame_octets, sealed, octets_sent, outgoing_of, placing_of, transmit_one, transmit}
use Rattle.net_model.specs.Events.{is_lane, is_frame_size}
use Rattle.net_model.specs.Step.{step, is_enabled}
use Rattle.frame_codec.proofs.Writes.{payload_range}
use Rattle.hop_frames.proofs.Octets.{payload_is}
use Rattle.law_base.proofs.Base.{and_both, and_left, and_right, by_test, number_set_same}
use Rattle.law_base.proofs.Tables.{found_name, ranged_name}
use Rattle.law_base.proofs.Growth.{sealable}
use Rattle.law_base.proofs.Lists.{get_last}
use Rattle.world_nodes.specs.LaneStands.{IsRunning}
use Rattle.world_state.specs.Sending.{are_sized}
use Rattle.world_state.proofs.OneSide.{some_same}

size_between : (n : ℕ) → 25 ≤ n → n ≤ 585 → is_frame_size n ≡ true
size_between n low high = and_both (nat_le 25 n) (nat_le n 585) (grind (arith, nat_tests)) (grind (arith, nat_tests))

module _ (net : Network) (w : World) (r : IsRunning net w) (l : Lane) (at : is_lane net.site l ≡ true) (j : ℕ) (a : Allocation) (there : slice_get (w.frames l) j ≡ Some a) where
  sized_as : (p : Payload) → payload w.durable.facts a.item ≡ Some p → IsWellFormed p → IsRanged p → is_frame_size (length (frame_octets net w l (Some a))) ≡ true
  sized_as p is formed ranged =
      let size = r.network.sealing.size l (octets_sent net w l) a.offset p (sealable net w r.network r.conserved l j a p at there is formed ranged) in
      let range = payload_range p (payload_is p formed ranged) in
      let whole = ap (λ (q : _). length (sealed net w l a.offset q)) is in
      size_between (length (frame_octets net w l (Some a))) (omega (arith, size, range.0, whole)) (omega (arith, size, range.1, whole))

  sized_item : (i : Item) → a.item ≡ i → MayCarry w.durable.facts w.durable.known (sender net.site l) (receiver net.site l) i → is_frame_size (length (frame_octets net w l (Some a))) ≡ true
  sized_item (DataItem n) is m =
      let t : IsFactOf net.site w.durable.facts w.durable.known n m.fact = r.conserved.now.table n m.fact m.there in
      sized_as (Data m.fact) (ap (payload w.durable.facts) is ∙ rw (m.there) refl) t.formed t.ranged
  sized_item (AckItem n) is m =
      let t : IsFactOf net.site w.durable.facts w.durable.known n m.fact = r.conserved.now.table n m.fact m.there in
      sized_as (Ack n) (ap (payload w.durable.facts) is) tt (subst IsName (found_name w.durable.facts n m.fact m.there) (ranged_name m.fact t.ranged))

  pub sized_frame : is_frame_size (length (frame_octets net w l (Some a))) ≡ true
  sized_frame = sized_item a.item refl ((r.conserved.now.carried l).framed j a there)

-- The note on a frame has the frame's octets.

taken_whole : (xs ys : List ℕ) → take (length xs) (xs ++ ys) ≡ xs
taken_whole [] ys = refl
taken_whole (x ∷ xs) ys = ap (λ (zs : List ℕ). x ∷ zs) (taken_whole xs ys)

module _ (net : Network) (w w' : World) (r : IsRunning net w') (l : Lane) (o : Outgoing) (number : Option ℕ) (v n : ℕ) where
  abbrev noted : Placing
  noted = placing_of net w l o number

  noted_sized : slice_get (w'.placings v) n ≡ Some noted → is_frame_size noted.length ≡ true
  noted_sized at =
      let placed = r.conserved.placed v n noted at in
      let frame = frame_octets net w l (slice_get (w.frames l) o.frame) in
      let same = sym (taken_whole frame (replicate (600 - length frame) 0)) ∙ placed.octets in
      subst (λ (xs : List ℕ). is_frame_size (length xs) ≡ true) (sym same) (sized_frame net w' r l placed.site placed.number _ placed.frame)

  pub sized_like : (p : Placing) → p ≡ noted → slice_get (w'.placings v) n ≡ Some p → is_frame_size p.length ≡ true
  sized_like p is at = subst (λ (x : Placing). is_frame_size x.length ≡ true) (sym is) (noted_sized (at ∙ ap Some is))

-- the note on a frame that is put

module _ (net : Network) (w : World) (l : Lane) (j : ℕ) (environment : Environment) where
  record HasNoted (x : World) : Type 0 where
    outgoing : Outgoing
    number : Option ℕ
    is : x.placings ≡ number_set w.placings (sender net.site l) (w.placings (sender net.site l) ++ placing_of net w l outgoing number ∷ [])

  one_noted : (o : Option Outgoing) → is_some o ≡ true → HasNoted (transmit_one net w l environment o).0
  one_noted None is = cc
  one_noted (Some o) is =
      by_test (λ (x : World × Outcome). HasNoted x.0) (is_no_memory environment || is_io_fault environment) _ _ (λ e. record { outgoing = o; number = _; is = refl }) (λ e. record { outgoing = o; number = _; is = refl })

  has_noted : is_enabled net w (Transmit l j environment) ≡ true → HasNoted (step net w (Transmit l j environment)).0
  unfolding step transmit is_enabled
  has_noted may = one_noted (outgoing_of j (w.outgoing l)) (and_right (is_lane net.site l) (is_some (outgoing_of j (w.outgoing l))) may)

  -- If the put adds a placing to the notes, this placing has the size of a frame.
  pub put_sized : (w' : World) → w' ≡ (step net w (Transmit l j environment)).0 → IsRunning net w' → is_enabled net w (Transmit l j environment) ≡ true → (p : Placing) (ps : List Placing) →
      ps ≡ w.placings (sender net.site l) → w'.placings (sender net.site l) ≡ ps ++ p ∷ [] → is_frame_size p.length ≡ true
  put_sized w' is running may p ps older newer =
      let noted = has_noted may in
      let v = sender net.site l in
      let made : w'.placings v ≡ ps ++ placing_of net w l noted.outgoing noted.number ∷ [] =
      ap (λ (x : World). x.placings v) is ∙ ap (λ (f : ℕ → List Placing). f v) noted.is ∙ number_set_same w.placings v _ ∙ ap (λ (qs : List Placing). qs ++ placing_of net w l noted.outgoing noted.number ∷ []) (sym older) in
      let last : slice_get (w'.placings v) (length ps) ≡ Some p = ap (λ (qs : List Placing). slice_get qs (length ps)) newer ∙ get_last ps p in
      let same : p ≡ placing_of net w l noted.outgoing noted.number =
      some_same (sym (get_last ps p) ∙ ap (λ (qs : List Placing). slice_get qs (length ps)) (sym newer ∙ made) ∙ get_last ps (placing_of net w l noted.outgoing noted.number)) in
      sized_like net w w' running l noted.outgoing noted.number v (length ps) p same last

pub all_sized : (ps : List Placing) (p : Placing) → are_sized ps ≡ true → is_frame_size p.length ≡ true → are_sized (ps ++ p ∷ []) ≡ true
all_sized [] p all one = and_both (is_frame_size p.length) true one refl
all_sized (q ∷ ps) p all one =
    and_both (is_frame_size q.length) (are_sized (ps ++ p ∷ [])) (and_left (is_frame_size q.length) (are_sized ps) all) (all_sized ps p (and_right (is_frame_size q.length) (are_sized ps) all) one)
