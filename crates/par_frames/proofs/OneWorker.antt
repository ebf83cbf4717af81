-- A worker's calls of a lane for its frames, as deeds.
use Rattle.std.proofs.Common.{◌≡◌, ℕ, true, List, [], ◌∷◌, ◌++◌, length, map, refl, sym, ◌∙◌, ap, subst, Some, Result, Ok, Err}
use Rattle.std.specs.Prelude.{slice_get}
use Rattle.std.specs.List.{list_all, flat_map, AllByRecursion}
use Rattle.net_model.specs.Window.{room_octets}
use Rattle.net_model.specs.declared.order.Order.{Order}
use Rattle.net_model.specs.declared.repeat.Repeat.{Repeat}
use Rattle.net_model.specs.Tick.{Emission, Again, New}
use Rattle.net_model.specs.BlockOrder.{is_wire_answer}
use Rattle.source_devices.specs.declared.wire.WireFailed.{WireFailed}
use Rattle.source_devices.specs.declared.wire.WireFailed.TheVariants.{Fault, Memory}
use Rattle.lane_sender.specs.Lane.{LaneForm}
use Rattle.lane_sender.specs.Sending.{sent_frame, answer_of}
use Rattle.par_lanes.specs.declared.ask.LaneAsk.{LaneAsk}
use Rattle.par_lanes.specs.declared.ask.LaneAsk.TheVariants as asks
use Rattle.par_lanes.specs.declared.ask.LaneAnswer.{LaneAnswer}
use Rattle.par_lanes.specs.declared.ask.LaneAnswer.TheVariants as answers
use Rattle.law_base.proofs.Base.{and_both}
use Rattle.law_parallel.specs.Logs.{is_answered}
use Rattle.law_parallel.specs.Beside.{at_its_place}
use Rattle.law_parallel.specs.Calls.{deeds}
use Rattle.world_state.specs.Passed.{wire_answer}
use Rattle.par_lanes.specs.declared.emitted.Emitted.{Emitted}
use Rattle.par_lanes.specs.Calls.{RepeatsBy, SendsBy, CallAllBy}
use Rattle.par_frames.specs.LaneCalls.{LaneCall, ClaimsFor, PutsFor, RepeatsFor, frame_over, asked, deed_of, kept_of, IsSound}
use Rattle.par_frames.specs.Working.{IsOfItsLine, kept, DidFor}

-- any answer of a wire
pub wire_answers : (answer : Result ℕ WireFailed) → is_wire_answer (wire_answer answer) ≡ true
wire_answers (Ok n) = refl
wire_answers (Err Fault) = refl
wire_answers (Err Memory) = refl

-- The call is at its place in a log.
abbrev pub StandsIn : List LaneCall → ℕ × LaneCall → Type 0
StandsIn log c = slice_get log c.0 ≡ Some c.1

module _ {X : Type 0} (side : LaneForm X) where
  abbrev pub entry : LaneCall → LaneAsk × LaneAnswer
  entry c = asked side.lane side.bytes c

  -- The frames were sent by these calls.
  pub record IsWorkOf (outs : List (Emission × Emitted)) (mine : List (ℕ × LaneCall)) : Type 0 where
    pub did : DidFor outs (map (at_its_place deed_of) mine)
    pub keeps : flat_map (λ (c : ℕ × LaneCall). kept_of c.1) mine ≡ kept outs
    pub sound : (log : List LaneCall) → AllByRecursion (StandsIn log) mine → AllByRecursion (IsSound side.lane side.bytes log) mine

  pub record Worked (outs : List (Emission × Emitted)) (calls : List (ℕ × (LaneAsk × LaneAnswer))) : Type 0 where
    pub mine : List (ℕ × LaneCall)
    pub are : map (at_its_place entry) mine ≡ calls
    pub is : IsWorkOf outs mine

  repeats : (r : Repeat) (out : Emitted) (outs : List (Emission × Emitted)) (first rest : List (ℕ × (LaneAsk × LaneAnswer))) → RepeatsBy r out first → IsOfItsLine (Again r, out) →
      Worked outs rest → Worked ((Again r, out) ∷ outs) (first ++ rest)
  repeats r out outs first rest by of w =
      let c : ℕ × LaneCall = (out.at, RepeatsFor r out) in
      record {
        mine = c ∷ w.mine;
        are = ap (λ (cs : List (ℕ × (LaneAsk × LaneAnswer))). at_its_place entry c ∷ cs) w.are ∙ ap (λ (cs : List (ℕ × (LaneAsk × LaneAnswer))). cs ++ rest) (sym by.are);
        is = record {
          did = record {
            wants = ap (λ (xs : List (ℕ × Emission)). (out.line, Again r) ∷ xs) w.is.did.wants;
            puts = w.is.did.puts;
            answered = and_both (is_wire_answer (wire_answer (answer_of out.sent))) (list_all is_answered (deeds (map (at_its_place deed_of) w.mine))) (wire_answers (answer_of out.sent)) w.is.did.answered;
          };
          keeps = ap (λ (es : List Emitted). out ∷ es) w.is.keeps;
          sound = λ log h. (record { at = refl; of = of; says = by.says }, w.is.sound log h.1);
        };
      }

  sends : (o : Order) (out : Emitted) (outs : List (Emission × Emitted)) (first rest : List (ℕ × (LaneAsk × LaneAnswer))) → SendsBy side o out first → IsOfItsLine (New o, out) →
      Worked outs rest → Worked ((New o, out) ∷ outs) (first ++ rest)
  sends o out outs first rest by of w =
      let one : LaneCall = ClaimsFor out.line o by.grant by.claimed in
      let two : LaneCall = PutsFor by.claim_at o by.claimed out in
      let both : by.frame ≡ frame_over side.lane side.bytes o by.claimed = by.spelled in
      let first_are : first ≡ (by.claim_at, entry one) ∷ (out.at, entry two) ∷ [] =
      by.are ∙ λ i. (by.claim_at, entry one) ∷ (out.at, (asks.Put (room_octets (both i)) (length (both i)), answers.Placed (answer_of out.sent))) ∷ [] in
      record {
        mine = (by.claim_at, one) ∷ (out.at, two) ∷ w.mine;
        are = ap (λ (cs : List (ℕ × (LaneAsk × LaneAnswer))). (by.claim_at, entry one) ∷ (out.at, entry two) ∷ cs) w.are ∙ ap (λ (cs : List (ℕ × (LaneAsk × LaneAnswer))). cs ++ rest) (sym first_are);
        is = record {
          did = record {
            wants = ap (λ (xs : List (ℕ × Emission)). (out.line, New o) ∷ xs) w.is.did.wants;
            puts = ap (λ (ns : List ℕ). by.claim_at ∷ ns) w.is.did.puts;
            answered = and_both (is_wire_answer (wire_answer (answer_of out.sent))) (list_all is_answered (deeds (map (at_its_place deed_of) w.mine))) (wire_answers (answer_of out.sent)) w.is.did.answered;
          };
          keeps = ap (λ (es : List Emitted). out ∷ es) w.is.keeps;
          sound = λ log h. (
            tt,
            (
              record {
                at = refl;
                of = of;
                says = by.says ∙ ap (λ (f : List ℕ). sent_frame by.claimed.range.start f (answer_of out.sent)) both;
                grant = by.grant;
                claims = h.0;
              },
              w.is.sound log h.1.1,
            ),
          );
        };
      }

  pub worked : (outs : List (Emission × Emitted)) (calls : List (ℕ × (LaneAsk × LaneAnswer))) → CallAllBy side outs calls → AllByRecursion IsOfItsLine outs → Worked outs calls
  worked [] calls h of = record {
    mine = [];
    are = sym h;
    is = record { did = record { wants = refl; puts = refl; answered = refl }; keeps = refl; sound = λ log h. tt };
  }
  worked ((Again r, out) ∷ outs) calls h of =
      subst (λ (cs : List (ℕ × (LaneAsk × LaneAnswer))). Worked ((Again r, out) ∷ outs) cs) (sym h.2)
      (repeats r out outs h.0 h.1 h.3 of.0 (worked outs h.1 h.4 of.1))
  worked ((New o, out) ∷ outs) calls h of =
      subst (λ (cs : List (ℕ × (LaneAsk × LaneAnswer))). Worked ((New o, out) ∷ outs) cs) (sym h.2)
      (sends o out outs h.0 h.1 h.3 of.0 (worked outs h.1 h.4 of.1))
