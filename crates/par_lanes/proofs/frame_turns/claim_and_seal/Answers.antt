use Rattle.std.proofs.Common.{arith, ◌≡◌, ℕ, ◌+◌, ◌-◌, ◌<◌, take, drop, List, [], ◌∷◌, slice_get, Some, ap, sym, subst, ◌∙◌, refl}
use Rattle.frame_codec.specs.Payload.{payload_octets}
use Rattle.hop_frames.specs.Frame.{spell}
use Rattle.shared_objects.specs.declared.either.Either.TheVariants.{Right}
use Rattle.lane_shares.specs.declared.shares.Shares.{Shares}
use Rattle.lane_shares.specs.declared.view.View.{View as Part}
use Rattle.lane_shares.specs.Names.{knows as has, Fits as IsOne}
use Rattle.lane_shares.specs.Views.{with_amount}
use Rattle.lane_sender.specs.Lane.{frame_need}
use Rattle.lane_sender.specs.Sending.{sent, answer_of}
use Rattle.lane_sender.proofs.Rooms.{size, is_room, is_sent}
use Rattle.lane_sender.proofs.Sents.{same_answer}
use Rattle.par_lanes.specs.declared.ask.LaneAsk.TheVariants.{Claim, Put}
use Rattle.par_lanes.specs.declared.ask.LaneAnswer.TheVariants as answers
use Rattle.par_lanes.specs.Saying.{turn_said}
use Rattle.par_lanes.proofs.Saying.{left_over}
use Rattle.par_lanes.proofs.frame_turns.claim_and_seal.Goals as goal

pub claim-claimed-requires-clause-desk : goal.claim-claimed-requires-clause-desk
claim-claimed-requires-clause-desk g c = (
  c.requires.desk.0,
  c.requires.desk.1,
  record {
    fits = subst (λ (s : Shares). IsOne s c.split-grant.result) (sym c.requires.desk.2) c.split-grant.ensures.fits.1;
    plain = ap (λ (p : Part). p.issues) c.split-grant.ensures.new;
    has = ap (λ (p : Part). p.amount) c.split-grant.ensures.new;
  },
)

pub put-at-requires-clause-desk : goal.put-at-requires-clause-desk
put-at-requires-clause-desk g c =
    let same = (g.met.C.Calls.spends c.args.caller.now c.claim-claimed.new.caller _ c.claim-claimed.ensures.went).0 in
    (c.requires.desk.0, subst (λ (ms : List _). slice_get ms c.args.machine ≡ Some (Right c.requires.desk.0)) (sym same) c.requires.desk.1)

pub put-at-requires-clause-budget : goal.put-at-requires-clause-budget
put-at-requires-clause-budget g c =
    left_over c.args.machine _ (g.C.Calls.budget c.args.caller.now c.args.machine) (g.C.Calls.budget c.claim-claimed.new.caller c.args.machine)
    ((g.met.C.Calls.spends c.args.caller.now c.claim-claimed.new.caller _ c.claim-claimed.ensures.went).1 c.args.machine) c.requires.budget

pub put-at-requires-clause-frame : goal.put-at-requires-clause-frame
put-at-requires-clause-frame g c = let range = c.seal-length.ensures.range in omega (arith, range)

pub returns-clause-granted : goal.returns-clause-granted
returns-clause-granted g c =
    let octets = c.from-need.ensures in
    let spelled = c.spelled_len-size.ensures.length in
    let many : c.from-need.result + 8 ≡ frame_need c.args.order.now.payload = omega (arith, octets, spelled) in
    c.split-grant.ensures.old ∙ ap (λ (n : ℕ). with_amount (has c.args.granted.now) ((has c.args.granted.now).amount - n)) many

pub returns-clause-goes : goal.returns-clause-goes
returns-clause-goes g c =
    let order = c.args.order.now in
    let desk = c.requires.desk.0 in
    let there = c.requires.desk.1 in
    let side = g.D.Desk.side desk in
    let machine = c.args.machine in
    let claim_at = c.claim-claimed.result.0 in
    let claimed = c.claim-claimed.result.1 in
    let need = c.from-need.result + 8 in
    let frame = spell side.lane claimed.range.start side.bytes (payload_octets order.payload) in
    let octets = c.from-need.ensures in
    let spelled = c.spelled_len-size.ensures.length in
    let many : need ≡ frame_need order.payload = omega (arith, octets, spelled) in
    let given = c.claim-claimed.ensures.given desk there in
    let pads = subst (λ (n : ℕ). take n claimed.pads.octets ≡ take n (drop claimed.range.start side.bytes)) (sym c.claim-claimed.ensures.length) given.1 in
    let front = c.seal-length.ensures.frame side.bytes given.0 pads ∙ ap (λ l. spell l claimed.range.start side.bytes (payload_octets order.payload)) (sym c.requires.desk.3) in
    let rest = c.seal-length.ensures.rest ∙ ap (λ (octets : List ℕ). drop c.seal-length.result octets) c.new-frame.ensures in
    let range = c.seal-length.ensures.range in
    let short : c.seal-length.result < 600 = omega (arith, range) in
    let room = c.seal-length.new.into in
    let long = c.seal-length.result in
    let at = c.put-at.result.0 in
    let answer = c.put-at.result.1 in
    let says = c.answered.ensures ∙ ap (λ (o : ℕ). sent o long room answer) c.start-offset.ensures.start in
    let same : answer_of c.answered.result ≡ answer = ap answer_of says ∙ same_answer claimed.range.start long room answer in
    let its_room = is_room room frame long front rest short in
    let its_size = size room frame long front rest short in
    record {
      said = turn_said machine claim_at (Claim need c.split-grant.result) (answers.Claimed claimed) ∷ turn_said machine at (Put room long) (answers.Placed answer) ∷ [];
      went = g.met.C.Calls.onward c.args.caller.now c.claim-claimed.new.caller c.put-at.new.caller _ _ c.claim-claimed.ensures.went c.put-at.ensures.went;
      by = record {
        desk = desk;
        there = there;
        calls = (claim_at, (Claim need c.split-grant.result, answers.Claimed claimed)) ∷ (at, (Put room long, answers.Placed answer)) ∷ [];
        are = refl;
        by = record {
          claim_at = claim_at;
          grant = c.split-grant.result;
          claimed = claimed;
          frame = frame;
          are = λ i. (claim_at, (Claim (many i) c.split-grant.result, answers.Claimed claimed)) ∷ (at, (Put (its_room i) (sym its_size i), answers.Placed (sym same i))) ∷ [];
          need = c.claim-claimed.ensures.length ∙ many;
          spelled = refl;
          says = is_sent room frame long front rest short c.answered.result claimed.range.start answer says;
        };
      };
    }

pub returns-clause-told : goal.returns-clause-told
returns-clause-told g c = record { line = refl; lane = refl; name = c.payload_name.ensures; ack_of = refl; fresh = refl; size = c.spelled_len-size.ensures.length }
