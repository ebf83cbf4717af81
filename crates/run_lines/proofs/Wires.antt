-- Bringing frames to a receiver changes no wire.
use Rattle.std.proofs.Common.{◌≡◌, ℕ, zero, suc, ◌+◌, ◌-◌, Bool, true, false, List, [], ◌∷◌, length, refl, ◌∙◌, Option, Some, None}
use Rattle.std.specs.Prelude.{if◌then◌else◌, slice_get, nat_lt, not, ◌&&◌, ◌||◌}
use Rattle.std.specs.List.{list_all}
use Rattle.qkd_base.specs.declared.lane.Lane.{Lane}
use Rattle.net_model.specs.declared.payload.Payload.{Payload}
use Rattle.net_model.specs.declared.reply.Reply.TheVariants.{Down, Memory, JournalFull, NoRandom, NoBits, Stopped}
use Rattle.net_model.specs.Item.{need, payload}
use Rattle.net_model.specs.Site.{receiver}
use Rattle.net_model.specs.OctetSequence.{has_octets}
use Rattle.net_model.specs.Journal.{added_len, is_nil, journal_limit}
use Rattle.net_model.specs.Needed.{view_of}
use Rattle.net_model.specs.Relay.{receive}
use Rattle.net_model.specs.World.{Network, World, Allocation, received_there}
use Rattle.net_model.specs.Decision.{Effect}
use Rattle.net_model.specs.Handle.{perform, commit, stopped, is_numbered}
use Rattle.net_model.specs.Frames.{deliver, deliver_frame, deliver_number, receive_item}
use Rattle.net_model.specs.Action.{Action, Replies, is_no_memory, is_entropy_fault, is_io_fault, Outcome, Environment, Ok, Start, Crash, Arm, SetLink, TakeBlock, Ask, Allocate, Transmit, Complete, Deliver, Flip, Forge}
use Rattle.net_model.specs.Step.{step}
use Rattle.run_model.specs.Script.{Script, Ends, Reports, Looks, Asks, GivesUp, then_comes}
use Rattle.run_model.specs.Play.{ForgedAt, Played, plain, is_forged, stopped_at, play, OneOf, IsPlay}
use Rattle.run_model.specs.Lines.{passes, all_passes}

abbrev Wire : Type 0
Wire = Lane → List ℕ

choice_keeps : (kept : Wire) (b : Bool) (x y : World × Outcome) → x.0.wire ≡ kept → y.0.wire ≡ kept → (if b then x else y).0.wire ≡ kept
choice_keeps kept true x y p q = p
choice_keeps kept false x y p q = q

module _ (net : Network) (w : World) where
  abbrev either_way : Bool → World × Outcome → World × Outcome → World × Outcome
  either_way b x y = if b then x else y

  -- whichever choice is made, the wires stay the same
  choices_keep : (b c d e : Bool) (o p q r s : Outcome) (x y : World) → x.wire ≡ w.wire → y.wire ≡ w.wire →
      (either_way b (w, o) (either_way c (w, p) (either_way d (w, q) (either_way e (x, r) (y, s))))).0.wire ≡ w.wire
  choices_keep true c d e o p q r s x y h k = refl
  choices_keep false true d e o p q r s x y h k = refl
  choices_keep false false true e o p q r s x y h k = refl
  choices_keep false false false true o p q r s x y h k = h
  choices_keep false false false false o p q r s x y h k = k

  perform_keeps : (v octets : ℕ) (environment : Environment) (effect : Effect) → (perform net w v octets environment effect).0.wire ≡ w.wire
  unfolding perform commit stopped
  perform_keeps v octets environment effect =
      let added = added_len (w.journal v).version effect.batch in
      choices_keep (is_no_memory environment || not (list_all is_numbered effect.batch)) (nat_lt journal_limit ((w.journal v).length' + added))
      (nat_lt 0 octets && (not (has_octets (net.entropy v) (w.drawn v + octets)) || is_entropy_fault environment)) (is_io_fault environment && not (is_nil effect.batch))
      (Replies Memory) (Replies (JournalFull (w.journal v).length' added)) (Replies NoRandom) (Replies Stopped) (Replies effect.reply)
      (stopped w v octets effect) (commit net.site w v octets effect) refl refl

  received_keeps : (l : Lane) (offset : ℕ) (environment : Environment) (p : Option Payload) → (receive_item net w l offset environment p).0.wire ≡ w.wire
  received_keeps l offset environment None = refl
  received_keeps l offset environment (Some p) = perform_keeps (receiver net.site l) 0 environment (receive net.site (view_of net w (receiver net.site l)) l offset p)

  frame_keeps : (l : Lane) (environment : Environment) (a : Option Allocation) → (deliver_frame net w l environment a).0.wire ≡ w.wire
  unfolding deliver_frame
  frame_keeps l environment None = refl
  frame_keeps l environment (Some a) =
      let rest = receive_item net w l a.offset environment (payload w.durable.facts a.item) in
      let bits : World × Outcome = (w, Replies (NoBits (received_there w.durable l))) in
      let few = nat_lt (received_there w.durable l) (a.offset + need w.durable.facts a.item) in
      choice_keeps w.wire (not (w.up (receiver net.site l))) (w, Replies Down) (if few then bits else rest) refl
      (choice_keeps w.wire few bits rest refl (received_keeps l a.offset environment (payload w.durable.facts a.item)))

  number_keeps : (l : Lane) (environment : Environment) (j : Option ℕ) → (deliver_number net w l environment j).0.wire ≡ w.wire
  number_keeps l environment None = refl
  number_keeps l environment (Some j) = frame_keeps l environment (slice_get (w.frames l) j)

  pub delivery_keeps : (l : Lane) (number : ℕ) (a : Action) → plain a ≡ Deliver l number Ok → (step net w a).0.wire ≡ w.wire
  unfolding step deliver
  delivery_keeps l number (Start v recovery) is = cc
  delivery_keeps l number (Crash v) is = cc
  delivery_keeps l number (Arm v fault) is = cc
  delivery_keeps l number (SetLink link up) is = cc
  delivery_keeps l number (TakeBlock v link environment) is = cc
  delivery_keeps l number (Ask v event environment) is = cc
  delivery_keeps l number (Allocate t) is = cc
  delivery_keeps l number (Transmit k j environment) is = cc
  delivery_keeps l number (Complete v) is = cc
  delivery_keeps l number (Deliver k n environment) is = number_keeps k environment (slice_get (w.wire k) n)
  delivery_keeps l number (Flip k n bit environment) is = cc
  delivery_keeps l number (Forge k octets environment) is = cc

-- ---- scripts whose only actions bring frames

pub record IsDelivery (action : Action) : Type 0 where
  pub lane : Lane
  pub number : ℕ
  pub is : action ≡ Deliver lane number Ok

pub Delivers : Script → Type 0
Delivers Ends = Unit {0}
Delivers (Reports items next) = Delivers next
Delivers (Looks next) = (w : World) → Delivers (next w)
Delivers (Asks action next) = IsDelivery action × ((outcome : Outcome) → Delivers (next outcome))
Delivers GivesUp = Unit {0}

pub delivers_after : (s last : Script) → Delivers s → Delivers last → Delivers (then_comes s last)
unfolding then_comes Delivers
delivers_after Ends last p q = q
delivers_after (Reports items next) last p q = delivers_after next last p q
delivers_after (Looks next) last p q = λ w. delivers_after (next w) last (p w) q
delivers_after (Asks action next) last p q = (p.0, λ outcome. delivers_after (next outcome) last (p.1 outcome) q)
delivers_after GivesUp last p q = tt

pub passes_deliver : (l : Lane) (number count : ℕ) → Delivers (passes l number count)
unfolding Delivers
passes_deliver l number zero = tt
passes_deliver l number (suc more) = (record { lane = l; number = number; is = refl }, λ outcome. passes_deliver l (number + 1) more)

pub all_passes_deliver : (before now : World) (ls : List Lane) → Delivers (all_passes before now ls)
unfolding Delivers
all_passes_deliver before now [] = tt
all_passes_deliver before now (l ∷ ls) =
    delivers_after (passes l (length (before.wire l)) (length (now.wire l) - length (before.wire l))) (all_passes before now ls)
    (passes_deliver l (length (before.wire l)) (length (now.wire l) - length (before.wire l))) (all_passes_deliver before now ls)

choice_stays : (kept : Wire) (w : World) (number : ℕ) (forged : Bool) (p : Played) (A B : Type 0) → w.wire ≡ kept → OneOf forged A B → (B → p.world.wire ≡ kept) →
    (if forged then stopped_at w (ForgedAt number) else p).world.wire ≡ kept
choice_stays kept w number true p A B here one there = here
choice_stays kept w number false p A B here one there = there one

pub wires_stay : (net : Network) (number : ℕ) (w : World) (s : Script) (actions : List Action) → Delivers s → IsPlay net w s actions → (play net number w s actions).world.wire ≡ w.wire
unfolding play Delivers
wires_stay net number w Ends actions d is = refl
wires_stay net number w (Reports items next) actions d is = wires_stay net number w next actions d is
wires_stay net number w (Looks next) actions d is = wires_stay net number w (next w) actions (d w) is
wires_stay net number w (Asks action next) [] d is = refl
wires_stay net number w (Asks action next) (a ∷ rest) d is =
    let out = step net w a in
    let kept : out.0.wire ≡ w.wire = delivery_keeps net w d.0.lane d.0.number a (is.0 ∙ d.0.is) in
    choice_stays w.wire out.0 number (is_forged out.1) (play net number out.0 (next out.1) rest) (rest ≡ []) (IsPlay net out.0 (next out.1) rest) kept is.2
    (λ more. wires_stay net number out.0 (next out.1) rest (d.1 out.1) more ∙ kept)
wires_stay net number w GivesUp actions d is = refl
