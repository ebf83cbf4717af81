-- Octets that anybody may have made or changed come to a lane's receiver.
use Rattle.std.proofs.Common.{◌≡◌, ℕ, zero, suc, Bool, true, false, not, List, [], ◌∷◌, refl, sym, ap, ◌∙◌}
use Rattle.std.specs.Prelude.{◌==◌, find, slice_get, is_some, Option, Some, None, Result, Ok, Err, if◌then◌else◌}
use Rattle.qkd_base.specs.declared.lane.Lane.{Lane}
use Rattle.net_model.specs.declared.event.Event.TheVariants.{Heard}
use Rattle.net_model.specs.declared.reply.Reply.{Reply}
use Rattle.net_model.specs.declared.reply.Reply.TheVariants as replies
use Rattle.net_model.specs.Sealing.{Sealing, Opened, Rejected}
use Rattle.net_model.specs.Site.{receiver}
use Rattle.net_model.specs.World.{Network, World, Allocation}
use Rattle.net_model.specs.View.{port_of, incoming_octets}
use Rattle.net_model.specs.Needed.{view_of}
use Rattle.net_model.specs.Decision.{Refuses, Does}
use Rattle.net_model.specs.Decide.{decide, random_need, received_frame}
use Rattle.net_model.specs.Events.{is_lane}
use Rattle.net_model.specs.Frames.{frame_octets, octets_eq, octets_received, deliver_frame, unmatched, tampered_or_put, tampered}
use Rattle.net_model.specs.Handle.{resolve, handle}
use Rattle.net_model.specs.Action.{Environment, Replies, ForgedMatch}
use Rattle.hop_frames.specs.Opening.{open_of}
use Rattle.hop_frames.specs.Sealing.{answer_of}
use Rattle.hop_frames.specs.declared.opened.Opened.{Opened as OpenedFrame}
use Rattle.hop_frames.specs.declared.open_refusal.OpenRefusal.{OpenRefusal}
use Rattle.hop_frames.specs.declared.open_refusal.OpenRefusal.TheVariants.{NotAFrame, WrongLane, NoBits, BadTag, NotAPayload, Memory}
use Rattle.law_base.proofs.Base.{and_left, and_right, eq_from}
use Rattle.kme_store.specs.Passed.{is_match}
use Rattle.world_nodes.specs.LaneStands.{IsRunning}
use Rattle.world_nodes.specs.Handled.{BatchFits, ViewGoesOn}
use Rattle.world_nodes.specs.Tampering.{put_as}
use Rattle.world_nodes.proofs.Events.{down_says}
use Rattle.world_nodes.proofs.Hears.{hearing_fits, received, frame_there, payload_there, delivered_heard, hearing_goes}

-- What a search finds is in the list and passes the test.
found : {A : Type 0} (p : A → Bool) (xs : List A) (a : A) → find p xs ≡ Some a → (k : ℕ) × (slice_get xs k ≡ Some a) × (p a ≡ true)
found p [] a h = absurd (cc h)
found {A} p (x ∷ xs) a h =
    elim (p x) as (λ t. p x ≡ t → (if t then Some x else find p xs) ≡ Some a → (k : ℕ) × (slice_get (x ∷ xs) k ≡ Some a) × (p a ≡ true)) [
      | true ↦ λ is e. let same : x ≡ a = cc in (zero, e, ap p (sym same) ∙ is)
      | false ↦ λ is e. let r = found p xs a e in (suc r.0, r.1, r.2)
    ] refl h

same_octets : (xs ys : List ℕ) → octets_eq xs ys ≡ true → xs ≡ ys
same_octets [] [] h = refl
same_octets [] (y ∷ ys) h = absurd (cc h)
same_octets (x ∷ xs) [] h = absurd (cc h)
same_octets (x ∷ xs) (y ∷ ys) h =
    let head = eq_from x y (and_left (x == y) (octets_eq xs ys) h) in
    let tail = same_octets xs ys (and_right (x == y) (octets_eq xs ys) h) in
    λ i. head i ∷ tail i

some_there : (o : Option ℕ) → is_some o ≡ true → (j : ℕ) × (o ≡ Some j)
some_there None h = absurd (cc h)
some_there (Some j) h = (j, refl)

none_there : (o : Option ℕ) → is_some o ≡ false → o ≡ None
none_there None h = refl
none_there (Some j) h = absurd (cc h)

-- the result of an opening, by whether the tag is right
rejected : (r : Result OpenedFrame OpenRefusal) → is_match r ≡ false → (reply : Reply) × (answer_of r ≡ Rejected reply)
rejected (Ok opened) h = absurd (cc h)
rejected (Err (NotAFrame place)) h = (replies.BadFrame place, refl)
rejected (Err (WrongLane link way)) h = (replies.WrongLane link way, refl)
rejected (Err (NoBits have)) h = (replies.NoBits have, refl)
rejected (Err (BadTag given computed)) h = (replies.BadTag given computed, refl)
rejected (Err (NotAPayload place)) h = absurd (cc h)
rejected (Err Memory) h = (replies.Memory, refl)

matched : (w : World) (r : Result OpenedFrame OpenRefusal) → is_match r ≡ true → unmatched w (answer_of r) ≡ (w, ForgedMatch)
matched w (Ok opened) h = refl
matched w (Err (NotAFrame place)) h = absurd (cc h)
matched w (Err (WrongLane link way)) h = absurd (cc h)
matched w (Err (NoBits have)) h = absurd (cc h)
matched w (Err (BadTag given computed)) h = absurd (cc h)
matched w (Err (NotAPayload place)) h = refl
matched w (Err Memory) h = absurd (cc h)

module _ (net : Network) (w : World) (r : IsRunning net w) (l : Lane) (at : is_lane net.site l ≡ true) (octets : List ℕ) where
  abbrev v : ℕ
  v = receiver net.site l

  abbrev opens : Result OpenedFrame OpenRefusal
  opens = open_of l (octets_received net w l) octets

  abbrev wire : Option ℕ
  wire = put_as net w l octets

  tampered_as : (environment : Environment) → tampered net w l octets environment ≡ tampered_or_put net w l octets environment wire
  unfolding tampered
  tampered_as environment = refl

  unsealed : net.sealing.unseal l (octets_received net w l) octets ≡ answer_of opens
  unsealed = ap (λ (f : Sealing). f.unseal l (octets_received net w l) octets) r.sealing

  -- The octets are those of a frame on the wire.

  module _ (j : ℕ) (is : wire ≡ Some j) where
    abbrev there : (k : ℕ) × (slice_get (w.wire l) k ≡ Some j) × (octets_eq (frame_octets net w l (slice_get (w.frames l) j)) octets ≡ true)
    there = found (λ (i : ℕ). octets_eq (frame_octets net w l (slice_get (w.frames l) i)) octets) (w.wire l) j is

    abbrev a : Allocation
    a = (frame_there net w r l at there.0 j there.1).0

    framed : slice_get (w.frames l) j ≡ Some a
    framed = (frame_there net w r l at there.0 j there.1).1

    are : octets ≡ frame_octets net w l (Some a)
    are = sym (same_octets (frame_octets net w l (slice_get (w.frames l) j)) octets there.2) ∙ ap (frame_octets net w l) framed

    frame_heard : (environment : Environment) → tampered net w l octets environment ≡ handle net w v (Heard l octets) environment
    frame_heard environment =
        let p = payload_there net w r l at j a framed in
        tampered_as environment ∙ ap (tampered_or_put net w l octets environment) is ∙ ap (deliver_frame net w l environment) framed
        ∙ delivered_heard net w r l at j a framed p.0 p.1 octets are environment

    frame_goes : ViewGoesOn net w v (Heard l octets)
    frame_goes = let p = payload_there net w r l at j a framed in hearing_goes net w r l at j a framed p.0 p.1 octets are

    frame_fits : BatchFits net w v (Heard l octets)
    frame_fits = let p = payload_there net w r l at j a framed in hearing_fits net w r l at j a framed p.0 p.1 octets are

  -- Nobody put the octets.

  module _ (is : wire ≡ None) (up : w.up v ≡ true) where
    none_put : (environment : Environment) → tampered net w l octets environment ≡ unmatched w (answer_of opens)
    none_put environment =
        tampered_as environment ∙ ap (tampered_or_put net w l octets environment) is
        ∙ ap (λ (t : Bool). if not t then (w, Replies replies.Down) else unmatched w (net.sealing.unseal l (octets_received net w l) octets)) up ∙ ap (unmatched w) unsealed

    pub forged : (environment : Environment) → is_match opens ≡ true → tampered net w l octets environment ≡ (w, ForgedMatch)
    forged environment right = none_put environment ∙ matched w opens right

    seen : net.sealing.unseal l (incoming_octets l (port_of (view_of net w v) l.link)) octets ≡ answer_of opens
    seen = ap (λ (bytes : List ℕ). net.sealing.unseal l bytes octets) (received net w r l at) ∙ unsealed

    module _ (wrong : is_match opens ≡ false) where
      abbrev refusal : Reply
      refusal = (rejected opens wrong).0

      refuses : net.sealing.unseal l (incoming_octets l (port_of (view_of net w v) l.link)) octets ≡ Rejected refusal
      refuses = seen ∙ (rejected opens wrong).1

      heard_refused : (environment : Environment) → handle net w v (Heard l octets) environment ≡ (w, Replies refusal)
      unfolding handle decide random_need
      heard_refused environment =
          ap (λ (t : Bool). if t then resolve net w v 0 environment (received_frame net.site (view_of net w v) l (net.sealing.unseal l (incoming_octets l (port_of (view_of net w v) l.link)) octets)) else (w, Replies replies.Down)) up
          ∙ ap (λ (o : Opened). resolve net w v 0 environment (received_frame net.site (view_of net w v) l o)) refuses

      pub none_heard : (environment : Environment) → tampered net w l octets environment ≡ handle net w v (Heard l octets) environment
      none_heard environment = none_put environment ∙ ap (unmatched w) (rejected opens wrong).1 ∙ sym (heard_refused environment)

      pub none_goes : ViewGoesOn net w v (Heard l octets)
      unfolding decide
      none_goes octets' e decides numbered =
          let same : Refuses refusal ≡ Does e = ap (received_frame net.site (view_of net w v) l) (sym refuses) ∙ decides in absurd (cc same)

      pub none_fits : BatchFits net w v (Heard l octets)
      unfolding decide
      none_fits e decides = let same : Refuses refusal ≡ Does e = ap (received_frame net.site (view_of net w v) l) (sym refuses) ∙ decides in absurd (cc same)

  -- The receiver is down.
  down_by : (o : Option ℕ) → wire ≡ o → w.up v ≡ false → (environment : Environment) → tampered net w l octets environment ≡ (w, Replies replies.Down)
  down_by (Some j) is down environment = frame_heard j is environment ∙ down_says net w v (Heard l octets) environment down
  down_by None is down environment =
      tampered_as environment ∙ ap (tampered_or_put net w l octets environment) is
      ∙ ap (λ (t : Bool). if not t then (w, Replies replies.Down) else unmatched w (net.sealing.unseal l (octets_received net w l) octets)) down

  pub tampered_down : w.up v ≡ false → (environment : Environment) → tampered net w l octets environment ≡ (w, Replies replies.Down)
  tampered_down down environment = down_by wire refl down environment

  -- Octets that are on the wire, or that have no right tag, are heard like a frame.

  pub record IsHeard : Type 0 where
    pub heard : (environment : Environment) → tampered net w l octets environment ≡ handle net w v (Heard l octets) environment
    pub goes : ViewGoesOn net w v (Heard l octets)
    pub fits : BatchFits net w v (Heard l octets)

  pub put_heard : is_some wire ≡ true → IsHeard
  put_heard some = let j = some_there wire some in record { heard = frame_heard j.0 j.1; goes = frame_goes j.0 j.1; fits = frame_fits j.0 j.1 }

  pub wrong_heard : is_some wire ≡ false → w.up v ≡ true → is_match opens ≡ false → IsHeard
  wrong_heard none up wrong = let n = none_there wire none in record { heard = none_heard n up wrong; goes = none_goes n up wrong; fits = none_fits n up wrong }

  pub match_found : is_some wire ≡ false → w.up v ≡ true → is_match opens ≡ true → (environment : Environment) → tampered net w l octets environment ≡ (w, ForgedMatch)
  match_found none up right environment = forged (none_there wire none) up environment right
