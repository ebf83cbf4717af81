-- A frame in a buffer of fixed size.
use Rattle.std.proofs.Common.{◌≡◌, ℕ, ◌-◌, ◌<◌, List, ◌++◌, length, take, drop, replicate, sym, ap, ap₂, ◌∙◌, arith, Result, length-take, length-drop}
use Rattle.std.proofs.lemmas.List.{take-append-drop, drop-replicate, length-replicate}
use Rattle.qkd_base.specs.declared.frame_octets.FrameOctets.{FrameOctets}
use Rattle.net_model.specs.Window.{room_octets}
use Rattle.source_devices.specs.declared.wire.WireFailed.{WireFailed}
use Rattle.lane_sender.specs.declared.sent.Sent.{Sent}
use Rattle.lane_sender.specs.Sending.{sent, sent_frame, answer_of}
use Rattle.lane_sender.proofs.Sents.{same_answer}

module _ (room : FrameOctets) (frame : List ℕ) (n : ℕ) (front : take n room.octets ≡ frame) (rest : drop n room.octets ≡ drop n (replicate 600 0)) (short : n < 600) where
  pub size : length frame ≡ n
  size =
      let whole = ap length rest in
      let many = ap length front in
      omega (arith, whole, many, length-take {A = ℕ} n room.octets, length-drop {A = ℕ} n room.octets, length-drop {A = ℕ} n (replicate 600 0), length-replicate {A = ℕ} 600 0, short)

  -- The buffer's first octets are the frame. The others are still zero.
  pub is_room : room ≡ room_octets frame
  is_room =
      ap (λ (octets : List ℕ). record { octets = octets })
      (sym (take-append-drop n room.octets) ∙ ap₂ (λ (xs ys : List ℕ). xs ++ ys) front (rest ∙ drop-replicate n 600 0 ∙ ap (λ (k : ℕ). replicate (600 - k) 0) (sym size)))

  pub is_sent : (s : Sent) (offset : ℕ) (answer : Result ℕ WireFailed) → s ≡ sent offset n room answer → s ≡ sent_frame offset frame (answer_of s)
  is_sent s offset answer is =
      is ∙ ap₂ (λ (k : ℕ) (f : FrameOctets). sent offset k f answer) (sym size) is_room
      ∙ ap (sent_frame offset frame) (sym (ap answer_of is ∙ same_answer offset n room answer))
