use Rattle.std.proofs.Common.{◌≡◌, ap, sym, ◌∙◌, ◌+◌, ℕ, List, length, take, drop, arith}
use Rattle.std.proofs.lemmas.List.{take-append-le, drop_at, drop-drop, length-take-le}
use Rattle.frame_codec.specs.Payload.{payload_octets}
use Rattle.hop_frames.specs.Frame.{framed}
use Rattle.hop_frames.proofs.Masks.{framed_of_range, payload_behind}
use Rattle.hop_frames.proofs.frame_seal.seal.Goals as goal

pub returns-clause-frame : goal.returns-clause-frame
returns-clause-frame c =
    let size : c.from-size.result ≡ c.spell.result = omega (arith, c.from-size.ensures, c.spelled_len.ensures.length, c.spell.ensures.len) in
    let len : length (payload_octets c.args.payload.now) ≡ c.from-size.result = omega (arith, c.spell.ensures.whole, c.spell.ensures.len, size) in
    let clear = payload_behind c.spell.new.into.octets c.args.into.now.octets (payload_octets c.args.payload.now) c.from-size.result (omega arith) len
    (ap (λ (n : ℕ). take (16 + n) c.spell.new.into.octets) size ∙ c.spell.ensures.octets) in
    let need : c.args.range.len ≡ length (payload_octets c.args.payload.now) + 8 = omega (arith, c.requires.size, c.spell.ensures.whole) in
    λ bytes is pads.
    take-append-le (24 + c.from-size.result) c.frame.new.into _ (omega (arith, c.frame.auto.into))
    ∙ c.frame.ensures
    ∙ ap (framed c.args.lane c.start-offset.result c.args.key c.args.pads.now) clear
    ∙ ap (λ (o : ℕ). framed c.args.lane o c.args.key c.args.pads.now (payload_octets c.args.payload.now)) c.start-offset.ensures.start
    ∙ framed_of_range c.args.lane c.args.range.start c.args.key c.args.pads.now bytes (payload_octets c.args.payload.now) c.args.range.len need is pads

pub returns-clause-rest : goal.returns-clause-rest
returns-clause-rest c =
    let size : c.from-size.result ≡ c.spell.result = omega (arith, c.from-size.ensures, c.spelled_len.ensures.length, c.spell.ensures.len) in
    let more : 24 + c.from-size.result ≡ 16 + c.spell.result + 8 = omega (arith, size) in
    let behind : drop (24 + c.from-size.result) c.spell.new.into.octets ≡ drop (24 + c.from-size.result) c.args.into.now.octets =
    ap (λ (n : ℕ). drop n c.spell.new.into.octets) more
    ∙ sym (drop-drop 8 (16 + c.spell.result) c.spell.new.into.octets)
    ∙ ap (λ (l : List ℕ). drop 8 l) c.spell.ensures.rest
    ∙ drop-drop 8 (16 + c.spell.result) c.args.into.now.octets
    ∙ ap (λ (n : ℕ). drop n c.args.into.now.octets) (sym more) in
    drop_at c.frame.new.into _ (24 + c.from-size.result) (omega (arith, c.frame.auto.into)) ∙ behind
