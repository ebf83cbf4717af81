use Rattle.std.proofs.Common.{◌≡◌, ap, ◌∙◌, ◌+◌, ◌-◌, ℕ, List, length, take, drop, sym, arith}
use Rattle.std.proofs.lemmas.List.{length-take-le, length-drop}
use Rattle.wc_tags.specs.Tag.{tag}
use Rattle.hop_frames.specs.Frame.{number_of}
use Rattle.hop_frames.proofs.Masks.{text_written, frame_written}
use Rattle.hop_frames.proofs.frame_seal.frame.Goals as goal

pub returns : goal.returns
returns c =
    let into = c.args.into.now in
    let size = c.args.size in
    let payload = take size (drop 16 into) in
    let head : length c.put_header.new.octets ≡ 16 = c.put_header.auto.octets ∙ length-take-le 16 into (omega (arith, c.requires.room)) in
    let few : size ≡ length payload = sym (length-take-le size (drop 16 into) (omega (arith, c.requires.room, length-drop 16 into))) in
    let text = text_written into c.put_header.new.octets c.mask_all.new.octets _ c.args.pads.now size (16 + size - 16) head (omega (arith, c.requires.room)) (omega arith) c.mask_all.ensures in
    ap (λ (n : ℕ). take (24 + n) c.put.new.into) few
    ∙ frame_written c.args.lane.now c.args.offset c.args.key c.args.pads.now payload c.put_header.new.octets _ c.put.new.into c.to_be_bytes.result size c.number_at-mask.result c.tag-tag.result
    few c.put_header.ensures text
    (c.number_at-mask.ensures ∙ ap number_of c.after.ensures)
    (c.tag-tag.ensures ∙ ap (λ (t : List ℕ). tag c.args.key t c.number_at-mask.result) c.prefix.ensures)
    c.to_be_bytes.ensures
    (ap (λ (n : ℕ). take n c.put.new.into) (omega (arith, ap length c.to_be_bytes.ensures)) ∙ c.put.ensures)
