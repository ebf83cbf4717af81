use Rattle.std.proofs.Common.{◌≡◌, ◌∙◌, ℕ, List, [], ◌∷◌, ap, subst}
use Rattle.run_lines.proofs.Taking.{first_of}
use Rattle.run_model.specs.Headline.{TookFirst, given_to}
use Rattle.net_world.specs.Lanes.{veil_text, veil_line}
use Rattle.net_world.specs.Veiled.{all_frames}
use Rattle.net_world.proofs.line.tell.Goals as goal

pub returns-clause-told : goal.returns-clause-told
returns-clause-told g c net w lanes =
    let counts = c.in-Ok.ensures net w lanes in
    let line : c.as_slice.result.now ≡ veil_line net w =
    c.as_slice.ensures ∙ c.in-Ok-veil_text.ensures ∙ ap (λ (n : ℕ). veil_text n c.in-Ok.veiled.bytes) counts.0 ∙ ap (veil_text (all_frames net w)) counts.1 in
    let given = given_to g.W.Sink.taken g.W.Sink.pieces in
    subst (TookFirst (given c.args.sink.now) (given c.write_all.new.self)) (ap (λ (text : List ℕ). text ∷ []) line)
    (first_of (given c.args.sink.now) (given c.write_all.new.self) c.as_slice.result.now c.in-Err.ensures.bytes c.in-Err.ensures.piece)
