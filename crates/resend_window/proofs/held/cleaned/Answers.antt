use Rattle.std.proofs.Common.{◌≡◌, ◌-◌, ◌++◌, ℕ, List, length, take, drop, replicate, ap, ◌∙◌, arith}
use Rattle.resend_window.proofs.Frames.{length_take, drop_zeros}
use Rattle.resend_window.proofs.held.cleaned.Goals as goal

pub returns-clause-octets : goal.returns-clause-octets
returns-clause-octets c =
    let whole : length c.args.frame.now.octets ≡ 600 = omega arith in
    c.write_front.ensures
    ∙ ap (λ k. take c.args.size c.args.frame.now.octets ++ drop k c.new-room.result.octets) (length_take c.args.size c.args.frame.now.octets (omega arith))
    ∙ ap (λ (xs : List ℕ). take c.args.size c.args.frame.now.octets ++ drop c.args.size xs) c.new-room.ensures
    ∙ ap (λ (xs : List ℕ). take c.args.size c.args.frame.now.octets ++ xs) (drop_zeros c.args.size 600)
