use Rattle.std.proofs.Common.{◌≡◌, ℕ, min, length, take, ap, ◌∙◌, arith}
use Rattle.std.proofs.lemmas.List.{take_min}
use Rattle.http_front.proofs.request_reader.front.Goals as goal

pub returns-clause-front : goal.returns-clause-front
returns-clause-front c =
    let size : c.min.result ≡ min 8193 (length c.args.octets.now) = omega (arith, c.min.ensures) in
    ap (λ (n : ℕ). take n c.args.octets.now) size ∙ take_min 8193 c.args.octets.now
