use Rattle.std.proofs.Common.{ap, ◌∙◌}
use Rattle.lane_shares.specs.declared.view.View.{View}
use Rattle.thread_tests.proofs.emissions.play.Goals as goal

pub send_both-requires-clause-machines : goal.send_both-requires-clause-machines
send_both-requires-clause-machines g c κs within =
    let made = c.in_ok-machines.ensures in
    (made.0, c.new.result, made.1, c.new.ensures.shares, ap (λ s. s.lane) c.new.ensures.side ∙ c.requires.side.0)

pub send_both-requires-clause-keeps : goal.send_both-requires-clause-keeps
send_both-requires-clause-keeps g c κs within =
    let made = c.in_ok-keeps.ensures in
    let first = c.split-one.ensures.new in
    let second = c.split-two.ensures.new in (
      made.0,
      made.1,
      made.2,
      (c.split-one.result, made.3, record { fits = c.split-one.ensures.fits.1; plain = ap (λ (v : View). v.issues) first; has = ap (λ (v : View). v.amount) first }),
      (c.split-two.result, made.4, record { fits = c.split-two.ensures.fits.1; plain = ap (λ (v : View). v.issues) second; has = ap (λ (v : View). v.amount) second }),
    )
