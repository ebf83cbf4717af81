use Rattle.std.proofs.Common.{ap, subst, ◌<◌, ◌^◌, ℕ}
use Rattle.source_devices.specs.KeyStream.{StreamForm}
use Rattle.source_devices.proofs.key_stream.KeyStream.within.Goals as goal

pub returns : goal.returns
returns c = let P : ℕ → Type 0 = λ p. p < 2 ^ 70 in subst P (ap (λ (s : StreamForm). s.place) c.self.view_is) c.self.invariant.0
