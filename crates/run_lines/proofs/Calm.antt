-- The outcome of a call that is answered is no forged match.
use Rattle.std.proofs.Common.{◌≡◌, Bool, true, false, refl, ap, ◌∙◌}
use Rattle.run_types.specs.declared.start_result.StartResult.{StartResult}
use Rattle.run_types.specs.declared.start_result.StartResult.TheVariants as starts
use Rattle.run_model.specs.Play.{is_forged}
use Rattle.run_ops.specs.declared.delivery.Delivery.{Delivery}
use Rattle.run_ops.specs.declared.delivery.Delivery.TheVariants as deliveries
use Rattle.run_ops.specs.declared.block_take.BlockTake.{BlockTake}
use Rattle.run_ops.specs.declared.block_take.BlockTake.TheVariants as takes
use Rattle.run_ops.specs.Reported.{delivered, taken, started, crashed}
use Rattle.run_ops.specs.declared.tampered.Tampered.{Tampered}
use Rattle.run_ops.specs.declared.tampered.Tampered.TheVariants as tamperings
use Rattle.run_ops.specs.Acting.{tampered}

pub delivered_calm : (d : Delivery) → is_forged (delivered d) ≡ false
delivered_calm (deliveries.Replied reply) = refl
delivered_calm (deliveries.NoFrame count) = refl
delivered_calm (deliveries.NoBit bits) = refl

pub taken_calm : (t : BlockTake) → is_forged (taken t) ≡ false
taken_calm (takes.Replied reply) = refl
taken_calm takes.NoBlock = refl
taken_calm takes.DeviceFailed = refl

pub started_calm : (s : StartResult) → is_forged (started s) ≡ false
started_calm starts.Started = refl
started_calm starts.WasUp = refl
started_calm starts.Stopped = refl
started_calm (starts.Foreign place) = refl
started_calm starts.Memory = refl

pub crashed_calm : (was_up : Bool) → is_forged (crashed was_up) ≡ false
crashed_calm true = refl
crashed_calm false = refl

pub came_calm : (found : Tampered) (d : Delivery) → found ≡ tamperings.Came d → is_forged (tampered found) ≡ false
came_calm found d is = ap (λ (f : Tampered). is_forged (tampered f)) is ∙ delivered_calm d
