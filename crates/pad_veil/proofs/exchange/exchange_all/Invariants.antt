use Rattle.std.proofs.Common.{◌≡◌, drop, length}
use Rattle.pad_veil.specs.Veil.{veil}
use Rattle.pad_veil.proofs.exchange.exchange_all.Given as goal

abbrev pub invariant-loop-frame : goal.invariant-loop-frame
invariant-loop-frame l = record {
  len : length l.lane ≡ length l.fn.lane;
  rest : veil l.lane (drop l.frame-index l.frames) ≡ veil l.fn.lane l.frames;
}
