use Rattle.std.proofs.Common.{◌≡◌, drop}
use Rattle.net_model.specs.Window.{complete}
use Rattle.kme_node.proofs.step_effects.note_all.Given as goal

abbrev pub invariant-loop-placing : goal.invariant-loop-placing
invariant-loop-placing l = complete l.known.acked l.window.volatile (drop l.placing-index l.placings) ≡ complete l.known.acked l.fn.window.volatile l.placings
