use Rattle.std.proofs.Common.{◌≡◌, drop}
use Rattle.std.specs.Prelude.{max, map}
use Rattle.report_parser.specs.Runs.{common, greatest}
use Rattle.report_parser.proofs.fits.node_fit.Given as goal

abbrev pub invariant-loop-name : goal.invariant-loop-name
invariant-loop-name l = max l.most (greatest (map (λ name. common name l.word) (drop l.name-index l.nodes))) ≡ greatest (map (λ name. common name l.word) l.nodes)
