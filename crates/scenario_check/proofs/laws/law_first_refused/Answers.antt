use Rattle.scenario_text.specs.Line.{nothing_read}
use Rattle.scenario_text.specs.Text.{text_limit, parts_of}
use Rattle.std.proofs.Common.{◌+◌, take}
use Rattle.scenario_check.proofs.Agreement.{agrees}
use Rattle.scenario_check.proofs.laws.law_first_refused.Goals as goal

pub returns : goal.returns
returns c = λ text. agrees text_limit 1 nothing_read (parts_of (take (text_limit + 1) text))
