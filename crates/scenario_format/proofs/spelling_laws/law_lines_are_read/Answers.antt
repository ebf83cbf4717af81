use Rattle.scenario_format.proofs.Texts.{reads_text}
use Rattle.scenario_format.proofs.spelling_laws.law_lines_are_read.Goals as goal

pub returns : goal.returns
returns c = reads_text
