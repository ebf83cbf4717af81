use Rattle.scenario_format.proofs.TextForms.{text_spelled}
use Rattle.scenario_format.proofs.form_laws.law_text_is_spelled.Goals as goal

pub returns : goal.returns
returns c = record {
  lines = λ text s e. (text_spelled text s e).lines;
  node_numbers = λ text s e. (text_spelled text s e).nodes;
  numbers = λ text s e. (text_spelled text s e).asked;
}
