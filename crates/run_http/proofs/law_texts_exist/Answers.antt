use Rattle.run_http.proofs.Texts.{texts_exist}
use Rattle.run_http.proofs.law_texts_exist.Goals as goal

pub returns : goal.returns
returns c = texts_exist
