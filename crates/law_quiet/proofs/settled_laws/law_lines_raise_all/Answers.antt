use Rattle.law_quiet.proofs.RaisedTasks.{all_up}
use Rattle.law_quiet.proofs.settled_laws.law_lines_raise_all.Goals as goal

pub returns : goal.returns
returns c = λ http net workers earlier raising done more raised. all_up http net workers earlier raising done more raised
