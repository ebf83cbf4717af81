use Rattle.report_json.proofs.Decoded.{objects_tell}
use Rattle.report_json.proofs.laws.law_objects_tell.Goals as goal

pub returns : goal.returns
returns c = objects_tell
