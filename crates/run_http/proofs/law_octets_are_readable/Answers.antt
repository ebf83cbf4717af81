use Rattle.run_http.proofs.Existing.{readable}
use Rattle.run_http.proofs.law_octets_are_readable.Goals as goal

pub returns : goal.returns
returns c = readable
