use Rattle.model_examples.proofs.StreamRowsProofs.{streams, joining, fed_by_any_name}
use Rattle.model_examples.proofs.rows.stream_rows.Goals as goal

pub returns-clause-streams : goal.returns-clause-streams
returns-clause-streams c = streams

pub returns-clause-joining : goal.returns-clause-joining
returns-clause-joining c = joining

pub returns-clause-fed_by_any_name : goal.returns-clause-fed_by_any_name
returns-clause-fed_by_any_name c = fed_by_any_name
