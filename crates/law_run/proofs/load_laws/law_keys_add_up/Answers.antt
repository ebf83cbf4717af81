use Rattle.law_run.specs.Handed.{enc_in, dec_in}
use Rattle.law_run.proofs.Counting.{none_enc, none_dec, counted_append, none_in_run}
use Rattle.law_run.proofs.load_laws.law_keys_add_up.Goals as goal

pub returns-clause-enc : goal.returns-clause-enc
returns-clause-enc c = counted_append enc_in

pub returns-clause-dec : goal.returns-clause-dec
returns-clause-dec c = counted_append dec_in

pub returns-clause-no_enc : goal.returns-clause-no_enc
returns-clause-no_enc c = none_in_run enc_in none_enc

pub returns-clause-no_dec : goal.returns-clause-no_dec
returns-clause-no_dec c = none_in_run dec_in none_dec
