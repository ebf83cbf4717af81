use Rattle.law_run.proofs.Nothing.{course, headline, is_network, runs}
use Rattle.law_run.proofs.headline_laws.law_headline_is_met.Goals as goal

pub returns : goal.returns
returns c = λ sealing http reading f.
    let begins = c.law_first_may_begin.ensures (course sealing).net in
    (course sealing, headline sealing http reading f begins (c.law_keys_and_bytes.ensures (course sealing) (is_network sealing f) begins (runs sealing)))
