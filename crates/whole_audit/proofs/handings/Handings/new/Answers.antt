use Rattle.std.proofs.Common.{List, ℕ, ap}
use Rattle.ordered_set.specs.Entries.{has_entry}
use Rattle.whole_audit.specs.Kept.{has_number, key_entry}
use Rattle.whole_audit.proofs.handings.Handings.new.Goals as goal

pub returns : goal.returns
returns c s = record {
  at = λ n there. ap (λ (es : List (List ℕ)). has_entry es (key_entry n there)) c.new.ensures;
  to = λ n there. ap (λ (es : List (List ℕ)). has_entry es (key_entry n there)) c.new-2.ensures;
  unnamed = λ node. ap (λ (es : List (List ℕ)). has_number es node) c.new-3.ensures;
}
