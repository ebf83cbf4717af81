use Rattle.std.proofs.Common.{◌≡◌, ◌<◌, ◌≤◌, ℕ, List, length, sym, ap, subst, ◌∙◌, true, false}
use Rattle.std.specs.Prelude.{◌==◌}
use Rattle.kme_journal.specs.Batches.{AreSpelled, Gathered, batches_in}
use Rattle.kme_journal.proofs.Batched.{whole_gathered, last_gathered, some_left, none_left}
use Rattle.kme_journal.proofs.batches.Batches.finish.Goals as goal
use Rattle.kme_journal.proofs.batches.Batches.finish.Goals.{then-not-is_empty+in_ok-close, else-not-is_empty}

pub returns : goal.returns
returns c = λ rs was.
    let rest : length c.self.inside.rest ≡ length c.args.self.rest = ap (λ (g : Gathered). length g.rest) c.self.view_is in
    elim c.if-not-is_empty.branch [
      | then-not-is_empty+in_ok-close w ↦
          let test : (length c.self.inside.rest == 0) ≡ false = sym c.is_empty.ensures ∙ w.if-not-is_empty.true in
          let some : 0 < length c.args.self.rest = subst (λ (n : ℕ). 0 < n) rest (some_left (length c.self.inside.rest) test) in
          let few : length c.args.self.rest ≤ 65535 = subst (λ (n : ℕ). n ≤ 65535) rest c.self.invariant.few in
          let full = ap (λ (g : Gathered). g.full) (c.self-2.view_is ∙ w.self-is) in
          last_gathered c.args.self c.self-2.inside.full.items rs was some few (full ∙ w.in_ok-close.ensures.octets) w.in_ok-close.ensures.grammar
      | else-not-is_empty w ↦
          let test : (length c.self.inside.rest == 0) ≡ true = sym c.is_empty.ensures ∙ w.if-not-is_empty.false in
          let none : length c.args.self.rest ≡ 0 = sym rest ∙ none_left (length c.self.inside.rest) test in
          let full = ap (λ (g : Gathered). g.full) (c.self-2.view_is ∙ w.self-is) in
          subst (λ (l : List (List ℕ)). AreSpelled (batches_in rs) l) (sym full) (whole_gathered c.args.self rs was none)
    ]
