use Rattle.std.proofs.Common.{◌≡◌, ℕ, ◌+◌, ◌-◌, ◌++◌, List, length, drop, take, sym, ◌∙◌, ap, arith, append_assoc}
use Rattle.frame_codec.proofs.Writes.{then_puts}
use Rattle.journal_records.specs.Grammar.{short_name, run_head, octets_left, run_len}
use Rattle.journal_records.proofs.Loops.{puts_on, more_left, more_long, new_left, new_long, run_some}
use Rattle.journal_records.proofs.body_printer.put_handing.Goals as goal

pub put_short_name-requires : goal.put_short_name-requires
put_short_name-requires c = omega (arith, c.requires.fits, more_long c.args.records.now c.args.name c.args.sae c.requires.first c.args.left c.if-left-gt0.true)

pub returns-then-left-gt0-clause-octets : goal.returns-then-left-gt0-clause-octets
returns-then-left-gt0-clause-octets c =
    puts_on c.put_short_name.ensures.octets (octets_left (c.args.left - 1) (drop 1 c.args.records.now))
    ∙ ap (λ (l : List ℕ). take c.args.at c.args.into.now ++ l) (sym (more_left c.args.records.now c.args.name c.args.sae c.requires.first c.args.left c.if-left-gt0.true))

pub put_run_head-at-requires : goal.put_run_head-at-requires
put_run_head-at-requires c =
    let none : c.args.left ≡ 0 = omega (arith, c.if-left-gt0.false) in
    omega (arith, c.requires.fits, ap (λ (k : ℕ). length (octets_left k c.args.records.now)) none, new_long c.args.records.now c.args.name c.args.sae c.requires.first)

pub put_short_name-requires-2 : goal.put_short_name-requires-2
put_short_name-requires-2 c =
    let none : c.args.left ≡ 0 = omega (arith, c.if-left-gt0.false) in
    omega (arith, c.requires.fits, ap (λ (k : ℕ). length (octets_left k c.args.records.now)) none, new_long c.args.records.now c.args.name c.args.sae c.requires.first, c.put_run_head-at.ensures.octets.end_is, c.put_run_head-at.auto.into)

pub overflow_sub-result-2 : goal.overflow_sub-result-2
overflow_sub-result-2 c = omega (arith, c.run_len-names.ensures.len, run_some c.args.records.now c.args.name c.args.sae c.requires.first)

pub returns-clause-octets : goal.returns-clause-octets
returns-clause-octets c =
    let none : c.args.left ≡ 0 = omega (arith, c.if-left-gt0.false) in
    let k : ℕ = c.run_len-names.result in
    let rest : List ℕ = octets_left (k - 1) (drop 1 c.args.records.now) in
    let is : k ≡ run_len c.args.sae 128 c.args.records.now = c.run_len-names.ensures.len in
    puts_on (then_puts c.put_run_head-at.ensures.octets c.put_short_name-2.ensures.octets) rest
    ∙ ap (λ (l : List ℕ). take c.args.at c.args.into.now ++ l) (append_assoc (run_head c.args.sae k) (short_name c.args.name) rest)
    ∙ ap (λ (m : ℕ). take c.args.at c.args.into.now ++ (run_head c.args.sae m ++ (short_name c.args.name ++ octets_left (m - 1) (drop 1 c.args.records.now)))) is
    ∙ ap (λ (l : List ℕ). take c.args.at c.args.into.now ++ l) (sym (new_left c.args.records.now c.args.name c.args.sae c.requires.first))
    ∙ ap (λ (m : ℕ). take c.args.at c.args.into.now ++ octets_left m c.args.records.now) (sym none)
