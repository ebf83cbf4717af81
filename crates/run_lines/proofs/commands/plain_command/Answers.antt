use Rattle.run_model.specs.Turn.{turn_of}
use Rattle.std.proofs.Common.{◌≡◌, true, rules, arith}
use Rattle.std.proofs.lemmas.Grind.{common_steps}
use Rattle.run_lines.specs.Commands.{acts_once, any_texts}
use Rattle.run_lines.proofs.Turning.{turn_fits}
use Rattle.run_lines.proofs.commands.plain_command.Goals as goal

pub act_once-requires-clause-fit : goal.act_once-requires-clause-fit
act_once-requires-clause-fit g c =
    let once : acts_once c.args.command ≡ true = first_of (search rules, grind (arith, common_steps)) in
    turn_fits (g.S.Acts.site c.args.net.now) c.args.command once c.requires.fit

pub pass-requires-clause-fit : goal.pass-requires-clause-fit
unfolding turn_of
pass-requires-clause-fit g c = let fit = c.requires.fit in (rw c.in-Pass.is at fit) any_texts

pub flip-requires-clause-fit : goal.flip-requires-clause-fit
unfolding turn_of
flip-requires-clause-fit g c = let fit = c.requires.fit in (rw c.in-Flip.is at fit) any_texts

pub forge-requires-clause-fit : goal.forge-requires-clause-fit
unfolding turn_of
forge-requires-clause-fit g c = let fit = c.requires.fit in rw c.as_slice.ensures ((rw c.in-Forge.is at fit) any_texts)

pub returns-in_default-clause-runs : goal.returns-in_default-clause-runs
returns-in_default-clause-runs g c = c.act_once.ensures.runs

pub returns-in-Ledger-clause-runs : goal.returns-in-Ledger-clause-runs
returns-in-Ledger-clause-runs g c = λ http. rw c.in-Ledger.is c.ledger.ensures.runs

pub returns-in-Forge-clause-runs : goal.returns-in-Forge-clause-runs
unfolding turn_of
returns-in-Forge-clause-runs g c = λ http.
    let runs = c.forge.ensures.runs in
    rw c.in-Forge.is (rw c.as_slice.ensures at runs)
