use Rattle.std.proofs.Common.{◌≡◌, true, rules, arith}
use Rattle.std.specs.Prelude.{Result, Ok, Err, IfOk}
use Rattle.std.proofs.lemmas.Grind.{common_steps}
use Rattle.declared_site.specs.SiteOf.{site_of}
use Rattle.run_model.specs.Turn.{turn_of}
use Rattle.run_ops.specs.Asking.{asks_an_event}
use Rattle.run_ops.specs.Reported.{reported}
use Rattle.run_lines.specs.Commands.{any_texts}
use Rattle.run_tasks.proofs.Made.{asked_job, asked_allowed}
use Rattle.run_tasks.proofs.prepared.line_made.Goals as goal

as_made : {A E : Type 0} (P Q : A → Type 0) (r : Result A E) → ((x : A) → P x → Q x) → IfOk r P → IfOk r Q
as_made P Q (Ok x) f h = f x h
as_made P Q (Err e) f h = tt

pub pass-requires : goal.pass-requires
unfolding turn_of
pass-requires g c = let fit = c.requires.fit in record { lane = (rw c.in-Pass.is at fit) any_texts }

pub returns-in-Pass-clause-made : goal.returns-in-Pass-clause-made
returns-in-Pass-clause-made g c = λ http n w speaks ready. rw c.in-Pass.is (c.pass.ensures.made http n w ready)

pub returns-in-Pass-clause-allowed : goal.returns-in-Pass-clause-allowed
returns-in-Pass-clause-allowed g c = c.pass.ensures.allowed

pub returns-in-Ok-clause-made : goal.returns-in-Ok-clause-made
returns-in-Ok-clause-made g c = λ http n w speaks ready.
    let turn = c.in-Ok.ensures.turn in
    let turn_here = rw c.declared.ensures at turn in
    let asks : asks_an_event c.args.command ≡ true = first_of (search rules, grind (arith, common_steps)) in
    asked_job http (site_of (g.S.Acts.site c.args.net.now)) w c.args.command c.in-Ok.asked.node c.in-Ok.asked.event c.in-Ok.asked.reporting asks (turn_here http)

pub returns-in-Ok-clause-allowed : goal.returns-in-Ok-clause-allowed
returns-in-Ok-clause-allowed g c = λ n w ready.
    let turn = c.in-Ok.ensures.turn in
    let turn_here = rw c.declared.ensures at turn in
    let asks : asks_an_event c.args.command ≡ true = first_of (search rules, grind (arith, common_steps)) in
    (asked_allowed (g.S.Acts.site c.args.net.now) c.args.command c.in-Ok.asked.node c.in-Ok.asked.event (reported c.in-Ok.asked.reporting) c.requires.may asks c.requires.fit turn_here, tt)

pub returns-in-Http-clause-made : goal.returns-in-Http-clause-made
returns-in-Http-clause-made g c = rw c.in-Http.is (as_made _ _ c.http.result (λ made is http n w speaks ready. is (g.S.Acts.site c.args.net.now) http w speaks) c.http.ensures.made)

pub returns-in-Http-clause-allowed : goal.returns-in-Http-clause-allowed
returns-in-Http-clause-allowed g c =
    let fit = c.requires.fit in
    as_made _ _ c.http.result (λ made is n w ready. is (g.S.Acts.site c.args.net.now) w c.requires.serves (rw c.in-Http.is at fit)) c.http.ensures.allowed
