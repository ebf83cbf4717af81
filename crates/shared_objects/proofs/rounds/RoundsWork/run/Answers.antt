use Rattle.std.proofs.Common.{◌∷◌, sym, subst}
use Rattle.std.specs.List.{AllZip}
use Rattle.shared_objects.specs.Seats.{Sits}
use Rattle.shared_objects.specs.ScriptCalling.{HasCalled}
use Rattle.shared_objects.specs.Working.{IsReady}
use Rattle.shared_objects.proofs.Working.{told_by, may_once, ready_on}
use Rattle.shared_objects.proofs.rounds.RoundsWork.run.Goals as goal

pub run-requires-clause-may : goal.run-requires-clause-may
run-requires-clause-may g c = (c.requires.fits.0, c.requires.fits.1.leave)

pub run-requires-clause-placed : goal.run-requires-clause-placed
run-requires-clause-placed g c = subst (λ (posts : _). AllZip (Sits {g = g.M.Machine}) c.args.self.now.turnstiles.now posts.items) (sym c.replace.ensures.value) c.requires.fits.1.sits

pub run-requires-clause-budget : goal.run-requires-clause-budget
run-requires-clause-budget g c =
    may_once (g.T.Errands.may c.args.self.now.errands.now) (g.T.Errands.most c.args.self.now.errands.now) c.args.self.now.turnstiles.now c.replace.result.items c.args.pass.now.keep c.args.job c.requires.fits.0
    (subst (λ (posts : _). IsReady {g = g.M.Machine} (g.T.Errands.may c.args.self.now.errands.now) (g.T.Errands.most c.args.self.now.errands.now) c.args.self.now.turnstiles.now posts.items c.args.pass.now.keep (c.args.job ∷ c.requires.fits.0)) (sym c.replace.ensures.value) c.requires.fits.1)

pub returns-clause-gives : goal.returns-clause-gives
returns-clause-gives g c = record {
  said = c.run.ensures.does.0;
  done = c.run.ensures.does.1;
  told = told_by c.args.self.now.turnstiles.now c.run.new.caller.turnstiles.now c.args.pass.now.posts.items c.run.new.caller.posts.items c.run.ensures.does.0
      (subst (λ (posts : _). HasCalled {g = g.M.Machine} c.run.ensures.does.0 c.args.self.now.turnstiles.now posts.items c.run.new.caller.turnstiles.now c.run.new.caller.posts.items) c.replace.ensures.value c.run.ensures.does.2) c.run.ensures.placed;
}

pub returns-clause-rest : goal.returns-clause-rest
returns-clause-rest g c = λ rest ready.
    ready_on (g.T.Errands.may c.args.self.now.errands.now) (g.T.Errands.most c.args.self.now.errands.now) c.args.self.now.turnstiles.now c.args.pass.now.posts.items c.run.new.caller.posts.items c.args.pass.now.keep c.run.new.keep
    c.args.job rest c.run.ensures.does.0 ready
    (told_by c.args.self.now.turnstiles.now c.run.new.caller.turnstiles.now c.args.pass.now.posts.items c.run.new.caller.posts.items c.run.ensures.does.0
    (subst (λ (posts : _). HasCalled {g = g.M.Machine} c.run.ensures.does.0 c.args.self.now.turnstiles.now posts.items c.run.new.caller.turnstiles.now c.run.new.caller.posts.items) c.replace.ensures.value c.run.ensures.does.2) c.run.ensures.placed)
    c.run.ensures.does.3 (c.run.ensures.rest rest ready.leave)
