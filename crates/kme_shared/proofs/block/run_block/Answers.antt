use Rattle.std.proofs.Common.{◌∙◌, inr}
use Rattle.std.specs.Prelude.{Result, Ok, Err, IfOk, OnErr}
use Rattle.std.specs.Result.{IsErr}
use Rattle.world_state.proofs.Endings.{on_err}
use Rattle.kme_shared.proofs.Nobody.{nobody_asked}
use Rattle.kme_shared.proofs.block.run_block.Goals as goal
use Rattle.world_state.specs.Outside.{outside}

no_ok : {T E : Type 0} (P : T → Type 0) (r : Result T E) → IsErr r → IfOk r P
no_ok P (Ok x) h = cc
no_ok P (Err e) h = tt

if_ok : {T E : Type 0} (P Q : T → Type 0) (r : Result T E) → ((x : T) → P x → Q x) → IfOk r P → IfOk r Q
if_ok P Q (Ok x) f h = f x h
if_ok P Q (Err e) f h = tt

on_err_too : {T E : Type 0} (P Q : Type 0) (r : Result T E) → (P → Q) → OnErr r P → OnErr r Q
on_err_too P Q (Ok x) f h = tt
on_err_too P Q (Err e) f h = f h

pub returns-in_err-worked : goal.returns-in_err-worked
returns-in_err-worked g c = record {
  did = record {
    sited = c.work_block.ensures.site;
    armed_as = c.work_block.ensures.armed;
    done = no_ok _ c.from_residual.result c.from_residual.ensures.0;
    left = on_err c.from_residual.result (λ net w ready.
        nobody_asked (outside g.K.Disk g.Q.Device g.E.Entropy g.X.Wire) net w
        c.args.workers c.args.jobs.now c.args.state.now c.work_block.new.state ready.stands c.in_err-worked.ensures.kept);
  };
}

pub note_block-requires : goal.note_block-requires
note_block-requires g c =
    let a = c.requires.may.ready in
    record { came = (c.args.state.now, a.0, a.1, c.args.workers, c.args.jobs.now, record { some = c.requires.may.some; ready = a.2; worked' = c.in_ok-worked.ensures.worked a.0 a.1 a.2 }) }

pub returns : goal.returns
returns g c = record {
  did = record {
    sited = c.note_block.ensures.site ∙ c.work_block.ensures.site;
    armed_as = c.note_block.ensures.armed ∙ c.work_block.ensures.armed;
    done = if_ok _ _ c.note_block.result (λ done does net w ready.
        does c.args.state.now net w c.args.workers c.args.jobs.now (record { some = c.requires.may.some; ready = ready; worked' = c.in_ok-worked.ensures.worked net w ready })) c.note_block.ensures.done;
    left = on_err_too _ _ c.note_block.result (λ ends net w ready.
        inr (ends c.args.state.now net w c.args.workers c.args.jobs.now (record { some = c.requires.may.some; ready = ready; worked' = c.in_ok-worked.ensures.worked net w ready }))) c.note_block.ensures.left;
  };
}
