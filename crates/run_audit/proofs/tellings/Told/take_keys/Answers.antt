use Rattle.std.proofs.Common.{◌≡◌, ℕ, List, ◌∷◌, Some, map, refl, sym, ap, ◌∙◌, subst, arith}
use Rattle.qkd_base.specs.Name.{Name}
use Rattle.run_audit.specs.declared.subject.Subject.TheVariants.{Key}
use Rattle.run_audit.specs.Tellings.{Telling, handed_key, onto, all_fit}
use Rattle.run_audit.specs.Kept.{told_of, AreTold}
use Rattle.run_audit.proofs.Telling.{keys_go_on, keys_stop, keys_end}
use Rattle.run_audit.proofs.tellings.Told.take_keys.Goals as goal

pub loop-name-init : goal.loop-name-init
loop-name-init c ts told = (ts, told, refl, refl)

pub loop-name-preserved : goal.loop-name-preserved
loop-name-preserved c ts told =
    let so_far = c.loop-name.invariant ts told in
    let key = c.loop-name-item.result in
    let t : Telling = told_of (Key key.0) c.as_slice.result.now (Some c.args.caller) (Some c.args.master) in
    let same : t ≡ handed_key c.args.caller c.args.master key = ap (λ (bytes : List ℕ). told_of (Key key.0) bytes (Some c.args.caller) (Some c.args.master)) c.as_slice.ensures in
    let taken = c.in_ok-take.ensures {u = tt} so_far.0 so_far.1 in
    let more = keys_go_on c.args.grants.now (handed_key c.args.caller c.args.master) c.args.keys.now c.loop-name.name-index key (omega arith) c.loop-name-item.is so_far.0 t _ _ same (sym taken.0 ∙ c.if-not-branch.false) so_far.2 so_far.3 in
    (t ∷ so_far.0, taken.1 c.if-not-branch.false, more.0, more.1)

pub returns-then-not-branch : goal.returns-then-not-branch
returns-then-not-branch c ts told =
    let so_far = c.loop-name.invariant ts told in
    let key = c.loop-name-item.result in
    let t : Telling = told_of (Key key.0) c.as_slice.result.now (Some c.args.caller) (Some c.args.master) in
    let same : t ≡ handed_key c.args.caller c.args.master key = ap (λ (bytes : List ℕ). told_of (Key key.0) bytes (Some c.args.caller) (Some c.args.master)) c.as_slice.ensures in
    let taken = c.in_ok-take.ensures {u = tt} so_far.0 so_far.1 in (
      keys_stop c.args.grants.now (handed_key c.args.caller c.args.master) c.args.keys.now c.loop-name.name-index key (omega arith) c.loop-name-item.is so_far.0 t _ same (sym taken.0 ∙ c.if-not-branch.true) so_far.2,
      λ e. absurd (let u : ⊥ = cc in u),
    )

pub returns : goal.returns
returns c ts told =
    let so_far = c.loop-name.invariant ts told in
    let gone = keys_end c.args.keys.now c.loop-name.name-index (omega arith) in
    let whole = sym (ap (λ (keys : List (Name × List ℕ)). all_fit c.args.grants.now so_far.0 (map (handed_key c.args.caller c.args.master) keys)) gone) ∙ so_far.2 in
    let ends = sym (ap (λ (keys : List (Name × List ℕ)). onto so_far.0 (map (handed_key c.args.caller c.args.master) keys)) gone) ∙ so_far.3 in
    (whole, λ e. subst (λ (ts : List Telling). AreTold c.loop-name.self ts) ends so_far.1)
