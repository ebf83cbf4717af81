use Rattle.std.proofs.Common.{◌≡◌, ℕ, ◌+◌, List, [], length, Some, refl, sym, ap, subst, ◌∙◌, arith}
use Rattle.std.specs.Prelude.{slice_get}
use Rattle.std.proofs.lemmas.Grind.{common_steps}
use Rattle.par_managers.proofs.Openings.{opened_long}
use Rattle.kme_shared.specs.Sheets.{IsDealt}
use Rattle.kme_shared.proofs.Dealt.{each_more, few_nodes, opened_fit, row_dealt}
use Rattle.kme_shared.proofs.node_sheets.sheets.Goals as goal
use Rattle.world_state.specs.Outside.{outside}

pub loop-number-init : goal.loop-number-init
loop-number-init g c = record {
  nodes = few_nodes (outside g.K.Disk g.Q.Device g.E.Entropy g.X.Wire) c.args.state.now c.requires.ready.0 c.requires.ready.1 c.requires.ready.2;
  below = omega arith;
  made = c.in_ok-sheets.ensures.len;
  room = omega (arith, c.in_ok-sheets.ensures.capacity, c.len.ensures, c.args.state.now.posts.ok.0);
  fits = opened_fit c.args.state.now c.args.shares.now c.args.issuers.now c.requires.opened.0 c.requires.opened.1;
  left = λ i side at above. refl;
  dealt = none (λ n sheet. IsDealt c.args.state.now c.args.shares.now n sheet.issuers.items sheet.opening.value) c.in_ok-sheets.ensures.items;
}
  where
    none : {A : Type 0} (P : ℕ → A → Type 0) {xs : List A} → xs ≡ [] → (i : ℕ) (x : A) → slice_get xs i ≡ Some x → P i x
    none P e i x at = let no = ap (λ ys. slice_get ys i) (sym e) ∙ at in cc

pub node_row-requires : goal.node_row-requires
node_row-requires g c = record {
  sides = (opened_long c.args.state.now c.args.state.now.lanes.items c.args.shares.now c.args.issuers.now c.requires.opened.0 c.requires.opened.1).0 ∙ ap (λ xs. length xs) (sym c.deref.ensures.value);
  fits = c.loop-number.invariant.fits;
}

pub push_reserved-requires : goal.push_reserved-requires
push_reserved-requires g c =
    let inv = c.loop-number.invariant in
    omega (arith, inv.made, inv.room, c.loop-number-test.true, c.len-number-end.ensures, c.args.state.now.posts.ok.0)

pub loop-number-preserved : goal.loop-number-preserved
loop-number-preserved g c =
    let inv = c.loop-number.invariant in
    let s = c.args.state.now in
    let shares = c.args.shares.now in
    let a = c.requires.ready in
    let push = c.push_reserved.ensures in
    let row = c.in_ok-row.ensures in
    let lanes = c.deref.ensures.value in
    let node = c.unwrap-node.result in
    let is : node ≡ c.loop-number.number = grind (arith, common_steps, c.new.ensures, c.unwrap-node.ensures) in
    let dealt = row_dealt s shares c.args.issuers.now c.requires.opened.0 c.requires.opened.1 (outside g.K.Disk g.Q.Device g.E.Entropy g.X.Wire) a.0 a.1 a.2
    node c.in_ok-row.row.items row.row.fits
    (λ i side at from. row.row.own i side (ap (λ xs. slice_get xs i) lanes ∙ at) from ∙ inv.left i side at (omega (arith, from, is))) c.of-opening.result.value c.of-opening.ensures in
    record {
      nodes = inv.nodes;
      below = omega (arith, c.loop-number-test.true, c.len-number-end.ensures, c.args.state.now.posts.ok.0);
      made = push.len ∙ ap (λ n. n + 1) inv.made;
      room = omega (arith, push.capacity, inv.room);
      fits = row.fits;
      left = λ i side at above. row.others i side (ap (λ xs. slice_get xs i) lanes ∙ at) (λ from. absurd (omega (arith, above, from, is))) ∙ inv.left i side at (omega (arith, above));
      dealt = λ v sheet at.
          each_more (λ n sheet. IsDealt s shares n sheet.issuers.items sheet.opening.value) c.loop-number.sheets.items _ inv.dealt
          (subst (λ n. IsDealt s shares n c.in_ok-row.row.items c.of-opening.result.value) (is ∙ sym inv.made ∙ c.loop-number.sheets.ok.0) dealt) v sheet (ap (λ xs. slice_get xs v) (sym push.items) ∙ at);
    }

pub returns-clause-nodes : goal.returns-clause-nodes
returns-clause-nodes g c =
    let inv = c.loop-number.invariant in
    omega (arith, inv.made, inv.below, c.loop-number.sheets.ok.0, c.loop-number-test.false, c.len-number-end.ensures, c.args.state.now.posts.ok.0)

pub returns-clause-dealt : goal.returns-clause-dealt
returns-clause-dealt g c = c.loop-number.invariant.dealt
