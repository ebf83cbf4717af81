-- A settle that reports nothing is one silent round.
use Rattle.std.proofs.Common.{◌≡◌, ℕ, zero, suc, ◌-◌, ◌<◌, Bool, true, false, List, [], ◌∷◌, length, refl, sym, ◌∙◌, ap, subst, arith}
use Rattle.std.specs.Prelude.{nat_lt, sum_by, if◌then◌else◌}
use Rattle.std.proofs.lemmas.Bool.Decides.{nat_tests}
use Rattle.qkd_base.specs.declared.lane.Lane.{Lane}
use Rattle.net_model.specs.declared.event.Event.{Event}
use Rattle.net_model.specs.declared.event.Event.TheVariants.{Plan, Note}
use Rattle.net_model.specs.declared.reply.Reply.TheVariants.{Planned}
use Rattle.net_model.specs.Site.{count_up, outgoing_lanes}
use Rattle.net_model.specs.World.{Network, World}
use Rattle.net_model.specs.Action.{Environment, Ok, Action, Ask, Complete, Outcome, Replies}
use Rattle.net_model.specs.Handle.{commit, stopped, handle}
use Rattle.net_model.specs.Step.{step, IsStep}
use Rattle.net_model.specs.Tick.{Emission}
use Rattle.run_types.specs.declared.item.Item.{Item}
use Rattle.run_model.specs.Script.{Script, Ends, Reports, Looks, Asks, GivesUp, then_comes}
use Rattle.run_model.specs.Outcomes.{plan_items}
use Rattle.run_model.specs.Lines.{emitted, after_plan, ticked, ticks, all_lanes, passes, all_passes, on_wires, settle}
use Rattle.run_model.specs.Play.{Whole, Played, numbered, reporting, play, IsPlay}
use Rattle.law_base.proofs.Base.{by_test, when_true, when_false, not_both}
use Rattle.law_base.proofs.Walks.{perform_walk, handle_walk}
use Rattle.law_quiet.specs.Silent.{IsIdle, ticked as idled, after_ticks, AreIdle, AreSilent}
use Rattle.law_quiet.proofs.IdleTicks.{none_ticked}
use Rattle.law_quiet.proofs.Plays.{first_none, second_none, unnumbered, answered}
use Rattle.law_quiet.proofs.SilentPlans.{asked_plan, asked_note, silent_plan}

four_steps : {p q r s t : Played} → p ≡ q → q ≡ r → r ≡ s → s ≡ t → p ≡ t
four_steps a b c d = a ∙ b ∙ c ∙ d

module _ (net : Network) (number : ℕ) where
  -- The play came to its end, and reported nothing.
  pub record IsSilent (p : Played) : Type 0 where
    pub items : p.items ≡ []
    pub whole : p.ending ≡ Whole

  -- These nodes' ticks were idle, and the rest of the play follows.
  record AreTicked (w : World) (vs : List ℕ) (last : Script) (p : Played) : Type 0 where
    idle : AreIdle net w vs
    rest : List Action
    plays : IsPlay net (after_ticks net w vs) last rest
    same : p ≡ play net number (after_ticks net w vs) last rest

  silent_rest : (items : List Item) (p : Played) → IsSilent (reporting (numbered number items) p) → (items ≡ []) × IsSilent p
  silent_rest items p s = (unnumbered number items (first_none (numbered number items) p.items s.items), record { items = second_none (numbered number items) p.items s.items; whole = s.whole })

  silent_same : (p q : Played) → p ≡ q → IsSilent p → IsSilent q
  silent_same p q e s = subst IsSilent e s

  -- A node's tick.
  record IsTicked (w : World) (v : ℕ) (after : Script) (p : Played) : Type 0 where
    idle : IsIdle net w v
    rest : List Action
    plays : IsPlay net (idled net w v) after rest
    same : p ≡ play net number (idled net w v) after rest

  -- What the plan leaves: the note of no placing.
  noted : (w : World) (v : ℕ) (after : Script) (actions : List Action) → IsPlay net w (then_comes (emitted v []) after) actions →
      (play net number w (then_comes (emitted v []) after) actions).ending ≡ Whole →
      (rest : List Action) × IsPlay net (step net w (Complete v)).0 after rest × (play net number w (then_comes (emitted v []) after) actions ≡ play net number (step net w (Complete v)).0 after rest)
  unfolding then_comes emitted
  noted w v after actions plays whole =
      let a = answered net number w (Complete v) (λ out. after) actions plays whole in
      let is = asked_note a.one v a.asked in (
        a.rest,
        subst (λ (x : Action). IsPlay net (step net w x).0 after a.rest) is a.plays,
        a.same ∙ ap (λ (x : Action). play net number (step net w x).0 after a.rest) is,
      )

  abbrev later : ℕ → Script → Outcome → Script
  later v after out = Reports (plan_items true v out) (then_comes (after_plan net.site v out) after)

  -- Where the plan was idle, its play goes on with the note.
  planned_on : (w : World) (v : ℕ) (after : Script) (out : Outcome) (rest : List Action) → out ≡ Replies (Planned [] [] []) → IsPlay net w (later v after out) rest →
      IsPlay net w (then_comes (emitted v []) after) rest × (play net number w (later v after out) rest ≡ play net number w (then_comes (emitted v []) after) rest)
  unfolding play
  planned_on w v after out rest said plays =
      let none = none_ticked (outgoing_lanes net.site v) in
      let there = subst (λ (o : Outcome). IsPlay net w (later v after o) rest) said plays in (
        subst (λ (es : List Emission). IsPlay net w (then_comes (emitted v es) after) rest) none there,
        ap (λ (o : Outcome). play net number w (later v after o) rest) said ∙ ap (λ (es : List Emission). play net number w (then_comes (emitted v es) after) rest) none,
      )

  reports_none : (x : World) (v : ℕ) (after : Script) (out : Outcome) (rest : List Action) → IsSilent (play net number x (later v after out) rest) → plan_items true v out ≡ []
  unfolding play
  reports_none x v after out rest s = (silent_rest (plan_items true v out) (play net number x (then_comes (after_plan net.site v out) after) rest) s).0

  tick_goes : (w : World) (v : ℕ) (after : Script) (actions : List Action) → IsPlay net w (then_comes (ticked net.site true v) after) actions →
      IsSilent (play net number w (then_comes (ticked net.site true v) after) actions) → IsTicked w v after (play net number w (then_comes (ticked net.site true v) after) actions)
  unfolding then_comes ticked
  tick_goes w v after actions plays silent =
      let a = answered net number w (Ask v Plan Ok) (later v after) actions plays silent.whole in
      let asked = asked_plan a.one v a.asked in
      let out : Outcome = (step net w a.one).1 in
      let quiet = reports_none (step net w a.one).0 v after out a.rest (silent_same (play net number w (Asks (Ask v Plan Ok) (later v after)) actions) _ a.same silent) in
      let found = silent_plan net w v asked.environment (subst (IsStep net w) asked.is a.may) (subst (λ (x : Action). plan_items true v (step net w x).1 ≡ []) asked.is quiet) in
      let plan : a.one ≡ Ask v Plan Ok = asked.is ∙ ap (Ask v Plan) found.0 in
      let on = planned_on (step net w a.one).0 v after out a.rest (ap (λ (x : Action). (step net w x).1) plan ∙ found.1) a.plays in
      let last = noted (step net w a.one).0 v after a.rest on.0 (ap (λ (p : Played). p.ending) (sym (a.same ∙ on.1)) ∙ silent.whole) in
      record {
        idle = found.1;
        rest = last.0;
        plays = subst (λ (x : Action). IsPlay net (step net (step net w x).0 (Complete v)).0 after last.0) plan last.1;
        same = four_steps {s = play net number (step net (step net w a.one).0 (Complete v)).0 after last.0} {t = play net number (idled net w v) after last.0} a.same on.1 last.2 (ap (λ (x : Action). play net number (step net (step net w x).0 (Complete v)).0 after last.0) plan);
      }

  -- The ticks of a round, one after another.

  then_assoc : (a b last : Script) → then_comes (then_comes a b) last ≡ then_comes a (then_comes b last)
  unfolding then_comes
  then_assoc Ends b last = refl
  then_assoc (Reports items next) b last = ap (Reports items) (then_assoc next b last)
  then_assoc (Looks next) b last = λ i. Looks (λ w. then_assoc (next w) b last i)
  then_assoc (Asks action next) b last = λ i. Asks action (λ out. then_assoc (next out) b last i)
  then_assoc GivesUp b last = refl

  abbrev turn : Bool → ℕ → List ℕ → Script → Script
  turn up v vs last = then_comes (then_comes (if up then ticked net.site true v else Ends) (ticks net.site vs)) last

  abbrev Goes : List ℕ → Type 0
  Goes vs = (w : World) (last : Script) (actions : List Action) → IsPlay net w (then_comes (ticks net.site vs) last) actions →
      IsSilent (play net number w (then_comes (ticks net.site vs) last) actions) → AreTicked w vs last (play net number w (then_comes (ticks net.site vs) last) actions)

  -- The node was up and ticked, or was down and left out, and the ticks of the others follow.
  one_more : (w : World) (v : ℕ) (vs : List ℕ) (last : Script) (p : Played) (x : World) → (if w.up v then idled net w v else w) ≡ x → (w.up v ≡ true → IsIdle net w v) →
      AreTicked x vs last p → AreTicked w (v ∷ vs) last p
  one_more w v vs last p x is idle r = record {
    idle = (idle, subst (λ (y : World). AreIdle net y vs) (sym is) r.idle);
    rest = r.rest;
    plays = subst (λ (y : World). IsPlay net (after_ticks net y vs) last r.rest) (sym is) r.plays;
    same = r.same ∙ ap (λ (y : World). play net number (after_ticks net y vs) last r.rest) (sym is);
  }

  turn_goes : (v : ℕ) (vs : List ℕ) → Goes vs → (w : World) (last : Script) (actions : List Action) (b : Bool) → w.up v ≡ b → IsPlay net w (turn b v vs last) actions →
      IsSilent (play net number w (turn b v vs last) actions) → AreTicked w (v ∷ vs) last (play net number w (turn b v vs last) actions)
  unfolding then_comes
  turn_goes v vs goes w last actions true up plays silent =
      let e = then_assoc (ticked net.site true v) (ticks net.site vs) last in
      let after : Script = then_comes (ticks net.site vs) last in
      let same = ap (λ (s : Script). play net number w s actions) e in
      let t = tick_goes w v after actions (subst (λ (s : Script). IsPlay net w s actions) e plays) (silent_same _ _ same silent) in
      let r = goes (idled net w v) last t.rest t.plays (silent_same _ _ (same ∙ t.same) silent) in
      subst (AreTicked w (v ∷ vs) last) (sym (same ∙ t.same)) (one_more w v vs last _ (idled net w v) (when_true (w.up v) (idled net w v) w up) (λ k. t.idle) r)
  turn_goes v vs goes w last actions false down plays silent =
      one_more w v vs last _ w (when_false (w.up v) (idled net w v) w down) (λ up. absurd (not_both (w.up v) up down)) (goes w last actions plays silent)

  ticks_go : (vs : List ℕ) → Goes vs
  unfolding then_comes play
  ticks_go [] w last actions plays silent = record { idle = tt; rest = actions; plays = plays; same = refl }
  ticks_go (v ∷ vs) w last actions plays silent = turn_goes v vs (ticks_go vs) w last actions (w.up v) refl plays silent

  -- Idle ticks put nothing on a wire, so no frame is passed, and no round follows.

  abbrev SameWires : World → World → Type 0
  SameWires w x = x.wire ≡ w.wire

  event_wires : (w : World) (v : ℕ) (event : Event) (environment : Environment) → SameWires w (handle net w v event environment).0
  unfolding commit stopped
  event_wires w v event environment =
      handle_walk net w (SameWires w) refl v event environment (λ up e is. perform_walk net w (SameWires w) refl v _ environment e (λ numbered fits. refl) (λ numbered fits. refl))

  tick_wires : (w : World) (v : ℕ) → SameWires w (idled net w v)
  unfolding step
  tick_wires w v =
      let between : World = (step net w (Ask v Plan Ok)).0 in
      event_wires between v (Note (between.placings v)) Ok ∙ event_wires w v Plan Ok

  ticks_wires : (vs : List ℕ) (w : World) → SameWires w (after_ticks net w vs)
  ticks_wires [] w = refl
  ticks_wires (v ∷ vs) w =
      ticks_wires vs (if w.up v then idled net w v else w) ∙ by_test (SameWires w) (w.up v) (idled net w v) w (λ up. tick_wires w v) (λ down. refl)

  none_passed : (before now : World) → SameWires before now → (ls : List Lane) (last : Script) → then_comes (all_passes before now ls) last ≡ last
  unfolding then_comes
  none_passed before now same [] last = refl
  none_passed before now same (l ∷ ls) last =
      let more : length (now.wire l) - length (before.wire l) ≡ 0 = ap (λ (f : Lane → List ℕ). length (f l) - length (before.wire l)) same ∙ nothing (length (before.wire l)) in
      ap (λ (n : ℕ). then_comes (then_comes (passes l (length (before.wire l)) n) (all_passes before now ls)) last) more ∙ none_passed before now same ls last
    where
      nothing : (n : ℕ) → n - n ≡ 0
      nothing n = omega arith

  same_count : (before now : World) → SameWires before now → nat_lt (on_wires net.site before) (on_wires net.site now) ≡ false
  same_count before now same =
      ap (λ (f : Lane → List ℕ). nat_lt (on_wires net.site before) (sum_by (λ l. length (f l)) (all_lanes net.site))) same ∙ not_less (on_wires net.site before)
    where
      not_less : (n : ℕ) → nat_lt n n ≡ false
      not_less n = grind (arith, nat_tests)

  ends_there : (rounds : ℕ) (before now : World) (rest : List Action) → SameWires before now →
      (play net number now (Looks (λ x. then_comes (all_passes before x (all_lanes net.site)) (if nat_lt (on_wires net.site before) (on_wires net.site x) then settle net.site rounds else Ends))) rest).world ≡ now
  unfolding play
  ends_there rounds before now rest same =
      ap (λ (s : Script). (play net number now s rest).world)
      (none_passed before now same (all_lanes net.site) _ ∙ ap (λ (b : Bool). if b then settle net.site rounds else Ends) (same_count before now same))

  silent_settle : (w : World) (rounds : ℕ) (actions : List Action) → IsPlay net w (settle net.site (suc rounds)) actions → IsSilent (play net number w (settle net.site (suc rounds)) actions) →
      AreSilent 1 net w (play net number w (settle net.site (suc rounds)) actions).world
  unfolding settle play
  silent_settle w rounds actions plays silent =
      let t = ticks_go (count_up net.site.nodes) w
      (Looks (λ x. then_comes (all_passes w x (all_lanes net.site)) (if nat_lt (on_wires net.site w) (on_wires net.site x) then settle net.site rounds else Ends))) actions plays silent in
      let now : World = after_ticks net w (count_up net.site.nodes) in
      (t.idle, sym (ap (λ (p : Played). p.world) t.same ∙ ends_there rounds w now t.rest (ticks_wires (count_up net.site.nodes) w)))

  pub silent_line : (w : World) (rounds : ℕ) (actions : List Action) → 0 < rounds → IsPlay net w (settle net.site rounds) actions → IsSilent (play net number w (settle net.site rounds) actions) →
      AreSilent 1 net w (play net number w (settle net.site rounds) actions).world
  silent_line w zero actions some plays silent = absurd (omega (arith, some))
  silent_line w (suc rounds) actions some plays silent = silent_settle w rounds actions plays silent
