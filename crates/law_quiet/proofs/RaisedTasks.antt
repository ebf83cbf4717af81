-- After starts of all nodes and `link-up` lines of all links that went well, all is up.
use Rattle.std.proofs.Common.{◌≡◌, ℕ, Bool, true, false, List, [], ◌∷◌, ◌++◌, refl, sym, ◌∙◌, ap, subst, inl, inr}
use Rattle.std.specs.List.{list_any, list_all, AllByRecursion}
use Rattle.net_model.specs.World.{Network, World, first}
use Rattle.net_model.specs.Action.{Action, Recovery, Recovers, Start, SetLink}
use Rattle.net_model.specs.Step.{step}
use Rattle.run_types.specs.declared.command.Command.{Command}
use Rattle.run_types.specs.declared.command.Command.TheVariants as commands
use Rattle.run_types.specs.declared.entry.Entry.TheVariants.{Line, Block}
use Rattle.run_model.specs.Turn.{HttpTexts, turn_of}
use Rattle.run_model.specs.Outcomes.{start_items}
use Rattle.run_model.specs.Lines.{script_of, settle}
use Rattle.run_model.specs.Play.{Ending, Whole, CutShort, ForgedAt, NoMemory, Played, plain, play, IsPlay}
use Rattle.run_model.specs.Report.{Task, Begins, Does, Performed, Acts, Together, perform, IsPerformed, with_rest, report, IsRunOf}
use Rattle.law_base.proofs.Base.{or_cases, eq_from}
use Rattle.law_quiet.specs.Chains.{IsAllUp}
use Rattle.law_quiet.specs.Raised.{is_well, is_raising, IsRaising, starts_node, raises_link, has_line, EndsRaised}
use Rattle.law_quiet.proofs.Leading.{are_told, told_first, told_later, same_told, leads_play}
use Rattle.law_quiet.proofs.Raising.{IsHigher, higher_same, higher_then, IsUpAt, starts_well, IsUpLink, raises, settle_higher}
use Rattle.law_quiet.proofs.Settles.{split, later_of}
use Rattle.law_quiet.proofs.TaskRests.{whole_first, with_parts}

asked_start : (a : Action) (v : ℕ) → plain a ≡ Start v (Recovers false) → (recovery : Recovery) × (a ≡ Start v recovery)
asked_start (Start u recovery) v h = (recovery, cc)
asked_start _ v h = cc

asked_link : (a : Action) (k : ℕ) → plain a ≡ SetLink k true → a ≡ SetLink k true
asked_link (SetLink j up) k h = h
asked_link _ k h = cc

module _ (http : HttpTexts) (net : Network) where
  -- What a line of these kinds leaves up.
  record IsRaised (w x : World) (p : (Command → Bool) → Bool) : Type 0 where
    higher : IsHigher w x
    nodes : (v : ℕ) → p (starts_node v) ≡ true → x.up v ≡ true
    links : (k : ℕ) → p (raises_link k) ≡ true → x.link_up k ≡ true

  abbrev Raises : Command → World → Type 0
  Raises command w = (number : ℕ) (actions : List Action) → is_raising command ≡ true → IsPlay net w (script_of http net.site command) actions →
      (play net number w (script_of http net.site command) actions).ending ≡ Whole → are_told is_well (play net number w (script_of http net.site command) actions).items ≡ true →
      IsRaised w (play net number w (script_of http net.site command) actions).world (λ q. q command)

  start_line : (v : ℕ) (w : World) → Raises (commands.Start v) w
  unfolding turn_of
  start_line v w number actions kind plays whole told =
      let r = leads_play net is_well (IsUpAt net w v) number (script_of http net.site (commands.Start v)) w actions
      (λ a asked may well. let is = asked_start a v asked in
      subst (λ (x : Action). list_all is_well (start_items (step net w x).1) ≡ true → IsUpAt net w v (step net w x).0) (sym is.1) (starts_well net w v is.0) well) plays whole told in
      record { higher = r.higher; nodes = λ u h. subst (λ (k : ℕ). (play net number w (script_of http net.site (commands.Start v)) actions).world.up k ≡ true) (eq_from v u h) r.here; links = λ k h. cc }

  link_line : (k : ℕ) (w : World) → Raises (commands.LinkUp k) w
  unfolding turn_of
  link_line k w number actions kind plays whole told =
      let r = leads_play net is_well (IsUpLink net w k) number (script_of http net.site (commands.LinkUp k)) w actions
      (λ a asked may well. subst (λ (x : Action). IsUpLink net w k (step net w x).0) (sym (asked_link a k asked)) (raises net w k)) plays whole told in
      record { higher = r.higher; nodes = λ u h. cc; links = λ j h. subst (λ (i : ℕ). (play net number w (script_of http net.site (commands.LinkUp k)) actions).world.link_up i ≡ true) (eq_from k j h) r.here }

  settle_line : (rounds : ℕ) (w : World) → Raises (commands.Settle rounds) w
  settle_line rounds w number actions kind plays whole told = record {
    higher = leads_play net is_well (IsHigher w) number (settle net.site rounds) w actions (settle_higher net w rounds w (higher_same w)) plays whole told;
    nodes = λ u h. cc;
    links = λ k h. cc;
  }

  any_line : (command : Command) (w : World) → Raises command w
  any_line (commands.Start v) w = start_line v w
  any_line (commands.LinkUp k) w = link_line k w
  any_line (commands.Settle rounds) w = settle_line rounds w
  any_line _ w = λ number actions kind plays whole told. cc

  module _ (workers : ℕ) where
    one_task : (t : Task) (d : Performed) (w : World) → IsRaising t → IsPerformed http net workers w t d → (perform http net w t d).ending ≡ Whole →
        are_told is_well (perform http net w t d).items ≡ true → IsRaised w (perform http net w t d).world (λ q. has_line q t)
    unfolding perform
    one_task (Does (Line line)) (Acts actions) w kind plays whole told = any_line line.command w line.number actions kind plays whole told
    one_task (Does (Line line)) (Together works) w kind plays whole told = absurd plays
    one_task (Does (Block lines)) d w kind plays whole told = absurd kind
    one_task (Begins number v) d w kind plays whole told = absurd kind

    then_raised : (w : World) (t : Task) (ts : List Task) (e : Ending) (p rest : Played) → p.ending ≡ e → IsRaised w p.world (λ q. has_line q t) → e ≡ Whole →
        IsRaised p.world rest.world (λ q. list_any (has_line q) ts) → IsRaised w (with_rest e p rest).world (λ q. list_any (has_line q) (t ∷ ts))
    then_raised w t ts Whole p rest is one whole more = record {
      higher = higher_then w p.world rest.world one.higher more.higher;
      nodes = λ v h. elim (or_cases (has_line (starts_node v) t) (list_any (has_line (starts_node v)) ts) h) [ inl here ↦ more.higher.nodes v (one.nodes v here) | inr later ↦ more.nodes v later ];
      links = λ k h. elim (or_cases (has_line (raises_link k) t) (list_any (has_line (raises_link k)) ts) h) [ inl here ↦ more.higher.links k (one.links k here) | inr later ↦ more.links k later ];
    }
    then_raised w t ts CutShort p rest is one whole more = cc
    then_raised w t ts (ForgedAt number) p rest is one whole more = cc
    then_raised w t ts NoMemory p rest is one whole more = cc

    all_raised : (ts : List Task) (ds : List Performed) (w : World) → AllByRecursion IsRaising ts → IsRunOf http net workers w ts ds → (report http net w ts ds).ending ≡ Whole →
        are_told is_well (report http net w ts ds).items ≡ true → IsRaised w (report http net w ts ds).world (λ q. list_any (has_line q) ts)
    unfolding report
    all_raised [] [] w each plays whole told = record { higher = higher_same w; nodes = λ v h. cc; links = λ k h. cc }
    all_raised [] (d ∷ ds) w each plays whole told = absurd plays
    all_raised (t ∷ ts) [] w each plays whole told = cc
    all_raised (t ∷ ts) (d ∷ ds) w each plays whole told =
        let p : Played = perform http net w t d in
        let rest : Played = report http net p.world ts ds in
        let end = whole_first p.ending p rest refl whole in
        let both = with_parts p.ending p rest end in
        let all = ap (are_told is_well) (sym both.0) ∙ told in
        let one = one_task t d w each.0 plays.0 end (told_first is_well p.items rest.items all) in
        let more = all_raised ts ds p.world each.1 (later_of http net workers p.ending (IsRunOf http net workers p.world ts ds) (ds ≡ []) end plays.1) (sym both.1 ∙ whole)
        (told_later is_well p.items rest.items all) in
        then_raised w t ts p.ending p rest refl one end more

    pub all_up : (earlier raising : List Task) (done more : List Performed) → EndsRaised http net workers earlier raising done more →
        IsAllUp net (report http net first (earlier ++ raising) (done ++ more)).world
    all_up earlier raising done more h =
        let s = split http net workers raising more first earlier done h.apart h.run h.whole in
        let early : Played = report http net first earlier done in
        let later : Played = report http net early.world raising more in
        let items = same_told early.items later.items h.told (ap (λ (p : Played). p.items) (sym s.same) ∙ h.tells) in
        let r = all_raised raising more early.world h.each s.later (ap (λ (p : Played). p.ending) (sym s.same) ∙ h.whole) (ap (are_told is_well) items ∙ h.well) in
        let world = ap (λ (p : Played). p.world) s.same in
        record {
          nodes = λ v here. ap (λ (x : World). x.up v) world ∙ r.nodes v (h.nodes v here);
          links = λ k here. ap (λ (x : World). x.link_up k) world ∙ r.links k (h.links k here);
        }
