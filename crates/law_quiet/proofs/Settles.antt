-- The run of a scenario whose last lines are silent settles ends in silent rounds.
use Rattle.std.proofs.Common.{◌≡◌, ℕ, suc, ◌<◌, List, [], ◌∷◌, ◌++◌, length, refl, sym, ◌∙◌, ap, subst, arith, append_assoc}
use Rattle.std.specs.List.{AllByRecursion}
use Rattle.net_model.specs.Premises.{IsNetwork}
use Rattle.net_model.specs.World.{Network, World, first}
use Rattle.net_model.specs.Invariant.{Conserved}
use Rattle.run_types.specs.declared.command.Command.TheVariants.{Settle}
use Rattle.run_types.specs.declared.entry.Entry.TheVariants.{Line}
use Rattle.run_types.specs.declared.item.NumberedItem.{NumberedItem}
use Rattle.run_model.specs.Turn.{HttpTexts}
use Rattle.run_model.specs.Play.{Ending, Whole, CutShort, ForgedAt, NoMemory, Played, reporting, OneOf}
use Rattle.run_model.specs.Report.{Task, Does, Performed, Acts, Together, perform, IsPerformed, is_whole, with_rest, report, IsRunOf, actions_of}
use Rattle.law_invariant.proofs.Steps.{first_keeps}
use Rattle.law_locality.specs.Quiet.{IsQuiet}
use Rattle.law_run.proofs.Tasks.{tasks_are_run}
use Rattle.law_quiet.specs.Awaited.{IsAwaited}
use Rattle.law_quiet.specs.Between.{AskRequests}
use Rattle.law_quiet.specs.Chains.{AreChained}
use Rattle.law_quiet.specs.Noted.{IsNoted}
use Rattle.law_quiet.specs.Settled.{IsSettle, EndsSilent}
use Rattle.law_quiet.specs.Silent.{AreSilent, NoneAwaits}
use Rattle.law_quiet.proofs.AwaitedRuns.{run_awaited, quiet_awaits}
use Rattle.law_quiet.proofs.ChainedSteps.{first_chained, run_chained}
use Rattle.law_quiet.proofs.NotedSteps.{run_noted}
use Rattle.law_quiet.proofs.Plays.{first_none, second_none}
use Rattle.law_quiet.proofs.Quieting.{first_quiet}
use Rattle.law_quiet.proofs.SilentSettles.{IsSilent, silent_line}
use Rattle.law_quiet.proofs.TaskRests.{whole_first, tasks_rest}

module _ (http : HttpTexts) (net : Network) (workers : ℕ) where
  -- The later tasks begin where the earlier ones led.
  pub record IsSplit (us : List Task) (es : List Performed) (early all : Played) (R : Type 0) : Type 0 where
    pub earlier : R
    pub whole : early.ending ≡ Whole
    pub later : IsRunOf http net workers early.world us es
    pub same : all ≡ reporting early.items (report http net early.world us es)

  -- One more task before them.
  split_more : (us : List Task) (es : List Performed) (e : Ending) (p early all : Played) (R : Type 0) (ds : List Performed) → p.ending ≡ e → (with_rest e p all).ending ≡ Whole →
      (e ≡ Whole → IsSplit us es early all R) → IsSplit us es (with_rest e p early) (with_rest e p all) (OneOf (is_whole e) R (ds ≡ []))
  split_more us es Whole p early all R ds is whole more =
      let r = more refl in
      let items : p.items ++ early.items ++ (report http net early.world us es).items ≡ p.items ++ (early.items ++ (report http net early.world us es).items) =
      append_assoc p.items early.items (report http net early.world us es).items in
      record {
        earlier = r.earlier;
        whole = r.whole;
        later = r.later;
        same = ap (reporting p.items) r.same ∙ (λ i. record (report http net early.world us es) { items = sym items i });
      }
  split_more us es CutShort p early all R ds is whole more = cc
  split_more us es (ForgedAt number) p early all R ds is whole more = cc
  split_more us es NoMemory p early all R ds is whole more = cc

  pub later_of : (e : Ending) (A B : Type 0) → e ≡ Whole → OneOf (is_whole e) A B → A
  later_of e A B is h = subst (λ (x : Ending). OneOf (is_whole x) A B) is h

  pub split : (us : List Task) (es : List Performed) (w : World) (ts : List Task) (ds : List Performed) → length ds ≡ length ts → IsRunOf http net workers w (ts ++ us) (ds ++ es) →
      (report http net w (ts ++ us) (ds ++ es)).ending ≡ Whole →
      IsSplit us es (report http net w ts ds) (report http net w (ts ++ us) (ds ++ es)) (IsRunOf http net workers w ts ds)
  unfolding report
  split us es w [] [] apart plays whole = record { earlier = tt; whole = refl; later = plays; same = refl }
  split us es w [] (d ∷ ds) apart plays whole = absurd (omega (arith, apart))
  split us es w (t ∷ ts) [] apart plays whole = absurd (omega (arith, apart))
  split us es w (t ∷ ts) (d ∷ ds) apart plays whole =
      let p : Played = perform http net w t d in
      let all : Played = report http net p.world (ts ++ us) (ds ++ es) in
      let end = whole_first p.ending p all refl whole in
      let r = split_more us es p.ending p (report http net p.world ts ds) all (IsRunOf http net workers p.world ts ds) ds refl whole
      (λ e. split us es p.world ts ds (omega (arith, apart)) (later_of p.ending (IsRunOf http net workers p.world (ts ++ us) (ds ++ es)) (ds ++ es ≡ []) e plays.1)
      (rest_whole p.ending p all e whole)) in
      record { earlier = (plays.0, r.earlier); whole = r.whole; later = r.later; same = r.same }
    where
      rest_whole : (e : Ending) (p rest : Played) → e ≡ Whole → (with_rest e p rest).ending ≡ Whole → rest.ending ≡ Whole
      rest_whole Whole p rest is whole = whole
      rest_whole CutShort p rest is whole = cc
      rest_whole (ForgedAt number) p rest is whole = cc
      rest_whole NoMemory p rest is whole = cc

  -- Settles that report nothing.

  silent_parts : (e : Ending) (p rest : Played) → p.ending ≡ e → IsSilent net 0 (with_rest e p rest) → IsSilent net 0 p × IsSilent net 0 rest × ((with_rest e p rest).world ≡ rest.world)
  silent_parts Whole p rest is s = (
    record { items = first_none p.items rest.items s.items; whole = is },
    record { items = second_none p.items rest.items s.items; whole = s.whole },
    refl,
  )
  silent_parts CutShort p rest is s = let x = s.whole in cc
  silent_parts (ForgedAt number) p rest is s = let x = s.whole in cc
  silent_parts NoMemory p rest is s = let x = s.whole in cc

  one_settle : (w : World) (number rounds : ℕ) → 0 < rounds → (d : Performed) → IsPerformed http net workers w (Does (Line (record { number = number; command = Settle rounds }))) d →
      IsSilent net 0 (perform http net w (Does (Line (record { number = number; command = Settle rounds }))) d) →
      AreSilent 1 net w (perform http net w (Does (Line (record { number = number; command = Settle rounds }))) d).world
  unfolding perform
  one_settle w number rounds some (Acts actions) plays s = silent_line net number w rounds actions some plays (record { items = s.items; whole = s.whole })
  one_settle w number rounds some (Together works) plays s = absurd plays

  then_silent : (n : ℕ) (w x after : World) → AreSilent 1 net w x → AreSilent n net x after → AreSilent (suc n) net w after
  then_silent n w x after one rest = (one.0, subst (λ (y : World). AreSilent n net y after) (sym one.1) rest)

  pub settles_silent : (us : List Task) (w : World) (es : List Performed) → AllByRecursion IsSettle us → IsRunOf http net workers w us es → IsSilent net 0 (report http net w us es) →
      AreSilent (length us) net w (report http net w us es).world
  unfolding report
  settles_silent [] w [] each plays s = refl
  settles_silent [] w (e ∷ es) each plays s = absurd plays
  settles_silent (u ∷ us) w [] each plays s = let x = s.whole in cc
  settles_silent (u ∷ us) w (e ∷ es) each plays s =
      let p : Played = perform http net w u e in
      let rest : Played = report http net p.world us es in
      let parts = silent_parts p.ending p rest refl s in
      let k = each.0 in
      let one : AreSilent 1 net w p.world =
      subst (λ (t : Task). IsPerformed http net workers w t e → IsSilent net 0 (perform http net w t e) → AreSilent 1 net w (perform http net w t e).world) (sym k.is)
      (λ done silent. one_settle w k.number k.rounds k.some e done silent) plays.0 parts.0 in
      let more = settles_silent us p.world es each.1 (later_of p.ending (IsRunOf http net workers p.world us es) (es ≡ []) parts.0.whole plays.1) parts.1 in
      subst (λ (x : World). AreSilent (suc (length us)) net w x) (sym parts.2) (then_silent (length us) w p.world rest.world one more)

  -- What is known of the world between two lines.
  pub record IsBetween (w : World) : Type 0 where
    pub conserved : Conserved net w
    pub quiet : IsQuiet w
    pub awaits : NoneAwaits w
    pub noted : IsNoted w
    pub chained : AreChained net w

  pub between : IsNetwork net → (ts : List Task) → AskRequests http ts → (ds : List Performed) → IsRunOf http net workers first ts ds → (report http net first ts ds).ending ≡ Whole →
      IsBetween (report http net first ts ds).world
  between network ts requests ds plays whole =
      let rests = tasks_rest http net network workers first (first_keeps net, first_quiet.0) ts requests ds plays whole in
      let runs = tasks_are_run http net network workers first (first_keeps net) ts ds plays in
      record {
        conserved = rests.0;
        quiet = rests.1;
        awaits = quiet_awaits net (report http net first ts ds).world (subst (IsAwaited net) (sym runs.1) (run_awaited net (actions_of net ds) network runs.0)) rests.1;
        noted = subst IsNoted (sym runs.1) (run_noted net (actions_of net ds) network runs.0);
        chained = subst (AreChained net) (sym runs.1) (run_chained net (actions_of net ds) first (first_chained net) runs.0);
      }

  -- The whole: between the earlier lines and the settles, and the rounds from there on.
  pub record IsRest (w after : World) (n : ℕ) : Type 0 where
    pub start : IsBetween w
    pub rounds : AreSilent n net w after

  same_none : (xs ys : List NumberedItem) → xs ++ ys ≡ xs → ys ≡ []
  same_none [] ys h = h
  same_none (x ∷ xs) ys h = same_none xs ys (tail h)
    where
      tail : {x : NumberedItem} {us vs : List NumberedItem} → x ∷ us ≡ x ∷ vs → us ≡ vs
      tail h = cc

  pub rest_of : IsNetwork net → (count : ℕ) (ts us : List Task) → AskRequests http ts → (ds es : List Performed) → EndsSilent http net workers count ts us ds es →
      IsRest (report http net first ts ds).world (report http net first (ts ++ us) (ds ++ es)).world count
  rest_of network count ts us requests ds es h =
      let early : Played = report http net first ts ds in
      let all : Played = report http net first (ts ++ us) (ds ++ es) in
      let parts = split us es first ts ds h.apart h.run h.whole in
      let later : Played = report http net early.world us es in
      let none = same_none early.items later.items (ap (λ (p : Played). p.items) (sym parts.same) ∙ h.silent) in
      let rounds = settles_silent us early.world es h.each parts.later (record { items = none; whole = ap (λ (p : Played). p.ending) (sym parts.same) ∙ h.whole }) in
      record {
        start = between network ts requests ds parts.earlier parts.whole;
        rounds = subst (λ (x : World). AreSilent count net early.world x) (ap (λ (p : Played). p.world) (sym parts.same))
            (subst (λ (n : ℕ). AreSilent n net early.world later.world) h.many rounds);
      }
