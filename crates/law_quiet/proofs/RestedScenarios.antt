-- A scenario after a rest: lines that the rest outlasts, and then one silent settle.
use Rattle.std.proofs.Common.{◌≡◌, ℕ, true, false, List, [], ◌∷◌, ◌++◌, sym, ◌∙◌, ap, subst}
use Rattle.std.specs.List.{list_any}
use Rattle.std.proofs.lemmas.Bool.{lt-ltb}
use Rattle.qkd_base.specs.declared.lane.Lane.{Lane}
use Rattle.net_model.specs.Premises.{IsNetwork}
use Rattle.net_model.specs.Site.{sender, receiver}
use Rattle.net_model.specs.World.{Network, World, first}
use Rattle.run_model.specs.Turn.{HttpTexts}
use Rattle.run_model.specs.Play.{Played}
use Rattle.run_model.specs.Report.{Task, Performed, report, actions_of}
use Rattle.law_invariant.proofs.Steps.{first_keeps}
use Rattle.law_run.proofs.Tasks.{tasks_are_run}
use Rattle.law_quiet.specs.Between.{AskRequests}
use Rattle.law_quiet.specs.Flying.{AreUnanswered}
use Rattle.law_quiet.specs.Named.{AreNaming}
use Rattle.law_quiet.specs.Rested.{is_taken, KeepRest}
use Rattle.law_quiet.specs.Settled.{EndsSilent}
use Rattle.law_quiet.specs.Silent.{AreSilent}
use Rattle.law_quiet.specs.Still.{flies_on}
use Rattle.law_quiet.proofs.Coverage.{AllCovered, all_passed}
use Rattle.law_quiet.proofs.LastRounds.{IsSince}
use Rattle.law_quiet.proofs.Leading.{are_told, same_told}
use Rattle.law_quiet.proofs.Naming.{run_names}
use Rattle.law_quiet.proofs.PassingRuns.{IsAllPassed}
use Rattle.law_quiet.proofs.RestingLanes.{older, rest_passing}
use Rattle.law_quiet.proofs.RestLines.{tasks_keep}
use Rattle.law_quiet.proofs.Settles.{split, between, IsRest, rest_of}
use Rattle.law_quiet.proofs.Unanswered.{run_unanswered}

asks_later : (http : HttpTexts) (ts us : List Task) → AskRequests http (ts ++ us) → AskRequests http us
asks_later http [] us asks = asks
asks_later http (t ∷ ts) us asks = asks_later http ts us asks.1

asks_first : (http : HttpTexts) (ts us : List Task) → AskRequests http (ts ++ us) → AskRequests http ts
asks_first http [] us asks = tt
asks_first http (t ∷ ts) us asks = (asks.0, asks_first http ts us asks.1)

module _ (http : HttpTexts) (net : Network) (workers : ℕ) (network : IsNetwork net) (earlier later settles : List Task) (done more rest : List Performed) (asks : AskRequests http (earlier ++ later))
    (keeps : KeepRest http net workers earlier later done more) (ends : EndsSilent http net workers 1 (earlier ++ later) settles (done ++ more) rest) where
  abbrev pub begin : World
  begin = (report http net first earlier done).world

  abbrev pub w : World
  w = (report http net first (earlier ++ later) (done ++ more)).world

  abbrev pub after : World
  after = (report http net first ((earlier ++ later) ++ settles) ((done ++ more) ++ rest)).world

  ended : IsRest http net workers w after 1
  ended = rest_of http net workers network 1 (earlier ++ later) settles asks (done ++ more) rest ends

  pub silent : AreSilent 1 net w after
  silent = ended.rounds

  -- A lane on which nothing was in flight before the lines is passing after them.
  passes : (l : Lane) → list_any (flies_on l) (begin.volatile (sender net.site l)).window ≡ false → w.up (sender net.site l) ≡ true → w.up (receiver net.site l) ≡ true → IsAllPassed net w l
  passes l clear alive there =
      let s = split http net workers later more first earlier done keeps.apart keeps.run keeps.whole in
      let begun = between http net workers network earlier (asks_first http earlier later asks) done s.earlier s.whole in
      let runs = tasks_are_run http net network workers first (first_keeps net) earlier done s.earlier in
      let naming : AreNaming begin = subst AreNaming (sym runs.1) (run_names net (actions_of net done) network runs.0) in
      let h : AllCovered net network l begin = (
        begun.conserved,
        λ up up'. record {
          passed = older net begin begun.conserved begun.quiet naming l clear;
          passing = rest_passing net begin begun.conserved begun.quiet naming l clear;
          all = λ m k site less. lt-ltb k _ less;
        },
      ) in
      let early : Played = report http net first earlier done in
      let last : Played = report http net early.world later more in
      let items = same_told early.items last.items keeps.told (ap (λ (p : Played). p.items) (sym s.same) ∙ keeps.tells) in
      let kept = tasks_keep http net network l workers later more begin (asks_later http earlier later asks) keeps.each h s.later (ap (λ (p : Played). p.ending) (sym s.same) ∙ keeps.whole)
      (ap (are_told is_taken) items ∙ keeps.taken) in
      all_passed net network l w (subst (AllCovered net network l) (ap (λ (p : Played). p.world) (sym s.same)) kept) alive there

  pub since : IsSince net begin w
  since =
      let runs = tasks_are_run http net network workers first (first_keeps net) (earlier ++ later) (done ++ more) keeps.run in
      record {
        kept = ended.start.conserved;
        unanswered = subst AreUnanswered (sym runs.1) (run_unanswered net (actions_of net (done ++ more)) network runs.0);
        naming = subst AreNaming (sym runs.1) (run_names net (actions_of net (done ++ more)) network runs.0);
        noted = ended.start.noted;
        quiet = ended.start.quiet;
        awaits = ended.start.awaits;
        passes = passes;
      }
