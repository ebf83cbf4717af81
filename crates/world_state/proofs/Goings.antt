-- The progress of a plan's frames.
use Rattle.std.proofs.Common.{◌≡◌, ℕ, List, [], ◌++◌, sym, subst, ◌∙◌, append-nil, append_assoc}
use Rattle.net_model.specs.declared.placing.Placing.{Placing}
use Rattle.net_model.specs.World.{Network, World}
use Rattle.net_model.specs.Tick.{Emission}
use Rattle.world_state.specs.Sending.{Sending, PutsOn, Breaks}
use Rattle.world_state.specs.declared.progress.Progress.{Progress}
use Rattle.world_state.specs.declared.state.State.{State}
use Rattle.world_state.proofs.Sendings.{puts_on_none, puts_on_more, puts_broken}
use Rattle.world_state.specs.Outside.{Outside}

module _ {K Q E X : Type 0} (outside : Outside K Q E X) where
  -- These frames are still to be put, and others after them.
  abbrev pub Before : State K Q E X → Network → World → ℕ → List Emission → Progress → Type 0
  Before s net w v es p = Sending outside s net w v es p.placings

  abbrev pub MayGo : State K Q E X → ℕ → List Emission → Progress → Type 0
  MayGo s v head p = (net : Network) × (w : World) × (es : List Emission) × Before s net w v (head ++ es) p

  abbrev pub Went : State K Q E X → State K Q E X → ℕ → List Emission → List Emission → Progress → Progress → Type 0
  Went old now v all rest p q =
      (net : Network) (w : World) (es : List Emission) → Before old net w v (all ++ es) p →
      PutsOn outside old now net w v (all ++ es) (rest ++ es) p.items q.items q.placings

  abbrev pub Broke : State K Q E X → State K Q E X → ℕ → List Emission → Progress → Type 0
  Broke old now v all p =
      (net : Network) (w : World) (es : List Emission) → Before old net w v (all ++ es) p →
      Breaks outside old now net w v (all ++ es)

  pub went_none : (s : State K Q E X) (v : ℕ) (all : List Emission) (p : Progress) → Went s s v all all p p
  went_none s v all p net w es h =
      puts_on_none outside s net w v (all ++ es) p.items p.placings h

  module _ (old mid : State K Q E X) (v : ℕ) (all head rest : List Emission) (p q : Progress) (far : Went old mid v all (head ++ rest) p q) where
    so_far : (net : Network) (w : World) (es : List Emission) → Before old net w v (all ++ es) p →
        PutsOn outside old mid net w v (all ++ es) (head ++ (rest ++ es)) p.items q.items q.placings
    so_far net w es h =
        subst (λ (to : List Emission). PutsOn outside old mid net w v (all ++ es) to p.items q.items q.placings)
        (append_assoc head rest es) (far net w es h)

    pub may_go : MayGo old v all p → MayGo mid v head q
    may_go a = let h = so_far a.0 a.1 a.2 a.3 in (a.0, h.puts.after, rest ++ a.2, h.puts.sending)

    pub went_more : (new : State K Q E X) (r : Progress) → Went mid new v head [] q r → Went old new v all rest p r
    went_more new r next net w es h =
        let a = so_far net w es h in
        puts_on_more outside old mid new net w v (all ++ es) (head ++ (rest ++ es)) (rest ++ es)
        p.items q.items r.items q.placings r.placings a (next net a.puts.after (rest ++ es) a.puts.sending)

    pub broke_there : (new : State K Q E X) → Broke mid new v head q → Broke old new v all p
    broke_there new next net w es h =
        let a = so_far net w es h in
        puts_broken outside old mid new net w v (all ++ es) (head ++ (rest ++ es)) a.reported q.placings a.puts
        (next net a.puts.after (rest ++ es) a.puts.sending)

  -- The same progress, with an equal list of frames still to be put.
  pub went_like : (old now : State K Q E X) (v : ℕ) (all rest other : List Emission) (p q : Progress) → rest ≡ other → Went old now v all rest p q → Went old now v all other p q
  went_like old now v all rest other p q same h = subst (λ (xs : List Emission). Went old now v all xs p q) same h

  pub went_as : (old now now' : State K Q E X) (v : ℕ) (all rest : List Emission) (p q q' : Progress) → now' ≡ now → q' ≡ q → Went old now v all rest p q → Went old now' v all rest p q'
  went_as old now now' v all rest p q q' state progress h =
      subst (λ (s : State K Q E X). Went old s v all rest p q') (sym state) (subst (λ (x : Progress). Went old now v all rest p x) (sym progress) h)

  -- All frames of a plan, with nothing noted before.

  module _ (old mid : State K Q E X) (v : ℕ) (es all : List Emission) (p q : Progress) (same : es ≡ all) (none : p.placings ≡ []) where
    whole : es ++ [] ≡ all
    whole = append-nil es ∙ same

    begun : (net : Network) (w : World) → Sending outside old net w v all [] → Before old net w v (es ++ []) p
    begun net w h =
        subst (λ (xs : List Emission). Sending outside old net w v xs p.placings) (sym whole)
        (subst (λ (ps : List Placing). Sending outside old net w v all ps) (sym none) h)

    pub may_all : (net : Network) (w : World) → Sending outside old net w v all [] → MayGo old v es p
    may_all net w h = (net, w, [], begun net w h)

    pub went_all : Went old mid v es [] p q → (net : Network) (w : World) → Sending outside old net w v all [] →
        PutsOn outside old mid net w v all [] p.items q.items q.placings
    went_all far net w h =
        subst (λ (xs : List Emission). PutsOn outside old mid net w v xs [] p.items q.items q.placings) whole
        (far net w [] (begun net w h))

    pub broke_all : Broke old mid v es p → (net : Network) (w : World) → Sending outside old net w v all [] →
        Breaks outside old mid net w v all
    broke_all far net w h =
        subst (λ (xs : List Emission). Breaks outside old mid net w v xs) whole (far net w [] (begun net w h))
