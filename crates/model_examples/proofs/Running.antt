-- The runs and the block of the witness, by computation.
use Rattle.std.proofs.Common.{◌≡◌, ℕ, zero, suc, List, [], ◌∷◌, ◌++◌, map, false, Some, None, refl, subst, arith}
use Rattle.std.specs.Prelude.{◌==◌, count_by, slice_get}
use Rattle.std.proofs.lemmas.Bool.Decides.{nat_tests}
use Rattle.qkd_base.specs.declared.lane.Way.{Way}
use Rattle.qkd_base.specs.declared.lane.Way.TheVariants.{Up, Down}
use Rattle.net_model.specs.World.{Transmission, Outgoing}
use Rattle.net_model.specs.Window.{transmission_eq}
use Rattle.net_model.specs.Step.{run}
use Rattle.net_model.specs.Deliveries.{deliveries}
use Rattle.net_model.specs.declared.event.Event.TheVariants.{Plan}
use Rattle.net_model.specs.Site.{lane_of, count_up}
use Rattle.net_model.specs.Action.{Ask, Ok}
use Rattle.net_model.specs.BlockOrder.{IsMerge, Done, Next, claimed_on, put_on, all_histories}
use Rattle.run_types.specs.declared.command.Command.TheVariants.{Tick}
use Rattle.run_model.specs.Works.{Work, asked_by, plain_work}
use Rattle.model_examples.specs.Row.{no_http}
use Rattle.model_examples.proofs.Opened.{opened}
use Rattle.model_examples.specs.Witness.{here, Runs, Relays, Hands, Doubts, Blocks, BlocksOfLines, block_start, parts, works}

pub runs : Runs
unfolding opened
runs = refl

pub relays : Relays
unfolding opened
relays = refl

pub hands : Hands
unfolding opened deliveries
hands = (refl, refl)

pub doubts : Doubts
unfolding opened
doubts = (refl, refl)

claimed : (link : ℕ) (way : Way) (t : Transmission) →
    count_by (transmission_eq t) (claimed_on (lane_of link way) parts.claims) ≡ count_by (transmission_eq t) ((run here block_start (all_histories parts)).unclaimed (lane_of link way))
unfolding opened
claimed zero Up t = refl
claimed zero Down t = refl
claimed (suc n) Up t = refl
claimed (suc n) Down t = refl

not_later : (n : ℕ) → (suc n == 0) ≡ false
not_later n = grind (arith, nat_tests)

not_first : (n : ℕ) → (0 == suc n) ≡ false
not_first n = grind (arith, nat_tests)

put : (link : ℕ) (way : Way) (j : ℕ) →
    count_by (λ i. i == j) (put_on (lane_of link way) parts.puts) ≡
    count_by (λ (o : Outgoing). o.frame == j) ((run here block_start (all_histories parts ++ parts.claims)).outgoing (lane_of link way))
unfolding opened
put zero Up j = refl
put zero Down j = refl
put (suc n) Up j = rw (not_later n, not_first n) refl
put (suc n) Down j = rw (not_later n, not_first n) refl

pub blocks : Blocks
unfolding opened
blocks = record {
  nodes = refl;
  chains = (refl, refl, (refl, refl, tt));
  claims = refl;
  claim_order = refl;
  claimed = λ l t. claimed l.link l.way t;
  puts = refl;
  put_order = refl;
  put = λ l j. put l.link l.way j;
}

abbrev planned : Work
planned = record { place = 0; action = Ask 0 Plan Ok }

some_same : {A : Type 0} (x y : A) → Some x ≡ Some y → x ≡ y
some_same x y h = cc

merged : (v : ℕ) (h : List Work) → slice_get works.histories v ≡ Some h →
    IsMerge (map (λ k. asked_by no_http here.site block_start None 1 k v 0 (record { number = 9; command = Tick 0 } ∷ [])) (count_up 1)) (map plain_work h)
unfolding opened
merged zero h at =
    subst (λ (xs : List Work). IsMerge ((planned ∷ []) ∷ []) (map plain_work xs)) (some_same (planned ∷ []) h at) (Next [] [] planned [] [] (Done ([] ∷ []) refl))
merged (suc zero) h at = subst (λ (xs : List Work). IsMerge ([] ∷ []) (map plain_work xs)) (some_same [] h at) (Done ([] ∷ []) refl)
merged (suc (suc v)) h at = cc

pub blocks_of_lines : BlocksOfLines
unfolding opened
blocks_of_lines = record { may_stand = refl; block = blocks; merged = merged; put = refl }
