-- The world between two lives: what disks have, and nothing else.
use Rattle.std.specs.Prelude.{ℕ, Bool, true, false, [], map}
use Rattle.net_model.specs.Site.{Site, count_up}
use Rattle.net_model.specs.World.{World, Durable, Owner, HashKey, Burnt, Journal, no_doubt, no_volatile}
use Rattle.net_model.specs.Start.{burnt_to}
use Rattle.net_model.specs.Invariant.{with_doubts}

-- a byte of a frame counts as burnt, since the frame is forgotten
abbrev pub spent : Owner → Owner
spent HashKey = HashKey
spent _ = Burnt

-- The batches in doubt are made durable where `made` says so. All bytes below the leased ends are used up.
abbrev pub durable_at_rest : Site → (made : ℕ → Bool) → World → Durable
durable_at_rest s made w =
    let d = with_doubts s w made (count_up s.nodes) w.durable in
    record d { own = λ l. burnt_to (d.lease l) (map spent (d.own l)) }

-- The world with these journals, at rest. Managers' memories, frames and wires are gone.
unfoldable pub at_rest : Site → (made : ℕ → Bool) → (journals : ℕ → Journal) → World → World
at_rest s made journals w =
    record w {
      durable = durable_at_rest s made w;
      link_up = λ link. true;
      frames = λ l. [];
      wire = λ l. [];
      unclaimed = λ l. [];
      outgoing = λ l. [];
      recovered = λ l. (durable_at_rest s made w).lease l;
      up = λ v. false;
      journal = journals;
      interrupted = λ v. false;
      in_doubt = λ v. no_doubt;
      volatile = λ v. no_volatile;
      placings = λ v. [];
    }
