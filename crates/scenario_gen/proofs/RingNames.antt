-- How the nodes and applications of the ring are named.
use Rattle.std.proofs.Common.{◌≡◌, ℕ, zero, suc, ◌<◌, ◌++◌, refl, arith}
use Rattle.std.specs.Fmt.{decimal}
use lib.Chars.{codes}
use Rattle.scenario_format.specs.Spelling.{node_word, sae_word}
use Rattle.run_model.specs.Load.{load_site}

pub node_is : (v : ℕ) → v < 8 → node_word load_site v ≡ codes "n" ++ decimal v
node_is zero h = refl
node_is (suc zero) h = refl
node_is (suc (suc zero)) h = refl
node_is (suc (suc (suc zero))) h = refl
node_is (suc (suc (suc (suc zero)))) h = refl
node_is (suc (suc (suc (suc (suc zero))))) h = refl
node_is (suc (suc (suc (suc (suc (suc zero)))))) h = refl
node_is (suc (suc (suc (suc (suc (suc (suc zero))))))) h = refl
node_is (suc (suc (suc (suc (suc (suc (suc (suc v)))))))) h = absurd (omega arith)

pub sae_is : (v : ℕ) → v < 8 → sae_word load_site v ≡ codes "s" ++ decimal v
sae_is zero h = refl
sae_is (suc zero) h = refl
sae_is (suc (suc zero)) h = refl
sae_is (suc (suc (suc zero))) h = refl
sae_is (suc (suc (suc (suc zero)))) h = refl
sae_is (suc (suc (suc (suc (suc zero))))) h = refl
sae_is (suc (suc (suc (suc (suc (suc zero)))))) h = refl
sae_is (suc (suc (suc (suc (suc (suc (suc zero))))))) h = refl
sae_is (suc (suc (suc (suc (suc (suc (suc (suc v)))))))) h = absurd (omega arith)
