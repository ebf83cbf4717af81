-- A write fault implies that the sink's count of faults rose.
use Rattle.std.proofs.Common.{◌≡◌, ℕ, ◌≤◌, Result, Ok, Err, refl, sym, subst, arith}
use Rattle.std.specs.Prelude.{MatchResult}
use Rattle.qkd_base.specs.Faults.{Rose}
use Rattle.run_lines.specs.Reporting as lines_blame
use Rattle.run_lines.specs.declared.stop.Stop.{Stop}
use Rattle.run_lines.specs.declared.stop.Stop.TheVariants as stops
use Rattle.net_serve.specs.BenchServing.{IsBlamed}
use Rattle.net_serve.specs.declared.stop.ServeStop.{ServeStop}
use Rattle.net_serve.specs.declared.stop.ServeStop.TheVariants.{Stopped}

rose_before : (a b c : ℕ) → a ≤ b → Rose b c → Rose a c
rose_before a b c later rose = omega (arith, later, rose)

of_lines : {T : Type 0} (U : Type 0) (a b : ℕ) (stop : Stop) → lines_blame.IsBlamed {T = T} a b (Err stop) → IsBlamed {T = U} a b (Err (Stopped stop))
of_lines U a b stops.WriteFault h = record { later = h.later; rose = λ is. h.rose refl }
of_lines U a b stops.Memory h = record { later = h.later; rose = λ is. absurd (let wrong = is in cc) }
of_lines U a b (stops.Forged line) h = record { later = h.later; rose = λ is. absurd (let wrong = is in cc) }

pub blamed : {T U : Type 0} (a b c : ℕ) (lines : Result T Stop) (result : Result U ServeStop) (Kept : Type 0) → (Kept → c ≡ b) → lines_blame.IsBlamed a b lines →
    MatchResult lines (λ done. IsBlamed b c result) (λ stop. (result ≡ Err (Stopped stop)) × Kept) → IsBlamed a c result
blamed a b c (Ok done) result Kept same lines last =
    let first = lines.later in let later = last.later in
    record { later = omega (arith, first, later); rose = λ is. rose_before a b c first (last.rose is) }
blamed {T} {U} a b c (Err stop) result Kept same lines last =
    subst (λ (n : ℕ). IsBlamed a n result) (sym (same last.1)) (subst (λ (r : Result U ServeStop). IsBlamed a b r) (sym last.0) (of_lines U a b stop lines))
