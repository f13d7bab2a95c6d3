-- What holds of the machine after every run.
use Rattle.std.proofs.Common.{◌≡◌, ℕ, List, ◌∷◌, inl, inr, arith}
use Rattle.protocol.proofs.Machine.{inspecting, Machine, Unpreceded, Run, start, then}
use Rattle.protocol.proofs.JobLists.{Pairwise, Among, all_at}
use Rattle.protocol.proofs.Invariants.{Invariants, Series, invariants_step, series_step}
use Rattle.protocol.proofs.Line.{Later, LineInvariant, line_step}

pub record Sound (office : ℕ → ℕ) (h : Machine) : Type 0 where
  pub invariants : Invariants office h
  pub line : LineInvariant office h
  pub series : Series h.answers

pub sound : (office : ℕ → ℕ) (h : Machine) → Run office h → Sound office h
sound office h start = record { invariants = grind arith; line = record { only_accepted = tt; complete = λ t s. grind arith; in_order = tt }; series = tt }
sound office h (then {h = h₀} r m) =
    let s = sound office h₀ r in
    record {
      invariants = invariants_step office h₀ s.invariants m;
      line = line_step office h₀ _ s.invariants s.line m;
      series = series_step office h₀ s.invariants s.series m;
    }

-- with no inspection open, no pending job precedes the first of the line
pub first_unpreceded : (office : ℕ → ℕ) (h : Machine) → Sound office h → ((j : ℕ) → h.phase j ≡ inspecting → ⊥) →
    (t : ℕ) (q : List ℕ) → h.line ≡ t ∷ q → Unpreceded h t
first_unpreceded office h s none t q e U r n (inl i) p = none U i
first_unpreceded office h s none t q e U r n (inr a) p = go (rw e at (s.line.complete U a)) (rw e at s.line.in_order)
  where
    go : Among U (t ∷ q) → Pairwise (Later office h) (t ∷ q) → ⊥
    go (inl i) o = n i
    go (inr k) o = (all_at (Later office h t) q U o.0 k r).0 p
