-- The line: a job that was decided later never precedes one that was decided earlier.
-- u, decided after t, does not precede it, and lists no record that is still held for t to install
use Rattle.std.proofs.Common.{◌≡◌, ℕ, true, ◌≢◌, refl, arith}
use Rattle.std.specs.List.{AllByRecursion}
use Rattle.std.proofs.ByRecursion.{All-weaker, All-push}
use Rattle.protocol.proofs.Machine.{voting, accepted, Machine, updated, Precedes, Lists, with_accepted, with_answered, Move, opens, opens_inspection, reads_newest, reads_answered, writes, hands_in, withdraws, votes_yes, accepts, drops, installs, releases, answers, closes}
use Rattle.protocol.proofs.JobLists.{Pairwise, Among, all_without, pairwise_weaker, pairwise_push, pairwise_without, among_push, among_without}
use Rattle.protocol.proofs.Invariants.{Invariants}

abbrev pub Later : (ℕ → ℕ) → Machine → ℕ → ℕ → Type 0
Later office h t u = (r : ℕ) → (Precedes h u t r → ⊥) × (h.holds t (office r) ≡ true → h.wrote t r ≡ true → Lists h u r → ⊥)

pub record LineInvariant (office : ℕ → ℕ) (h : Machine) : Type 0 where
  pub only_accepted : AllByRecursion (λ t. h.phase t ≡ accepted) h.line
  pub complete : (t : ℕ) → h.phase t ≡ accepted → Among t h.line
  pub in_order : Pairwise (Later office h) h.line

-- a move that leaves the line: the accepted jobs and the order between two of them stay
same_line : (office : ℕ → ℕ) (h h' : Machine) → LineInvariant office h → h'.line ≡ h.line →
    ((t : ℕ) → h.phase t ≡ accepted → h'.phase t ≡ accepted) → ((t : ℕ) → h'.phase t ≡ accepted → h.phase t ≡ accepted) →
    ((t u : ℕ) → h.phase t ≡ accepted → h.phase u ≡ accepted → Later office h t u → Later office h' t u) → LineInvariant office h'
same_line office h h' q e a b f =
    record {
      only_accepted = rw e (All-weaker (λ t. h.phase t ≡ accepted) (λ t. h'.phase t ≡ accepted) a h.line q.only_accepted);
      complete = λ t s. rw e (q.complete t (b t s));
      in_order = rw e (pairwise_weaker (Later office h) (λ t. h.phase t ≡ accepted) (Later office h') f h.line q.only_accepted q.in_order);
    }

line_without : (office : ℕ → ℕ) (h : Machine) (j : ℕ) → LineInvariant office h → LineInvariant office (with_answered h j)
line_without office h j q =
    record {
      only_accepted =
          all_without (λ t. (with_answered h j).phase t ≡ accepted) j h.line
          (All-weaker (λ t. h.phase t ≡ accepted) (λ t. t ≢ j → (with_answered h j).phase t ≡ accepted) (λ t s n. grind arith) h.line q.only_accepted);
      complete = λ t s. let n : t ≢ j = grind arith in among_without h.line j t n (q.complete t (grind arith));
      in_order = pairwise_without (Later office h) j h.line q.in_order;
    }

-- what a job that is accepted now lists, is held for it: so no earlier job of the line holds it for writing, and none has yet to install it
line_with : (office : ℕ → ℕ) (h : Machine) (j : ℕ) → Invariants office h → LineInvariant office h → h.phase j ≡ voting →
    ((r : ℕ) → Lists h j r → h.holds j (office r) ≡ true) → LineInvariant office (with_accepted h j)
line_with office h j g q p c =
    record {
      only_accepted =
          All-push (λ t. updated h.phase j accepted t ≡ accepted) h.line j
          (All-weaker (λ t. h.phase t ≡ accepted) (λ t. updated h.phase j accepted t ≡ accepted) (λ t s. grind arith) h.line q.only_accepted) (grind arith);
      complete = λ t s. among_push h.line j t (grind (arith, q.complete t));
      in_order =
          pairwise_push (Later office h) h.line j q.in_order
          (All-weaker (λ t. h.phase t ≡ accepted) (λ t. Later office h t j) (λ t s r. grind (arith, c r)) h.line q.only_accepted);
    }

pub line_step : (office : ℕ → ℕ) (h h' : Machine) → Invariants office h → LineInvariant office h → Move office h h' → LineInvariant office h'
line_step office h h' g q (opens j p) = same_line office h _ q refl (λ t s. grind arith) (λ t s. grind arith) (λ t u at au a. a)
line_step office h h' g q (opens_inspection j p) = same_line office h _ q refl (λ t s. grind arith) (λ t s. grind arith) (λ t u at au a. a)
line_step office h h' g q (hands_in j p) = same_line office h _ q refl (λ t s. grind arith) (λ t s. grind arith) (λ t u at au a. a)
line_step office h h' g q (withdraws j p) = same_line office h _ q refl (λ t s. grind arith) (λ t s. grind arith) (λ t u at au a. a)
line_step office h h' g q (drops j p) = same_line office h _ q refl (λ t s. grind arith) (λ t s. grind arith) (λ t u at au a. a)
line_step office h h' g q (reads_newest j r p) = same_line office h _ q refl (λ t s. s) (λ t s. s) (λ t u at au a r. grind (arith, a r))
line_step office h h' g q (reads_answered j r p) = same_line office h _ q refl (λ t s. s) (λ t s. s) (λ t u at au a r. grind (arith, a r))
line_step office h h' g q (writes j r p) = same_line office h _ q refl (λ t s. s) (λ t s. s) (λ t u at au a r. grind (arith, a r))
line_step office h h' g q (votes_yes j o p c) = same_line office h _ q refl (λ t s. s) (λ t s. s) (λ t u at au a r. grind (arith, a r))
line_step office h h' g q (releases j o p) = same_line office h _ q refl (λ t s. s) (λ t s. s) (λ t u at au a r. grind (arith, a r))
line_step office h h' g q (installs j o p c) = same_line office h _ q refl (λ t s. s) (λ t s. s) (λ t u at au a r. grind (arith, a r))
line_step office h h' g q (accepts j p c) = line_with office h j g q p c
line_step office h h' g q (answers j p c f) = line_without office h j q
line_step office h h' g q (closes j p) = line_without office h j q
