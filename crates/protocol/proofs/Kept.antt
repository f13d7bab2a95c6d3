-- An answered job stays what its answer says, and is answered once: so the answers speak of the rows.
use Rattle.std.proofs.Common.{◌≡◌, ℕ, ◌≢◌, List, [], ◌∷◌, sym, refl, ap, ◌∙◌, subst, inl, inr, arith}
use Rattle.std.specs.List.{AllByRecursion}
use Rattle.std.proofs.ByRecursion.{All-weaker}
use Rattle.std.proofs.lemmas.Bool.{cases_eq}
use Rattle.protocol.proofs.Machine.{answered, Answer, Machine, with_answered, Move, opens, opens_inspection, reads_newest, reads_answered, writes, hands_in, withdraws, votes_yes, accepts, drops, installs, releases, answers, closes, Run, start, then}
use Rattle.protocol.proofs.JobLists.{Different, Among}

pub record Kept (h : Machine) (a : Answer) : Type 0 where
  pub is_answered : h.phase a.job ≡ answered
  pub same_unseen : (r : ℕ) → h.unseen a.job r ≡ a.unseen r
  pub same_wrote : (r : ℕ) → h.wrote a.job r ≡ a.wrote r
  pub same_version : (r : ℕ) → h.version a.job r ≡ a.version r

abbrev pub jobs : List Answer → List ℕ
jobs [] = []
jobs (a ∷ older) = a.job ∷ jobs older

pub record AllKept (h : Machine) : Type 0 where
  pub kept : AllByRecursion (Kept h) h.answers
  pub different : Different (jobs h.answers)
  -- each answered job is among the answers
  pub listed : (j : ℕ) → h.phase j ≡ answered → Among j (jobs h.answers)

pub jobs_answered : (h : Machine) (answers : List Answer) → AllByRecursion (Kept h) answers → AllByRecursion (λ j. h.phase j ≡ answered) (jobs answers)
jobs_answered h [] k = tt
jobs_answered h (a ∷ older) k = (k.0.is_answered, jobs_answered h older k.1)

-- a move that answers none: answered jobs stay as they are
same_answers : (h h' : Machine) → AllKept h → h'.answers ≡ h.answers → ((a : Answer) → Kept h a → Kept h' a) → ((j : ℕ) → h'.phase j ≡ answered → h.phase j ≡ answered) → AllKept h'
same_answers h h' k e f g =
    record {
      kept = subst (AllByRecursion (Kept h')) (sym e) (All-weaker (Kept h) (Kept h') f h.answers k.kept);
      different = rw e k.different;
      listed = λ j a. rw e (k.listed j (g j a));
    }

-- a job that was not answered before is
one_answer : (h : Machine) (j : ℕ) → AllKept h → (h.phase j ≡ answered → ⊥) → AllKept (with_answered h j)
one_answer h j k n =
    record {
      kept = (grind arith, All-weaker (Kept h) (Kept (with_answered h j)) (λ a s. grind arith) h.answers k.kept);
      different = (All-weaker (λ i. h.phase i ≡ answered) (λ i. j ≢ i) (λ i a e. n (ap h.phase e ∙ a)) (jobs h.answers) (jobs_answered h h.answers k.kept), k.different);
      listed = λ i a. elim (cases_eq i j) [ inl e ↦ inl e | inr d ↦ inr (k.listed i (grind arith)) ];
    }

kept_step : (office : ℕ → ℕ) (h h' : Machine) → AllKept h → Move office h h' → AllKept h'
kept_step office h h' k (opens j p) = same_answers h _ k refl (λ a s. grind arith) (λ i a. grind arith)
kept_step office h h' k (opens_inspection j p) = same_answers h _ k refl (λ a s. grind arith) (λ i a. grind arith)
kept_step office h h' k (hands_in j p) = same_answers h _ k refl (λ a s. grind arith) (λ i a. grind arith)
kept_step office h h' k (withdraws j p) = same_answers h _ k refl (λ a s. grind arith) (λ i a. grind arith)
kept_step office h h' k (drops j p) = same_answers h _ k refl (λ a s. grind arith) (λ i a. grind arith)
kept_step office h h' k (reads_newest j r p) = same_answers h _ k refl (λ a s. grind arith) (λ i a. grind arith)
kept_step office h h' k (reads_answered j r p) = same_answers h _ k refl (λ a s. grind arith) (λ i a. grind arith)
kept_step office h h' k (writes j r p) = same_answers h _ k refl (λ a s. grind arith) (λ i a. grind arith)
kept_step office h h' k (votes_yes j o p c) = same_answers h _ k refl (λ a s. grind arith) (λ i a. grind arith)
kept_step office h h' k (releases j o p) = same_answers h _ k refl (λ a s. grind arith) (λ i a. grind arith)
kept_step office h h' k (accepts j p c) = same_answers h _ k refl (λ a s. grind arith) (λ i a. grind arith)
kept_step office h h' k (installs j o p c) = same_answers h _ k refl (λ a s. grind arith) (λ i a. grind arith)
kept_step office h h' k (answers j p c f) = one_answer h j k (λ e. grind arith)
kept_step office h h' k (closes j p) = one_answer h j k (λ e. grind arith)

pub all_kept : (office : ℕ → ℕ) (h : Machine) → Run office h → AllKept h
all_kept office h start = record { kept = tt; different = tt; listed = λ j a. absurd (grind arith) }
all_kept office h (then {h = h₀} r m) = kept_step office h₀ h (all_kept office h₀ r) m
