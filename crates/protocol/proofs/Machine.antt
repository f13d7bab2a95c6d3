-- An abstract machine for the ledger: no messages, marks, lists or refusals, and one function for each aspect of a job or record,
-- so that a move leaves most aspects as they are by computation. It is a device of the proofs: no statement speaks of it.
use Rattle.std.proofs.Common.{◌≡◌, ℕ, suc, ◌+◌, ◌<◌, ◌≤◌, Bool, true, false, cond, ◌&&◌, eqb, ◌≢◌, ◌⊎◌, List, [], ◌∷◌, ◌++◌}
use Rattle.ledger.specs.Limits.{most_versions}
use Rattle.protocol.specs.Calls.{without}

-- where a job stands; a withdrawn job, a dropped one and one that ended are over alike
pub data Phase : Type 0 where
  unopened amending inspecting voting accepted over answered : Phase

-- what an answered job did, kept at its answer: for each record the first version that it did not see (0: not read),
-- whether it wrote it, and the version that it installed (0: none)
pub record Answer : Type 0 where
  pub job : ℕ
  pub unseen : ℕ → ℕ
  pub wrote : ℕ → Bool
  pub version : ℕ → ℕ

-- `phase`, `unseen`, `wrote` and `version` are of a job (and a record), `holds` of a job and an office: the office holds the job's records.
-- `count` is how many versions a record has, `writer` who installed a version of it.
-- `line` has the accepted jobs in the order of their decisions, `answers` the answered ones, the newest first.
pub record Machine : Type 0 where
  pub phase : ℕ → Phase
  pub unseen : ℕ → ℕ → ℕ
  pub wrote : ℕ → ℕ → Bool
  pub version : ℕ → ℕ → ℕ
  pub holds : ℕ → ℕ → Bool
  pub count : ℕ → ℕ
  pub writer : ℕ → ℕ → ℕ
  pub line : List ℕ
  pub answers : List Answer

abbrev pub new_machine : Machine
new_machine =
    record {
      phase = λ j. unopened;
      unseen = λ j r. 0;
      wrote = λ j r. false;
      version = λ j r. 0;
      holds = λ j o. false;
      count = λ r. 0;
      writer = λ r v. 0;
      line = [];
      answers = [];
    }

abbrev pub updated : {A : Type 0} → (ℕ → A) → ℕ → A → ℕ → A
updated f j x k = cond (eqb k j) x (f k)

abbrev pub updated_at : {A : Type 0} → (ℕ → ℕ → A) → ℕ → ℕ → A → ℕ → ℕ → A
updated_at f j o x k p = cond (eqb k j) (cond (eqb p o) x (f k p)) (f k p)

-- how many of the answered jobs wrote r
abbrev pub answered_writers : List Answer → ℕ → ℕ
answered_writers [] r = 0
answered_writers (a ∷ older) r = cond (a.wrote r) 1 0 + answered_writers older r

-- U precedes T in record r
abbrev pub Precedes : Machine → ℕ → ℕ → ℕ → Type 0
Precedes h U T r =
    ((0 < h.version U r) × (h.version U r < h.unseen T r)) ⊎
    (((0 < h.version U r) × (h.version U r < h.version T r)) ⊎ ((0 < h.unseen U r) × (h.unseen U r ≤ h.version T r)))

abbrev pub Pending : Machine → ℕ → Type 0
Pending h U = (h.phase U ≡ inspecting) ⊎ (h.phase U ≡ accepted)

-- no pending job precedes it
abbrev pub Unpreceded : Machine → ℕ → Type 0
Unpreceded h T = (U r : ℕ) → U ≢ T → Pending h U → Precedes h U T r → ⊥

abbrev pub Lists : Machine → ℕ → ℕ → Type 0
Lists h j r = (0 < h.unseen j r) ⊎ (h.wrote j r ≡ true)

-- how a move leaves the machine

abbrev pub with_phase : Machine → ℕ → Phase → Machine
with_phase h j s =
    record { phase = updated h.phase j s; unseen = h.unseen; wrote = h.wrote; version = h.version; holds = h.holds; count = h.count; writer = h.writer; line = h.line; answers = h.answers }

abbrev pub with_unseen : Machine → ℕ → ℕ → ℕ → Machine
with_unseen h j r v =
    record { phase = h.phase; unseen = updated_at h.unseen j r v; wrote = h.wrote; version = h.version; holds = h.holds; count = h.count; writer = h.writer; line = h.line; answers = h.answers }

abbrev pub with_wrote : Machine → ℕ → ℕ → Machine
with_wrote h j r =
    record { phase = h.phase; unseen = h.unseen; wrote = updated_at h.wrote j r true; version = h.version; holds = h.holds; count = h.count; writer = h.writer; line = h.line; answers = h.answers }

abbrev pub with_hold : Machine → ℕ → ℕ → Bool → Machine
with_hold h j o b =
    record { phase = h.phase; unseen = h.unseen; wrote = h.wrote; version = h.version; holds = updated_at h.holds j o b; count = h.count; writer = h.writer; line = h.line; answers = h.answers }

abbrev pub with_accepted : Machine → ℕ → Machine
with_accepted h j =
    record { phase = updated h.phase j accepted; unseen = h.unseen; wrote = h.wrote; version = h.version; holds = h.holds; count = h.count; writer = h.writer; line = h.line ++ j ∷ []; answers = h.answers }

abbrev pub answer_of : Machine → ℕ → Answer
answer_of h j = record { job = j; unseen = h.unseen j; wrote = h.wrote j; version = h.version j }

abbrev pub with_answered : Machine → ℕ → Machine
with_answered h j =
    record { phase = updated h.phase j answered; unseen = h.unseen; wrote = h.wrote; version = h.version; holds = h.holds; count = h.count; writer = h.writer; line = without j h.line; answers = answer_of h j ∷ h.answers }

abbrev pub is_installed_here : (ℕ → ℕ) → Machine → ℕ → ℕ → ℕ → Bool
is_installed_here office h j o r = eqb (office r) o && h.wrote j r

abbrev pub with_installed : (ℕ → ℕ) → Machine → ℕ → ℕ → Machine
with_installed office h j o =
    record {
      phase = h.phase;
      unseen = h.unseen;
      wrote = h.wrote;
      version = λ k r. cond (eqb k j && is_installed_here office h j o r) (suc (h.count r)) (h.version k r);
      holds = updated_at h.holds j o false;
      count = λ r. cond (is_installed_here office h j o r) (suc (h.count r)) (h.count r);
      writer = λ r v. cond (is_installed_here office h j o r && eqb v (suc (h.count r))) j (h.writer r v);
      line = h.line;
      answers = h.answers;
    }

-- what an office checks before it votes yes
pub record Clear (office : ℕ → ℕ) (h : Machine) (j o : ℕ) : Type 0 where
  pub no_other_holder : (k r : ℕ) → k ≢ j → office r ≡ o → h.holds k o ≡ true → h.wrote j r ≡ true → Lists h k r → ⊥
  pub no_other_writer : (k r : ℕ) → k ≢ j → office r ≡ o → h.holds k o ≡ true → h.wrote k r ≡ true → Lists h j r → ⊥
  pub current : (r : ℕ) → office r ≡ o → 0 < h.unseen j r → h.unseen j r ≡ suc (h.count r)
  pub room : (r : ℕ) → office r ≡ o → h.wrote j r ≡ true → h.count r < most_versions

pub data Move (office : ℕ → ℕ) (h : Machine) : Machine → Type 0 where
  opens : (j : ℕ) → h.phase j ≡ unopened → Move office h (with_phase h j amending)
  opens_inspection : (j : ℕ) → h.phase j ≡ unopened → Move office h (with_phase h j inspecting)
  reads_newest : (j r : ℕ) → h.phase j ≡ amending → Move office h (with_unseen h j r (suc (h.count r)))
  reads_answered : (j r : ℕ) → h.phase j ≡ inspecting → Move office h (with_unseen h j r (suc (answered_writers h.answers r)))
  writes : (j r : ℕ) → h.phase j ≡ amending → Move office h (with_wrote h j r)
  hands_in : (j : ℕ) → h.phase j ≡ amending → Move office h (with_phase h j voting)
  withdraws : (j : ℕ) → h.phase j ≡ amending → Move office h (with_phase h j over)
  votes_yes : (j o : ℕ) → h.phase j ≡ voting → Clear office h j o → Move office h (with_hold h j o true)
  accepts : (j : ℕ) → h.phase j ≡ voting → ((r : ℕ) → Lists h j r → h.holds j (office r) ≡ true) → Move office h (with_accepted h j)
  drops : (j : ℕ) → h.phase j ≡ voting → Move office h (with_phase h j over)
  installs : (j o : ℕ) → h.phase j ≡ accepted → h.holds j o ≡ true → Move office h (with_installed office h j o)
  releases : (j o : ℕ) → h.phase j ≡ over → Move office h (with_hold h j o false)
  answers : (j : ℕ) → h.phase j ≡ accepted → ((o : ℕ) → h.holds j o ≡ false) → Unpreceded h j → Move office h (with_answered h j)
  closes : (j : ℕ) → h.phase j ≡ inspecting → Move office h (with_answered h j)

pub data Run (office : ℕ → ℕ) : Machine → Type 0 where
  start : Run office new_machine
  then : {h h' : Machine} → Run office h → Move office h h' → Run office h'
