-- What the machine keeps in every move, of rows and versions. `answered-writers h.answers r` says how many versions of r are answered.
use Rattle.std.proofs.Common.{◌≡◌, ℕ, suc, ◌<◌, ◌≤◌, Bool, true, false, ◌≢◌, ◌⊎◌, List, [], ◌∷◌, inl, inr, arith}
use Rattle.ledger.specs.Limits.{most_versions}
use Rattle.protocol.proofs.Machine.{Phase, unopened, amending, inspecting, voting, accepted, over, answered, Answer, Machine, answered_writers, Pending, Unpreceded, Lists, with_phase, with_unseen, with_wrote, with_hold, with_accepted, with_answered, with_installed, Clear, Move, opens, opens_inspection, reads_newest, reads_answered, writes, hands_in, withdraws, votes_yes, accepts, drops, installs, releases, answers, closes}

abbrev pub may_hold : Phase → Bool
may_hold unopened = false
may_hold amending = false
may_hold inspecting = false
may_hold voting = true
may_hold accepted = true
may_hold over = true
may_hold answered = false

abbrev pub may_install : Phase → Bool
may_install unopened = false
may_install amending = false
may_install inspecting = false
may_install voting = false
may_install accepted = true
may_install over = false
may_install answered = true

abbrev pub may_not_write : Phase → Bool
may_not_write unopened = true
may_not_write amending = false
may_not_write inspecting = true
may_not_write voting = false
may_not_write accepted = false
may_not_write over = false
may_not_write answered = false

pub record Invariants (office : ℕ → ℕ) (h : Machine) : Type 0 where
  -- two jobs never hold one record if one of them wrote it
  pub exclusion : (j k r : ℕ) → h.holds j (office r) ≡ true → h.wrote j r ≡ true → k ≢ j → h.holds k (office r) ≡ true → Lists h k r → ⊥
  -- a record that a job read is at that version while it is held for the job
  pub currency : (j r : ℕ) → h.holds j (office r) ≡ true → 0 < h.unseen j r → h.unseen j r ≡ suc (h.count r)
  -- nobody read a version that is not installed
  pub reads_installed : (j r : ℕ) → h.unseen j r ≤ suc (h.count r)
  -- records are held for jobs that vote, are accepted or are over
  pub holders : (j o : ℕ) → h.holds j o ≡ true → may_hold (h.phase j) ≡ true
  -- accepted and answered jobs alone have installed something
  pub installers : (j r : ℕ) → 0 < h.version j r → may_install (h.phase j) ≡ true
  -- a job installs what it wrote
  pub installed_written : (j r : ℕ) → 0 < h.version j r → h.wrote j r ≡ true
  -- an office holds nothing for a job whose writes it has installed
  pub installed_released : (j r : ℕ) → 0 < h.version j r → h.holds j (office r) ≡ false
  -- what an accepted job wrote is held for it until it is installed
  pub owed : (j r : ℕ) → h.phase j ≡ accepted → h.wrote j r ≡ true → (h.holds j (office r) ≡ true) ⊎ (0 < h.version j r)
  -- versions and their writers say the same
  pub version_exists : (j r : ℕ) → 0 < h.version j r → h.version j r ≤ h.count r
  pub version_writer : (j r : ℕ) → 0 < h.version j r → h.writer r (h.version j r) ≡ j
  pub writer_version : (r v : ℕ) → 0 < v → v ≤ h.count r → h.version (h.writer r v) r ≡ v
  -- the version of a record that a job read is below the one that it installed
  pub own_read_older : (j r : ℕ) → 0 < h.version j r → h.unseen j r ≤ h.version j r
  -- the answered versions of a record are its first ones
  pub answered_low : (j r : ℕ) → 0 < h.version j r → h.phase j ≡ answered → h.version j r ≤ answered_writers h.answers r
  pub low_answered : (j r : ℕ) → 0 < h.version j r → h.version j r ≤ answered_writers h.answers r → h.phase j ≡ answered
  pub answers_installed : (r : ℕ) → answered_writers h.answers r ≤ h.count r
  -- a pending job has seen every answered version of what it read
  pub pending_current : (j r : ℕ) → Pending h j → 0 < h.unseen j r → answered_writers h.answers r < h.unseen j r
  -- an open inspection has seen no other version
  pub inspection_answered : (j r : ℕ) → h.phase j ≡ inspecting → h.unseen j r ≤ suc (answered_writers h.answers r)
  pub unopened_unread : (j r : ℕ) → h.phase j ≡ unopened → h.unseen j r ≡ 0
  pub unwritten : (j r : ℕ) → may_not_write (h.phase j) ≡ true → h.wrote j r ≡ false
  -- a record that is held for its writer has room for one version more
  pub few_versions : (r : ℕ) → h.count r ≤ most_versions
  pub room : (j r : ℕ) → h.holds j (office r) ≡ true → h.wrote j r ≡ true → h.count r < most_versions

-- of answers, the newest first: each job read and installed what the jobs answered before it leave, one after another
abbrev pub Series : List Answer → Type 0
Series [] = Unit {0}
Series (a ∷ older) =
    ((r : ℕ) → (a.wrote r ≡ true → a.version r ≡ suc (answered_writers older r)) × (0 < a.unseen r → a.unseen r ≡ suc (answered_writers older r))) ×
    Series older

module _ (office : ℕ → ℕ) (h : Machine) (g : Invariants office h) where
  opens_invariants : (j : ℕ) → h.phase j ≡ unopened → Invariants office (with_phase h j amending)
  opens_invariants j p = grind arith

  opens_inspection_invariants : (j : ℕ) → h.phase j ≡ unopened → Invariants office (with_phase h j inspecting)
  opens_inspection_invariants j p = grind arith

  hands_in_invariants : (j : ℕ) → h.phase j ≡ amending → Invariants office (with_phase h j voting)
  hands_in_invariants j p = grind arith

  withdraws_invariants : (j : ℕ) → h.phase j ≡ amending → Invariants office (with_phase h j over)
  withdraws_invariants j p = grind arith

  drops_invariants : (j : ℕ) → h.phase j ≡ voting → Invariants office (with_phase h j over)
  drops_invariants j p = grind arith

  reads_newest_invariants : (j r : ℕ) → h.phase j ≡ amending → Invariants office (with_unseen h j r (suc (h.count r)))
  reads_newest_invariants j q p = grind arith

  reads_answered_invariants : (j r : ℕ) → h.phase j ≡ inspecting → Invariants office (with_unseen h j r (suc (answered_writers h.answers r)))
  reads_answered_invariants j q p = grind arith

  writes_invariants : (j r : ℕ) → h.phase j ≡ amending → Invariants office (with_wrote h j r)
  writes_invariants j q p = grind arith

  votes_yes_invariants : (j o : ℕ) → h.phase j ≡ voting → Clear office h j o → Invariants office (with_hold h j o true)
  votes_yes_invariants j o p c = grind arith

  releases_invariants : (j o : ℕ) → h.phase j ≡ over → Invariants office (with_hold h j o false)
  releases_invariants j o p = grind arith

  accepts_invariants : (j : ℕ) → h.phase j ≡ voting → ((r : ℕ) → Lists h j r → h.holds j (office r) ≡ true) → Invariants office (with_accepted h j)
  accepts_invariants j p c = grind arith

  installs_invariants : (j o : ℕ) → h.phase j ≡ accepted → h.holds j o ≡ true → Invariants office (with_installed office h j o)
  installs_invariants j o p c =
      record {
        exclusion = λ a k r ha wa ne hk lk. grind arith;
        currency = λ k r hk lk. grind arith;
        reads_installed = λ k r. grind arith;
        holders = λ k x hk. grind arith;
        installers = λ k r ik. grind arith;
        installed_written = λ k r ik. grind arith;
        installed_released = λ k r ik. grind arith;
        owed = λ k r sk wk. grind arith;
        version_exists = λ k r ik. grind arith;
        version_writer = λ k r ik. grind arith;
        writer_version = λ r v pv lv. grind arith;
        own_read_older = λ k r ik. grind arith;
        answered_low = λ k r ik sk. grind arith;
        low_answered = λ k r ik lk. grind arith;
        answers_installed = λ r. grind arith;
        pending_current = g.pending_current;
        inspection_answered = g.inspection_answered;
        unopened_unread = g.unopened_unread;
        unwritten = g.unwritten;
        few_versions = λ r. grind arith;
        room = λ k r hk wk. grind arith;
      }

  -- a job that is answered now: its versions are the next ones of the answered ones
  record Due (j : ℕ) : Type 0 where
    released : (o : ℕ) → h.holds j o ≡ false
    next_version : (r : ℕ) → h.wrote j r ≡ true → h.version j r ≡ suc (answered_writers h.answers r)
    next_unseen : (r : ℕ) → 0 < h.unseen j r → h.unseen j r ≡ suc (answered_writers h.answers r)
    none_behind : (U r : ℕ) → U ≢ j → Pending h U → 0 < h.unseen U r → h.unseen U r ≤ h.version j r → ⊥

  due_answer : (j : ℕ) → h.phase j ≡ accepted → ((o : ℕ) → h.holds j o ≡ false) → Unpreceded h j → Due j
  due_answer j p c f =
      record {
        released = c;
        next_version = λ r w. let k : ℕ = suc (answered_writers h.answers r) in grind (arith, g.writer_version r k, g.owed j r, c (office r), f (h.writer r k) r);
        next_unseen = λ r l. let k : ℕ = suc (answered_writers h.answers r) in grind (arith, g.writer_version r k, f (h.writer r k) r);
        none_behind = λ U r. grind (arith, f U r);
      }

  due_close : (j : ℕ) → h.phase j ≡ inspecting → Due j
  due_close j p = grind arith

  answered_invariants : (j : ℕ) → Due j → (h.phase j ≡ accepted) ⊎ (h.phase j ≡ inspecting) → Invariants office (with_answered h j)
  answered_invariants j d p = grind arith

  pub invariants_step : {h' : Machine} → Move office h h' → Invariants office h'
  invariants_step (opens j p) = opens_invariants j p
  invariants_step (opens_inspection j p) = opens_inspection_invariants j p
  invariants_step (hands_in j p) = hands_in_invariants j p
  invariants_step (withdraws j p) = withdraws_invariants j p
  invariants_step (drops j p) = drops_invariants j p
  invariants_step (reads_newest j r p) = reads_newest_invariants j r p
  invariants_step (reads_answered j r p) = reads_answered_invariants j r p
  invariants_step (writes j r p) = writes_invariants j r p
  invariants_step (votes_yes j o p c) = votes_yes_invariants j o p c
  invariants_step (releases j o p) = releases_invariants j o p
  invariants_step (accepts j p c) = accepts_invariants j p c
  invariants_step (installs j o p c) = installs_invariants j o p c
  invariants_step (answers j p c f) = answered_invariants j (due_answer j p c f) (inl p)
  invariants_step (closes j p) = answered_invariants j (due_close j p) (inr p)

  pub series_step : {h' : Machine} → Series h.answers → Move office h h' → Series h'.answers
  series_step s (opens j p) = s
  series_step s (opens_inspection j p) = s
  series_step s (hands_in j p) = s
  series_step s (withdraws j p) = s
  series_step s (drops j p) = s
  series_step s (reads_newest j r p) = s
  series_step s (reads_answered j r p) = s
  series_step s (writes j r p) = s
  series_step s (votes_yes j o p c) = s
  series_step s (releases j o p) = s
  series_step s (accepts j p c) = s
  series_step s (installs j o p c) = s
  series_step s (answers j p c f) = let d = due_answer j p c f in (λ r. (d.next_version r, d.next_unseen r), s)
  series_step s (closes j p) = let d = due_close j p in (λ r. (d.next_version r, d.next_unseen r), s)
