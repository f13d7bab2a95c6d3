-- Lists of entries (a record with a version or a place), and the values that the shelf has at the places.
-- each place is below n
use Rattle.std.proofs.Common.{◌≡◌, ℕ, zero, suc, pred, ◌<◌, ◌≤◌, Bool, true, false, cond, not, ◌&&◌, eqb, leb, List, [], ◌∷◌, ◌++◌, map, length, Some, None, Option, sym, refl, ap, ◌∙◌, arith}
use Rattle.std.proofs.Math.Dec.{eqb-suc-zero}
use Rattle.std.specs.List.{cons_option, slice_get, AllByRecursion}
use Rattle.std.proofs.lemmas.Bool.Decides.{nat_tests}
use Rattle.std.proofs.ByRecursion.{All-weaker}
use Rattle.std.specs.List.{list_any}
use Rattle.ledger.specs.Model.{LedgerModel, row, first_unseen, has_written, installed_version}
use Rattle.ledger.specs.Reading.{newest, is_new_read}
use Rattle.ledger.specs.declared.job.Read.{Read}
use Rattle.ledger.specs.declared.job.Write.{Write}
use Rattle.history.specs.Histories.{LeafWrite}
use Rattle.protocol.specs.Calls.{LedgerCall, call_open, call_read, call_write, call_hand_in, call_collect, call_close, call_withdraw, call_deliver}
use Rattle.protocol.proofs.Lookups.{unseen_push}
use Rattle.protocol.proofs.RowSteps.{entries, with_entry, Core, core, core_after}
use Rattle.protocol.proofs.VersionSteps.{has_written_entry}
use Rattle.archive.specs.Leaves.{leaf_write, leaf_writes}
use Rattle.house.specs.Log.{contains, with_value, value_of}

abbrev pub Within : ℕ → List Read → Type 0
Within n xs = AllByRecursion (λ (x : Read). x.version < n) xs

-- no record stands twice
abbrev pub OnceEach : List Read → Type 0
OnceEach [] = Unit {0}
OnceEach (x ∷ xs) = (first_unseen xs x.«record» ≡ 0) × OnceEach xs

pub within_more : (n m : ℕ) (xs : List Read) → n ≤ m → Within n xs → Within m xs
within_more n m xs l a = All-weaker (λ x. x.version < n) (λ x. x.version < m) (λ x b. omega arith) xs a

pub within_with_entry : (n m p r : ℕ) (xs : List Read) → n ≤ m → p < m → Within n xs → Within m (with_entry xs r p)
within_with_entry n m p r [] l b a = (b, tt)
within_with_entry n m p r (x ∷ xs) l b a = go (eqb x.«record» r) (within_with_entry n m p r xs l b a.1)
  where
    go : (t : Bool) → Within m (with_entry xs r p) → Within m (cond t (record { «record» = r; version = p } ∷ xs) (x ∷ with_entry xs r p))
    go true i = (b, within_more n m xs l a.1)
    go false i = (let z = a.0 in omega arith, i)

-- the entry that a look-up finds is within
pub within_found : (n : ℕ) (xs : List Read) (r : ℕ) → Within n xs → 0 < first_unseen xs r → pred (first_unseen xs r) < n
within_found n [] r a l = absurd (grind arith)
within_found n (x ∷ xs) r a l = let i = within_found n xs r a.1 in let z = a.0 in grind arith

unseen_with_entry : (xs : List Read) (r p s : ℕ) → first_unseen (with_entry xs r p) s ≡ cond (eqb s r) (suc p) (first_unseen xs s)
unseen_with_entry [] r p s = grind arith
unseen_with_entry (x ∷ xs) r p s = let i = unseen_with_entry xs r p s in grind arith

once_push : (xs : List Read) (r v : ℕ) → first_unseen xs r ≡ 0 → OnceEach xs → OnceEach (xs ++ record { «record» = r; version = v } ∷ [])
once_push [] r v e u = (refl, tt)
once_push (x ∷ xs) r v e u = let z = u.0 in (grind (arith, unseen_push xs r v x.«record»), once_push xs r v (grind arith) u.1)

once_with_entry : (xs : List Read) (r p : ℕ) → OnceEach xs → OnceEach (with_entry xs r p)
once_with_entry [] r p u = (refl, tt)
once_with_entry (x ∷ xs) r p u = go (eqb x.«record» r) refl (once_with_entry xs r p u.1)
  where
    z : first_unseen xs x.«record» ≡ 0
    z = u.0

    go : (b : Bool) → eqb x.«record» r ≡ b → OnceEach (with_entry xs r p) → OnceEach (cond b (record { «record» = r; version = p } ∷ xs) (x ∷ with_entry xs r p))
    go true e i = (let q : x.«record» ≡ r = grind arith in rw q at z, u.1)
    go false e i = (grind (arith, unseen_with_entry xs r p x.«record»), i)

-- by records alone
abbrev pub records_of : List Read → List ℕ
records_of xs = map (λ (q : Read). q.«record») xs

pub contains_record : (xs : List Read) (r : ℕ) → contains (records_of xs) r ≡ not (eqb (first_unseen xs r) 0)
contains_record [] r = refl
contains_record (x ∷ xs) r = let i = contains_record xs r in grind (arith, nat_tests)

-- what the look-up says holds of each entry
pub each_read : (f : ℕ → ℕ) (xs : List Read) → OnceEach xs → ((r : ℕ) → 0 < first_unseen xs r → first_unseen xs r ≡ suc (f r)) → AllByRecursion (λ (q : Read). q.version ≡ f q.«record») xs
each_read f [] u h = tt
each_read f (x ∷ xs) u h = (let a = h x.«record» in grind arith, each_read f xs u.1 (λ r l. let a = h r in let z = u.0 in under r l a z (eqb x.«record» r) refl))
  where
    under : (r : ℕ) → 0 < first_unseen xs r → (0 < first_unseen (x ∷ xs) r → first_unseen (x ∷ xs) r ≡ suc (f r)) → first_unseen xs x.«record» ≡ 0 → (b : Bool) → eqb x.«record» r ≡ b → first_unseen xs r ≡ suc (f r)
    under r l a z true e = absurd (let i : x.«record» ≡ r = grind arith in let y : first_unseen xs r ≡ 0 = rw i at z in omega arith)
    under r l a z false e = grind arith

pub each_write : (g : ℕ → ℕ) (ws : List Write) → OnceEach (entries ws) → ((r : ℕ) → has_written ws r ≡ true → installed_version ws r ≡ g r) → AllByRecursion (λ (w : Write). w.version ≡ g w.«record») ws
each_write g [] u h = tt
each_write g (w ∷ ws) u h = (let a = h w.«record» in grind arith, each_write g ws u.1 (λ r l. let a = h r in under r l a (eqb w.«record» r) refl))
  where
    z : has_written ws w.«record» ≡ false
    z = let e = u.0 in has_written_entry ws w.«record» ∙ (rw e refl)

    under : (r : ℕ) → has_written ws r ≡ true → (has_written (w ∷ ws) r ≡ true → installed_version (w ∷ ws) r ≡ g r) → (b : Bool) → eqb w.«record» r ≡ b → installed_version ws r ≡ g r
    under r l a true e = absurd (let i : w.«record» ≡ r = grind arith in let y : has_written ws r ≡ false = rw i at z in grind arith)
    under r l a false e = grind arith

pub reads_by_record : (g : ℕ → ℕ) (xs : List Read) → AllByRecursion (λ (q : Read). q.version ≡ g q.«record») xs → xs ≡ map {B = Read} (λ (r : ℕ). record { «record» = r; version = g r }) (records_of xs)
reads_by_record g [] a = refl
reads_by_record g (x ∷ xs) a = let i = reads_by_record g xs a.1 in λ k. record { «record» = x.«record»; version = a.0 k } ∷ i k

-- the lists of a row after a call

pub once_reads_after : (l : LedgerModel) (c : LedgerCall) (k : ℕ) → OnceEach (core (row l k)).reads → OnceEach (core_after l c k (core (row l k))).reads
once_reads_after l (call_open j s) k u = go (eqb k j)
  where
    go : (b : Bool) → OnceEach (cond b (record { kind = s; reads = (row l k).reads; writes = entries (row l k).writes }) (core (row l k))).reads
    go true = u
    go false = u
once_reads_after l (call_read j r) k u = go (eqb k j) refl (is_new_read (row l j) r) refl
  where
    go : (a : Bool) → eqb k j ≡ a → (b : Bool) → is_new_read (row l j) r ≡ b →
        OnceEach (cond (a && b) (record { kind = (row l k).kind; reads = (row l k).reads ++ record { «record» = r; version = newest l (row l j) r } ∷ []; writes = entries (row l k).writes }) (core (row l k))).reads
    go true p true q = let i : k ≡ j = grind arith in once_push (row l k).reads r (newest l (row l j) r) (rw i (grind arith)) u
    go true p false q = u
    go false p b q = u
once_reads_after l (call_write j r p) k u = go (eqb k j)
  where
    go : (b : Bool) → OnceEach (cond b (record { kind = (row l k).kind; reads = (row l k).reads; writes = with_entry (entries (row l k).writes) r p }) (core (row l k))).reads
    go true = u
    go false = u
once_reads_after l (call_hand_in j) k u = u
once_reads_after l (call_collect j) k u = u
once_reads_after l (call_close j) k u = u
once_reads_after l (call_withdraw j) k u = u
once_reads_after l (call_deliver j o) k u = u

pub once_writes_after : (l : LedgerModel) (c : LedgerCall) (k : ℕ) (x : Core) → OnceEach x.writes → OnceEach (core_after l c k x).writes
once_writes_after l (call_open j s) k x u = go (eqb k j)
  where
    go : (b : Bool) → OnceEach (cond b (record { kind = s; reads = x.reads; writes = x.writes }) x).writes
    go true = u
    go false = u
once_writes_after l (call_read j r) k x u = go (eqb k j && is_new_read (row l j) r)
  where
    go : (b : Bool) → OnceEach (cond b (record { kind = x.kind; reads = x.reads ++ record { «record» = r; version = newest l (row l j) r } ∷ []; writes = x.writes }) x).writes
    go true = u
    go false = u
once_writes_after l (call_write j r p) k x u = go (eqb k j)
  where
    go : (b : Bool) → OnceEach (cond b (record { kind = x.kind; reads = x.reads; writes = with_entry x.writes r p }) x).writes
    go true = once_with_entry x.writes r p u
    go false = u
once_writes_after l (call_hand_in j) k x u = u
once_writes_after l (call_collect j) k x u = u
once_writes_after l (call_close j) k x u = u
once_writes_after l (call_withdraw j) k x u = u
once_writes_after l (call_deliver j o) k x u = u

-- a listed version stays
pub listed_stays : (l : LedgerModel) (c : LedgerCall) (k s : ℕ) → 0 < first_unseen (core (row l k)).reads s → first_unseen (core_after l c k (core (row l k))).reads s ≡ first_unseen (core (row l k)).reads s
listed_stays l (call_open j t) k s u = go (eqb k j)
  where
    go : (b : Bool) → first_unseen (cond b (record { kind = t; reads = (row l k).reads; writes = entries (row l k).writes }) (core (row l k))).reads s ≡ first_unseen (row l k).reads s
    go true = refl
    go false = refl
listed_stays l (call_read j r) k s u = go (eqb k j) refl (is_new_read (row l j) r) refl
  where
    xs : List Read
    xs = (row l k).reads

    n : ℕ
    n = newest l (row l j) r

    other : first_unseen xs r ≡ 0 → (t : Bool) → eqb s r ≡ t → t ≡ false
    other z true q = absurd (let i : s ≡ r = grind arith in let y : 0 < first_unseen xs r = rw i at u in omega arith)
    other z false q = refl

    pushed : first_unseen xs r ≡ 0 → first_unseen (xs ++ record { «record» = r; version = n } ∷ []) s ≡ first_unseen xs s
    pushed z = unseen_push xs r n s z ∙ ap (λ b. cond b (suc n) (first_unseen xs s)) (other z (eqb s r) refl)

    go : (a : Bool) → eqb k j ≡ a → (b : Bool) → is_new_read (row l j) r ≡ b →
        first_unseen (cond (a && b) (record { kind = (row l k).kind; reads = xs ++ record { «record» = r; version = n } ∷ []; writes = entries (row l k).writes }) (core (row l k))).reads s ≡ first_unseen xs s
    go true p true q = let i : k ≡ j = grind arith in pushed (rw i (grind arith))
    go true p false q = refl
    go false p b q = refl
listed_stays l (call_write j r p) k s u = go (eqb k j)
  where
    go : (b : Bool) → first_unseen (cond b (record { kind = (row l k).kind; reads = (row l k).reads; writes = with_entry (entries (row l k).writes) r p }) (core (row l k))).reads s ≡ first_unseen (row l k).reads s
    go true = refl
    go false = refl
listed_stays l (call_hand_in j) k s u = refl
listed_stays l (call_collect j) k s u = refl
listed_stays l (call_close j) k s u = refl
listed_stays l (call_withdraw j) k s u = refl
listed_stays l (call_deliver j o) k s u = refl

-- the values at the places

module _ {V : Type 0} where
  pub nth_old : (vs : List V) (v : V) (p : ℕ) → p < length vs → slice_get (vs ++ v ∷ []) p ≡ slice_get vs p
  nth_old [] v p l = absurd (omega arith)
  nth_old (x ∷ vs) v zero l = refl
  nth_old (x ∷ vs) v (suc p) l = nth_old vs v p (omega arith)

  nth_new : (vs : List V) (v : V) → slice_get (vs ++ v ∷ []) (length vs) ≡ Some v
  nth_new [] v = refl
  nth_new (x ∷ vs) v = nth_new vs v

  pub nth_some : (vs : List V) (p : ℕ) → p < length vs → (v : V) × (slice_get vs p ≡ Some v)
  nth_some [] p l = absurd (omega arith)
  nth_some (x ∷ vs) zero l = (x, refl)
  nth_some (x ∷ vs) (suc p) l = nth_some vs p (omega arith)

  abbrev pub paired : ℕ → Option V → Option (ℕ × V)
  paired r None = None
  paired r (Some v) = Some (r, v)

  -- each record with the value at its place
  abbrev pub valued : List V → List Read → List (ℕ × V)
  valued vs [] = []
  valued vs (x ∷ xs) = cons_option (paired x.«record» (slice_get vs x.version)) (valued vs xs)

  pub valued_push : (vs : List V) (v : V) (xs : List Read) → Within (length vs) xs → valued (vs ++ v ∷ []) xs ≡ valued vs xs
  valued_push vs v [] a = refl
  valued_push vs v (x ∷ xs) a = rw (nth_old vs v x.version a.0, valued_push vs v xs a.1) refl

  pub valued_with_entry : (vs : List V) (v : V) (r : ℕ) (xs : List Read) → Within (length vs) xs → valued (vs ++ v ∷ []) (with_entry xs r (length vs)) ≡ with_value (valued vs xs) r v
  valued_with_entry vs v r [] a = rw (nth_new vs v) refl
  valued_with_entry vs v r (x ∷ xs) a = go (eqb x.«record» r) refl (valued_with_entry vs v r xs a.1)
    where
      s : (u : V) × (slice_get vs x.version ≡ Some u)
      s = nth_some vs x.version a.0

      go : (b : Bool) → eqb x.«record» r ≡ b → valued (vs ++ v ∷ []) (with_entry xs r (length vs)) ≡ with_value (valued vs xs) r v →
          valued (vs ++ v ∷ []) (cond b (record { «record» = r; version = length vs } ∷ xs) (x ∷ with_entry xs r (length vs))) ≡ with_value (cons_option (paired x.«record» (slice_get vs x.version)) (valued vs xs)) r v
      go true e i = rw (nth_new vs v, valued_push vs v xs a.1, s.1, e) refl
      go false e i = rw (nth_old vs v x.version a.0, s.1, i, e) refl

  pub value_of_valued : (vs : List V) (xs : List Read) (r : ℕ) → Within (length vs) xs → value_of (valued vs xs) r ≡ cond (eqb (first_unseen xs r) 0) None (slice_get vs (pred (first_unseen xs r)))
  value_of_valued vs [] r a = refl
  value_of_valued vs (x ∷ xs) r a = go (eqb x.«record» r) refl (value_of_valued vs xs r a.1)
    where
      s : (u : V) × (slice_get vs x.version ≡ Some u)
      s = nth_some vs x.version a.0

      go : (b : Bool) → eqb x.«record» r ≡ b → value_of (valued vs xs) r ≡ cond (eqb (first_unseen xs r) 0) None (slice_get vs (pred (first_unseen xs r))) →
          value_of (cons_option (paired x.«record» (slice_get vs x.version)) (valued vs xs)) r ≡ cond (eqb (cond b (suc x.version) (first_unseen xs r)) 0) None (slice_get vs (pred (cond b (suc x.version) (first_unseen xs r))))
      go true e i = rw (s.1, e) (sym (ap (λ t. cond {A = Option V} t None (Some s.0)) (eqb-suc-zero x.version)))
      go false e i = rw (s.1, e) i

  pub any_valued : (vs : List V) (xs : List Read) (r : ℕ) → Within (length vs) xs → list_any (λ (x : ℕ × V). eqb x.0 r) (valued vs xs) ≡ not (eqb (first_unseen xs r) 0)
  any_valued vs [] r a = refl
  any_valued vs (x ∷ xs) r a = go (eqb x.«record» r) refl (any_valued vs xs r a.1)
    where
      s : (u : V) × (slice_get vs x.version ≡ Some u)
      s = nth_some vs x.version a.0

      go : (b : Bool) → eqb x.«record» r ≡ b → list_any (λ (x : ℕ × V). eqb x.0 r) (valued vs xs) ≡ not (eqb (first_unseen xs r) 0) →
          list_any (λ (x : ℕ × V). eqb x.0 r) (cons_option (paired x.«record» (slice_get vs x.version)) (valued vs xs)) ≡ not (eqb (cond b (suc x.version) (first_unseen xs r)) 0)
      go true e i = rw (s.1, e) (sym (ap not (eqb-suc-zero x.version)))
      go false e i = rw (s.1, e) i

  -- the writes of a leaf

  pub pairs_of_leaf : (vs : List V) (ws : List Write) → map {B = ℕ × V} (λ (w : LeafWrite V). (w.«record», w.value)) (leaf_writes vs ws) ≡ valued vs (entries ws)
  pairs_of_leaf vs [] = refl
  pairs_of_leaf vs (w ∷ ws) = go (slice_get vs w.place) (pairs_of_leaf vs ws)
    where
      go : (o : Option V) → map {B = ℕ × V} (λ (w : LeafWrite V). (w.«record», w.value)) (leaf_writes vs ws) ≡ valued vs (entries ws) →
          map {B = ℕ × V} (λ (w : LeafWrite V). (w.«record», w.value)) (cons_option (leaf_write w o) (leaf_writes vs ws)) ≡ cons_option (paired w.«record» o) (valued vs (entries ws))
      go None i = i
      go (Some v) i = ap (λ l. (w.«record», v) ∷ l) i

  -- what holds of the writes of a row holds of the leaf's
  pub all_leaf_writes : (P : ℕ → ℕ → Type 0) (vs : List V) (ws : List Write) → AllByRecursion (λ (w : Write). P w.«record» w.version) ws → AllByRecursion (λ (w : LeafWrite V). P w.«record» w.version) (leaf_writes vs ws)
  all_leaf_writes P vs [] a = tt
  all_leaf_writes P vs (w ∷ ws) a = go (slice_get vs w.place) (all_leaf_writes P vs ws a.1)
    where
      go : (o : Option V) → AllByRecursion (λ (w : LeafWrite V). P w.«record» w.version) (leaf_writes vs ws) → AllByRecursion (λ (w : LeafWrite V). P w.«record» w.version) (cons_option (leaf_write w o) (leaf_writes vs ws))
      go None i = i
      go (Some v) i = (a.0, i)

  -- the leaf's writes, where the versions are a function of the record
  pub leaf_writes_by_record : (g : ℕ → ℕ) (vs : List V) (ws : List Write) → AllByRecursion (λ (w : Write). w.version ≡ g w.«record») ws →
      leaf_writes vs ws ≡ map {B = LeafWrite V} (λ (x : ℕ × V). record { «record» = x.0; version = g x.0; value = x.1 }) (valued vs (entries ws))
  leaf_writes_by_record g vs [] a = refl
  leaf_writes_by_record g vs (w ∷ ws) a = go (slice_get vs w.place) (leaf_writes_by_record g vs ws a.1)
    where
      go : (o : Option V) → leaf_writes vs ws ≡ map {B = LeafWrite V} (λ (x : ℕ × V). record { «record» = x.0; version = g x.0; value = x.1 }) (valued vs (entries ws)) →
          cons_option (leaf_write w o) (leaf_writes vs ws) ≡ map {B = LeafWrite V} (λ (x : ℕ × V). record { «record» = x.0; version = g x.0; value = x.1 }) (cons_option (paired w.«record» o) (valued vs (entries ws)))
      go None i = i
      go (Some v) i = λ k. record { «record» = w.«record»; version = a.0 k; value = v } ∷ i k

  -- no place is missing
  pub none_missing : (vs : List V) (ws : List Write) → Within (length vs) (entries ws) → list_any (λ w. leb (length vs) w.place) ws ≡ false
  none_missing vs [] a = refl
  none_missing vs (w ∷ ws) a = let i = none_missing vs ws a.1 in let z = a.0 in grind arith
