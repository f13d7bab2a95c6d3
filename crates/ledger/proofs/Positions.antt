-- Look-ups in a job's lists by the first entry of the record. Assumes nothing.
use Rattle.std.proofs.Common.{◌≡◌, ℕ, suc, ◌+◌, ◌<◌, ◌≤◌, Bool, true, false, cond, not, ◌&&◌, eqb, leb, List, [], ◌∷◌, ◌++◌, length, get_or, set, is_some, Some, None, Option, sym, refl, ap, subst, arith}
use Rattle.std.specs.List.{find, position_or_len}
use Rattle.std.specs.Option.{option_map}
use Rattle.ledger.specs.Lookups.{unseen_after}
use Rattle.ledger.specs.Model.{first_unseen, has_written, installed_version, written_place}
use Rattle.ledger.specs.Writing.{with_place}
use Rattle.ledger.specs.declared.job.Read.{Read}
use Rattle.ledger.specs.declared.job.Write.{Write}

abbrev pub read_of : ℕ → Read → Bool
read_of r x = eqb x.«record» r

abbrev pub write_of : ℕ → Write → Bool
write_of r x = eqb x.«record» r

pub unseen_found : (xs : List Read) (r : ℕ) → unseen_after (option_map (λ (x : Read). x.version) (find (read_of r) xs)) ≡ first_unseen xs r
unseen_found [] r = refl
unseen_found (x ∷ xs) r = by_test (eqb x.«record» r) (unseen_found xs r)
  where
    by_test : (b : Bool) → unseen_after (option_map (λ (x : Read). x.version) (find (read_of r) xs)) ≡ first_unseen xs r →
        unseen_after (option_map (λ (x : Read). x.version) (cond b (Some x) (find (read_of r) xs))) ≡ cond b (suc x.version) (first_unseen xs r)
    by_test true ih = refl
    by_test false ih = ih

abbrev own : List Write → ℕ → Option ℕ
own xs r = cond (has_written xs r) (Some (written_place xs r)) None

pub own_found : (xs : List Write) (r : ℕ) → option_map (λ (x : Write). x.place) (find (write_of r) xs) ≡ cond (has_written xs r) (Some (written_place xs r)) None
own_found [] r = refl
own_found (x ∷ xs) r = by_test (eqb x.«record» r) (own_found xs r)
  where
    by_test : (b : Bool) → option_map (λ (x : Write). x.place) (find (write_of r) xs) ≡ own xs r →
        option_map (λ (x : Write). x.place) (cond b (Some x) (find (write_of r) xs)) ≡ cond (cond b true (has_written xs r)) (Some (cond b x.place (written_place xs r))) None
    by_test true ih = refl
    by_test false ih = ih

-- the version that was found, or 0
abbrev pub version_or_none : Option Write → ℕ
version_or_none None = 0
version_or_none (Some x) = x.version

pub installed_found : (xs : List Write) (r : ℕ) → version_or_none (find (write_of r) xs) ≡ installed_version xs r
installed_found [] r = refl
installed_found (x ∷ xs) r = by_test (eqb x.«record» r) (installed_found xs r)
  where
    by_test : (b : Bool) → version_or_none (find (write_of r) xs) ≡ installed_version xs r → version_or_none (cond b (Some x) (find (write_of r) xs)) ≡ cond b x.version (installed_version xs r)
    by_test true ih = refl
    by_test false ih = ih

pub written_found : (xs : List Write) (r : ℕ) → is_some (find (write_of r) xs) ≡ has_written xs r
written_found [] r = refl
written_found (x ∷ xs) r = by_test (eqb x.«record» r) (written_found xs r)
  where
    by_test : (b : Bool) → is_some (find (write_of r) xs) ≡ has_written xs r → is_some (cond b (Some x) (find (write_of r) xs)) ≡ cond b true (has_written xs r)
    by_test true ih = refl
    by_test false ih = ih

written_past : (xs : List Write) (r : ℕ) → length xs ≤ position_or_len (write_of r) xs → has_written xs r ≡ false
written_past [] r h = refl
written_past (x ∷ xs) r h = let ih = written_past xs r in grind arith

replaced_at : (xs : List Write) (r p : ℕ) (d : Write) → position_or_len (write_of r) xs < length xs →
    set xs (position_or_len (write_of r) xs) (record { «record» = (get_or xs (position_or_len (write_of r) xs) d).«record»; place = p; version = (get_or xs (position_or_len (write_of r) xs) d).version }) ≡ with_place xs r p
replaced_at [] r p d h = absurd (omega arith)
replaced_at (x ∷ xs) r p d h = by_test (eqb x.«record» r) refl (replaced_at xs r p d)
  where
    k : ℕ
    k = position_or_len (write_of r) xs

    by_test : (b : Bool) → eqb x.«record» r ≡ b →
        (k < length xs → set xs k (record { «record» = (get_or xs k d).«record»; place = p; version = (get_or xs k d).version }) ≡ with_place xs r p) →
        set (x ∷ xs) (cond (not b) (1 + k) 0) (record { «record» = (get_or (x ∷ xs) (cond (not b) (1 + k) 0) d).«record»; place = p; version = (get_or (x ∷ xs) (cond (not b) (1 + k) 0) d).version })
        ≡ cond b (record { «record» = r; place = p; version = x.version } ∷ xs) (x ∷ with_place xs r p)
    by_test true e ih = ap (λ n. record { «record» = n; place = p; version = x.version } ∷ xs) (grind arith)
    by_test false e ih =
        let next : suc k ≡ 1 + k = omega arith in
        subst (λ n. set (x ∷ xs) n (record { «record» = (get_or (x ∷ xs) n d).«record»; place = p; version = (get_or (x ∷ xs) n d).version }) ≡ x ∷ with_place xs r p) next
        (ap (λ (l : List Write). x ∷ l) (ih (grind arith)))

added_past : (xs : List Write) (r p : ℕ) → length xs ≤ position_or_len (write_of r) xs → xs ++ record { «record» = r; place = p; version = 0 } ∷ [] ≡ with_place xs r p
added_past [] r p h = refl
added_past (x ∷ xs) r p h = by_test (eqb x.«record» r) refl (added_past xs r p)
  where
    by_test : (b : Bool) → eqb x.«record» r ≡ b → (length xs ≤ position_or_len (write_of r) xs → xs ++ record { «record» = r; place = p; version = 0 } ∷ [] ≡ with_place xs r p) →
        x ∷ (xs ++ record { «record» = r; place = p; version = 0 } ∷ []) ≡ cond b (record { «record» = r; place = p; version = x.version } ∷ xs) (x ∷ with_place xs r p)
    by_test true e ih = absurd (grind arith)
    by_test false e ih = ap (λ (l : List Write). x ∷ l) (ih (grind arith))

module _ (xs : List Write) (r : ℕ) where
  -- a second write replaces the first at its position
  pub place_replaced : (k p : ℕ) (d : Write) → k ≡ position_or_len (write_of r) xs → k < length xs →
      set xs k (record { «record» = (get_or xs k d).«record»; place = p; version = (get_or xs k d).version }) ≡ with_place xs r p
  place_replaced k p d e h =
      subst (λ n. set xs n (record { «record» = (get_or xs n d).«record»; place = p; version = (get_or xs n d).version }) ≡ with_place xs r p) (sym e) (replaced_at xs r p d (omega (arith, e, h)))

  module _ (h : length xs ≤ position_or_len (write_of r) xs) where
    -- a first write joins the end
    pub place_added : (p : ℕ) → xs ++ record { «record» = r; place = p; version = 0 } ∷ [] ≡ with_place xs r p
    place_added p = added_past xs r p h

    -- a list in which a first write is not refused has room for it
    pub room_for_write : not (has_written xs r) && leb 8 (length xs) ≡ false → length xs < 8
    room_for_write q = let w = written_past xs r h in grind arith
