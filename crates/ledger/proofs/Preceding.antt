-- One job precedes another only in a record that both list: so the lists of the later job can be gone over in the place of the first one's. Assumes nothing.
use Rattle.std.proofs.Common.{◌≡◌, ℕ, suc, ◌<◌, Bool, true, false, cond, ◌&&◌, ◌||◌, eqb, ltb, leb, ◌⊎◌, List, [], ◌∷◌, sym, refl, ap, ◌∙◌, inl, inr, arith}
use Rattle.std.proofs.lemmas.Bool.{cases_lt, eqb-true}
use Rattle.std.proofs.lemmas.Bool.Decides.{nat_tests}
use Rattle.std.specs.List.{list_any}
use Rattle.ledger.specs.Answering.{precedes_in, precedes}
use Rattle.ledger.specs.Model.{RowModel, first_unseen, installed_version}
use Rattle.ledger.specs.declared.job.Read.{Read}
use Rattle.ledger.specs.declared.job.Write.{Write}

either : (a b : Bool) → (a || b) ≡ true → (a ≡ true) ⊎ (b ≡ true)
either true b e = inl refl
either false b e = inr e

or_right : (a : Bool) → (a || true) ≡ true
or_right true = refl
or_right false = refl

-- an entry of a record that passes is found, and what is found is of such a record
module _ (passes : ℕ → Bool) where
  read_there : (xs : List Read) (r : ℕ) → 0 < first_unseen xs r → passes r ≡ true → list_any (λ z. passes z.«record») xs ≡ true
  read_there [] r h e = absurd (omega arith)
  read_there (x ∷ xs) r h e = go (eqb x.«record» r) refl h (read_there xs r)
    where
      go : (b : Bool) → eqb x.«record» r ≡ b → 0 < cond b (suc x.version) (first_unseen xs r) → (0 < first_unseen xs r → passes r ≡ true → list_any (λ z. passes z.«record») xs ≡ true) →
          (passes x.«record» || list_any (λ z. passes z.«record») xs) ≡ true
      go true q l ih = ap (λ b. b || list_any (λ z. passes z.«record») xs) (ap passes (eqb-true x.«record» r q) ∙ e)
      go false q l ih = ap (λ b. passes x.«record» || b) (ih l e) ∙ or_right (passes x.«record»)

  write_there : (xs : List Write) (r : ℕ) → 0 < installed_version xs r → passes r ≡ true → list_any (λ z. passes z.«record») xs ≡ true
  write_there [] r h e = absurd (omega arith)
  write_there (x ∷ xs) r h e = go (eqb x.«record» r) refl h (write_there xs r)
    where
      go : (b : Bool) → eqb x.«record» r ≡ b → 0 < cond b x.version (installed_version xs r) → (0 < installed_version xs r → passes r ≡ true → list_any (λ z. passes z.«record») xs ≡ true) →
          (passes x.«record» || list_any (λ z. passes z.«record») xs) ≡ true
      go true q l ih = ap (λ b. b || list_any (λ z. passes z.«record») xs) (ap passes (eqb-true x.«record» r q) ∙ e)
      go false q l ih = ap (λ b. passes x.«record» || b) (ih l e) ∙ or_right (passes x.«record»)

  found : {X : Type 0} (of : X → ℕ) (xs : List X) → list_any (λ z. passes (of z)) xs ≡ true → (r : ℕ) × (passes r ≡ true)
  found of [] e = absurd (grind arith)
  found of (x ∷ xs) e = go (passes (of x)) refl e (found of xs)
    where
      go : (b : Bool) → passes (of x) ≡ b → (b || list_any (λ z. passes (of z)) xs) ≡ true → (list_any (λ z. passes (of z)) xs ≡ true → (r : ℕ) × (passes r ≡ true)) → (r : ℕ) × (passes r ≡ true)
      go true q e ih = (of x, q)
      go false q e ih = ih e

-- of the four versions of a record: installed and first unseen by the first job, first unseen and installed by the later one

in_first : (a b c d : ℕ) → ((ltb 0 a && (ltb a c || ltb a d)) || (ltb 0 b && leb b d)) ≡ true → (0 < a) ⊎ (0 < b)
in_first a b c d e = elim (cases_lt 0 a) [
  | inl h ↦ inl h
  | inr h ↦ elim (cases_lt 0 b) [
    | inl k ↦ inr k
    | inr k ↦ absurd (grind (arith, nat_tests))
  ]
]

in_later : (a b c d : ℕ) → ((ltb 0 a && (ltb a c || ltb a d)) || (ltb 0 b && leb b d)) ≡ true → (0 < c) ⊎ (0 < d)
in_later a b c d e = elim (cases_lt 0 c) [
  | inl h ↦ inl h
  | inr h ↦ elim (cases_lt 0 d) [
    | inl k ↦ inr k
    | inr k ↦ absurd (grind (arith, nat_tests))
  ]
]

module _ (u t : RowModel) where
  abbrev in_record : ℕ → Bool
  in_record r = precedes_in u t r

  abbrev pub by_later : Bool
  by_later = list_any (λ z. in_record z.«record») t.writes || list_any (λ z. in_record z.«record») t.reads

  first_lists : (r : ℕ) → in_record r ≡ true → precedes u t ≡ true
  first_lists r e = elim (in_first (installed_version u.writes r) (first_unseen u.reads r) (first_unseen t.reads r) (installed_version t.writes r) e) [
    | inl h ↦ ap (λ b. b || list_any (λ z. in_record z.«record») u.reads) (write_there in_record u.writes r h e)
    | inr h ↦ ap (λ b. list_any (λ z. in_record z.«record») u.writes || b) (read_there in_record u.reads r h e) ∙ or_right (list_any (λ z. in_record z.«record») u.writes)
  ]

  later_lists : (r : ℕ) → in_record r ≡ true → by_later ≡ true
  later_lists r e = elim (in_later (installed_version u.writes r) (first_unseen u.reads r) (first_unseen t.reads r) (installed_version t.writes r) e) [
    | inl h ↦ ap (λ b. list_any (λ z. in_record z.«record») t.writes || b) (read_there in_record t.reads r h e) ∙ or_right (list_any (λ z. in_record z.«record») t.writes)
    | inr h ↦ ap (λ b. b || list_any (λ z. in_record z.«record») t.reads) (write_there in_record t.writes r h e)
  ]

  some_record : (ws : List Write) (rs : List Read) → (list_any (λ z. in_record z.«record») ws || list_any (λ z. in_record z.«record») rs) ≡ true → (r : ℕ) × (in_record r ≡ true)
  some_record ws rs e = elim (either (list_any (λ z. in_record z.«record») ws) (list_any (λ z. in_record z.«record») rs) e) [
    | inl w ↦ found in_record (λ (z : Write). z.«record») ws w
    | inr q ↦ found in_record (λ (z : Read). z.«record») rs q
  ]

  pub precedes_by_later : by_later ≡ precedes u t
  precedes_by_later = go by_later refl (precedes u t) refl
    where
      go : (a : Bool) → by_later ≡ a → (b : Bool) → precedes u t ≡ b → a ≡ b
      go true x true y = refl
      go false x false y = refl
      go true x false y = let s = some_record t.writes t.reads x in sym (first_lists s.0 s.1) ∙ y
      go false x true y = let s = some_record u.writes u.reads y in sym x ∙ later_lists s.0 s.1
