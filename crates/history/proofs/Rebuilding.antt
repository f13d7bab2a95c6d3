-- Outlines and the order of conflicting jobs give back the leaves: who wrote a record before a job is decided job by job, and only conflicts matter.
use Rattle.std.proofs.Common.{◌≡◌, ℕ, suc, ◌+◌, Bool, true, false, cond, eqb, List, [], ◌∷◌, map, is_some, Some, None, Option, sym, refl, ap, ◌∙◌, subst, arith}
use Rattle.std.specs.List.{AllByRecursion, list_any}
use Rattle.std.proofs.ByRecursion.{All-weaker}
use Rattle.std.proofs.lemmas.Bool.{or_left, or_right, eq-eqb}
use Rattle.ledger.specs.Limits.{last_job}
use Rattle.ledger.specs.declared.job.Read.{Read}
use Rattle.history.specs.Histories.{LeafWrite, Leaf, Outline, outline, wrote, used, writer_count, leaf_of, earlier, is_before, Fits, Serial}
use Rattle.std.specs.Option.{option_map}
use Rattle.history.specs.Laws.{SameOutlines, SameOrder}
use Rattle.history.proofs.Positions.{fits_at, serial_earlier, leaf_earlier}
use Rattle.history.proofs.Searches.{list_any-map}
use Rattle.history.proofs.Counts.{below_same, wrote_if_any, writers_by_job}

-- each element's record is one of the list's
all_listed : {Q : Type 0} (number : Q → ℕ) (qs : List Q) → AllByRecursion (λ q. list_any (λ p. eqb (number p) (number q)) qs ≡ true) qs
all_listed number [] = tt
all_listed number (p ∷ qs) = (
  or_left _ (list_any (λ o. eqb (number o) (number p)) qs) (eq-eqb (number p) (number p) refl),
  All-weaker (λ q. list_any (λ o. eqb (number o) (number q)) qs ≡ true) (λ q. list_any (λ o. eqb (number o) (number q)) (p ∷ qs) ≡ true) (λ q e. or_right (eqb (number p) (number q)) _ e) qs (all_listed number qs),
)

reads_same : (f g : ℕ → ℕ) (ps qs : List Read) → map (λ (q : Read). q.«record») ps ≡ map (λ (q : Read). q.«record») qs → AllByRecursion (λ q. f q.«record» ≡ g q.«record») ps → AllByRecursion (λ q. q.version ≡ f q.«record») ps → AllByRecursion (λ q. q.version ≡ g q.«record») qs → ps ≡ qs
reads_same f g [] [] e s a b = refl
reads_same f g [] (q ∷ qs) e s a b = grind arith
reads_same f g (p ∷ ps) [] e s a b = grind arith
reads_same f g (p ∷ ps) (q ∷ qs) e s a b =
    let t : p.«record» ≡ q.«record» = cc in
    let v : p.version ≡ q.version = (let k = s.0 in let l = a.0 in let m = b.0 in cc) in
    let rest : ps ≡ qs = reads_same f g ps qs (cc) s.1 a.1 b.1 in
    λ i. record { «record» = t i; version = v i } ∷ rest i

writes_same : {V : Type 0} (f g : ℕ → ℕ) (ps qs : List (LeafWrite V)) → map {B = ℕ × V} (λ (w : LeafWrite V). (w.«record», w.value)) ps ≡ map {B = ℕ × V} (λ (w : LeafWrite V). (w.«record», w.value)) qs → AllByRecursion (λ w. f w.«record» ≡ g w.«record») ps → AllByRecursion (λ w. w.version ≡ suc (f w.«record»)) ps → AllByRecursion (λ w. w.version ≡ suc (g w.«record»)) qs → ps ≡ qs
writes_same {V} f g [] [] e s a b = refl
writes_same {V} f g [] (q ∷ qs) e s a b = grind arith
writes_same {V} f g (p ∷ ps) [] e s a b = grind arith
writes_same {V} f g (p ∷ ps) (q ∷ qs) e s a b =
    let o : ◌≡◌ {A = ℕ × V} (p.«record», p.value) (q.«record», q.value) = cc in
    let t : p.«record» ≡ q.«record» = ap (λ z. z.0) o in
    let u : p.value ≡ q.value = ap (λ z. z.1) o in
    let v : p.version ≡ q.version = (let k = s.0 in let l = a.0 in let m = b.0 in cc) in
    let rest : ps ≡ qs = writes_same f g ps qs (cc) s.1 a.1 b.1 in
    λ i. record { «record» = t i; version = v i; value = u i } ∷ rest i

module _ {V : Type 0} where
  -- two leaves with one outline and as many writers before them
  leaf_same : (x y : Leaf V) (g h : List (Leaf V)) → outline x ≡ outline y → Fits x g → Fits y h → ((r : ℕ) → used x r ≡ true → writer_count g r ≡ writer_count h r) → x ≡ y
  leaf_same x y g h e p q same =
      let read_counts = All-weaker (λ q. list_any (λ p. eqb p.«record» q.«record») x.reads ≡ true) (λ q. writer_count g q.«record» ≡ writer_count h q.«record») (λ q t. same q.«record» (or_left _ (wrote x q.«record») t)) x.reads (all_listed (λ q. q.«record») x.reads) in
      let write_counts = All-weaker (λ w. list_any (λ p. eqb p.«record» w.«record») x.writes ≡ true) (λ w. writer_count g w.«record» ≡ writer_count h w.«record») (λ w t. same w.«record» (or_right (list_any (λ q. eqb q.«record» w.«record») x.reads) _ t)) x.writes (all_listed (λ w. w.«record») x.writes) in
      let reads = reads_same (writer_count g) (writer_count h) x.reads y.reads (ap (λ o. o.read) e) read_counts p.read q.read in
      let writes = writes_same (writer_count g) (writer_count h) x.writes y.writes (ap (λ o. o.written) e) write_counts p.written q.written in
      let job = ap (λ o. o.job) e in
      let kind = ap (λ o. o.kind) e in
      λ i. record { job = job i; kind = kind i; reads = reads i; writes = writes i }

  -- whether a leaf wrote r shows in its outline
  abbrev wrote_by_outline : ℕ → Option (Outline V) → ℕ
  wrote_by_outline r None = 0
  wrote_by_outline r (Some o) = cond (list_any (λ (w : ℕ × V). eqb w.0 r) o.written) 1 0

  wrote_outlined : (r : ℕ) (p : Option (Leaf V)) → wrote_if_any r p ≡ wrote_by_outline r (option_map outline p)
  wrote_outlined r None = refl
  wrote_outlined r (Some x) = ap (λ b. cond b 1 0) (sym (list_any-map (λ (w : ℕ × V). eqb w.0 r) (λ (w : LeafWrite V). (w.«record», w.value)) x.writes))

  wrote_earlier : (r i j : ℕ) (h : List (Leaf V)) → Serial h → wrote_if_any r (leaf_of (earlier h j) i) ≡ cond (is_before h i j) (wrote_if_any r (leaf_of h i)) 0
  wrote_earlier r i j h s = go (leaf_of (earlier h j) i) refl
    where
      go : (p : Option (Leaf V)) → leaf_of (earlier h j) i ≡ p → wrote_if_any r p ≡ cond (is_some p) (wrote_if_any r (leaf_of h i)) 0
      go None e = refl
      go (Some x) e = let k = leaf_earlier h i j x s e in ap (wrote_if_any r) (sym k)

  module _ (g h : List (Leaf V)) (sg : Serial g) (sh : Serial h) (same : SameOutlines g h) (order : SameOrder g h) where
    each_earlier : (r i j : ℕ) (y : Leaf V) → leaf_of g j ≡ Some y → used y r ≡ true → wrote_if_any r (leaf_of (earlier g j) i) ≡ wrote_if_any r (leaf_of (earlier h j) i)
    each_earlier r i j y e t = wrote_earlier r i j g sg ∙ go (leaf_of g i) refl ∙ ap (λ n. cond (is_before h i j) n 0) equal ∙ sym (wrote_earlier r i j h sh)
      where
        equal : wrote_if_any r (leaf_of g i) ≡ wrote_if_any r (leaf_of h i)
        equal = wrote_outlined r (leaf_of g i) ∙ ap (wrote_by_outline r) (same i) ∙ sym (wrote_outlined r (leaf_of h i))

        none : (b c : Bool) → ◌≡◌ {A = ℕ} (cond b 0 0) (cond c 0 0)
        none true true = refl
        none true false = refl
        none false true = refl
        none false false = refl

        pick : (x : Leaf V) → leaf_of g i ≡ Some x → (w : Bool) → wrote x r ≡ w → ◌≡◌ {A = ℕ} (cond (is_before g i j) (cond w 1 0) 0) (cond (is_before h i j) (cond w 1 0) 0)
        pick x f true w = ap (λ b. cond b 1 0) (order i j x y f e (r, or_right _ (wrote x r) w, t, or_left (wrote x r) _ w))
        pick x f false w = none (is_before g i j) (is_before h i j)

        go : (p : Option (Leaf V)) → leaf_of g i ≡ p → cond (is_before g i j) (wrote_if_any r (leaf_of g i)) 0 ≡ cond (is_before h i j) (wrote_if_any r (leaf_of g i)) 0
        go None f = subst (λ p. cond (is_before g i j) (wrote_if_any r p) 0 ≡ cond (is_before h i j) (wrote_if_any r p) 0) (sym f) (none _ _)
        go (Some x) f = subst (λ p. cond (is_before g i j) (wrote_if_any r p) 0 ≡ cond (is_before h i j) (wrote_if_any r p) 0) (sym f) (pick x f (wrote x r) refl)

    pub leaves_rebuilt : (j : ℕ) → leaf_of g j ≡ leaf_of h j
    leaves_rebuilt j = go (leaf_of g j) (leaf_of h j) refl refl
      where
        go : (p q : Option (Leaf V)) → leaf_of g j ≡ p → leaf_of h j ≡ q → leaf_of g j ≡ leaf_of h j
        go None None e f = cc
        go None (Some y) e f = let k : ◌≡◌ {A = Option (Outline V)} None (Some (outline y)) = ap (option_map outline) (sym e) ∙ same j ∙ ap (option_map outline) f in grind arith
        go (Some x) None e f = let k : ◌≡◌ {A = Option (Outline V)} (Some (outline x)) None = ap (option_map outline) (sym e) ∙ same j ∙ ap (option_map outline) f in grind arith
        go (Some x) (Some y) e f =
            let k : ◌≡◌ {A = Option (Outline V)} (Some (outline x)) (Some (outline y)) = ap (option_map outline) (sym e) ∙ same j ∙ ap (option_map outline) f in
            let alike : outline x ≡ outline y = cc in
            let counts : (r : ℕ) → used x r ≡ true → writer_count (earlier g j) r ≡ writer_count (earlier h j) r =
            (λ r t. writers_by_job r (earlier g j) (serial_earlier g j sg) ∙ below_same (last_job + 1) _ _ (λ i. each_earlier r i j x e t) ∙ sym (writers_by_job r (earlier h j) (serial_earlier h j sh))) in
            let z = leaf_same x y (earlier g j) (earlier h j) alike (fits_at g j x sg e) (fits_at h j y sh f) counts in
            e ∙ ap Some z ∙ sym f
