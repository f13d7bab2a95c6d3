-- Where the first line of an input ends. Assumes nothing.
use Rattle.std.proofs.Common.{◌≡◌, ℕ, suc, ◌+◌, ◌<◌, ◌≤◌, Bool, true, false, cond, not, eqb, List, [], ◌∷◌, length, take, drop, refl, arith, Option, Some, None, MatchOption, nat_lt, subst, sym, ap, ◌∙◌, Bor, unwrap_or, inl, inr}
use Rattle.std.specs.Slice.{IsGetRangeResult}
use Rattle.std.proofs.lemmas.List.{take_all}
use Rattle.std.proofs.lemmas.Bool.{ltb-true, ltb-false}
use Rattle.std.specs.List.{position, position_or_len}
use Rattle.lines.specs.Cutting.{newline, most_input, onto, lines_of}

-- how many bytes stand before the first newline
abbrev pub before_newline : List ℕ → ℕ
before_newline s = position_or_len (λ b. eqb b newline) s

-- a byte more in front, with t telling whether it is a newline
with_newline : (b : ℕ) (t : Bool) (s : List ℕ) (m : ℕ) → (m < length s → lines_of s ≡ take m s ∷ lines_of (drop (m + 1) s)) → cond (not t) (1 + m) 0 < 1 + length s →
    cond t ([] ∷ lines_of s) (onto b (lines_of s)) ≡ take (cond (not t) (1 + m) 0) (b ∷ s) ∷ lines_of (drop (cond (not t) (1 + m) 0 + 1) (b ∷ s))
with_newline b true s m ih h = refl
with_newline b false s m ih h = let e : 1 + m ≡ suc m = omega arith in let f : 1 + m + 1 ≡ suc (m + 1) = omega arith in rw (ih (omega arith), f, e) refl

cut_at_newline : (s : List ℕ) → before_newline s < length s → lines_of s ≡ take (before_newline s) s ∷ lines_of (drop (before_newline s + 1) s)
cut_at_newline [] h = absurd (omega arith)
cut_at_newline (b ∷ s) h = with_newline b (eqb b newline) s (before_newline s) (cut_at_newline s) (omega arith)

-- the same where no byte is one
without_newline : (b : ℕ) (t : Bool) (s : List ℕ) (m : ℕ) → (0 < length s → length s ≤ m → lines_of s ≡ s ∷ []) → 1 + length s ≤ cond (not t) (1 + m) 0 → cond t ([] ∷ lines_of s) (onto b (lines_of s)) ≡ (b ∷ s) ∷ []
without_newline b true s m ih h = absurd (omega arith)
without_newline b false [] m ih h = refl
without_newline b false (x ∷ s) m ih h = rw (ih (omega arith) (omega arith)) refl

one_line : (s : List ℕ) → 0 < length s → length s ≤ before_newline s → lines_of s ≡ s ∷ []
one_line [] p h = absurd (omega arith)
one_line (b ∷ s) p h = without_newline b (eqb b newline) s (before_newline s) (one_line s) (omega arith)

-- what o says of the lines of s, if it tells where the first newline stands
abbrev pub IsCut : List ℕ → Option ℕ → Type 0
IsCut s o = MatchOption o (0 < length s → lines_of s ≡ s ∷ []) (λ n. lines_of s ≡ take n s ∷ lines_of (drop (n + 1) s))

-- t tells whether there is a newline
cut_by : (t : Bool) (s : List ℕ) → nat_lt (before_newline s) (length s) ≡ t → IsCut s (cond t (Some (before_newline s)) None)
cut_by true s e = cut_at_newline s (ltb-true _ _ e)
cut_by false s e = λ some. one_line s some (ltb-false _ _ e)

pub first_line_cut : (s : List ℕ) (o : Option ℕ) → o ≡ position (λ b. eqb b newline) s → IsCut s o
first_line_cut s o e = subst (IsCut s) (sym e) (cut_by (nat_lt (before_newline s) (length s)) s refl)

-- the first bytes, or all where there are fewer
pub first_or_all : (s : Bor (List ℕ)) (r : Bor (List ℕ)) (o : Option (Bor (List ℕ))) → IsGetRangeResult s.now 0 most_input o → r ≡ unwrap_or o s → r.now ≡ take most_input s.now
first_or_all s r None (inl h, _) e = absurd (omega (arith, h))
first_or_all s r None (inr h, _) e = ap (λ b. b.now) e ∙ sym (take_all most_input s.now (omega (arith, h)))
first_or_all s r (Some x) h e = ap (λ b. b.now) e ∙ h.0.2
