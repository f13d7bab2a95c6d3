-- Putting two pieces one after the other, a piece for each element of a list, and a piece for which there is room.
use Rattle.std.proofs.Common.{◌≡◌, ℕ, suc, ◌+◌, ◌<◌, ◌≤◌, ltb, List, [], ◌∷◌, ◌++◌, length, get_or, drop, sym, refl, ap, ◌∙◌, arith}
use Rattle.std.specs.List.{flat_map}
use Rattle.std.proofs.lemmas.List.{at_drop_more, at_drop_all, set_at, append_assoc, length-append, length_push}
use Rattle.std.proofs.lemmas.List.Sums.{fold-append}
use Rattle.std.proofs.lemmas.Bool.{cond-true, lt-ltb}
use Rattle.encoding.specs.Outputs.{put_byte, put_bytes, in_front}
use Rattle.encoding.specs.declared.cursor.Cursor.{Cursor}

pub put_append : (p q : List ℕ) (c : Cursor) → put_bytes (p ++ q) c ≡ put_bytes q (put_bytes p c)
put_append p q c = fold-append put_byte c p q

-- the cursor of the same loan at a position in other bytes
abbrev pub at : Cursor → ℕ → List ℕ → Cursor
at c n bs = record { buffer = record c.buffer { now = bs }; position = n }

module _ (c : Cursor) where
  -- a byte where there is room
  put_byte_in : (p : List ℕ) (x y : ℕ) (b : List ℕ) (n : ℕ) → length p ≡ n → put_byte (at c n (p ++ y ∷ b)) x ≡ at c (n + 1) (p ++ x ∷ b)
  put_byte_in p x y b n e =
      let l : n < length (p ++ y ∷ b) = omega (arith, length-append p (y ∷ b)) in
      cond-true (ltb n (length (p ++ y ∷ b))) _ _ (lt-ltb _ _ l) ∙ ap (at c (n + 1)) (set_at p y b x n e)

  put_in : (q p b : List ℕ) (n : ℕ) → length p ≡ n → length q ≤ length b → put_bytes q (at c n (p ++ b)) ≡ at c (n + length q) (p ++ (q ++ drop (length q) b))
  put_in [] p b n e h = ap (λ k. at c k (p ++ b)) (omega arith)
  put_in (x ∷ q) p [] n e h = absurd (omega arith)
  put_in (x ∷ q) p (y ∷ b) n e h =
      ap (put_bytes q) (put_byte_in p x y b n e ∙ ap (at c (n + 1)) (sym (append_assoc p (x ∷ []) b)))
      ∙ put_in q (p ++ x ∷ []) b (n + 1) (omega (arith, length_push p x)) (omega arith)
      ∙ ap (λ k. at c k ((p ++ x ∷ []) ++ (q ++ drop (length q) b))) (omega arith)
      ∙ ap (at c (n + suc (length q))) (append_assoc p (x ∷ []) (q ++ drop (length q) b))

-- what is put from the start of a long enough buffer stands there, and the rest of the buffer stays
pub put_whole : (q : List ℕ) (c : Cursor) → c.position ≡ 0 → length q ≤ length c.buffer.now → put_bytes q c ≡ at c (length q) (in_front q c.buffer.now)
put_whole q c e h = ap (λ n. put_bytes q (at c n c.buffer.now)) e ∙ put_in c q [] c.buffer.now 0 refl h ∙ ap (λ n. at c n (in_front q c.buffer.now)) (omega arith)

-- one turn of a loop, whose rest of the pieces makes t of what is there so far
module _ (c d t : Cursor) where
  pub byte_turn : (bs : List ℕ) (i : ℕ) → i < length bs → d ≡ put_byte c (get_or bs i 0) → put_bytes (drop i bs) c ≡ t → put_bytes (drop (i + 1) bs) d ≡ t
  byte_turn bs i h e inv = ap (put_bytes (drop (i + 1) bs)) e ∙ sym (at_drop_more (λ ys. put_bytes ys c) bs i 0 h) ∙ inv

  pub each_turn : {X : Type 0} (f : X → List ℕ) (xs : List X) (i : ℕ) (x : X) → i < length xs → x ≡ get_or xs i x → d ≡ put_bytes (f x) c →
      put_bytes (flat_map f (drop i xs)) c ≡ t → put_bytes (flat_map f (drop (i + 1) xs)) d ≡ t
  each_turn f xs i x h is e inv =
      ap (put_bytes (flat_map f (drop (i + 1) xs))) (e ∙ ap (λ y. put_bytes (f y) c) is)
      ∙ sym (at_drop_more (λ ys. put_bytes (flat_map f ys) c) xs i x h ∙ put_append (f (get_or xs i x)) (flat_map f (drop (i + 1) xs)) c)
      ∙ inv

-- nothing is left to put
pub byte_end : (c t : Cursor) (bs : List ℕ) (i : ℕ) → length bs ≤ i → put_bytes (drop i bs) c ≡ t → c ≡ t
byte_end c t bs i h inv = sym (at_drop_all (λ ys. put_bytes ys c) bs i h) ∙ inv

pub each_end : {X : Type 0} (f : X → List ℕ) (c t : Cursor) (xs : List X) (i : ℕ) → length xs ≤ i → put_bytes (flat_map f (drop i xs)) c ≡ t → c ≡ t
each_end f c t xs i h inv = sym (at_drop_all (λ ys. put_bytes (flat_map f ys) c) xs i h) ∙ inv
