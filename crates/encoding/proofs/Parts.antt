-- What a slice holds once a part of it was lent and written; `put_mid a k xs zs` is `xs` with `zs` in the place of its k elements from a on.
use Rattle.std.proofs.Common.{◌≡◌, ℕ, suc, List, [], ◌∷◌, ◌++◌, length, set, ap, ◌∙◌, arith}
use borrow.Rule.Slice.PartMut.{put_mid}
use Rattle.std.proofs.lemmas.List.{drop_all, append-nil}

-- the first element, and then the part behind it
pub after_first : (xs : List ℕ) (b : ℕ) (zs : List ℕ) (k : ℕ) → length xs ≡ suc k → put_mid 1 k (set xs 0 b) zs ≡ b ∷ zs
after_first [] b zs k e = absurd (omega arith)
after_first (x ∷ xs) b zs k e = ap (λ y. b ∷ (zs ++ y)) (drop_all k xs (omega arith)) ∙ ap (λ y. b ∷ y) (append-nil zs)
