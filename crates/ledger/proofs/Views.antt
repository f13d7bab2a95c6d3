-- One row of the code's table, and the same row of its meaning. Assumes nothing.
use Rattle.std.proofs.Common.{◌≡◌, ℕ, zero, suc, ◌<◌, List, [], ◌∷◌, map, length, get_or, replicate, refl, ap, ◌∙◌, arith}
use lib.ListN.{length-map, get_or-map}
use Rattle.std.proofs.lemmas.List.{get_or_default}
use Rattle.ledger.specs.Model.{row, no_row}
use Rattle.ledger.specs.View.{view, row_view}
use Rattle.ledger.specs.declared.job.JobKind.TheVariants.{Amendment}
use Rattle.ledger.specs.declared.job.State.TheVariants.{NeverOpened}
use Rattle.ledger.specs.declared.job.Row.{Row}
use Rattle.ledger.specs.declared.ledger.Ledger.{Ledger}

-- what the code reads behind the last row
abbrev pub no_table_row : Row
no_table_row = record { kind = Amendment; state = NeverOpened; reads = record { items = []; len = 0 }; writes = record { items = []; len = 0 }; exchanges = [] }

-- a row of the table, read with any default
pub row_of_view : (l : Ledger) (j : ℕ) (d : Row) → j < length l.rows → row (view l) j ≡ row_view (get_or l.rows j d)
row_of_view l j d h = get_or_default (map row_view l.rows) j no_row (row_view d) (omega (arith, h, length-map l.rows row_view)) ∙ get_or-map row_view l.rows j d

-- a list whose elements all have one meaning
pub all_same : {X Y : Type 0} (f : X → Y) (y : Y) (n : ℕ) (xs : List X) → length xs ≡ n → ((i : ℕ) (d : X) → i < n → f (get_or xs i d) ≡ y) → map f xs ≡ replicate n y
all_same f y zero [] e h = refl
all_same f y zero (x ∷ xs) e h = absurd (omega (arith, e))
all_same f y (suc n) [] e h = absurd (omega (arith, e))
all_same f y (suc n) (x ∷ xs) e h =
    ap (λ z. z ∷ map f xs) (h 0 x (omega arith)) ∙ ap (λ zs. y ∷ zs) (all_same f y n xs (omega (arith, e)) (λ i d k. h (suc i) d (omega (arith, k))))
