-- Who holds a job back, by the code's own rows. Assumes nothing.
use Rattle.std.proofs.Common.{◌≡◌, ℕ, ◌<◌, Bool, not, ◌&&◌, eqb, length, get_or, sym, ap, ◌∙◌}
use Rattle.ledger.specs.Searching.{any_indexed}
use Rattle.ledger.proofs.Searches.{any_indexed_map}
use Rattle.ledger.specs.Answering.{is_held, is_pending, precedes}
use Rattle.ledger.specs.Model.{RowModel, row}
use Rattle.ledger.specs.View.{view, row_view}
use Rattle.ledger.specs.declared.ledger.Ledger.{Ledger}
use Rattle.ledger.specs.declared.job.Row.{Row}
use Rattle.ledger.proofs.Views.{row_of_view}

-- another job that is pending precedes the job whose row is t
abbrev holds_back : ℕ → RowModel → ℕ → RowModel → Bool
holds_back j t k x = not (eqb k j) && (is_pending x && precedes x t)

pub held_by_rows : (l : Ledger) (j : ℕ) (d : Row) → j < length l.rows → any_indexed (λ k x. holds_back j (row_view (get_or l.rows j d)) k (row_view x)) 0 l.rows ≡ is_held (view l) j
held_by_rows l j d h =
    ap (λ (t : RowModel). any_indexed (λ k x. holds_back j t k (row_view x)) 0 l.rows) (sym (row_of_view l j d h))
    ∙ sym (any_indexed_map row_view (holds_back j (row (view l) j)) 0 l.rows)
