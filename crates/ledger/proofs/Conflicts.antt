-- The conflicts of a job, by the code's own rows. Assumes nothing.
use Rattle.std.proofs.Common.{◌≡◌, ℕ, ◌<◌, Bool, not, ◌&&◌, eqb, length, get_or, sym, ap, ◌∙◌}
use Rattle.ledger.specs.Searching.{any_indexed}
use Rattle.ledger.proofs.Searches.{any_indexed_map}
use Rattle.ledger.specs.Delivering.{conflicts, has_conflict}
use Rattle.ledger.specs.Model.{RowModel, row}
use Rattle.ledger.specs.Offices.{office_of}
use Rattle.ledger.specs.View.{view, row_view}
use Rattle.ledger.specs.declared.offices.Offices.{Offices}
use Rattle.ledger.specs.declared.ledger.Ledger.{Ledger}
use Rattle.ledger.specs.declared.job.Row.{Row}
use Rattle.ledger.proofs.Views.{row_of_view}

module _ (offices : Offices) (l : Ledger) (j o : ℕ) where
  -- another job conflicts with the job whose row is t
  abbrev conflicts_with : RowModel → ℕ → RowModel → Bool
  conflicts_with t k y = not (eqb k j) && conflicts (office_of offices) t o y

  pub conflict_by_rows : (d : Row) → j < length l.rows → any_indexed (λ k x. conflicts_with (row_view (get_or l.rows j d)) k (row_view x)) 0 l.rows ≡ has_conflict (office_of offices) (view l) j o
  conflict_by_rows d h =
      ap (λ (t : RowModel). any_indexed (λ k x. conflicts_with t k (row_view x)) 0 l.rows) (sym (row_of_view l j d h))
      ∙ sym (any_indexed_map row_view (conflicts_with (row (view l) j)) 0 l.rows)
