-- The leaves of the answered jobs, by their rows in the ledger and the values on the shelf; the archive's writer and the rules of the house cite it. Assumes nothing.
use Rattle.std.specs.Prelude.{ℕ, suc, Bool, cond, ◌&&◌, List, [], ◌∷◌, Some, None, Option, nat_le}
use Rattle.std.specs.List.{cons_option, filter_map, list_any, slice_get}
use Rattle.std.specs.Option.{option_map}
use Rattle.ledger.specs.Model.{RowModel, is_answered}
use Rattle.ledger.specs.declared.job.Write.{Write}
use Rattle.history.specs.Histories.{LeafWrite, Leaf}

module _ {V : Type 0} where
  abbrev pub leaf_write : Write → Option V → Option (LeafWrite V)
  leaf_write w o = option_map (λ v. record { «record» = w.«record»; version = w.version; value = v }) o

  -- the writes of a row with their values; one whose place the shelf lacks is left out, and then no archive is written
  abbrev pub leaf_writes : List V → List Write → List (LeafWrite V)
  leaf_writes items ws = filter_map (λ w. leaf_write w (slice_get items w.place)) ws

  -- the leaf of job j, whose row is x
  abbrev pub row_leaf : List V → ℕ → RowModel → Leaf V
  row_leaf items j x = record { job = j; kind = x.kind; reads = x.reads; writes = leaf_writes items x.writes }

  abbrev pub leaf_if_answered : List V → ℕ → RowModel → Option (Leaf V)
  leaf_if_answered items j x = cond (is_answered x.state) (Some (row_leaf items j x)) None

  -- the leaves of these rows, of which the first is that of job j, in rising job number
  abbrev pub row_leaves : List V → ℕ → List RowModel → List (Leaf V)
  row_leaves items j [] = []
  row_leaves items j (x ∷ xs) = cons_option (leaf_if_answered items j x) (row_leaves items (suc j) xs)

-- a shelf of so many values lacks one of these writes
abbrev pub lacks_write : ℕ → List Write → Bool
lacks_write count ws = list_any (λ w. nat_le count w.place) ws

-- it lacks a write of one of these rows that is answered; no run meets that (`rows_archived` of the crate `law`)
abbrev pub lacks_value : ℕ → List RowModel → Bool
lacks_value count xs = list_any (λ x. is_answered x.state && lacks_write count x.writes) xs
