-- The house as its rules see it, and what the code's house means; every contract of the house goes by it. Assumes nothing.
use Rattle.std.specs.Prelude.{ℕ, List}
use Rattle.ledger.specs.Model.{LedgerModel, new_ledger}
use Rattle.ledger.specs.Limits.{offices_built}
use Rattle.ledger.specs.View.{view}
use Rattle.shelves.specs.declared.shelf.Shelf.{Ghosts as Shelf}
use Rattle.house.specs.declared.house.House.{House}

-- `items` and `room` are the shelf's list of values and its capacity
pub record HouseModel (V : Type 0) : Type 0 where
  pub offices : ℕ
  pub ledger : LedgerModel
  pub items : List V
  pub room : ℕ

-- a newly built house over a shelf, empty or not
abbrev pub built : {V : Type 0} → ℕ → List V → ℕ → HouseModel V
built offices items room = record { offices = offices_built offices; ledger = new_ledger; items = items; room = room }

abbrev pub with_ledger : {V : Type 0} → HouseModel V → LedgerModel → HouseModel V
with_ledger m l = record { offices = m.offices; ledger = l; items = m.items; room = m.room }

-- what a house means, by what its shelf means
abbrev pub model : {S V C : Type 0} → Shelf S V C → House S → HouseModel V
model shelf h = record { offices = h.offices.count; ledger = view h.ledger; items = shelf.items h.shelf; room = shelf.room h.shelf }
