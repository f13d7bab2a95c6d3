-- The archive of a ledger and the values on a shelf; `src/size.rt` and `src/write.rt` cite it. Assumes nothing.
use Rattle.std.specs.Prelude.{ℕ, List}
use Rattle.values.specs.declared.value.Value.{Ghosts as Kind}
use Rattle.ledger.specs.View.{view}
use Rattle.ledger.specs.declared.ledger.Ledger.{Ledger}
use Rattle.history.specs.Histories.{Leaf}
use Rattle.history.specs.Layout.{coding, archive_bytes}
use Rattle.archive.specs.Leaves.{row_leaves}

-- its leaves: one for each answered job, in rising job number
abbrev pub ledger_leaves : {V : Type 0} → List V → Ledger → List (Leaf V)
ledger_leaves items ledger = row_leaves items 0 (view ledger).rows

-- its bytes
abbrev pub ledger_bytes : {V C : Type 0} → Kind V C → List V → Ledger → List ℕ
ledger_bytes kind items ledger = archive_bytes (coding kind) (ledger_leaves items ledger)
