-- The steps from the code's tables to their meaning that proofs of the ledger's functions take again and again: `#![tactic(..)]` in src/lib.rt names them. Assumes nothing.
use lib.ListN.{get_or-map, length-map}
use Rattle.std.proofs.lemmas.List.{map-set}

-- one row written, and one row read
pub ruleset one_row = (map-set, get_or-map, length-map)
