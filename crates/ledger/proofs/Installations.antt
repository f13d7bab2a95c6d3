-- The versions of each record, as plain lists. Assumes nothing.
use Rattle.std.proofs.Common.{List, map}
use Rattle.arrayvec.specs.ArrayVec.{ArrayVec}
use Rattle.ledger.specs.declared.job.Version.{Version}

abbrev pub lists : List (ArrayVec Version) → List (List Version)
lists rs = map (λ (versions : ArrayVec Version). versions.items) rs
