use Rattle.std.proofs.Common.{◌≡◌, map, take}
use Rattle.ledger.specs.Bounded.{elements}
use Rattle.ledger.specs.Delivering.{installed}
use Rattle.ledger.specs.Offices.{office_of}
use Rattle.ledger.specs.View.{view}
use Rattle.ledger.proofs.ledger.Ledger.installed_writes.Given as goal

-- the writes that were passed have their versions
abbrev pub invariant-loop-write : goal.invariant-loop-write
invariant-loop-write l = elements l.installed ≡ map (installed (office_of l.office.offices) (view l.self) l.office.number) (take l.write-index l.write-items)
