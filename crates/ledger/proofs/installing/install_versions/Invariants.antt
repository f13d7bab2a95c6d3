use Rattle.std.proofs.Common.{◌≡◌, length}
use Rattle.ledger.specs.Delivering.{record_installed}
use Rattle.ledger.specs.Offices.{office_of}
use Rattle.ledger.proofs.Installations.{lists}
use Rattle.ledger.proofs.MapsInPlace.{changed_front}
use Rattle.ledger.proofs.installing.install_versions.Given as goal

-- the records that were passed have their versions
abbrev pub invariant-loop-record : goal.invariant-loop-record
invariant-loop-record l =
    (length l.records ≡ 64) ×
    (lists l.records ≡ changed_front (record_installed (office_of l.office.offices) l.writes l.job l.office.number) 0 l.«record» (lists l.initial.records))
