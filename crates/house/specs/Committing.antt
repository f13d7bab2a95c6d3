-- The calls of the house that decide and answer jobs: what each tells and how the house stands afterwards unless it was refused. Assumes nothing.
use Rattle.std.specs.Prelude.{ℕ, ◌%◌, Ok, Result}
use Rattle.ledger.specs.Model.{row}
use Rattle.ledger.specs.Delivering.{hand_in_fault, hand_in_done, deliver_fault, deliver_done}
use Rattle.ledger.specs.Answering.{collect_fault, collect_done, collected, close_fault, close_done}
use Rattle.ledger.specs.declared.job.Collected.{Collected}
use Rattle.house.specs.Faults.{after_checks}
use Rattle.house.specs.Model.{HouseModel, with_ledger}
use Rattle.house.specs.declared.fault.Fault.{Fault}

module _ {V : Type 0} where
  -- record r belongs to the office whose number is the remainder of r by the number of offices
  abbrev pub office_in : HouseModel V → ℕ → ℕ
  office_in m r = r % m.offices

  -- hand in

  abbrev pub hand_in_told : HouseModel V → ℕ → Result (Unit {0}) Fault
  hand_in_told m j = after_checks (hand_in_fault m.ledger j) (Ok tt)

  abbrev pub hand_in_after : HouseModel V → ℕ → HouseModel V
  hand_in_after m j = with_ledger m (hand_in_done (office_in m) m.ledger j)

  -- deliver

  abbrev pub deliver_told : HouseModel V → ℕ → ℕ → Result (Unit {0}) Fault
  deliver_told m j o = after_checks (deliver_fault m.offices m.ledger j o) (Ok tt)

  abbrev pub deliver_after : HouseModel V → ℕ → ℕ → HouseModel V
  deliver_after m j o = with_ledger m (deliver_done (office_in m) m.ledger j o)

  -- collect

  abbrev pub collect_told : HouseModel V → ℕ → Result Collected Fault
  collect_told m j = after_checks (collect_fault m.ledger j) (Ok (collected (row m.ledger j).state))

  abbrev pub collect_after : HouseModel V → ℕ → HouseModel V
  collect_after m j = with_ledger m (collect_done m.ledger j)

  -- close

  abbrev pub close_told : HouseModel V → ℕ → Result (Unit {0}) Fault
  close_told m j = after_checks (close_fault m.ledger j) (Ok tt)

  abbrev pub close_after : HouseModel V → ℕ → HouseModel V
  close_after m j = with_ledger m (close_done m.ledger j)
