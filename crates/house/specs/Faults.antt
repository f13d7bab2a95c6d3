-- The number and the layer of each refusal, and what a refusal leaves; `src/fault.rt` and the calls cite it. Assumes nothing.
use Rattle.std.specs.Prelude.{ℕ, List, Some, None, Ok, Err, codes, Option, Result}
use Rattle.ledger.specs.Faults.{ledger_fault_number}
use Rattle.ledger.specs.declared.fault.LedgerFault.{LedgerFault}
use Rattle.shelves.specs.Faults.{shelf_fault_number}
use Rattle.values.specs.Faults.{value_fault_number}
use Rattle.house.specs.declared.fault.Fault.{Fault}
use Rattle.house.specs.declared.fault.Fault.TheVariants as fault
use Rattle.house.specs.declared.fault.Layer.{Layer}
use Rattle.house.specs.declared.fault.Layer.TheVariants as layer

abbrev pub fault_number : Fault → ℕ
fault_number (fault.Ledger f) = ledger_fault_number f
fault_number (fault.Shelf f) = shelf_fault_number f
fault_number (fault.Value f) = value_fault_number f
fault_number (fault.ShortBuffer needed) = 14

abbrev pub fault_layer : Fault → Layer
fault_layer (fault.Ledger f) = layer.House
fault_layer (fault.Shelf f) = layer.Shelf
fault_layer (fault.Value f) = layer.Value
fault_layer (fault.ShortBuffer needed) = layer.House

abbrev pub layer_letter : Layer → List ℕ
layer_letter layer.Value = codes "V"
layer_letter layer.Shelf = codes "S"
layer_letter layer.Line = codes "L"
layer_letter layer.House = codes "H"

module _ {A : Type 0} where
  -- what a call tells: what the ledger refuses comes first
  abbrev pub after_checks : Option LedgerFault → Result A Fault → Result A Fault
  after_checks None answer = answer
  after_checks (Some f) answer = Err (fault.Ledger f)

  -- how things stand after a call that told this: a refusal leaves them as they were
  abbrev pub kept : {X : Type 0} → Result A Fault → X → X → X
  kept (Ok a) before after = after
  kept (Err f) before after = before
