-- The numbers of a value's refusals; src/fault.rt cites it. Assumes nothing.
use Rattle.std.specs.Prelude.{ℕ}
use Rattle.values.specs.declared.fault.ValueFault.{ValueFault}
use Rattle.values.specs.declared.fault.ValueFault.TheVariants.{UnlistedCurrency, NotAValue, OutOfRange}

abbrev pub value_fault_number : ValueFault → ℕ
value_fault_number UnlistedCurrency = 15
value_fault_number NotAValue = 16
value_fault_number OutOfRange = 17
