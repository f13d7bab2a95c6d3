-- Amounts: which there are, the bytes and the cell of each, and back; src/amount/kind.rt cites it. Assumes nothing.
use Rattle.std.specs.Prelude.{◌≡◌, ℕ, Bool, true, false, cond, T, List, ◌++◌, length, take, drop, ℤ, pos, Some, None, Ok, Err, Option, Result, ◌==◌, int_le, refl}
use Rattle.std.proofs.Common.{sym, subst, of_z, to_z}
use Rattle.std.specs.Int.Signed.{le_z_yes}
use Rattle.std.specs.Int.{w64}
use Rattle.std.specs.Option.{ok_or}
use Rattle.std.specs.Result.{result_ok}
use Rattle.encoding.specs.Bytes.{little_endian, from_little_endian}
use Rattle.values.specs.Limits.{least_units, most_units}
use Rattle.values.specs.Currencies.{currency_number, currency_of}
use Rattle.values.specs.declared.fault.ValueFault.{ValueFault}
use Rattle.values.specs.declared.fault.ValueFault.TheVariants.{UnlistedCurrency, OutOfRange}
use Rattle.values.specs.declared.currency.Currency.{Currency}
use Rattle.values.specs.declared.currency.Currency.TheVariants.{Usd}
use Rattle.values.specs.declared.amount.Amount.{Amount}
use Rattle.values.specs.declared.amount.AmountCell.{AmountCell}

-- the amount, by how the tests of its two limits came out
abbrev pub amount_tested : (c : Currency) (z : ℤ) (low high : Bool) → int_le least_units z ≡ low → int_le z most_units ≡ high → Option Amount
amount_tested c z true true p q = Some (record { currency = c; units = z; low = le_z_yes (subst T (sym p) tt); high = le_z_yes (subst T (sym q) tt) })
amount_tested c z true false p q = None
amount_tested c z false true p q = None
amount_tested c z false false p q = None

-- the amount of so many units, if they are in range
abbrev pub amount_of : Currency → ℤ → Option Amount
amount_of c z = amount_tested c z (int_le least_units z) (int_le z most_units) refl refl

abbrev pub amount_in_currency : Result Currency ValueFault → ℤ → Result Amount ValueFault
amount_in_currency (Ok c) z = ok_or (amount_of c z) OutOfRange
amount_in_currency (Err f) z = Err f

-- the amount of so many units of the currency with a number: the currency is tested first
abbrev pub amount_from_numbers : ℕ → ℤ → Result Amount ValueFault
amount_from_numbers n z = amount_in_currency (ok_or (currency_of n) UnlistedCurrency) z

-- the same with any refusal as none
abbrev pub amount_if_any : ℕ → ℤ → Option Amount
amount_if_any n z = result_ok (amount_from_numbers n z)

-- two bytes of currency number, eight bytes of units in two's complement
abbrev pub amount_bytes : Amount → List ℕ
amount_bytes a = little_endian 2 (currency_number a.currency) ++ little_endian 8 (of_z w64 a.units)

-- the amount that bytes hold
abbrev pub amount_in : List ℕ → Option Amount
amount_in s = cond (length s == 10) (amount_if_any (from_little_endian (take 2 s)) (to_z w64 (from_little_endian (drop 2 s)))) None

abbrev pub amount_cell : Amount → AmountCell
amount_cell a = record { currency = currency_number a.currency; units = a.units }

-- the amount that a cell holds
abbrev pub amount_in_cell : AmountCell → Option Amount
amount_in_cell c = amount_if_any c.currency c.units

abbrev pub spare_amount : Amount
spare_amount = record { currency = Usd; units = pos 0; low = le_z_yes tt; high = le_z_yes tt }
