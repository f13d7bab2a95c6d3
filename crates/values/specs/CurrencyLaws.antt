-- A currency is its number, and numbers have two bytes.
use Rattle.std.specs.Prelude.{◌≡◌, ℕ, ◌<◌, Some}
use Rattle.std.proofs.Common.{arith}
use Rattle.values.specs.Currencies.{currency_number, currency_of}
use Rattle.values.specs.declared.currency.Currency.{Currency}

pub currency_of_its_number : (c : Currency) → currency_of (currency_number c) ≡ Some c
currency_of_its_number c = grind arith

pub number_of_its_currency : (n : ℕ) (c : Currency) → currency_of n ≡ Some c → currency_number c ≡ n
number_of_its_currency n c e = grind arith

pub currency_number_small : (c : Currency) → currency_number c < 65536
currency_number_small c = grind arith
