-- The listed currencies: their ISO 4217 numbers and their digits after the point; src/currency.rt cites it. Assumes nothing.
use Rattle.std.specs.Prelude.{ℕ, cond, Some, None, Option, ◌==◌}
use Rattle.values.specs.declared.currency.Currency.{Currency}
use Rattle.values.specs.declared.currency.Currency.TheVariants.{Usd, Eur, Gbp, Hrk, Jpy, Kwd}

abbrev pub currency_number : Currency → ℕ
currency_number Usd = 840
currency_number Eur = 978
currency_number Gbp = 826
currency_number Hrk = 191
currency_number Jpy = 392
currency_number Kwd = 414

abbrev pub currency_digits : Currency → ℕ
currency_digits Usd = 2
currency_digits Eur = 2
currency_digits Gbp = 2
currency_digits Hrk = 2
currency_digits Jpy = 0
currency_digits Kwd = 3

-- the listed currency with a number
abbrev pub currency_of : ℕ → Option Currency
currency_of n =
    cond (n == 840) (Some Usd) (cond (n == 978) (Some Eur) (cond (n == 826) (Some Gbp)
    (cond (n == 191) (Some Hrk) (cond (n == 392) (Some Jpy) (cond (n == 414) (Some Kwd) None)))))
