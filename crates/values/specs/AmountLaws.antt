-- An amount is its two numbers; its bytes and its cell give it back.
use Rattle.std.specs.Prelude.{◌≡◌, ℕ, ◌^◌, ◌<◌, Bool, true, false, T, List, ◌++◌, length, take, drop, ℤ, pos, negsuc, ◌≤ℤ◌, Some, None, Option, FitsSigned, ◌==◌, int_le, refl}
use Rattle.std.proofs.Common.{sym, ap, subst, ◌∙◌, arith, take-append-drop, of_z, to_z}
use mathlib.Core.HLevel.{is_prop→PathP}
use Rattle.std.proofs.Props.{props}
use Rattle.std.specs.Int.{w64}
use Rattle.std.proofs.lemmas.List.{length-take-le, length-drop, take_all}
use Rattle.std.proofs.lemmas.Int.{ints, to_z-of_z, of_z-to_z}
use Rattle.std.proofs.lemmas.Bool.{eq-eqb, cond-true}
use Rattle.std.specs.Option.{ok_or}
use Rattle.std.specs.Result.{result_ok}
use Rattle.encoding.specs.Bytes.{little_endian, from_little_endian, Octets}
use Rattle.encoding.proofs.BytesLaws.{number_of_little_endian, little_endian_of_number, number_small, octets_take, octets_drop}
use Rattle.values.specs.Limits.{least_units, most_units}
use Rattle.values.specs.Currencies.{currency_number, currency_of}
use Rattle.values.specs.Amounts.{amount_tested, amount_of, amount_in_currency, amount_if_any, amount_bytes, amount_in, amount_cell, amount_in_cell}
use Rattle.values.specs.declared.fault.ValueFault.TheVariants.{UnlistedCurrency, OutOfRange}
use Rattle.values.specs.declared.currency.Currency.{Currency}
use Rattle.values.specs.declared.amount.Amount.{Amount}
use Rattle.values.specs.declared.amount.AmountCell.{AmountCell}
use Rattle.values.specs.Refusals.{ok_part_of_ok_or}
use Rattle.values.specs.CurrencyLaws.{currency_of_its_number, number_of_its_currency, currency_number_small}

-- amounts with equal numbers are equal, since each limit has one proof at most
pub amount_ext : (a b : Amount) → a.currency ≡ b.currency → a.units ≡ b.units → a ≡ b
amount_ext a b p q = λ i. record {
  currency = p i;
  units = q i;
  low = is_prop→PathP (λ j. least_units ≤ℤ q j) (λ j. hlevel props) a.low b.low i;
  high = is_prop→PathP (λ j. q j ≤ℤ most_units) (λ j. hlevel props) a.high b.high i;
}

-- a test cannot fail where its fact holds
clash : (b : Bool) → b ≡ false → T b → ⊥
clash true e t = let z : ◌≡◌ {A = ℕ} 0 1 = cc in omega arith
clash false e t = t

tested_is : (c : Currency) (z : ℤ) (b d : Bool) (p : int_le least_units z ≡ b) (q : int_le z most_units ≡ d) (a : Amount) → a.currency ≡ c → a.units ≡ z → amount_tested c z b d p q ≡ Some a
tested_is c z true true p q a e f = ap (λ x. Some x) (amount_ext _ a (sym e) (sym f))
tested_is c z true false p q a e f = absurd (clash (int_le z most_units) q (subst (λ u. T (int_le u most_units)) f a.high.le))
tested_is c z false true p q a e f = absurd (clash (int_le least_units z) p (subst (λ u. T (int_le least_units u)) f a.low.le))
tested_is c z false false p q a e f = absurd (clash (int_le least_units z) p (subst (λ u. T (int_le least_units u)) f a.low.le))

-- an amount is the amount of its numbers
pub amount_of_is : (a : Amount) (c : Currency) (z : ℤ) → a.currency ≡ c → a.units ≡ z → amount_of c z ≡ Some a
amount_of_is a c z e f = tested_is c z _ _ refl refl a e f

made_some : (c : Currency) (z : ℤ) (a : Amount) → amount_of c z ≡ Some a → (a.currency ≡ c) × (a.units ≡ z)
made_some c z a e = grind arith

in_currency_some : (o : Option Currency) (n : ℕ) (z : ℤ) (a : Amount) → currency_of n ≡ o → result_ok (amount_in_currency (ok_or o UnlistedCurrency) z) ≡ Some a → (currency_number a.currency ≡ n) × (a.units ≡ z)
in_currency_some (Some c) n z a p e =
    let m = made_some c z a (sym (ok_part_of_ok_or (amount_of c z) OutOfRange) ∙ e) in
    (ap currency_number m.0 ∙ number_of_its_currency n c p, m.1)
in_currency_some None n z a p e = (cc, cc)

-- the numbers of an amount that is made from numbers
pub if_any_some : (n : ℕ) (z : ℤ) (a : Amount) → amount_if_any n z ≡ Some a → (currency_number a.currency ≡ n) × (a.units ≡ z)
if_any_some n z a e = in_currency_some (currency_of n) n z a refl e

-- an amount comes back from its numbers
pub if_any_is : (a : Amount) → amount_if_any (currency_number a.currency) a.units ≡ Some a
if_any_is a =
    ap (λ o. result_ok (amount_in_currency (ok_or o UnlistedCurrency) a.units)) (currency_of_its_number a.currency)
    ∙ ap (λ o. result_ok (ok_or o OutOfRange)) (amount_of_is a a.currency a.units refl refl)

fit : (z : ℤ) → least_units ≤ℤ z → z ≤ℤ most_units → FitsSigned w64 z
fit (pos n) l h = record { sfits = omega (arith, ints) }
fit (negsuc n) l h = record { sfits = omega (arith, ints) }

pub units_fit : (a : Amount) → FitsSigned w64 a.units
units_fit a = fit a.units a.low a.high

bits_small : (z : ℤ) → FitsSigned w64 z → of_z w64 z < 18446744073709551616
bits_small (pos n) f = omega (arith, f.sfits)
bits_small (negsuc n) f = omega (arith, f.sfits)

pub parsed_bytes : (a : Amount) → amount_in (amount_bytes a) ≡ Some a
parsed_bytes a =
    let n = currency_number a.currency in
    let m = of_z w64 a.units in
    ap (λ k. amount_if_any k (to_z w64 (from_little_endian (little_endian 8 m)))) (number_of_little_endian 2 n (currency_number_small a.currency))
    ∙ ap (λ k. amount_if_any n (to_z w64 k)) (number_of_little_endian 8 m (bits_small a.units (units_fit a)))
    ∙ ap (amount_if_any n) (to_z-of_z w64 a.units (units_fit a))
    ∙ if_any_is a

pub bytes_parsed : (s : List ℕ) (a : Amount) → Octets s → amount_in s ≡ Some a → amount_bytes a ≡ s
bytes_parsed s a o e =
    let n = from_little_endian (take 2 s) in
    let k = from_little_endian (drop 2 s) in
    let t : (length s ≡ 10) × (amount_if_any n (to_z w64 k) ≡ Some a) = grind arith in
    let m = if_any_some n (to_z w64 k) a t.1 in
    let front : length (take 2 s) ≡ 2 = length-take-le 2 s (omega (arith, t.0)) in
    let back : length (drop 2 s) ≡ 8 = omega (arith, t.0, length-drop 2 s) in
    let small : k < 2 ^ 64 = number_small 8 (drop 2 s) (octets_drop 2 s o) back in
    ap (λ x. little_endian 2 x ++ little_endian 8 (of_z w64 a.units)) m.0
    ∙ ap (λ z. little_endian 2 n ++ little_endian 8 (of_z w64 z)) m.1
    ∙ ap (λ x. little_endian 2 n ++ little_endian 8 x) (of_z-to_z w64 k small)
    ∙ ap (λ x. x ++ little_endian 8 k) (little_endian_of_number 2 (take 2 s) (octets_take 2 s o) front)
    ∙ ap (λ x. take 2 s ++ x) (little_endian_of_number 8 (drop 2 s) (octets_drop 2 s o) back)
    ∙ take-append-drop 2 s

pub cell_restored : (c : AmountCell) (a : Amount) → amount_in_cell c ≡ Some a → amount_cell a ≡ c
cell_restored c a e = let m = if_any_some c.currency c.units a e in λ i. record { currency = m.0 i; units = m.1 i }

-- the amount in ten bytes, from the two numbers that the code reads
pub amount_in_is : (s : List ℕ) (n : ℕ) (z : ℤ) → length s ≡ 10 → n ≡ from_little_endian (take 2 s) → z ≡ to_z w64 (from_little_endian (take 8 (drop 2 s))) → amount_in s ≡ amount_if_any n z
amount_in_is s n z e f g =
    let t : take 8 (drop 2 s) ≡ drop 2 s = take_all 8 (drop 2 s) (omega (arith, length-drop 2 s)) in
    cond-true (length s == 10) _ _ (eq-eqb _ _ e)
    ∙ ap (λ k. amount_if_any k (to_z w64 (from_little_endian (drop 2 s)))) (sym f)
    ∙ ap (amount_if_any n) (sym (g ∙ ap (λ x. to_z w64 (from_little_endian x)) t))
