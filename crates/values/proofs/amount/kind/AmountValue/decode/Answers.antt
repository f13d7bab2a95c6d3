use Rattle.std.proofs.Common.{◌≡◌, Ok, rules, arith, length, take, drop, sym, ap, ◌∙◌, w64, to_z}
use Rattle.std.proofs.lemmas.Int.{to_z-of_z}
use Rattle.std.proofs.lemmas.Result.{MatchResult-at_ok}
use Rattle.std.proofs.lemmas.Option.{MatchOption-at_some}
use Rattle.std.proofs.lemmas.List.{length-take-le, take_all}
use Rattle.std.specs.Option.{ok_or}
use Rattle.encoding.specs.Bytes.{from_little_endian}
use Rattle.encoding.proofs.BytesLaws.{number_is}
use Rattle.values.specs.Amounts.{amount_if_any}
use Rattle.values.specs.declared.fault.ValueFault.TheVariants.{NotAValue}
use Rattle.values.specs.AmountLaws.{amount_in_is}
use Rattle.values.proofs.amount.kind.AmountValue.decode.Goals as goal

pub returns : goal.returns
returns c =
    let s = c.args.encoded.now in
    let bs = c.in_ok-currency.currency in
    let rest = c.in_ok-currency.units in
    let read : c.try_into.result ≡ Ok c.in_ok-units.units = search rules in
    let whole = MatchResult-at_ok _ _ c.in_ok-units.units read c.try_into.ensures.1 in
    let apart = MatchOption-at_some _ _ (bs, rest) c.in_ok-currency.ensures.ok_part c.split_first_chunk.ensures.cases in
    let eight : length rest.now ≡ 8 = whole.long in
    let back : rest.now ≡ take 8 (drop 2 s) = apart.1 ∙ sym (take_all 8 (drop 2 s) (omega (arith, ap length apart.1, eight))) in
    let n : c.from_le_bytes.result ≡ from_little_endian (take 2 s) = c.from_le_bytes.ensures ∙ number_is 1 bs.now (ap length apart.0 ∙ length-take-le 2 s (omega (arith, apart.2))) ∙ ap from_little_endian apart.0 in
    let z : c.from_le_bytes-2.result ≡ to_z w64 (from_little_endian (take 8 (drop 2 s))) =
    c.from_le_bytes-2.ensures ∙ ap (to_z w64) (number_is 7 c.in_ok-units.units (ap length whole.same ∙ eight) ∙ ap from_little_endian (whole.same ∙ back)) in
    c.from_cell.ensures ∙ ap (λ o. ok_or o NotAValue) (ap (amount_if_any c.from_le_bytes.result) (to_z-of_z w64 c.from_le_bytes-2.result (record { sfits = c.from_le_bytes-2.type_inv }))
    ∙ sym (amount_in_is s c.from_le_bytes.result c.from_le_bytes-2.result (omega (arith, apart.2, eight)) n z))
