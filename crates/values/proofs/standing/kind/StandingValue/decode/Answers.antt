use Rattle.std.proofs.Common.{◌≡◌, Ok, rules, arith, length, take, drop, slice_index, sym, ap, ◌∙◌}
use Rattle.std.proofs.lemmas.Result.{MatchResult-at_ok}
use Rattle.std.proofs.lemmas.Option.{MatchOption-at_some}
use Rattle.std.proofs.lemmas.List.{take_all}
use Rattle.std.specs.Option.{ok_or}
use Rattle.encoding.specs.Bytes.{from_little_endian}
use Rattle.encoding.proofs.BytesLaws.{number_is}
use Rattle.values.specs.declared.fault.ValueFault.TheVariants.{NotAValue}
use Rattle.values.specs.StandingLaws.{standing_in_is}
use Rattle.values.proofs.standing.kind.StandingValue.decode.Goals as goal

pub returns : goal.returns
returns c =
    let s = c.args.encoded.now in
    let n = c.in_ok-number.number in
    let k = c.in_ok-state.state in
    let rest = c.in_ok-state.number in
    let read : c.try_into.result ≡ Ok n = search rules in
    let whole = MatchResult-at_ok _ _ n read c.try_into.ensures.1 in
    let apart = MatchOption-at_some _ _ (k, rest) c.in_ok-state.ensures.ok_part c.split_first.ensures.cases in
    let four : length rest.now ≡ 4 = whole.long in
    let back : rest.now ≡ take 4 (drop 1 s) = sym (ap (λ xs. take 4 (drop 1 xs)) apart.0 ∙ take_all 4 rest.now (omega (arith, four))) in
    let is : c.from_le_bytes.result ≡ from_little_endian (take 4 (drop 1 s)) = c.from_le_bytes.ensures ∙ number_is 3 n (ap length whole.same ∙ four) ∙ ap from_little_endian (whole.same ∙ back) in
    c.from_cell.ensures ∙ ap (λ o. ok_or o NotAValue) (sym (standing_in_is s k.now c.from_le_bytes.result (omega (arith, apart.1, four)) (sym (ap (λ xs. slice_index xs 0) apart.0)) is))
