use Rattle.std.proofs.Common.{◌≡◌, Ok, rules, sym, ap, ◌∙◌, arith}
use Rattle.std.specs.Option.{ok_or, option_map}
use Rattle.values.specs.Standings.{reason_of, standing_of}
use Rattle.values.specs.declared.fault.ValueFault.TheVariants.{NotAValue, OutOfRange}
use Rattle.values.specs.declared.standing.Standing.TheVariants.{Lodged, Released, Stopped}
use Rattle.values.specs.Refusals.{some_from_ok}
use Rattle.values.specs.StandingLaws.{day_of_is}
use Rattle.values.proofs.standing.kind.StandingValue.from_cell.Goals as goal

pub returns-in-1 : goal.returns-in-1
returns-in-1 c =
    ap (λ o. ok_or (option_map (λ d. Lodged d) o) NotAValue) (sym (day_of_is c.new.result c.args.stored.number (omega (arith, c.new.ensures))))
    ∙ ap (λ k. ok_or (standing_of k c.args.stored.number) NotAValue) (sym c.in-1.is)

pub returns-in-2 : goal.returns-in-2
returns-in-2 c =
    ap (λ o. ok_or (option_map (λ d. Released d) o) NotAValue) (sym (day_of_is c.new-in-2.result c.args.stored.number (omega (arith, c.new-in-2.ensures))))
    ∙ ap (λ k. ok_or (standing_of k c.args.stored.number) NotAValue) (sym c.in-2.is)

pub returns-in_ok-reason-in-3 : goal.returns-in_ok-reason-in-3
returns-in_ok-reason-in-3 c =
    let r = c.in_ok-reason-in-3.reason in
    let made : Ok r ≡ c.new-in-3.result = search rules in
    let some = some_from_ok (reason_of c.into.result) OutOfRange r (made ∙ c.new-in-3.ensures) in
    let same : c.into.result ≡ c.args.stored.number = omega (arith, c.into.ensures) in
    ap (λ o. ok_or (option_map (λ x. Stopped x) o) NotAValue) (sym some ∙ ap reason_of same)
    ∙ ap (λ k. ok_or (standing_of k c.args.stored.number) NotAValue) (sym c.in-3.is)
