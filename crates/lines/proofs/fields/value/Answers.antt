use Rattle.std.proofs.Common.{◌+◌, ◌*◌, sym, ◌∙◌, ap, subst, arith}
use Rattle.std.proofs.lemmas.List.{take_all}
use Rattle.lines.specs.Grammar.{written}
use Rattle.lines.proofs.Digits.{ReadSoFar, value_bound, digit_bounds, one_more, nothing_read}
use Rattle.lines.proofs.fields.value.Goals as goal

pub loop-digit-init : goal.loop-digit-init
loop-digit-init c = nothing_read _

pub overflow_mul-value : goal.overflow_mul-value
overflow_mul-value c = omega (arith, value_bound c.loop-digit.invariant (omega (arith, c.requires.few)))

pub overflow_sub-digit : goal.overflow_sub-digit
overflow_sub-digit c = (digit_bounds c.args.digits.now c.loop-digit.digit-index c.requires.digits c.loop-digit-test.true).0

pub overflow_add-value : goal.overflow_add-value
overflow_add-value c = omega (arith, value_bound c.loop-digit.invariant (omega (arith, c.requires.few)), c.from.ensures, c.type_inv.digits c.loop-digit.digit-index)

pub loop-digit-preserved : goal.loop-digit-preserved
loop-digit-preserved c =
    subst (λ d. ReadSoFar c.args.digits.now (c.loop-digit.digit-index + 1) (c.loop-digit.value * 10 + d)) (sym c.from.ensures)
    (one_more c.loop-digit.invariant c.loop-digit-test.true c.requires.digits)

pub returns : goal.returns
returns c = c.loop-digit.invariant.worth ∙ ap written (take_all _ c.args.digits.now (omega arith))
