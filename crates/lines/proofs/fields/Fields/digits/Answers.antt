use Rattle.std.proofs.Common.{ap, ◌∙◌, arith}
use Rattle.std.proofs.lemmas.List.Sums.{prefix_len-le-length}
use Rattle.std.specs.Char.{is_ascii_digit}
use Rattle.lines.specs.Grammar.{digits}
use Rattle.lines.proofs.Digits.{first_are_digits, all_counted, no_number, number_read}
use Rattle.lines.proofs.fields.Fields.digits.Goals as goal

pub returns-then-count-eq0-clause-taken : goal.returns-then-count-eq0-clause-taken
returns-then-count-eq0-clause-taken c = no_number c.args.self.now.rest.now _ (c.count_digits-count.ensures ∙ ap digits c.front_of.ensures) c.then-count-eq0.either

pub split_at-requires : goal.split_at-requires
split_at-requires c = omega (arith, all_counted c.args.self.now.rest.now _ (c.count_digits-count.ensures ∙ ap digits c.front_of.ensures) c.if-count-gt-MOST_DIGITS.false, prefix_len-le-length is_ascii_digit c.args.self.now.rest.now)

pub value-requires-clause-digits : goal.value-requires-clause-digits
value-requires-clause-digits c = first_are_digits c.args.self.now.rest.now _ _ (all_counted c.args.self.now.rest.now _ (c.count_digits-count.ensures ∙ ap digits c.front_of.ensures) c.if-count-gt-MOST_DIGITS.false) c.split_at.ensures.front

pub returns-clause-taken : goal.returns-clause-taken
returns-clause-taken c =
    (number_read c.args.self.now.rest.now _ _ _ _ (all_counted c.args.self.now.rest.now _ (c.count_digits-count.ensures ∙ ap digits c.front_of.ensures) c.if-count-gt-MOST_DIGITS.false) c.if-count-eq0.false c.if-count-gt-MOST_DIGITS.false c.split_at.ensures.front c.split_at.ensures.back c.value.ensures).0

pub returns-clause-bound : goal.returns-clause-bound
returns-clause-bound c =
    (number_read c.args.self.now.rest.now _ _ _ _ (all_counted c.args.self.now.rest.now _ (c.count_digits-count.ensures ∙ ap digits c.front_of.ensures) c.if-count-gt-MOST_DIGITS.false) c.if-count-eq0.false c.if-count-gt-MOST_DIGITS.false c.split_at.ensures.front c.split_at.ensures.back c.value.ensures).1
