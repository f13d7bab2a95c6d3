use Rattle.std.proofs.Common.{rules}
use Rattle.encoding.proofs.BytesLaws.{octets}
use Rattle.values.specs.Refusals.{some_from_ok}
use Rattle.values.proofs.any_value.reencode.Goals as goal

pub returns-clause-copied : goal.returns-clause-copied
returns-clause-copied g c =
    let s = c.args.encoded.now in
    let v = c.in-Ok.value in
    let parsed = some_from_ok (g.V.Value.parsed s) _ v c.in-Ok.ensures in
    let same = g.met.V.Value.bytes_parsed s v (octets s (λ i. (c.type_inv.encoded i).fits)) parsed in
    search rules
