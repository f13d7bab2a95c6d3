use Rattle.std.proofs.Common.{◌≡◌, ap, ◌∙◌, rules}
use Rattle.ledger.proofs.Positions.{version_or_none, installed_found}
use Rattle.ledger.proofs.lookups.installed_version.Goals as goal

pub returns : goal.returns
returns c =
    let e : c.map_or.result ≡ version_or_none c.entry_of.result = search rules in
    e ∙ ap version_or_none c.entry_of.ensures ∙ installed_found c.args.writes.now c.args.«record»
