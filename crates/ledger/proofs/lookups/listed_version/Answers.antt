use Rattle.std.proofs.Common.{◌≡◌, ap, ◌∙◌, rules}
use Rattle.std.specs.Option.{option_map}
use Rattle.ledger.specs.Lookups.{unseen_after}
use Rattle.ledger.specs.declared.job.Read.{Read}
use Rattle.ledger.proofs.Positions.{unseen_found}
use Rattle.ledger.proofs.lookups.listed_version.Goals as goal

pub returns : goal.returns
returns c =
    let e : c.map.result ≡ option_map (λ (x : Read). x.version) c.entry_of.result = search rules in
    ap unseen_after (e ∙ ap (option_map (λ (x : Read). x.version)) c.entry_of.ensures) ∙ unseen_found c.args.reads.now c.args.«record»
