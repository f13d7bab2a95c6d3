use Rattle.std.proofs.Common.{◌≡◌, ap, ◌∙◌, rules}
use Rattle.std.specs.Option.{option_map}
use Rattle.ledger.specs.declared.job.Write.{Write}
use Rattle.ledger.proofs.Positions.{own_found}
use Rattle.ledger.proofs.lookups.own_place.Goals as goal

pub returns : goal.returns
returns c =
    let e : c.map.result ≡ option_map (λ (x : Write). x.place) c.entry_of.result = search rules in
    e ∙ ap (option_map (λ (x : Write). x.place)) c.entry_of.ensures ∙ own_found c.args.writes.now c.args.«record»
