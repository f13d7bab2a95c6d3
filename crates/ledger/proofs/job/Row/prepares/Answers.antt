use Rattle.std.proofs.Common.{◌≡◌, ℕ, Bool, List, cond, replicate, ap, ◌∙◌, rules}
use Rattle.std.specs.List.{list_any}
use Rattle.ledger.specs.Bounded.{elements}
use Rattle.ledger.specs.Delivering.{prepare_waits}
use Rattle.ledger.specs.Model.{idle, all_idle}
use Rattle.ledger.specs.Offices.{owns}
use Rattle.ledger.specs.Searching.{map_indexed}
use Rattle.ledger.specs.declared.job.Read.{Read}
use Rattle.ledger.specs.declared.job.Write.{Write}
use Rattle.ledger.specs.declared.message.Exchange.{Exchange}
use Rattle.ledger.proofs.MapsInPlace.{map_indexed_twice, map_indexed_same, map_indexed_replicate, either_written}
use Rattle.ledger.proofs.job.Row.prepares.Goals as goal

-- the owners of the reads are asked, and then those of the writes
pub returns : goal.returns
returns c =
    let reads = elements c.args.self.now.reads in
    let writes = elements c.args.self.now.writes in
    let reader : ℕ → List Read → Bool = λ o xs. list_any (λ (y : Read). owns c.args.offices o y.«record») xs in
    let writer : ℕ → List Write → Bool = λ o xs. list_any (λ (y : Write). owns c.args.offices o y.«record») xs in
    let first : ℕ → Exchange → Exchange = λ o e. cond (reader o reads) prepare_waits e in
    let then-written : ℕ → Exchange → Exchange = λ o e. cond (writer o writes) prepare_waits e in
    let blank : replicate 8 c.default-exchanges.result ≡ all_idle = search rules in
    let asked : c.ask_owners.new.exchanges ≡ map_indexed first 0 all_idle =
    c.ask_owners.ensures ∙ ap (λ ys. map_indexed (λ o e. cond (reader o ys) prepare_waits e) 0 (replicate 8 c.default-exchanges.result)) c.as_slice.ensures.value
    ∙ ap (map_indexed first 0) blank in
    c.ask_owners-2.ensures ∙ ap (λ ys. map_indexed (λ o e. cond (writer o ys) prepare_waits e) 0 c.ask_owners.new.exchanges) c.as_slice-2.ensures.value
    ∙ ap (map_indexed then-written 0) asked
    ∙ map_indexed_twice then-written first 0 all_idle
    ∙ map_indexed_replicate (λ o e. then-written o (first o e)) idle 0 8
    ∙ map_indexed_same _ _ (λ o e. either_written prepare_waits idle (reader o reads) (writer o writes)) 0 all_idle
