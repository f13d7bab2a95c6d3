use Rattle.std.proofs.Common.{◌≡◌, None, Some, sym, ap, ◌∙◌, rules, arith}
use Rattle.std.proofs.lemmas.Grind.{common_steps}
use Rattle.std.specs.List.{position}
use Rattle.ledger.specs.Bounded.{elements}
use Rattle.ledger.proofs.Positions.{write_of, place_replaced, place_added, room_for_write}
use Rattle.ledger.proofs.Searches.{found_first, found_none}
use Rattle.ledger.proofs.job.Row.list_place.Goals as goal

pub push-requires : goal.push-requires
push-requires c =
    let e : None ≡ position (write_of c.args.«record») (elements c.args.self.now.writes) =
    sym c.in-None.is ∙ c.write_index.ensures.value ∙ ap (position (write_of c.args.«record»)) c.as_slice.ensures.value in
    let room = room_for_write (elements c.args.self.now.writes) c.args.«record» (found_none (write_of c.args.«record») (elements c.args.self.now.writes) e) c.requires in
    search rules

pub replace-requires : goal.replace-requires
replace-requires c =
    let e : Some c.in-Some.index ≡ position (write_of c.args.«record») (elements c.args.self.now.writes) =
    sym c.in-Some.is ∙ c.write_index.ensures.value ∙ ap (position (write_of c.args.«record»)) c.as_slice.ensures.value in
    let p = found_first (write_of c.args.«record») (elements c.args.self.now.writes) c.in-Some.index e in
    search rules

pub returns-in-Some : goal.returns-in-Some
returns-in-Some c =
    let e : Some c.in-Some.index ≡ position (write_of c.args.«record») (elements c.args.self.now.writes) =
    sym c.in-Some.is ∙ c.write_index.ensures.value ∙ ap (position (write_of c.args.«record»)) c.as_slice.ensures.value in
    let p = found_first (write_of c.args.«record») (elements c.args.self.now.writes) c.in-Some.index e in
    let r = place_replaced (elements c.args.self.now.writes) c.args.«record» c.in-Some.index c.args.place (record { «record» = 0; place = 0; version = 0 }) p.0 p.1 in
    grind (arith, common_steps)

pub returns-in-None : goal.returns-in-None
returns-in-None c =
    let e : None ≡ position (write_of c.args.«record») (elements c.args.self.now.writes) =
    sym c.in-None.is ∙ c.write_index.ensures.value ∙ ap (position (write_of c.args.«record»)) c.as_slice.ensures.value in
    let p = place_added (elements c.args.self.now.writes) c.args.«record» (found_none (write_of c.args.«record») (elements c.args.self.now.writes) e) c.args.place in search rules
