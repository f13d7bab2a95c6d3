use Rattle.std.proofs.Common.{◌≡◌, ◌<◌, [], length, get_or, sym, ap, ◌∙◌, arith, length-set}
use lib.ListN.{length-map, get_or-map}
use Rattle.std.proofs.lemmas.List.{map-set, get_or_default}
use Rattle.arrayvec.specs.ArrayVec.{ArrayVec}
use Rattle.ledger.specs.Delivering.{record_installed}
use Rattle.ledger.specs.Offices.{office_of}
use Rattle.ledger.specs.declared.job.Version.{Version}
use Rattle.ledger.proofs.Installations.{lists}
use Rattle.ledger.proofs.MapsInPlace.{map_indexed_more, map_indexed_all}
use Rattle.ledger.proofs.installing.install_versions.Goals as goal

pub loop-record-preserved : goal.loop-record-preserved
loop-record-preserved c =
    let f = record_installed (office_of c.args.office.offices) c.args.writes.now c.args.job c.args.office.number in
    let now-there = c.loop-record.records in
    let r = c.loop-record.«record» in
    let d = c.index-records-record.result in
    let long : length (lists c.args.records.now) ≡ 64 = length-map c.args.records.now (λ (v : ArrayVec Version). v.items) ∙ c.told-records in
    let within : r < length (lists now-there) = omega (arith, length-map now-there (λ (v : ArrayVec Version). v.items), c.loop-record.invariant.0, c.loop-record-test.true) in
    let read : (get_or now-there r d).items ≡ get_or (lists now-there) r [] = sym (get_or_default (lists now-there) r [] d.items within ∙ get_or-map (λ (v : ArrayVec Version). v.items) now-there r d) in (
      simp length-set c.loop-record.invariant.0,
      map-set (λ (v : ArrayVec Version). v.items) now-there r c.install_version.new.versions
          ∙ map_indexed_more f (lists c.args.records.now) (lists now-there) r [] c.install_version.new.versions.items (omega (arith, long, c.loop-record-test.true)) c.loop-record.invariant.1
          (c.install_version.ensures ∙ ap (f r) read),
    )

pub returns : goal.returns
returns c =
    let long : length (lists c.args.records.now) ≡ 64 = length-map c.args.records.now (λ (v : ArrayVec Version). v.items) ∙ c.told-records in
    map_indexed_all _ (lists c.args.records.now) _ c.loop-record.«record» (omega (arith, long, c.loop-record-test.false)) c.loop-record.invariant.1
