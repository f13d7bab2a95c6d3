use Rattle.std.proofs.Common.{◌≡◌, [], map, replicate, reverse, ap, rules}
use Rattle.arrayvec.specs.ArrayVec.{ArrayVec}
use Rattle.ledger.specs.Model.{unused}
use Rattle.ledger.specs.View.{row_view}
use Rattle.ledger.specs.declared.job.Version.{Version}
use Rattle.ledger.proofs.Views.{all_same}
use Rattle.ledger.proofs.ledger.Ledger.new.Goals as goal

pub returns : goal.returns
returns c =
    let rows : map row_view c.from_fn.result ≡ replicate 256 unused = all_same row_view unused 256 c.from_fn.result c.from_fn.ensures.items.long (λ i d h. let k = c.from_fn.ensures.items.at i d h in search rules) in
    let records : map (λ (v : ArrayVec Version). v.items) c.from_fn-2.result ≡ replicate 64 [] = all_same (λ (v : ArrayVec Version). v.items) [] 64 c.from_fn-2.result c.from_fn-2.ensures.items.long (λ i d h. let k = c.from_fn-2.ensures.items.at i d h in search rules) in
    λ i. record { rows = rows i; records = records i; answered = ap reverse c.new.ensures i }
