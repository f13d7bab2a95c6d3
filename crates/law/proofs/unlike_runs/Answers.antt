use Rattle.std.proofs.Common.{◌≡◌, ℕ, get_or, refl, ap, arith}
use Rattle.history.specs.Layout.{leaves, archive_bytes}
use Rattle.law.proofs.unlike_runs.Goals as goal

pub returns : goal.returns
unfolding leaves archive_bytes
returns c = record { turned_told = refl; different = λ e. (let z : ◌≡◌ {A = ℕ} 0 1 = ap (λ l. get_or l 44 0) e in omega arith) }
