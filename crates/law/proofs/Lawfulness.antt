-- The law of the house, from its parts.
use Rattle.std.proofs.Common.{◌++◌, length, drop, ap}
use Rattle.history.specs.Layout.{Coding, archive}
use Rattle.history.specs.Laws.{Lawful}
use Rattle.history.proofs.ValueLaws.{lawful}
use Rattle.house.specs.Faults.{kept}
use Rattle.house.specs.Archiving.{house_archive}
use Rattle.house.specs.Runs.{told_as}
use Rattle.law.specs.Law.{TheLaw, NeverLacking, LedgerReached}
use Rattle.law.proofs.Tying.{office_small}
use Rattle.law.proofs.TyingCalls.{tied}
use Rattle.law.proofs.SerialLeaves.{archives_logs}
use Rattle.law.proofs.LogLeaves.{leaves_of_log}
use Rattle.law.proofs.Explaining.{explained}
use Rattle.law.proofs.Collecting.{line_contains, first_answered}
use Rattle.law.proofs.Shelving.{archived, lacks_no_place}
use Rattle.house.specs.declared.call.Told.TheVariants as told

pub the_law : {V : Type 0} (C : Coding V) → Lawful C → TheLaw C
the_law C lawful =
    record {
      archives = archives_logs C lawful;
      long_enough = λ p r buffer b.
          let t = archived p (tied C p r) C buffer b in (
            ap (λ o. (told_as told.Archived o, p.house)) t,
            ap (λ o. kept o buffer (house_archive C p.house ++ drop (length (house_archive C p.house)) buffer)) t,
          );
      archived_log = λ p r. ap (archive C) (leaves_of_log p (tied C p r));
      reads = λ p r. explained p (tied C p r);
      line = λ p r. line_contains p (tied C p r);
      first = λ p r. first_answered p (tied C p r) C;
    }

pub never_lacking : {V : Type 0} (C : Coding V) → NeverLacking C
never_lacking C p r = lacks_no_place p (tied C p r) C

pub ledger_reached : {V : Type 0} (C : Coding V) → LedgerReached C
ledger_reached C p r = let T = tied C p r in (T.few, office_small p T, T.reached)
