-- Two serial histories have one archive exactly if they agree in outlines and in the order of conflicting jobs.
use Rattle.std.proofs.Common.{◌≡◌, true, sym, ap, ◌∙◌}
use Rattle.std.proofs.lemmas.Bool.Decides.{same_from_decides}
use Rattle.history.specs.Histories.{outline, is_before}
use Rattle.history.specs.Layout.{Coding}
use Rattle.std.specs.Option.{option_map}
use Rattle.history.specs.Laws.{Lawful, ArchivesAgree}
use Rattle.history.proofs.Orders.{kept_order}
use Rattle.history.proofs.Rebuilding.{leaves_rebuilt}
use Rattle.history.proofs.Prefixes.{archive_same, archive_apart}

pub archives_agree : {V : Type 0} (C : Coding V) → Lawful C → ArchivesAgree C
archives_agree C lawful g h sg sh = (
  (λ e.
      let f = archive_apart C g h lawful sg sh e in (
        λ j. ap (option_map outline) (f j),
        λ i j x y p q c.
            same_from_decides {P = is_before g i j ≡ true} (is_before g i j) (is_before h i j) (λ b. b, λ b. b)
            (kept_order h g sh sg i j x y (sym (f i) ∙ p) (sym (f j) ∙ q) p q c, kept_order g h sg sh i j x y p q (sym (f i) ∙ p) (sym (f j) ∙ q) c),
      )),
  (λ s. archive_same C g h (leaves_rebuilt g h sg sh s.0 s.1)),
)
