-- A call that runs continues every run that leads to the house where it starts; and there its archive by the rows is that of the answered jobs.
use Rattle.std.proofs.Common.{◌≡◌, ℕ, List, length, Result, sym, refl, ap, ◌∙◌}
use Rattle.history.specs.Layout.{Coding}
use Rattle.house.specs.Model.{HouseModel}
use Rattle.house.specs.Runs.{told_as, call_told, call_after, Progress, proceeds}
use Rattle.house.specs.declared.fault.Fault.{Fault}
use Rattle.house.specs.declared.call.Call.{Call}
use Rattle.house.specs.declared.call.Told.{Told}
use Rattle.house.specs.declared.call.Call.TheVariants as call
use Rattle.house.specs.declared.call.Told.TheVariants as told
use Rattle.law.specs.Performing.{if_archive, fitted, performed_told, performed_buffer, call_buffer, Continues, RowsArchived}
use Rattle.law.proofs.RowsArchived.{rows_archived, rows_complete, told_same, buffer_same}
use Rattle.law.proofs.Tying.{Tied}
use Rattle.law.proofs.TyingCalls.{tied}

module _ {V : Type 0} (C : Coding V) where
  -- the buffer's length changes nothing but the archive's call, which leaves the house as it is
  fitted_after : (m : HouseModel V) (c : Call V) (room : ℕ) → call_after C m (fitted c room) ≡ call_after C m c
  fitted_after m (call.Open j k) room = refl
  fitted_after m (call.Read j r) room = refl
  fitted_after m (call.Write j r v) room = refl
  fitted_after m (call.HandIn j) room = refl
  fitted_after m (call.Deliver j o) room = refl
  fitted_after m (call.Collect j) room = refl
  fitted_after m (call.Close j) room = refl
  fitted_after m (call.Withdraw j) room = refl
  fitted_after m (call.Archive n) room = refl

  module _ (p : Progress V) (T : Tied p) where
    told_by_rules : (c : Call V) (room : ℕ) → performed_told C p.house c room ≡ call_told C p.house (fitted c room)
    told_by_rules (call.Open j k) room = refl
    told_by_rules (call.Read j r) room = refl
    told_by_rules (call.Write j r v) room = refl
    told_by_rules (call.HandIn j) room = refl
    told_by_rules (call.Deliver j o) room = refl
    told_by_rules (call.Collect j) room = refl
    told_by_rules (call.Close j) room = refl
    told_by_rules (call.Withdraw j) room = refl
    told_by_rules (call.Archive n) room = ap (told_as told.Archived) (told_same p T C room)

    written_by_rules : (c : Call V) (buffer : List ℕ) → performed_buffer C p.house c buffer ≡ call_buffer C p.house c buffer
    written_by_rules c buffer = ap (λ left. if_archive c left buffer) (buffer_same p T C buffer)

  pub continued : (before after : HouseModel V) (c : Call V) (buffer left : List ℕ) (t : Result (Told V) Fault) → t ≡ performed_told C before c (length buffer) → after ≡ call_after C before c → left ≡ performed_buffer C before c buffer →
      Continues C before c buffer t left after
  continued before after c buffer left t a b d p r h =
      let T : Tied p = tied C p r in
      record {
        run = proceeds r (fitted c (length buffer));
        here = fitted_after p.house c (length buffer) ∙ ap (λ m. call_after C m c) h ∙ sym b;
        told = a ∙ ap (λ m. performed_told C m c (length buffer)) (sym h) ∙ told_by_rules p T c (length buffer);
        written = d ∙ ap (λ m. performed_buffer C m c buffer) (sym h) ∙ written_by_rules p T c buffer;
      }

  pub archived_by_rows : RowsArchived C
  archived_by_rows p r = let T : Tied p = tied C p r in (rows_complete p T, sym (rows_archived p T C))
