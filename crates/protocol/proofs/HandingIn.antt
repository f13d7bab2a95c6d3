-- Hand in is one move, or two where the job lists no record and is accepted on the spot.
use Rattle.std.proofs.Common.{◌≡◌, ℕ, ◌<◌, ◌≤◌, Bool, true, false, cond, ◌&&◌, ◌||◌, eqb, ◌⊎◌, List, [], ◌∷◌, None, refl, ap, ◌∙◌, inl, inr, zero-add, arith}
use native.Mathlib.Decide.{dec_le}
use lib.ListN.{get_or-eq_default}
use Rattle.std.specs.List.{list_any}
use Rattle.ledger.specs.Limits.{most_offices}
use Rattle.ledger.specs.Model.{RowModel, LedgerModel, idle, all_idle, row, exchange, first_unseen, has_written, is_listed}
use Rattle.ledger.specs.Delivering.{prepare_waits, holds, is_empty, is_concerned, prepares, handed_in, hand_in_done, hand_in_fault}
use Rattle.ledger.specs.declared.job.State.{State}
use Rattle.ledger.specs.declared.job.State.TheVariants.{Voting, Accepted}
use Rattle.ledger.specs.declared.job.Read.{Read}
use Rattle.ledger.specs.declared.job.Write.{Write}
use Rattle.protocol.specs.Calls.{line_after}
use Rattle.protocol.proofs.Machine.{amending, voting, then}
use Rattle.protocol.proofs.Lookups.{no_read_passes, no_write_passes, getD_indexed, length_indexed}
use Rattle.protocol.proofs.Matching.{Orderly, RowMatches, Matched, line_unmoved, line_joined, invariants_of, put_matched}
use Rattle.protocol.proofs.Machine as machine

no_reads : (xs : List Read) (r : ℕ) → is_empty xs ≡ true → first_unseen xs r ≡ 0
no_reads [] r e = refl
no_reads (x ∷ xs) r e = absurd (grind arith)

no_writes : (xs : List Write) (r : ℕ) → is_empty xs ≡ true → has_written xs r ≡ false
no_writes [] r e = refl
no_writes (x ∷ xs) r e = absurd (grind arith)

module _ (office : ℕ → ℕ) (x : RowModel) where
  not_concerned : (o : ℕ) → is_empty x.reads ≡ true → is_empty x.writes ≡ true → is_concerned office x o ≡ false
  not_concerned o = go x.reads x.writes
    where
      go : (xs : List Read) (ys : List Write) → is_empty xs ≡ true → is_empty ys ≡ true → list_any (λ y. eqb (office y.«record») o) xs || list_any (λ y. eqb (office y.«record») o) ys ≡ false
      go [] [] p q = refl
      go (x ∷ xs) ys p q = absurd (grind arith)
      go [] (y ∷ ys) p q = absurd (grind arith)

  concerned : (r : ℕ) → is_listed x r ≡ true → is_concerned office x (office r) ≡ true
  concerned r h = go (list_any f x.reads) refl (list_any g x.writes) refl
    where
      f : Read → Bool
      f y = eqb (office y.«record») (office r)

      g : Write → Bool
      g y = eqb (office y.«record») (office r)

      not_read : list_any f x.reads ≡ false → 0 < first_unseen x.reads r → ⊥
      not_read p l = let z = no_read_passes f x.reads r p l in let e : office z.0.«record» ≡ office r = ap office z.1 in grind (arith, z.3)

      not_written : list_any g x.writes ≡ false → has_written x.writes r ≡ true → ⊥
      not_written p l = let z = no_write_passes g x.writes r p l in let e : office z.0.«record» ≡ office r = ap office z.1 in grind (arith, z.2)

      go : (a : Bool) → list_any f x.reads ≡ a → (b : Bool) → list_any g x.writes ≡ b → a || b ≡ true
      go true p b q = refl
      go false p true q = refl
      go false p false q = absurd (grind (arith, not_read p, not_written q))

  -- what then waits at an office
  prepare_at : (o : ℕ) → o < most_offices → exchange (handed_in office x) o ≡ cond (is_concerned office x o) prepare_waits idle
  prepare_at o l = simp zero-add at (getD_indexed (λ o e. cond (is_concerned office x o) prepare_waits idle) all_idle 0 o idle l)

  prepare_behind : (o : ℕ) → most_offices ≤ o → exchange (handed_in office x) o ≡ idle
  prepare_behind o l = get_or-eq_default (prepares office x) idle {n = o} (simp length_indexed l)

  prepare_any : (o : ℕ) → (exchange (handed_in office x) o ≡ idle) ⊎ ((exchange (handed_in office x) o ≡ prepare_waits) × (is_concerned office x o ≡ true))
  prepare_any o = go (dec_le most_offices o)
    where
      two : (b : Bool) → is_concerned office x o ≡ b → exchange (handed_in office x) o ≡ cond b prepare_waits idle → (exchange (handed_in office x) o ≡ idle) ⊎ ((exchange (handed_in office x) o ≡ prepare_waits) × (is_concerned office x o ≡ true))
      two true p e = inr (e, p)
      two false p e = inl e

      go : Dec (most_offices ≤ o) → (exchange (handed_in office x) o ≡ idle) ⊎ ((exchange (handed_in office x) o ≡ prepare_waits) × (is_concerned office x o ≡ true))
      go (yes p) = inl (prepare_behind o p)
      go (no n) = let l : o < most_offices = omega arith in two (is_concerned office x o) refl (prepare_at o l)

pub hand_in_matched : {office : ℕ → ℕ} {ledger : LedgerModel} {q : List ℕ} (M : Matched office ledger q) → ((r : ℕ) → office r < most_offices) → (j : ℕ) → hand_in_fault ledger j ≡ None →
    Matched office (hand_in_done office ledger j) (line_after ledger (hand_in_done office ledger j) j q)
hand_in_matched {office} {ledger} {q} M few j f = go (is_empty x.reads) refl (is_empty x.writes) refl
  where
    x : RowModel
    x = row ledger j

    now : RowMatches M.machine j x
    now = M.rows.each j

    t : Orderly office x
    t = M.rows.orderly j

    amending : M.machine.phase j ≡ machine.amending
    amending = grind (arith, now.phase_is)

    state : State
    state = cond (is_empty x.reads && is_empty x.writes) Accepted Voting

    unheld : (o : ℕ) → M.machine.holds j o ≡ holds (exchange (handed_in office x) o)
    unheld o = grind (arith, (invariants_of M).holders j o, prepare_any office x o)

    voting : state ≡ Voting → Matched office (hand_in_done office ledger j) (line_after ledger (hand_in_done office ledger j) j q)
    voting e =
        put_matched M j (handed_in office x) (machine.with_phase M.machine j machine.voting) (grind arith)
        (then M.run (machine.hands_in j amending)) refl refl refl (line_unmoved x.state state j M.machine.line (grind arith) (grind arith))
        (record { phase_is = grind arith; unseen_is = now.unseen_is; wrote_is = now.wrote_is; version_is = now.version_is; holds_is = unheld }) (grind arith)
        (record {
          fitting = λ o. grind (arith, prepare_any office x o);
          asked = λ q r h. grind (arith, prepare_at office x (office r) (few r), concerned office x r h);
          writes_small = t.writes_small;
          exchange_count = λ q. length_indexed (λ o e. cond (is_concerned office x o) prepare_waits idle) all_idle 0;
          kind_fits = grind arith;
        })

    go : (a : Bool) → is_empty x.reads ≡ a → (b : Bool) → is_empty x.writes ≡ b → Matched office (hand_in_done office ledger j) (line_after ledger (hand_in_done office ledger j) j q)
    go true p true e =
        let r0 : (r : ℕ) → M.machine.unseen j r ≡ 0 = λ r. now.unseen_is r ∙ no_reads x.reads r p in
        let w0 : (r : ℕ) → M.machine.wrote j r ≡ false = λ r. now.wrote_is r ∙ no_writes x.writes r e in
        let h = machine.with_phase M.machine j machine.voting in
        put_matched M j (handed_in office x) (machine.with_accepted h j) (grind arith)
        (then (then M.run (machine.hands_in j amending)) (machine.accepts j (grind arith) (λ r l. absurd (grind (arith, r0 r, w0 r))))) refl refl refl
        (line_joined x.state state j M.machine.line (grind arith) (grind arith))
        (record { phase_is = grind arith; unseen_is = now.unseen_is; wrote_is = now.wrote_is; version_is = now.version_is; holds_is = unheld }) (grind arith)
        (record {
          fitting = λ o. grind (arith, prepare_any office x o, not_concerned office x o p e);
          asked = λ q. absurd (grind arith);
          writes_small = t.writes_small;
          exchange_count = λ q. length_indexed (λ o e. cond (is_concerned office x o) prepare_waits idle) all_idle 0;
          kind_fits = grind arith;
        })
    go true p false e = voting (grind arith)
    go false p b e = voting (grind arith)
