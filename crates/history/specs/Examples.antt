-- The layout and the theorem on small histories, with values that are their own bytes; `src/lib.rt` cites it. Assumes nothing.
use Rattle.std.specs.Prelude.{◌≡◌, ℕ, List, [], ◌∷◌}
use Rattle.ledger.specs.declared.job.JobKind.TheVariants.{Amendment, Inspection}
use Rattle.history.specs.Histories.{Leaf, Serial}
use Rattle.history.specs.Layout.{Coding, archive}

-- values that are their own bytes
abbrev pub own_bytes : Coding (List ℕ)
own_bytes = record { bytes = λ v. v; kind = 1; width = 10 }

-- job 1 wrote 412.00 US dollars to record 0
abbrev pub writer : Leaf (List ℕ)
writer =
    record {
      job = 1;
      kind = Amendment;
      reads = [];
      writes = record { «record» = 0; version = 1; value = 0x48 ∷ 0x03 ∷ 0xF0 ∷ 0xA0 ∷ 0 ∷ 0 ∷ 0 ∷ 0 ∷ 0 ∷ 0 ∷ [] } ∷ [];
    }

-- job 2 read record 0 before that (version 0) or after it (version 1)
abbrev pub reader : ℕ → Leaf (List ℕ)
reader v = record { job = 2; kind = Inspection; reads = record { «record» = 0; version = v } ∷ []; writes = [] }

-- job 3 shares no record with them
abbrev pub bystander : Leaf (List ℕ)
bystander = record { job = 3; kind = Inspection; reads = record { «record» = 5; version = 0 } ∷ []; writes = [] }

-- both outcomes of the theorem occur: the order of two jobs that share no record does not show, that of two that conflict does
pub record Examples : Type 0 where
  pub empty : archive own_bytes [] ≡ 8 ∷ 0 ∷ 0 ∷ 0 ∷ 1 ∷ 0 ∷ 0 ∷ 0 ∷ 1 ∷ 0 ∷ 10 ∷ 0 ∷ []
  pub day :
      archive own_bytes (writer ∷ reader 0 ∷ []) ≡
      8 ∷ 0 ∷ 0 ∷ 0 ∷ 1 ∷ 0 ∷ 2 ∷ 0 ∷ 1 ∷ 0 ∷ 10 ∷ 0 ∷
      0x12 ∷ 0 ∷ 0 ∷ 0 ∷ 2 ∷ 0 ∷ 1 ∷ 0 ∷ 0 ∷ 1 ∷ 0 ∷ 1 ∷ 0x48 ∷ 0x03 ∷ 0xF0 ∷ 0xA0 ∷ 0 ∷ 0 ∷ 0 ∷ 0 ∷ 0 ∷ 0 ∷
      8 ∷ 0 ∷ 0 ∷ 0 ∷ 3 ∷ 0 ∷ 2 ∷ 0 ∷ 1 ∷ 0 ∷ 0 ∷ 0 ∷ []
  pub read_first : Serial (writer ∷ reader 0 ∷ [])
  pub written_first : Serial (reader 1 ∷ writer ∷ [])
  pub differ : archive own_bytes (writer ∷ reader 0 ∷ []) ≡ archive own_bytes (reader 1 ∷ writer ∷ []) → ⊥
  pub either_way : Serial (bystander ∷ writer ∷ []) × Serial (writer ∷ bystander ∷ [])
  pub alike : archive own_bytes (bystander ∷ writer ∷ []) ≡ archive own_bytes (writer ∷ bystander ∷ [])
