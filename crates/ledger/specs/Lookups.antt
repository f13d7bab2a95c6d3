-- What a look-up of a listed read answers, in the terms of the rules; `src/lookups.rt` cites it. Assumes nothing.
use Rattle.std.specs.Prelude.{ℕ, suc, Some, None, Option}

-- the first version that a read at this version did not see; 0 for no read
abbrev pub unseen_after : Option ℕ → ℕ
unseen_after None = 0
unseen_after (Some version) = suc version
