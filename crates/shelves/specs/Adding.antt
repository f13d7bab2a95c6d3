-- What adding and fetching tell and leave, over the list of values and the room for them; src/shelf.rt and the shelves cite it. Assumes nothing.
use Rattle.std.specs.Prelude.{ℕ, cond, List, [], ◌∷◌, ◌++◌, length, Ok, Err, Result, ◌==◌}
use Rattle.std.specs.List.{slice_get}
use Rattle.std.specs.Option.{ok_or}
use Rattle.shelves.specs.declared.fault.ShelfFault.{ShelfFault}
use Rattle.shelves.specs.declared.fault.ShelfFault.TheVariants.{Full, NoSuchPlace}

module _ {V : Type 0} where
  -- the first where the list is as long as the room, the second where it is not
  abbrev pub if_full : {X : Type 0} → List V → ℕ → X → X → X
  if_full items room x y = cond (length items == room) x y

  -- the place of a value that is added, or a refusal
  abbrev pub place_told : List V → ℕ → Result ℕ ShelfFault
  place_told items room = if_full items room (Err Full) (Ok (length items))

  abbrev pub items_after_add : List V → ℕ → V → List V
  items_after_add items room value = if_full items room items (items ++ value ∷ [])

  -- the value at a place, or a refusal
  abbrev pub fetched : List V → ℕ → Result V ShelfFault
  fetched items place = ok_or (slice_get items place) NoSuchPlace

  -- what comes back where a value is added and then fetched
  abbrev pub added_value : List V → ℕ → V → Result V ShelfFault
  added_value items room value = if_full items room (Err Full) (Ok value)
