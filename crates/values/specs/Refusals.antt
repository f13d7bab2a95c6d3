-- Options and the results that refuse where there is none.
use Rattle.std.specs.Prelude.{◌≡◌, Some, None, Ok, Option, refl}
use Rattle.std.specs.Option.{ok_or}
use Rattle.std.specs.Result.{result_ok}

pub some_from_ok : {X E : Type 0} (o : Option X) (e : E) (x : X) → Ok x ≡ ok_or o e → o ≡ Some x
some_from_ok (Some y) e x h = cc
some_from_ok None e x h = cc

pub ok_part_of_ok_or : {X E : Type 0} (o : Option X) (e : E) → result_ok (ok_or o e) ≡ o
ok_part_of_ok_or (Some x) e = refl
ok_part_of_ok_or None e = refl
