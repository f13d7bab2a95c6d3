-- The number, the layer and the text of a refused line; `src/refusal.rt` cites it. Assumes nothing.
use Rattle.std.specs.Prelude.{ℕ, List, ◌++◌, Ok, Err, codes, decimal, Result}
use Rattle.lines.specs.Commands.{line_fault_number}
use Rattle.house.specs.Faults.{fault_number, fault_layer, layer_letter}
use Rattle.house.specs.declared.fault.Layer.{Layer}
use Rattle.house.specs.declared.fault.Layer.TheVariants as layer
use Rattle.sheet.specs.declared.refusal.Cause.{Cause}
use Rattle.sheet.specs.declared.refusal.Cause.TheVariants as cause
use Rattle.sheet.specs.declared.refusal.Refusal.{Refusal}

abbrev pub cause_number : Cause → ℕ
cause_number (cause.Line f) = line_fault_number f
cause_number (cause.House f) = fault_number f

abbrev pub cause_layer : Cause → Layer
cause_layer (cause.Line f) = layer.Line
cause_layer (cause.House f) = fault_layer f

-- line number, `no`, layer, refusal number
abbrev pub refusal_text : Refusal → List ℕ
refusal_text r = decimal r.line ++ (codes " no " ++ (layer_letter (cause_layer r.cause) ++ (codes " " ++ decimal (cause_number r.cause))))

abbrev pub numbered : {T : Type 0} → ℕ → Result T Cause → Result T Refusal
numbered line (Ok told) = Ok told
numbered line (Err c) = Err (record { line = line; cause = c })
