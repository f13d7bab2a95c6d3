-- The command that a line writes, or its fault: what src/command.rt, src/letter.rt and src/parse.rt give. Assumes nothing.
use Rattle.std.specs.Prelude.{ℕ, cond, List, [], ◌∷◌, length, Some, None, Err, codes, Option, Result, ◌==◌, nat_lt, slice_index}
use Prim.Native.String.{String}
use Rattle.std.specs.Option.{ok_or}
use Rattle.lines.specs.Grammar.{then, field, one_field, two_fields, amount_fields}
use Rattle.lines.specs.declared.command.Letter.{Letter}
use Rattle.lines.specs.declared.command.Letter.TheVariants as letter
use Rattle.lines.specs.declared.command.Command.{Command}
use Rattle.lines.specs.declared.command.Command.TheVariants as command
use Rattle.lines.specs.declared.command.LineFault.{LineFault}
use Rattle.lines.specs.declared.command.LineFault.TheVariants.{TooLong, UnknownLetter, WrongFields}

-- a line without its newline has at most so many bytes
abbrev pub longest_line : ℕ
longest_line = 80

-- the refusal numbers
abbrev pub line_fault_number : LineFault → ℕ
line_fault_number TooLong = 18
line_fault_number UnknownLetter = 19
line_fault_number WrongFields = 20

-- the code of a character, which is written as a text
abbrev pub character : String → ℕ
character text = slice_index (codes text) 0

-- the letter that a character is
abbrev pub letter_of : ℕ → Option Letter
letter_of c =
    cond (c == (character "a")) (Some letter.Amendment)
    (cond (c == (character "i")) (Some letter.Inspection)
    (cond (c == (character "r")) (Some letter.Read)
    (cond (c == (character "w")) (Some letter.Write)
    (cond (c == (character "h")) (Some letter.HandIn)
    (cond (c == (character "d")) (Some letter.Deliver)
    (cond (c == (character "c")) (Some letter.Collect)
    (cond (c == (character "e")) (Some letter.Close)
    (cond (c == (character "u")) (Some letter.Withdraw) None))))))))

-- job, record, currency and units
abbrev pub write_of : List ℕ → Option Command
write_of s = then (field s) (λ j. then (field j.1) (λ r. then (amount_fields r.1) (λ a. Some (command.Write j.0 r.0 a.0 a.1))))

-- the command of a letter, with the fields that stand behind the letter
abbrev pub command_of : Letter → List ℕ → Option Command
command_of letter.Amendment s = then (one_field s) (λ j. Some (command.OpenAmendment j))
command_of letter.Inspection s = then (one_field s) (λ j. Some (command.OpenInspection j))
command_of letter.Read s = then (two_fields s) (λ p. Some (command.Read p.0 p.1))
command_of letter.Write s = write_of s
command_of letter.HandIn s = then (one_field s) (λ j. Some (command.HandIn j))
command_of letter.Deliver s = then (two_fields s) (λ p. Some (command.Deliver p.0 p.1))
command_of letter.Collect s = then (one_field s) (λ j. Some (command.Collect j))
command_of letter.Close s = then (one_field s) (λ j. Some (command.Close j))
command_of letter.Withdraw s = then (one_field s) (λ j. Some (command.Withdraw j))

-- the command of a letter, if there is one
abbrev pub lettered : Option Letter → List ℕ → Result Command LineFault
lettered None s = Err UnknownLetter
lettered (Some l) s = ok_or (command_of l s) WrongFields

-- the command of a line that is short enough
abbrev pub begun : List ℕ → Result Command LineFault
begun [] = Err UnknownLetter
begun (c ∷ s) = lettered (letter_of c) s

-- the command of a line without its newline
abbrev pub parsed : List ℕ → Result Command LineFault
parsed line = cond (nat_lt longest_line (length line)) (Err TooLong) (begun line)
