-- One more line of the day's text, and its end. Assumes nothing.
use Rattle.std.proofs.Common.{refl, ◌≡◌, ℕ, ◌+◌, ◌^◌, ◌<◌, ◌≤◌, List, [], ◌∷◌, ◌++◌, length, get_or, drop, codes, decimal, Result, Ok, Err, OnOk, sym, append_assoc, append-nil}
use Rattle.std.proofs.lemmas.List.{drop_more, drop_all}
use Rattle.values.specs.declared.amount.Amount.{Amount}
use Rattle.house.specs.Questions.{answered_jobs}
use Rattle.house.specs.Model.{HouseModel}
use Rattle.sheet.specs.Carrying.{line_told, line_after}
use Rattle.sheet.specs.Day.{line_text, jobs_text, end_text, lines_text}
use Rattle.sheet.specs.Refusals.{numbered}
use Rattle.sheet.specs.declared.answer.Answer.{Answer}
use Rattle.sheet.specs.declared.refusal.Cause.{Cause}
use Rattle.sheet.specs.declared.refusal.Refusal.{Refusal}

-- what is written so far and what the lines that are left will write stay the same text; before and before' count the lines that were carried out
pub line_written : (so_far then : List ℕ) (i before before' : ℕ) (m m' : HouseModel Amount) (all ls : List (List ℕ)) (l : List ℕ) (answer : Result Answer Cause) (told : Result Answer Refusal) →
    (all ≡ l ∷ ls) × (i ≡ before) × (before' ≡ before + 1) × (i + 1 < 2 ^ 64) → answer ≡ line_told m l → told ≡ numbered (i + 1) answer → m' ≡ line_after m l → then ≡ so_far ++ line_text (i + 1) told →
    then ++ lines_text (before' + 1) m' ls ≡ so_far ++ lines_text (before + 1) m all
unfolding lines_text
line_written so_far then i before before' m m' all ls l answer told (e, f, h, _) a b c w = rw (h, ← f, w, b, a, c, e) (append_assoc so_far _ _)

-- where no line is left, the end completes the whole text
pub end_written : {E : Type 0} (r : Result (Unit {0}) E) (so_far then whole : List ℕ) (n : ℕ) (m : HouseModel Amount) (all : List (List ℕ)) (jobs : List ℕ) →
    all ≡ [] → jobs ≡ answered_jobs m → so_far ++ lines_text n m all ≡ whole → OnOk r (then ≡ so_far ++ end_text jobs) → OnOk r (then ≡ whole)
unfolding lines_text
end_written (Ok x) so_far then whole n m all jobs e j h w = rw (w, j, ← h, e) refl
end_written (Err x) so_far then whole n m all jobs e j h w = tt

pub job_written : (so_far then : List ℕ) (js : List ℕ) (i : ℕ) → i < length js → then ≡ so_far ++ (codes " " ++ decimal (get_or js i 0)) → then ++ jobs_text (drop (i + 1) js) ≡ so_far ++ jobs_text (drop i js)
job_written so_far then js i lt w = rw (w, drop_more js i 0 lt) (append_assoc so_far _ _)

pub jobs_written : (so_far : List ℕ) (js : List ℕ) (i : ℕ) → length js ≤ i → so_far ≡ so_far ++ jobs_text (drop i js)
jobs_written so_far js i h = rw (drop_all i js h) (sym (append-nil so_far))
