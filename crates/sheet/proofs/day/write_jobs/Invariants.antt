use Rattle.std.proofs.Common.{◌≡◌, ◌++◌, drop, string_bytes}
use Rattle.sheet.specs.Day.{jobs_text}
use Rattle.sheet.proofs.day.write_jobs.Given as goal

-- what is written and what is left to write are the whole
abbrev pub invariant-loop-job : goal.invariant-loop-job
invariant-loop-job l = string_bytes l.text ++ jobs_text (drop l.job-index l.jobs) ≡ string_bytes l.initial.text ++ jobs_text l.jobs
