-- What calls answer. Assumes nothing.
use Rattle.std.specs.Prelude.{ℕ, Some, None, Option, Result}
use Rattle.faults.specs.declared.Fault.{Fault}
use Rattle.models.specs.declared.trials.Trial.{Trial}
use Rattle.models.specs.declared.trials.Trial.TheVariants as trial
use Rattle.comparison.specs.declared.calls.Answer.{Answer}
use Rattle.comparison.specs.declared.calls.Answer.TheVariants as answer

-- the answer to a call, or the fault for which it was refused
abbrev pub Reply : Type 0
Reply = Result Answer Fault

-- the answers to a trial and to a comparison that were not refused
abbrev pub trial_answer : Trial → Answer
trial_answer trial.Yes = answer.Yes
trial_answer (trial.No n) = answer.No n

abbrev pub compared_answer : Option ℕ → Answer
compared_answer None = answer.Included
compared_answer (Some n) = answer.Missed n
