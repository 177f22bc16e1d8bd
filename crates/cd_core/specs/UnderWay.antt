-- What an answer does to the flushes under way.
use Rattle.cd_daemon.specs.Flushes.{counted, is_call_of, is_done}
use Rattle.cd_core.specs.declared.flush.Flush.{Flush}
use Rattle.cd_registry.specs.declared.calls.Answer.{Answer}
use Rattle.cd_registry.specs.declared.calls.Call.{Call}
use Rattle.std.specs.Prelude.{Some, if◌then◌else◌, nat_eq, ℕ, ◌+◌, ◌-◌}

-- one of its calls was answered
abbrev pub after_answer : Answer → Flush → Flush
after_answer answer flush = record {
  number = flush.number;
  unanswered = flush.unanswered - 1;
  successful = if is_done answer then counted (flush.successful + 1) else flush.successful;
  errors = if is_done answer then flush.errors else counted (flush.errors + 1);
}

-- where it is the flush of that number
abbrev pub counted_as : ℕ → Answer → Flush → Flush
counted_as number answer flush = if nat_eq number flush.number then after_answer answer flush else flush

-- where the call is one of the flush
abbrev pub after_answer_to : Call → Answer → Flush → Flush
after_answer_to call answer flush = if is_call_of flush.number (Some call) then after_answer answer flush else flush
